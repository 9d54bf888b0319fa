-- Values of JSON whose numbers have at most 64 bits, as those of every value in code have.
use Rattle.std.specs.Prelude.{◌^◌, ◌<◌, ⊤}
use Rattle.serde_json.specs.Data.{Num, unsigned, negative, float, Data, null, boolean, number, string, array, object, Items, no_items, item, Members, no_members, member}

-- a number has no sign, no fraction and at most 64 bits
abbrev pub NumFits : Num → Type 0
NumFits (unsigned n) = n < 2 ^ 64
NumFits (negative z) = ⊥
NumFits (float x) = ⊥

-- so has each number of a value
abbrev mutual
  pub NumbersFit : Data → Type 0
  NumbersFit null = ⊤
  NumbersFit (boolean b) = ⊤
  NumbersFit (number n) = NumFits n
  NumbersFit (string s) = ⊤
  NumbersFit (array ds) = ItemsFit ds
  NumbersFit (object ms) = MembersFit ms

  pub ItemsFit : Items → Type 0
  ItemsFit no_items = ⊤
  ItemsFit (item d ds) = NumbersFit d × ItemsFit ds

  pub MembersFit : Members → Type 0
  MembersFit no_members = ⊤
  MembersFit (member k d ms) = NumbersFit d × MembersFit ms
