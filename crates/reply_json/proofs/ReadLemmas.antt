-- The text of a value reads back, kind by kind: a value whose members stand in order, whose numbers
-- have 64 bits, and that nests at most b deep.
use Rattle.std.proofs.Common.{◌≡◌, ℕ, suc, max, ◌+◌, ◌<◌, ◌≤◌, ◌^◌, Bool, true, false, if◌then◌else◌, List, [], ◌∷◌, ◌++◌, map, Option, Some, None, option_map, option_and_then, refl, sym, ap, ◌∙◌, arith, append-nil}
use Rattle.std.specs.Prelude.{⊤}
use Rattle.json.specs.Token.{Token}
use Rattle.json.specs.Lex.{tokens}
use Rattle.json.specs.Print.{print, IsNumber}
use Rattle.json.specs.Json as json
use Rattle.json.specs.Tree as tree
use Rattle.json.proofs.Printed.Decimals.{IsNumber-decimal}
use Rattle.json.proofs.Printed.Tokens.{tokens-print}
use Rattle.json.proofs.Printed.Trees.{ArePrintable-json_tokens, value-json_tokens}
use Rattle.serde_json.specs.Data.{Num, unsigned, negative, float, Data, null, boolean, number, string, array, object, Items, no_items, item, Members, no_members, member, put}
use Rattle.serde_json.specs.Read.{read, of_json, of_items, of_members, max_depth}
use Rattle.serde_json.specs.View.{items_of}
use Rattle.serde_json.specs.Written.{compact_text, outline, items_outline, members_outline, number_text}
use Rattle.serde_json.proofs.Numbers.{number_of-decimal}
use Rattle.serde_json.proofs.Texts.{print-outline}
use Rattle.reply_json.specs.Fits.{NumFits, NumbersFit, ItemsFit, MembersFit}
use Rattle.reply_json.specs.Values.{number_of, or_null, array_of, pair_of}

-- ---- values

pub record Reads (b : ℕ) (d : Data) : Type 0 where
  pub back : of_json (outline d) ≡ Some d
  pub shallow : tree.depth (outline d) ≤ b

pub null_reads : {b : ℕ} → NumbersFit null → Reads b null
null_reads fits = record { back = refl; shallow = omega arith }

pub boolean_reads : {b : ℕ} (v : Bool) → NumbersFit (boolean v) → Reads b (boolean v)
boolean_reads v fits = record { back = refl; shallow = omega arith }

pub string_reads : {b : ℕ} (s : List ℕ) → NumbersFit (string s) → Reads b (string s)
string_reads s fits = record { back = refl; shallow = omega arith }

pub number_reads : {b : ℕ} (n : ℕ) → NumbersFit (number_of n) → Reads b (number_of n)
number_reads n fits =
    record { back = ap (option_map number) (number_of-decimal n fits); shallow = omega arith }

pub or_null_reads : {T : Type 0} {b : ℕ} (data_of : T → Data)
    → ((value : T) → NumbersFit (data_of value) → Reads b (data_of value))
    → (value : Option T) → NumbersFit (or_null data_of value) → Reads b (or_null data_of value)
or_null_reads data_of each None fits = null_reads fits
or_null_reads data_of each (Some value) fits = each value fits

pub either_reads : {b : ℕ} (test : Bool) (x y : Data) → (NumbersFit x → Reads b x)
    → (NumbersFit y → Reads b y)
    → NumbersFit (if test then x else y) → Reads b (if test then x else y)
either_reads true x y first second fits = first fits
either_reads false x y first second fits = second fits

-- ---- lists

record ItemsRead (b : ℕ) (ds : Items) : Type 0 where
  back : of_items (items_outline ds) ≡ Some ds
  shallow : tree.items_depth (items_outline ds) ≤ b

no_items_read : {b : ℕ} → ItemsRead b no_items
no_items_read = record { back = refl; shallow = omega arith }

more_items_read : {b : ℕ} (d : Data) (ds : Items) → Reads b d → ItemsRead b ds
    → ItemsRead b (item d ds)
more_items_read d ds first rest = record {
  back = ap (option_and_then (λ x. option_map (item x) (of_items (items_outline ds)))) first.back
      ∙ ap (option_map (item d)) rest.back;
  shallow = omega (arith, first.shallow, rest.shallow);
}

array_read : {b : ℕ} (ds : Items) → ItemsRead b ds → Reads (suc b) (array ds)
array_read ds items =
    record { back = ap (option_map array) items.back; shallow = omega (arith, items.shallow) }

items_read : {T : Type 0} {b : ℕ} (data_of : T → Data)
    → ((value : T) → NumbersFit (data_of value) → Reads b (data_of value))
    → (values : List T) → ItemsFit (items_of (map data_of values))
    → ItemsRead b (items_of (map data_of values))
items_read data_of each [] fits = no_items_read
items_read data_of each (value ∷ values) fits =
    more_items_read (data_of value) _ (each value fits.0) (items_read data_of each values fits.1)

pub array_reads : {T : Type 0} {b : ℕ} (data_of : T → Data)
    → ((value : T) → NumbersFit (data_of value) → Reads b (data_of value))
    → (values : List T) → NumbersFit (array_of data_of values)
    → Reads (suc b) (array_of data_of values)
array_reads data_of each values fits = array_read _ (items_read data_of each values fits)

pub pair_reads : {b : ℕ} (first second : Data) → (NumbersFit first → Reads b first)
    → (NumbersFit second → Reads b second)
    → NumbersFit (pair_of first second) → Reads (suc b) (pair_of first second)
pair_reads first second f s fits =
    array_read _ (more_items_read first _ (f fits.0)
    (more_items_read second _ (s fits.1.0) no_items_read))

-- ---- objects, a member at a time: those before are found

pub record MembersRead (b : ℕ) (found ms whole : Members) : Type 0 where
  pub back : of_members (members_outline ms) found ≡ Some whole
  pub shallow : tree.members_depth (members_outline ms) ≤ b

pub ended : {b : ℕ} {whole : Members} → MembersFit no_members → MembersRead b whole no_members whole
ended fits = record { back = refl; shallow = omega arith }

pub and : {b : ℕ} {k : List ℕ} {d : Data} {found ms whole : Members} → (NumbersFit d → Reads b d)
    → (MembersFit ms → MembersRead b (put k d found) ms whole)
    → MembersFit (member k d ms) → MembersRead b found (member k d ms) whole
and {b = b} {k = k} {d = d} {found = found} {ms = ms} value rest fits =
    let v = value fits.0 in
    let r = rest fits.1 in
    record {
      back = ap (option_and_then (λ x. of_members (members_outline ms) (put k x found))) v.back
          ∙ r.back;
      shallow = omega (arith, v.shallow, r.shallow);
    }

pub object_reads : {b : ℕ} {ms : Members} → (MembersFit ms → MembersRead b no_members ms ms)
    → NumbersFit (object ms) → Reads (suc b) (object ms)
object_reads members fits = let m = members fits in
    record { back = ap (option_map object) m.back; shallow = omega (arith, m.shallow) }

-- ---- numbers are spelled as numbers

mutual
  numbers : (d : Data) → NumbersFit d → tree.HasNumbers (outline d)
  numbers null fits = tt
  numbers (boolean b) fits = tt
  numbers (number (unsigned n)) fits = IsNumber-decimal n fits
  numbers (number (negative z)) fits = absurd fits
  numbers (number (float x)) fits = absurd fits
  numbers (string s) fits = tt
  numbers (array ds) fits = items_numbers ds fits
  numbers (object ms) fits = members_numbers ms fits

  items_numbers : (ds : Items) → ItemsFit ds → tree.ItemsHaveNumbers (items_outline ds)
  items_numbers no_items fits = tt
  items_numbers (item d ds) fits = (numbers d fits.0, items_numbers ds fits.1)

  members_numbers : (ms : Members) → MembersFit ms → tree.MembersHaveNumbers (members_outline ms)
  members_numbers no_members fits = tt
  members_numbers (member k d ms) fits = (numbers d fits.0, members_numbers ms fits.1)

-- ---- the whole text

tokens-compact_text : (d : Data) → NumbersFit d
    → tokens (compact_text d) ≡ tree.json_tokens (outline d)
tokens-compact_text d fits =
    ap tokens (sym (print-outline d))
    ∙ tokens-print _ (ArePrintable-json_tokens (outline d) (numbers d fits))

pub reads_back : (d : Data) → NumbersFit d → Reads 5 d → read (compact_text d) ≡ Some d
reads_back d fits reads =
    ap (λ p. option_and_then of_json (option_and_then (λ q. json.if_last q.0 q.1) p))
    (ap (json.value max_depth) (tokens-compact_text d fits ∙ sym (append-nil _))
    ∙ value-json_tokens (outline d) max_depth [] (omega (arith, reads.shallow)))
    ∙ reads.back
