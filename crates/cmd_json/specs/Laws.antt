-- What holds of the object that a line is, so that the first of the members that are left is the
-- least, and of the table.
use Rattle.std.specs.Prelude.{◌≡◌, ℕ, ⊤, List, [], ◌∷◌, map, true, Some, None, is_some, codes}
use Rattle.std.specs.List.{list_all}
use Rattle.std.specs.Cmp.Lexicographic.{slice_cmp}
use Rattle.std.specs.Ordering.{nat_cmp}
use Rattle.std.specs.declared.cmp.Ordering.TheVariants.{Less}
use Rattle.serde_json.specs.Data.{object, Members, no_members, member}
use Rattle.serde_json.specs.Find.{get_member}
use Rattle.cmd_json.specs.Commands.{commands}
use Rattle.cmd_json.specs.Line.{value_of}
use Rattle.cmd_json.specs.Members.{without, named}
use Rattle.cmd_json.specs.declared.read.TheConstants.{BUILT}

-- the name stands before those of all these members, in the order of their bytes
abbrev pub IsBefore : (name : List ℕ) → Members → Type 0
IsBefore name no_members = ⊤
IsBefore name (member k d ms) = (slice_cmp nat_cmp name k ≡ Less) × IsBefore name ms

-- each name stands once, in ascending order
abbrev pub Ascends : Members → Type 0
Ascends no_members = ⊤
Ascends (member k d ms) = IsBefore k ms × Ascends ms

-- the object that a line is has its members so, and so have those that are left of it
pub record KeepsOrder : Type 0 where
  pub read : (line : List ℕ) (members : Members) → value_of line ≡ Some (object members)
      → Ascends members
  pub left : (name : List ℕ) (members : Members) → Ascends members
      → Ascends (without name members)
  pub taken : (name : List ℕ) (members : Members) → Ascends members
      → get_member name (without name members) ≡ None
  pub others : (name other : List ℕ) (members : Members) → (other ≡ name → ⊥)
      → get_member other (without name members) ≡ get_member other members

-- each command that is built has a row
abbrev pub BuiltAreRows : Type 0
BuiltAreRows =
    list_all (λ name. is_some (named name commands)) (map (λ name. name.now) BUILT) ≡ true

-- these are built
abbrev pub TheseAreBuilt : Type 0
TheseAreBuilt = map (λ name. name.now) BUILT ≡ codes "move" ∷ codes "host" ∷ codes "vm"
    ∷ codes "enable" ∷ codes "write" ∷ codes "snapshot" ∷ codes "remove" ∷ codes "query"
    ∷ codes "read" ∷ codes "power" ∷ codes "reset" ∷ codes "inventory" ∷ codes "plan"
    ∷ codes "start" ∷ codes "cutover" ∷ codes "status" ∷ codes "quit" ∷ []
