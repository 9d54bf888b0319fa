-- The members of an object that the code has not read yet.
use Rattle.std.specs.Prelude.{ℕ, List, Option, Some, None, Bool, not}
use Rattle.std.specs.Borrow.{Bor}
use Rattle.std.specs.Str.{bytes_eq}
use Rattle.std.specs.Cmp.Lexicographic.{slice_cmp}
use Rattle.std.specs.Ordering.{nat_cmp, match_ordering}
use Rattle.json.specs.Value.{members_view}
use Rattle.json.specs.declared.value.Value.{Value}
use Rattle.serde_json.specs.Data.{Members as Object, no_members, member}
use Rattle.cmd_json.specs.Tree.{put_all}
use Rattle.cmd_json.specs.declared.members.Members.{Members}

-- the object that a list of members is
abbrev pub object_of : {A : Type 0} → List (Bor (List ℕ) × Value A) → Object
object_of members = put_all (members_view members) no_members

abbrev pub left_in : Members → Object
left_in members = object_of members.list.items

-- the name of the first member
abbrev pub first_name : Object → Option (List ℕ)
first_name no_members = None
first_name (member name d ms) = Some name

-- the name, or the other one where that is less
abbrev pub lesser : (name : List ℕ) → (other : Option (List ℕ)) → List ℕ
lesser name None = name
lesser name (Some other) = match_ordering (slice_cmp nat_cmp name other) name other other

-- a member has another name
abbrev pub has_other_name : {A : Type 0} → (name : List ℕ) → Bor (List ℕ) × Value A → Bool
has_other_name name m = not (bytes_eq m.0.now name)
