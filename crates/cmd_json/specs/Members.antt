-- Reading the members of an object, one after another. An object has each name once, in ascending
-- order of its bytes, and of several members of one name it has the last: `read` of serde_json says
-- so. A member that is read is taken out, so the members that are left at the end are too many.
use Rattle.std.specs.Prelude.{◌≡◌, ◌≢◌, ℕ, List, [], ◌∷◌, if◌then◌else◌, Option, Some, None, Result, Ok, Err, MatchResult, option_and_then}
use Rattle.std.specs.Cmp.Lexicographic.{slice_cmp}
use Rattle.std.specs.Option.{ok_or}
use Rattle.std.specs.Str.{bytes_eq}
use Rattle.std.specs.Ordering.{nat_cmp, match_ordering}
use Rattle.std.specs.Result.{result_map_both}
use Rattle.serde_json.specs.Data.{Data, Members, no_members, member}
use Rattle.serde_json.specs.Find.{get_member, as_object}
use Rattle.cmd_json.specs.Kinds.{Kind, result_and_then}
use Rattle.cmd_json.specs.declared.kind.Misfit.{Misfit}
use Rattle.cmd_json.specs.declared.kind.Misfit.TheVariants as misfit
use Rattle.cmd_json.specs.declared.refusal.CmdRefused.{CmdRefused}
use Rattle.cmd_json.specs.declared.refusal.CmdRefused.TheVariants.{Json, Command, Field, Number, NoMemory}

-- what reading members gives: what they say, and the members that are left; or the refusal
abbrev pub Reading : Type 0 → Type 0
Reading T = Members → Result (T × Members) CmdRefused

-- the members but the one of that name
abbrev pub without : List ℕ → Members → Members
without k no_members = no_members
without k (member l e ms) =
    match_ordering (slice_cmp nat_cmp k l)
    (member l e (without k ms)) ms (member l e (without k ms))

-- the refusal that tells of a member what is wrong with its value
abbrev pub refusal_of : (name : List ℕ) → Misfit → CmdRefused
refusal_of name misfit.Field = Field name
refusal_of name misfit.Number = Number name
refusal_of name misfit.NoMemory = NoMemory

-- what the value of a member says
abbrev pub said : {T : Type 0} → (name : List ℕ) → Kind T → Data → Result T CmdRefused
said name kind d = result_map_both (λ v. v) (refusal_of name) (kind d)

-- ---- one member

-- a member that has to be there
abbrev pub required : {T : Type 0} → (name : List ℕ) → Kind T → Reading T
required name kind members =
    result_and_then (λ v. Ok (v, without name members))
    (result_and_then (said name kind) (ok_or (get_member name members) (Field name)))

-- a member's value where it stands, and else another one
abbrev pub or_else : {T : Type 0} → (other : T) → (Data → Result T CmdRefused) → Option Data
    → Result T CmdRefused
or_else other value None = Ok other
or_else other value (Some d) = value d

-- a member that may be left out, and what it says then
abbrev pub defaulted : {T : Type 0} → (other : T) → (name : List ℕ) → Kind T → Reading T
defaulted other name kind members =
    result_and_then (λ v. Ok (v, without name members))
    (or_else other (said name kind) (get_member name members))

-- a member that may be left out, and says nothing then
abbrev pub optional : {T : Type 0} → (name : List ℕ) → Kind T → Reading (Option T)
optional name kind = defaulted None name (λ d. result_and_then (λ v. Ok (Some v)) (kind d))

-- ---- several members

-- no member is read
abbrev pub given : {T : Type 0} → T → Reading T
given v members = Ok (v, members)

-- f is read, and then what it is applied to
infixl 50 ◌⊛◌
abbrev pub ◌⊛◌ : {T U : Type 0} → Reading (T → U) → Reading T → Reading U
◌⊛◌ f a members =
    result_and_then (λ p. result_and_then (λ q. Ok (p.0 q.0, q.1)) (a p.1)) (f members)

-- what is read next depends on what was read
abbrev pub and_then : {T U : Type 0} → (T → Reading U) → Reading T → Reading U
and_then f a members = result_and_then (λ p. f p.0 p.1) (a members)

-- the value, where no member is left; else the first that is left is told
abbrev pub if_none_left : {T : Type 0} → T → Members → Result T CmdRefused
if_none_left v no_members = Ok v
if_none_left v (member k d ms) = Err (Field k)

-- all members are read, and there are no others
abbrev pub all_members : {T : Type 0} → Reading T → Members → Result T CmdRefused
all_members reading members = result_and_then (λ p. if_none_left p.0 p.1) (reading members)

-- ---- an object within a list

-- what is wrong with an object, without the name of its member
abbrev pub misfit_of : CmdRefused → Misfit
misfit_of (Number name) = misfit.Number
misfit_of NoMemory = misfit.NoMemory
misfit_of (Field name) = misfit.Field
misfit_of Json = misfit.Field
misfit_of Command = misfit.Field

abbrev pub an_object : {T : Type 0} → Reading T → Kind T
an_object reading d =
    result_and_then (λ members. result_map_both (λ v. v) misfit_of (all_members reading members))
    (ok_or (as_object d) misfit.Field)

-- ---- rows by their names

-- what stands beside a name in a table
abbrev pub named : {T : Type 0} → List ℕ → List (List ℕ × T) → Option T
named name [] = None
named name (row ∷ rows) = if bytes_eq name row.0 then Some row.1 else named name rows

-- the reading of the row that has the name, where one has it
abbrev pub the_row : {T : Type 0} → (none : CmdRefused) → List (List ℕ × Reading T)
    → (name : List ℕ) → Reading T
the_row none table name members =
    result_and_then (λ reading. reading members) (ok_or (named name table) none)

-- ---- what calls answer

-- what was meant, or want of memory, which is free
abbrev pub Gives : {T E : Type 0} → (free : E) → (meant : Result T E) → Result T E → Type 0
Gives free meant result = MatchResult result (λ v. meant ≡ Ok v) (λ e. e ≢ free → meant ≡ Err e)

-- the same of a reading that leaves these members
abbrev pub Reads : {T : Type 0} → Result (T × Members) CmdRefused → (left : Members)
    → Result T CmdRefused → Type 0
Reads meant left result =
    MatchResult result (λ v. meant ≡ Ok (v, left)) (λ e. e ≢ NoMemory → meant ≡ Err e)
