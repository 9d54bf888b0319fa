-- A list of members beside the object that it is.
use Rattle.std.proofs.Common.{◌≡◌, ℕ, zero, suc, Bool, true, false, not, cond, List, [], ◌∷◌, Option, Some, None, option_map, Ok, Err, Ordering, Less, Equal, Greater, Bor, Global, filter, subst, refl, sym, ap, ◌∙◌}
use Rattle.std.proofs.lemmas.Slice.Eq.{bytes_eq-Decides}
use Rattle.std.specs.Cmp.Lexicographic.{slice_cmp}
use Rattle.std.specs.List.{remove, slice_get}
use Rattle.std.specs.Option.{IsSomeAnd}
use Rattle.std.specs.Ordering.{nat_cmp, match_ordering}
use Rattle.std.specs.Str.{bytes_eq}
use Rattle.json.specs.Find as find
use Rattle.json.specs.Json as json
use Rattle.json.specs.Value.{value_view, members_view}
use Rattle.json.specs.declared.value.Value.{Value}
use Rattle.serde_json.specs.Data.{Data, Members, no_members, member, put}
use Rattle.serde_json.specs.Find.{get_member}
use Rattle.cmd_json.specs.Laws.{Ascends}
use Rattle.cmd_json.specs.Left.{object_of, first_name, lesser, has_other_name}
use Rattle.cmd_json.specs.Members.{without, if_none_left}
use Rattle.cmd_json.specs.Tree.{tree_data, value_data, put_all}
use Rattle.cmd_json.specs.declared.refusal.CmdRefused.TheVariants.{Field}
use Rattle.cmd_json.proofs.OrderLemmas.{put_ascends}
use Rattle.cmd_json.proofs.PutLemmas.{found_put, found_other, left_same, left_other}

abbrev pub Entry : Type 0
Entry = Bor (List ℕ) × Value Global

-- ---- the member that is found

abbrev found_in : Option Data → Option Data → Option Data
found_in None earlier = earlier
found_in (Some d) earlier = Some d

found_put_at : (same : Bool) (name k : List ℕ) (d : Data) (ms : Members) → bytes_eq k name ≡ same
    → get_member name (put k d ms) ≡ cond same (Some d) (get_member name ms)
found_put_at true name k d ms is =
    let named : k ≡ name = (bytes_eq-Decides k name).0 is in rw named (found_put name d ms)
found_put_at false name k d ms is =
    found_other name k d ms
    (λ named. let yes = (bytes_eq-Decides k name).1 (sym named) in cc)

found_last : (later : Option json.Json) (same : Bool) (j : json.Json) (found : Option Data)
    → found_in (option_map tree_data later) (cond same (Some (tree_data j)) found)
    ≡ found_in (option_map tree_data (find.later_or later (cond same (Some j) None))) found
found_last None true j found = refl
found_last None false j found = refl
found_last (Some other) same j found = refl

get_member-put_all : (name : List ℕ) (js : json.Members) (found : Members)
    → get_member name (put_all js found)
    ≡ found_in (option_map tree_data (find.get_member name js)) (get_member name found)
get_member-put_all name json.no_members found = refl
get_member-put_all name (json.member k j js) found =
    get_member-put_all name js (put k (tree_data j) found)
    ∙ ap (found_in (option_map tree_data (find.get_member name js)))
    (found_put_at _ name k (tree_data j) found refl)
    ∙ found_last (find.get_member name js) (bytes_eq k name) j (get_member name found)

found_or_none : (d : Option Data) → found_in d None ≡ d
found_or_none None = refl
found_or_none (Some d) = refl

-- the last member of a name is the one that is found
pub get_member-object_of : (name : List ℕ) (es : List Entry)
    → get_member name (object_of es)
    ≡ option_map tree_data (find.get_member name (members_view es))
get_member-object_of name es =
    get_member-put_all name (members_view es) no_members ∙ found_or_none _

-- the member at a place is the one that is found, where a search says so
pub found_at : (name : List ℕ) (es : List Entry) (place : ℕ) (e : Entry)
    → slice_get es place ≡ Some e
    → IsSomeAnd (slice_get es place) (λ (m : Entry). (m.0.now ≡ name)
    × (find.get_member name (members_view es) ≡ Some (value_view m.1)))
    → (e.0.now ≡ name) × (Some (value_data e.1) ≡ get_member name (object_of es))
found_at name es place e is found =
    let told = subst (λ o. IsSomeAnd o (λ (m : Entry). (m.0.now ≡ name)
    × (find.get_member name (members_view es) ≡ Some (value_view m.1)))) is found in
    (told.0, sym (get_member-object_of name es ∙ ap (option_map tree_data) told.1))

-- ---- what is left when it is taken out

unfound_at : (o : Ordering) (k : List ℕ) (d : Data) (ms rest : Members) (found : Option Data)
    → match_ordering o found (Some d) found ≡ None → (found ≡ None → rest ≡ ms)
    → match_ordering o (member k d rest) ms (member k d rest) ≡ member k d ms
unfound_at Less k d ms rest found none same = ap (member k d) (same none)
unfound_at Equal k d ms rest found none same = cc
unfound_at Greater k d ms rest found none same = ap (member k d) (same none)

pub without_unfound : (name : List ℕ) (ms : Members) → get_member name ms ≡ None
    → without name ms ≡ ms
without_unfound name no_members none = refl
without_unfound name (member k d ms) none =
    unfound_at (slice_cmp nat_cmp name k) k d ms _ (get_member name ms) none
    (without_unfound name ms)

without-put : (same : Bool) (name k : List ℕ) (d : Data) (ms : Members) → bytes_eq k name ≡ same
    → Ascends ms
    → without name (put k d ms) ≡ cond same (without name ms) (put k d (without name ms))
without-put true name k d ms is h =
    let named : k ≡ name = (bytes_eq-Decides k name).0 is in rw named (left_same name d ms h)
without-put false name k d ms is h =
    left_other name k d ms (λ named. let yes = (bytes_eq-Decides k name).1 (sym named) in cc) h

put_all_kept : (same : Bool) (e : Entry) (es : List Entry) (found : Members)
    → put_all (members_view es)
    (cond same found (put e.0.now (tree_data (value_view e.1)) found))
    ≡ put_all (members_view (cond (not same) (e ∷ es) es)) found
put_all_kept true e es found = refl
put_all_kept false e es found = refl

without-put_all : (name : List ℕ) (es : List Entry) (found : Members) → Ascends found
    → without name (put_all (members_view es) found)
    ≡ put_all (members_view (filter (has_other_name name) es)) (without name found)
without-put_all name [] found h = refl
without-put_all name (e ∷ es) found h =
    let d = tree_data (value_view e.1) in
    without-put_all name es (put e.0.now d found) (put_ascends e.0.now d found h)
    ∙ ap (put_all (members_view (filter (has_other_name name) es)))
    (without-put _ name e.0.now d found refl h)
    ∙ put_all_kept (bytes_eq e.0.now name) e (filter (has_other_name name) es) (without name found)

-- what is left has all members of other names
pub without-object_of : (name : List ℕ) (es : List Entry)
    → without name (object_of es) ≡ object_of (filter (has_other_name name) es)
without-object_of name es = without-put_all name es no_members tt

filter_past : (other : Bool) (e : Entry) (left es : List Entry) → left ≡ es
    → cond other (e ∷ left) left ≡ cond other (e ∷ es) es
filter_past other e left es same = rw same refl

-- a member of the name may be missing before the others are kept
pub filter-remove : (name : List ℕ) (es : List Entry) (place : ℕ) (e : Entry)
    → slice_get es place ≡ Some e → e.0.now ≡ name
    → filter (has_other_name name) (remove es place) ≡ filter (has_other_name name) es
filter-remove name [] place e is named = cc
filter-remove name (first ∷ es) zero e is named =
    let same : first ≡ e = cc in
    let yes : bytes_eq first.0.now name ≡ true =
    (bytes_eq-Decides first.0.now name).1 (ap (λ m. m.0.now) same ∙ named) in
    rw yes refl
filter-remove name (first ∷ es) (suc place) e is named =
    filter_past (has_other_name name first) first _ _ (filter-remove name es place e is named)

-- ---- the first that is left

-- the least of the names and another one
abbrev pub least_after : json.Members → Option (List ℕ) → Option (List ℕ)
least_after json.no_members least = least
least_after (json.member k j js) least = least_after js (Some (lesser k least))

first_put_at : (o : Ordering) (k l : List ℕ) (d e : Data) (ms rest : Members)
    → slice_cmp nat_cmp k l ≡ o
    → first_name (match_ordering o (member k d (member l e ms)) (member l d ms) (member l e rest))
    ≡ Some (match_ordering o k l l)
first_put_at Less k l d e ms rest is = refl
first_put_at Equal k l d e ms rest is = refl
first_put_at Greater k l d e ms rest is = refl

first_put : (k : List ℕ) (d : Data) (ms : Members)
    → first_name (put k d ms) ≡ Some (lesser k (first_name ms))
first_put k d no_members = refl
first_put k d (member l e ms) = first_put_at _ k l d e ms (put k d ms) refl

pub first_name-put_all : (js : json.Members) (found : Members)
    → first_name (put_all js found) ≡ least_after js (first_name found)
first_name-put_all json.no_members found = refl
first_name-put_all (json.member k j js) found =
    first_name-put_all js (put k (tree_data j) found)
    ∙ ap (least_after js) (first_put k (tree_data j) found)

-- the first name is the member that is told
pub first_left : {T : Type 0} (read : T) (ms : Members) (name : List ℕ)
    → first_name ms ≡ Some name → if_none_left read ms ≡ Err (Field name)
first_left read no_members name is = cc
first_left read (member k d ms) name is = let same : k ≡ name = cc in rw same refl

pub none_left : {T : Type 0} (read : T) (ms : Members) → first_name ms ≡ None
    → if_none_left read ms ≡ Ok read
none_left read no_members is = refl
none_left read (member k d ms) is = cc
