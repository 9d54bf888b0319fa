-- What is found, and what is left, where members were put in.
use Rattle.std.proofs.Common.{◌≡◌, ℕ, Bool, true, false, List, Some, Ordering, Less, Equal, Greater, subst, refl, sym, ap, ◌∙◌, nat_cmp, is_eq}
use Rattle.std.proofs.lemmas.Cmp.{nat_list_cmp_total, tied_itself}
use Rattle.std.proofs.lemmas.Map.Text.{is_eq-slice_cmp}
use Rattle.std.proofs.lemmas.Slice.Eq.{bytes_eq-Decides}
use Rattle.std.specs.Cmp.Lexicographic.{slice_cmp}
use Rattle.std.specs.Ordering.{match_ordering}
use Rattle.std.specs.Str.{bytes_eq}
use Rattle.serde_json.specs.Data.{Data, Members, no_members, member, put}
use Rattle.serde_json.specs.Find.{get_member}
use Rattle.cmd_json.specs.Laws.{IsBefore, Ascends}
use Rattle.cmd_json.specs.Members.{without}
use Rattle.cmd_json.proofs.OrderLemmas.{before_all}

same_name : (name k : List ℕ) → slice_cmp nat_cmp name k ≡ Equal → name ≡ k
same_name name k is =
    (bytes_eq-Decides name k).0 (sym (is_eq-slice_cmp name k) ∙ ap is_eq is)

-- the order of a name and another one
apart_at : (name k : List ℕ) → (name ≡ k → ⊥) → (o : Ordering) → slice_cmp nat_cmp name k ≡ o
    → (o ≡ Equal → ⊥)
apart_at name k apart o is equal = apart (same_name name k (is ∙ equal))

not_equal : {A : Type 0} (o : Ordering) (a b : A) → (o ≡ Equal → ⊥) → match_ordering o a b a ≡ a
not_equal Less a b h = refl
not_equal Equal a b h = absurd (h refl)
not_equal Greater a b h = refl

-- where the names differ, neither is found nor taken in place of the other
pub found_past : (name k : List ℕ) (d : Data) (ms : Members) → (name ≡ k → ⊥)
    → get_member name (member k d ms) ≡ get_member name ms
found_past name k d ms apart =
    not_equal (slice_cmp nat_cmp name k) _ _ (apart_at name k apart _ refl)

left_past : (name k : List ℕ) (d : Data) (ms : Members) → (name ≡ k → ⊥)
    → without name (member k d ms) ≡ member k d (without name ms)
left_past name k d ms apart =
    not_equal (slice_cmp nat_cmp name k) _ _ (apart_at name k apart _ refl)

same_text : (name : List ℕ) → slice_cmp nat_cmp name name ≡ Equal
same_text name = tied_itself nat_list_cmp_total name

found_here : (name : List ℕ) (d : Data) (ms : Members) → get_member name (member name d ms) ≡ Some d
found_here name d ms = rw (same_text name) refl

left_here : (name : List ℕ) (d : Data) (ms : Members) → without name (member name d ms) ≡ ms
left_here name d ms = rw (same_text name) refl

left_named : (name l : List ℕ) (e : Data) (ms : Members) → name ≡ l
    → without name (member l e ms) ≡ ms
left_named name l e ms same =
    subst (λ (n : List ℕ). without n (member l e ms) ≡ ms) (sym same) (left_here l e ms)

-- ---- what is found

found_put_at : (o : Ordering) (k l : List ℕ) (d e : Data) (ms : Members)
    → slice_cmp nat_cmp k l ≡ o → get_member k (put k d ms) ≡ Some d
    → get_member k (match_ordering o (member k d (member l e ms)) (member l d ms)
    (member l e (put k d ms))) ≡ Some d
found_put_at Less k l d e ms is rest = found_here k d (member l e ms)
found_put_at Equal k l d e ms is rest = rw is refl
found_put_at Greater k l d e ms is rest = rw is rest

pub found_put : (k : List ℕ) (d : Data) (ms : Members) → get_member k (put k d ms) ≡ Some d
found_put k d no_members = found_here k d no_members
found_put k d (member l e ms) = found_put_at _ k l d e ms refl (found_put k d ms)

found_other_at : (o : Ordering) (name k l : List ℕ) (d e : Data) (ms : Members)
    → slice_cmp nat_cmp k l ≡ o → (name ≡ k → ⊥)
    → get_member name (put k d ms) ≡ get_member name ms
    → get_member name (match_ordering o (member k d (member l e ms)) (member l d ms)
    (member l e (put k d ms))) ≡ get_member name (member l e ms)
found_other_at Less name k l d e ms is apart rest = found_past name k d (member l e ms) apart
found_other_at Equal name k l d e ms is apart rest =
    let other : name ≡ l → ⊥ = λ same. apart (same ∙ sym (same_name k l is)) in
    found_past name l d ms other ∙ sym (found_past name l e ms other)
found_other_at Greater name k l d e ms is apart rest =
    ap (λ found. match_ordering (slice_cmp nat_cmp name l) found (Some e) found) rest

pub found_other : (name k : List ℕ) (d : Data) (ms : Members) → (name ≡ k → ⊥)
    → get_member name (put k d ms) ≡ get_member name ms
found_other name k d no_members apart = found_past name k d no_members apart
found_other name k d (member l e ms) apart =
    found_other_at _ name k l d e ms refl apart (found_other name k d ms apart)

-- ---- what is left

-- a name that stands before all takes nothing out, and is put first
left_whole : (k : List ℕ) (ms : Members) → IsBefore k ms → without k ms ≡ ms
left_whole k no_members h = refl
left_whole k (member l e ms) h = rw h.0 (ap (member l e) (left_whole k ms h.1))

put_first : (k : List ℕ) (d : Data) (ms : Members) → IsBefore k ms → put k d ms ≡ member k d ms
put_first k d no_members h = refl
put_first k d (member l e ms) h = rw h.0 refl

left_same_at : (o : Ordering) (k l : List ℕ) (d e : Data) (ms : Members)
    → slice_cmp nat_cmp k l ≡ o → IsBefore l ms
    → without k (put k d ms) ≡ without k ms
    → without k (match_ordering o (member k d (member l e ms)) (member l d ms)
    (member l e (put k d ms))) ≡ without k (member l e ms)
left_same_at Less k l d e ms is h rest =
    left_here k d (member l e ms)
    ∙ sym (left_whole k (member l e ms) (is, before_all k l ms is h))
left_same_at Equal k l d e ms is h rest = rw is refl
left_same_at Greater k l d e ms is h rest = rw is (ap (member l e) rest)

pub left_same : (k : List ℕ) (d : Data) (ms : Members) → Ascends ms
    → without k (put k d ms) ≡ without k ms
left_same k d no_members h = left_here k d no_members
left_same k d (member l e ms) h = left_same_at _ k l d e ms refl h.0 (left_same k d ms h.1)

-- another name is taken out of a list whose first name is this one
left_other_here : (o : Ordering) (name k l : List ℕ) (d e : Data) (ms : Members)
    → name ≡ l → slice_cmp nat_cmp k l ≡ o → (name ≡ k → ⊥) → IsBefore l ms
    → without name (match_ordering o (member k d (member l e ms)) (member l d ms)
    (member l e (put k d ms))) ≡ put k d ms
left_other_here Less name k l d e ms same is apart h =
    left_past name k d (member l e ms) apart
    ∙ ap (member k d) (left_named name l e ms same)
    ∙ sym (put_first k d ms (before_all k l ms is h))
left_other_here Equal name k l d e ms same is apart h =
    absurd (apart (same ∙ sym (same_name k l is)))
left_other_here Greater name k l d e ms same is apart h =
    left_named name l e (put k d ms) same

left_other_past : (o : Ordering) (name k l : List ℕ) (d e : Data) (ms : Members)
    → (name ≡ l → ⊥) → slice_cmp nat_cmp k l ≡ o → (name ≡ k → ⊥)
    → without name (put k d ms) ≡ put k d (without name ms)
    → without name (match_ordering o (member k d (member l e ms)) (member l d ms)
    (member l e (put k d ms))) ≡ match_ordering o (member k d (member l e (without name ms)))
    (member l d (without name ms)) (member l e (put k d (without name ms)))
left_other_past Less name k l d e ms other is apart rest =
    left_past name k d (member l e ms) apart ∙ ap (member k d) (left_past name l e ms other)
left_other_past Equal name k l d e ms other is apart rest = left_past name l d ms other
left_other_past Greater name k l d e ms other is apart rest =
    left_past name l e (put k d ms) other ∙ ap (member l e) rest

left_other_at : (same : Bool) (name k l : List ℕ) (d e : Data) (ms : Members)
    → bytes_eq name l ≡ same → (name ≡ k → ⊥) → IsBefore l ms
    → without name (put k d ms) ≡ put k d (without name ms)
    → without name (put k d (member l e ms)) ≡ put k d (without name (member l e ms))
left_other_at true name k l d e ms is apart h rest =
    let same = (bytes_eq-Decides name l).0 is in
    left_other_here _ name k l d e ms same refl apart h
    ∙ ap (put k d) (sym (left_named name l e ms same))
left_other_at false name k l d e ms is apart h rest =
    let other : name ≡ l → ⊥ = λ same. let yes = (bytes_eq-Decides name l).1 same in cc in
    left_other_past _ name k l d e ms other refl apart rest
    ∙ ap (put k d) (sym (left_past name l e ms other))

pub left_other : (name k : List ℕ) (d : Data) (ms : Members) → (name ≡ k → ⊥) → Ascends ms
    → without name (put k d ms) ≡ put k d (without name ms)
left_other name k d no_members apart h = left_past name k d no_members apart
left_other name k d (member l e ms) apart h =
    left_other_at _ name k l d e ms refl apart h.0 (left_other name k d ms apart h.1)
