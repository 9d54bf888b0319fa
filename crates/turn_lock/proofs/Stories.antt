-- Stories that go on, and the entries under a number.
use Rattle.std.proofs.Common.{◌≡◌, ◌≢◌, ℕ, ◌≤◌, List, [], ◌∷◌, ◌++◌, length, drop, Bool, true, false, cond, refl, sym, ap, ◌∙◌, arith, length-append, nat_lt, eqb-true, ne_eqb, eq-eqb}
use Rattle.std.specs.List.{filter}
use Rattle.std.proofs.lemmas.List.{append-nil, drop-append-le, nil_from_length}
use Rattle.std.proofs.lemmas.List.Elements.{filter-append}
use lib.Seq.{drop-length, drop-append_seam}
use Rattle.basics.specs.Prefix.{IsPrefix}
use Rattle.basics.proofs.Prefix.{prefix-fits, prefix-append, prefix-self, prefix-between, prefix-parts, prefix-trans}
use Rattle.turn_lock.specs.Story.{longer, is_under, added_by, AddsUnder}

module _ {E : Type 0} where
  pub nil_left : (xs ys : List E) → xs ++ ys ≡ [] → xs ≡ []
  nil_left [] ys e = refl
  nil_left (x ∷ xs) ys e = absurd (let l : length (x ∷ (xs ++ ys)) ≡ 0 = ap length e in omega arith)

  pub nil_right : (xs ys : List E) → xs ++ ys ≡ [] → ys ≡ []
  nil_right xs ys e = nil_from_length ys (omega (arith, length-append xs ys, ap length e))

  pub nothing_more : (xs ys : List E) → xs ≡ xs ++ ys → ys ≡ []
  nothing_more xs ys e = nil_from_length ys (omega (arith, length-append xs ys, ap length e))

  pub longer_first : (a b story : List E) → IsPrefix a story → IsPrefix b story
      → IsPrefix a (longer a b)
  longer_first a b story ha hb =
      let P : Bool → Type 0 = λ t. nat_lt (length a) (length b) ≡ t → IsPrefix a (cond t b a) in
      elim (nat_lt (length a) (length b)) as P [
        | true ↦ λ e. prefix-between a b story ha hb (grind arith)
        | false ↦ λ e. prefix-self a
      ] refl

  pub longer_other : (a b story : List E) → IsPrefix a story → IsPrefix b story
      → IsPrefix b (longer a b)
  longer_other a b story ha hb =
      let P : Bool → Type 0 = λ t. nat_lt (length a) (length b) ≡ t → IsPrefix b (cond t b a) in
      elim (nat_lt (length a) (length b)) as P [
        | true ↦ λ e. prefix-self b
        | false ↦ λ e. prefix-between b a story hb ha (grind arith)
      ] refl

  -- what holds of both holds of the longer
  pub longer_both : (P : List E → Type 0) (a b : List E) → P a → P b → P (longer a b)
  longer_both P a b pa pb =
      elim (nat_lt (length a) (length b)) as (λ t. P (cond t b a)) [ true ↦ pb | false ↦ pa ]

module _ {E : Type 0} (who : E → ℕ) where
  pub by_append : (n start : ℕ) (xs ys : List E) → start ≤ length xs
      → added_by who n start (xs ++ ys) ≡ added_by who n start xs ++ filter (is_under who n) ys
  by_append n start xs ys le = ap (filter (is_under who n)) (drop-append-le start xs ys le)
      ∙ filter-append (is_under who n) (drop start xs) ys

  pub by_parts : (n start : ℕ) (seen story : List E) → IsPrefix seen story → start ≤ length seen
      → added_by who n start story ≡ added_by who n start seen ++ filter (is_under who n)
      (drop (length seen) story)
  by_parts n start seen story h le = ap (added_by who n start) (prefix-parts seen story h)
      ∙ by_append n start seen (drop (length seen) story) le

  filter_other : (m n : ℕ) → m ≢ n → (xs : List E)
      → filter (is_under who m) (filter (is_under who n) xs) ≡ []
  filter_other m n ne [] = refl
  filter_other m n ne (x ∷ xs) =
      let P : Bool → Type 0 = λ t. is_under who n x ≡ t
      → filter (is_under who m)
      (cond t (x ∷ filter (is_under who n) xs) (filter (is_under who n) xs))
      ≡ [] in
      elim (is_under who n x) as P [
        | true ↦ λ e. let other : is_under who m x ≡ false =
            ne_eqb (who x) m (λ h. ne (sym h ∙ eqb-true (who x) n e)) in
            ap (λ t. cond t (x ∷ filter (is_under who m) (filter (is_under who n) xs))
            (filter (is_under who m) (filter (is_under who n) xs))) other ∙ filter_other m n ne xs
        | false ↦ λ e. filter_other m n ne xs
      ] refl

  -- entries that are all under one number are under no other
  pub others_add_none : (m n : ℕ) → m ≢ n → (xs : List E) → filter (is_under who n) xs ≡ xs
      → filter (is_under who m) xs ≡ []
  others_add_none m n ne xs all = ap (filter (is_under who m)) (sym all) ∙ filter_other m n ne xs

  -- nothing new of the number, where it has seen all that is under it
  pub none_new : (n start : ℕ) (seen story mine : List E) → IsPrefix seen story
      → start ≤ length seen
      → added_by who n start seen ≡ mine → added_by who n start story ≡ mine
      → filter (is_under who n) (drop (length seen) story) ≡ []
  none_new n start seen story mine h le known own =
      nothing_more (added_by who n start seen) (filter (is_under who n) (drop (length seen) story))
      (known ∙ sym own ∙ by_parts n start seen story h le)

  -- what is between a beginning that has all of it and the story has all of it
  pub known_between : (n start : ℕ) (a b story mine : List E) → IsPrefix a b → IsPrefix b story
      → start ≤ length a
      → added_by who n start a ≡ mine → added_by who n start story ≡ mine
      → added_by who n start b ≡ mine
  known_between n start a b story mine hab hb le known own =
      let rest = none_new n start a story mine (prefix-trans a b story hab hb) le known own in
      let ab = by_parts n start a b hab le in
      let le' : start ≤ length b = omega (arith, prefix-fits a b hab) in
      let all = by_parts n start b story hb le' in
      let e : added_by who n start a
      ≡ (added_by who n start a ++ filter (is_under who n) (drop (length a) b)) ++ filter
      (is_under who n) (drop (length b) story) =
      known ∙ sym own ∙ all ∙ ap (λ t. t ++ filter (is_under who n) (drop (length b) story)) ab in
      let none : filter (is_under who n) (drop (length a) b) ≡ [] =
      nil_from_length (filter (is_under who n) (drop (length a) b))
      (omega (
        arith,
        ap length e,
        length-append
            (added_by who n start a ++ filter (is_under who n) (drop (length a) b))
            (filter (is_under who n) (drop (length b) story)),
        length-append (added_by who n start a)
            (filter (is_under who n) (drop (length a) b)),
      )) in
      ab ∙ ap (λ t. added_by who n start a ++ t) none ∙ append-nil (added_by who n start a) ∙ known

  pub nothing_before : (n start : ℕ) (seen story : List E) → IsPrefix seen story
      → start ≤ length seen → added_by who n start story ≡ [] → added_by who n start seen ≡ []
  nothing_before n start seen story h le none =
      nil_left (added_by who n start seen) (filter (is_under who n) (drop (length seen) story))
      (sym (by_parts n start seen story h le) ∙ none)

  pub adds_none : (n : ℕ) (story : List E) → AddsUnder who n story story
  adds_none n story = (
    prefix-self story,
    (let e = drop-length story in
        ap (filter (is_under who n)) e ∙ sym e),
  )

  pub adds_one : (n : ℕ) (story : List E) (e : E) → who e ≡ n
      → AddsUnder who n story (story ++ e ∷ [])
  adds_one n story e is =
      let seam : drop (length story) (story ++ e ∷ []) ≡ e ∷ [] = drop-append_seam story (e ∷ []) in
      let one : filter (is_under who n) (e ∷ []) ≡ e ∷ [] =
      ap (λ t. cond t (e ∷ []) []) (eq-eqb (who e) n is) in (
        prefix-append story story (e ∷ []) (prefix-self story),
        ap (filter (is_under who n)) seam ∙ one
            ∙ sym seam,
      )
