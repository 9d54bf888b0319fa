-- Blocks that a list of writes touches, and writes that lie within a disk.
use Rattle.std.proofs.Common.{◌≡◌, ℕ, zero, suc, ◌+◌, ◌/◌, ◌<◌, ◌≤◌, List, [], ◌∷◌, ◌++◌, map, Bool, true, false, ◌||◌, ◌&&◌, nat_eq, sym, ap, refl, ◌∙◌, arith, inl, inr}
use Rattle.std.specs.List.{filter, list_any, range_with_len, AllByRecursion}
use Rattle.std.proofs.Math.Bool.{and-true, or-true}
use Rattle.std.proofs.lemmas.Bool.{cases_eq, eqb-true, eq-eqb}
use Rattle.std.proofs.lemmas.List.Elements.{filter_agree}
use Rattle.std.proofs.lemmas.Map.Views.{any-filter_same}
use Rattle.sector_model.specs.Disk.{Write, Fits}
use Rattle.sector_model.specs.declared.run.TheConstants.{BLOCK_SECTORS}
use Rattle.sector_model.specs.Run.{meets, met_blocks, range_of, touches, touched_blocks, block_count, in_blocks}

-- two tests that agree on the numbers of a range keep the same of them
pub filter-range_same : (p q : ℕ → Bool) (a n : ℕ) → ((k : ℕ) → a ≤ k → k < a + n → p k ≡ q k)
    → filter p (range_with_len a n) ≡ filter q (range_with_len a n)
filter-range_same p q a zero same = refl
filter-range_same p q a (suc n) same =
    rw (
      same a (omega arith) (omega arith),
      filter-range_same p q (a + 1) n
          (λ k from less. same k (omega (arith, from)) (omega (arith, less))),
    ) refl

any_met : (block : ℕ) (ws : List Write)
    → list_any (touches block) ws ≡ list_any (λ r. meets block r.first r.count) (map range_of ws)
any_met block [] = refl
any_met block (w ∷ ws) = ap (λ x. touches block w || x) (any_met block ws)

pub touched_are_met : (c : ℕ) (ws : List Write)
    → touched_blocks c ws ≡ met_blocks c (map range_of ws)
touched_are_met c ws =
    filter_agree (λ b. list_any (touches b) ws)
    (λ b. list_any (λ r. meets b r.first r.count) (map range_of ws)) (λ b. any_met b ws)
    (range_with_len 0 (block_count c))

-- whether sector s is of a touched block: its block is one of the disk's, and a write touches it
pub in_touched : (c s : ℕ) (ws : List Write)
    → in_blocks (touched_blocks c ws) s
    ≡ (list_any (touches (s / BLOCK_SECTORS)) ws && list_any (nat_eq (s / BLOCK_SECTORS))
    (range_with_len 0 (block_count c)))
in_touched c s ws =
    any-filter_same (nat_eq (s / BLOCK_SECTORS)) (λ b. list_any (touches b) ws)
    (list_any (touches (s / BLOCK_SECTORS)) ws)
    (λ b same. ap (λ x. list_any (touches x) ws) (sym (eqb-true (s / BLOCK_SECTORS) b same)))
    (range_with_len 0 (block_count c))

pub fits-push : (c : ℕ) (xs ys : List Write) → AllByRecursion (Fits c) xs
    → AllByRecursion (Fits c) ys → AllByRecursion (Fits c) (xs ++ ys)
fits-push c [] ys h k = k
fits-push c (x ∷ xs) ys h k = (h.0, fits-push c xs ys h.1 k)

pub fits-back : (c : ℕ) (xs ys : List Write) → AllByRecursion (Fits c) (xs ++ ys)
    → AllByRecursion (Fits c) ys
fits-back c [] ys h = h
fits-back c (x ∷ xs) ys h = fits-back c xs ys h.1

-- a number of the range passes
pub any_at : (p : ℕ → Bool) (a n k : ℕ) → a ≤ k → k < a + n → p k ≡ true
    → list_any p (range_with_len a n) ≡ true
any_at p a zero k from less is = absurd (omega (arith, from, less))
any_at p a (suc n) k from less is = elim (cases_eq k a) [
  | inl same ↦ rw (← same, is) refl
  | inr other ↦
      ap (λ x. p a || x)
      (any_at p (a + 1) n k (omega (arith, from, other)) (omega (arith, less)) is)
      ∙ or-true (p a)
]

pub any_below : (b a n : ℕ) → a ≤ b → b < a + n → list_any (nat_eq b) (range_with_len a n) ≡ true
any_below b a n from less = any_at (nat_eq b) a n b from less (eq-eqb b b refl)

pub not_touched : (c s : ℕ) (ws : List Write) → s < c → in_blocks (touched_blocks c ws) s ≡ false
    → list_any (touches (s / BLOCK_SECTORS)) ws ≡ false
not_touched c s ws less none =
    let inside : s / BLOCK_SECTORS < 0 + block_count c = omega arith in
    let known = any_below (s / BLOCK_SECTORS) 0 (block_count c) (omega arith) inside in
    sym (and-true (list_any (touches (s / BLOCK_SECTORS)) ws))
    ∙ ap (λ b. list_any (touches (s / BLOCK_SECTORS)) ws && b) (sym known)
    ∙ sym (in_touched c s ws) ∙ none
