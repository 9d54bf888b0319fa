-- The blocks of a disk that pass a test, one run more of those that were met, and sets of blocks.
use Rattle.std.proofs.Common.{◌≡◌, ℕ, ◌<◌, ◌≤◌, ◌/◌, List, [], ◌∷◌, Bool, false, ◌&&◌, ◌||◌, nat_eq, nat_cmp, eqb, sym, ap, refl, ◌∙◌, arith, inl, inr}
use Rattle.std.specs.List.{filter, list_any, range_with_len}
use Rattle.std.proofs.Math.Bool.{and-true}
use Rattle.std.specs.BTreeMap.{is_at}
use Rattle.std.specs.Cmp.{nat_cmp_total}
use Rattle.std.proofs.lemmas.Bool.{cases_eq, lt-ltb, le-ltb, eqb-true, eq-eqb, ne_eqb, false_from_ne_true}
use Rattle.std.proofs.lemmas.Cmp.{eq_by_cmp_equiv}
use Rattle.std.proofs.lemmas.Map.Lookups.{exact_unsigned}
use Rattle.std.proofs.lemmas.Map.Views.{any-filter_same, tells_apart}
use Rattle.sector_model.specs.Run.{blocks_where, block_count, meets, with_met, in_blocks, in_runs, areas_of}
use Rattle.sector_model.specs.declared.run.Run.{Run}
use Rattle.sector_model.proofs.Exact.{in_runs_of}
use Rattle.sector_model.proofs.Touched.{any_below, filter-range_same}

-- whether a number of a range is among those that pass a test
pub among_range : (p : ℕ → Bool) (b n : ℕ) → b < n
    → list_any (nat_eq b) (filter p (range_with_len 0 n)) ≡ p b
among_range p b n less =
    any-filter_same (nat_eq b) p (p b) (λ k same. ap p (sym (eqb-true b k same)))
    (range_with_len 0 n)
    ∙ ap (λ x. p b && x) (any_below b 0 n (omega arith) (omega (arith, less))) ∙ and-true (p b)

-- a block of the disk is among those that pass a test exactly where it passes
pub among : (c : ℕ) (test : ℕ → Bool) (b : ℕ) → b < block_count c
    → list_any (nat_eq b) (blocks_where c test) ≡ test b
among c test b less = among_range test b (block_count c) less

-- a sector is in the areas of blocks that pass a test exactly where its block does
pub in_areas : (c s : ℕ) (test : ℕ → Bool) → s < c
    → in_runs (areas_of c (blocks_where c test)) s ≡ test (s / 128)
in_areas c s test less =
    in_runs_of (in_blocks (blocks_where c test)) c s
    ∙ ap (λ x. x && in_blocks (blocks_where c test) s) (lt-ltb s c less)
    ∙ among c test (s / 128) (omega arith)

-- no areas have a sector past the capacity
pub past_areas : (c s : ℕ) (blocks : List ℕ) → c ≤ s → in_runs (areas_of c blocks) s ≡ false
past_areas c s blocks past =
    in_runs_of (in_blocks blocks) c s
    ∙ ap (λ x. x && in_blocks blocks s) (le-ltb s c past)

-- tests that agree on the blocks of the disk keep the same blocks
pub same_blocks : (c : ℕ) (p q : ℕ → Bool) → ((b : ℕ) → b < block_count c → p b ≡ q b)
    → blocks_where c p ≡ blocks_where c q
same_blocks c p q same =
    filter-range_same p q 0 (block_count c) (λ b from less. same b (omega (arith, less)))

pub met_more : (c : ℕ) (r : Run) (test : ℕ → Bool)
    → with_met c r (blocks_where c test) ≡ blocks_where c (λ b. test b || meets b r.first r.count)
met_more c r test = same_blocks c
    (λ b. list_any (nat_eq b) (blocks_where c test) || meets b r.first r.count)
    (λ b. test b || meets b r.first r.count)
    (λ b less. ap (λ x. x || meets b r.first r.count) (among c test b less))

-- numbers in order: one is found at itself alone
pub at_is : (k b : ℕ) → is_at (nat_cmp k) b ≡ eqb k b
at_is k b = elim (cases_eq k b) [
  | inl same ↦ ap (λ (n : ℕ). is_at (nat_cmp k) n) (sym same)
      ∙ (eq_by_cmp_equiv nat_cmp_total).refl k ∙ sym (eq-eqb k b same)
  | inr other ↦ false_from_ne_true (is_at (nat_cmp k) b)
      (λ is. other (tells_apart exact_unsigned k b is)) ∙ sym (ne_eqb k b other)
]

-- a list has a number where the set of its numbers does
pub in_set : (keys : List ℕ) (b : ℕ) → list_any (nat_eq b) keys ≡ list_any (is_at (nat_cmp b)) keys
in_set [] b = refl
in_set (k ∷ keys) b = rw (at_is b k, in_set keys b) refl

-- no number passes the test that none does
pub none_pass : (xs : List ℕ) → filter (λ b. false) xs ≡ []
none_pass [] = refl
none_pass (x ∷ xs) = none_pass xs
