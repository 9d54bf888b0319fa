-- Which blocks are touched with one write more.
use Rattle.std.proofs.Common.{◌≡◌, ℕ, zero, suc, ◌+◌, ◌-◌, ◌*◌, ◌<◌, min, max, List, [], ◌∷◌, ◌++◌, length, Bool, true, Option, Some, None, is_some, sym, ap, refl, ◌∙◌, arith, ltb, leb, nat_eq, ◌||◌, ◌&&◌, inl, inr}
use Rattle.std.specs.Option.{option_or}
use Rattle.std.specs.List.{list_any, range_with_len, slice_get}
use Rattle.std.proofs.Math.Bool.{or-false, or_assoc, or_comm}
use Rattle.std.proofs.lemmas.Bool.{cases_lt, lt-ltb, le-ltb, le-leb, lt-leb}
use Rattle.std.proofs.lemmas.Bool.Decides.{nat_tests}
use Rattle.std.proofs.lemmas.Option.{slice_get_past}
use Rattle.std.proofs.lemmas.List.Folds.{list_any-append}
use Rattle.sector_model.specs.Disk.{Write}
use Rattle.sector_model.specs.Run.{meets, with_met, range_of, touches, touched_blocks, block_count}
use Rattle.sector_model.specs.declared.sector.Sector.{Sector}
use Rattle.sector_model.proofs.Touched.{filter-range_same}
use Rattle.snapshot_chain.specs.Page128.{run_at}
use Rattle.sector_model.proofs.Among.{among_range}

pub touched_push : (c : ℕ) (ws : List Write) (w : Write)
    → with_met c (range_of w) (touched_blocks c ws) ≡ touched_blocks c (ws ++ w ∷ [])
touched_push c ws w =
    filter-range_same (λ b. list_any (nat_eq b) (touched_blocks c ws) || touches b w)
    (λ b. list_any (touches b) (ws ++ w ∷ [])) 0 (block_count c)
    (λ b from less. ap (λ x. x || touches b w)
    (among_range (λ k. list_any (touches k) ws) b (block_count c) (omega (arith, less)))
    ∙ sym (list_any-append (touches b) ws (w ∷ [])
    ∙ ap (λ x. list_any (touches b) ws || x) (or-false (touches b w))))

-- a run has a sector of a block exactly if the two ranges meet
some_at : (first : ℕ) (xs : List Sector) (s : ℕ)
    → is_some (run_at first xs s) ≡ (leb first s && ltb s (first + length xs))
some_at first xs s = elim (cases_lt s first) [
  | inl less ↦ rw (lt-leb first s less) refl
  | inr from ↦ rw (le-leb first s from) (elim (cases_lt (s - first) (length xs)) [
    | inl inside ↦ rw (lt-ltb s (first + length xs) (omega (arith, from, inside)))
        (long xs (s - first) inside)
    | inr past ↦ rw (
      le-ltb s (first + length xs) (omega (arith, from, past)),
      slice_get_past xs
          (s - first) past,
    ) refl
  ])
]
  where
    long : (xs : List Sector) (k : ℕ) → k < length xs → is_some (slice_get xs k) ≡ true
    long [] k less = absurd (omega (arith, less))
    long (x ∷ xs) zero less = refl
    long (x ∷ xs) (suc k) less = long xs k (omega (arith, less))

any_between : (low high base a n : ℕ)
    → list_any (λ p. leb low (base + p) && ltb (base + p) high) (range_with_len a n)
    ≡ ltb (max (base + a) low) (min (base + a + n) high)
any_between low high base a zero =
    sym (le-ltb (max (base + a) low) (min (base + a + 0) high) (omega arith))
any_between low high base a (suc n) =
    ap (λ x. (leb low (base + a) && ltb (base + a) high) || x) (any_between low high base (a + 1) n)
    ∙ grind (arith, nat_tests)

pub any-or : (f g h : ℕ → Bool) (xs : List ℕ) → ((k : ℕ) → h k ≡ (f k || g k))
    → list_any h xs ≡ (list_any f xs || list_any g xs)
any-or f g h [] same = refl
any-or f g h (x ∷ xs) same = rw (same x, any-or f g h xs same)
    (or_assoc (f x) (g x) (list_any f xs || list_any g xs)
    ∙ ap (λ (b : Bool). f x || b)
    (sym (or_assoc (g x) (list_any f xs) (list_any g xs))
    ∙ ap (λ (b : Bool). b || list_any g xs) (or_comm (g x) (list_any f xs))
    ∙ or_assoc (list_any f xs) (g x) (list_any g xs))
    ∙ sym (or_assoc (f x) (list_any f xs) (g x || list_any g xs)))

pub either_found : (a b : Option Sector) → is_some (option_or a b) ≡ (is_some b || is_some a)
either_found None b = sym (or-false (is_some b))
either_found (Some x) None = refl
either_found (Some x) (Some y) = refl

-- a block in which a run is written over what was found before
pub has_more : (first : ℕ) (xs : List Sector) (block : ℕ) (old : ℕ → Option Sector)
    → list_any (λ p. is_some (option_or (run_at first xs (128 * block + p)) (old p)))
    (range_with_len 0 128)
    ≡ (list_any (λ p. is_some (old p)) (range_with_len 0 128) || touches block
    (record { first = first; sectors = xs }))
has_more first xs block old =
    any-or (λ p. is_some (old p))
    (λ p. leb first (128 * block + p) && ltb (128 * block + p) (first + length xs))
    (λ p. is_some (option_or (run_at first xs (128 * block + p)) (old p)))
    (range_with_len 0 128)
    (λ p. either_found (run_at first xs (128 * block + p)) (old p)
    ∙ ap (λ x. is_some (old p) || x) (some_at first xs (128 * block + p)))
    ∙ ap (λ x. list_any (λ p. is_some (old p)) (range_with_len 0 128) || x)
    (any_between first (first + length xs) (128 * block) 0 128 ∙ ends)
  where
    ends : ltb (max (128 * block + 0) first) (min (128 * block + 0 + 128) (first + length xs))
        ≡ meets block first (length xs)
    ends = let e : 128 * block + 0 ≡ 128 * block = omega arith in
        ap (λ n. ltb (max n first) (min (n + 128) (first + length xs))) e
