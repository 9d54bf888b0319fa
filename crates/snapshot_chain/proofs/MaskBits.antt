-- A clear bit of a mask that is set: which bits, which counts of bits and which ranks change.
use Rattle.std.proofs.Common.{◌≡◌, ℕ, ◌+◌, ◌-◌, ◌*◌, ◌/◌, ◌%◌, ◌<◌, ◌≤◌, ◌^◌, true, false, pow_pos, sym, ap, ◌∙◌, arith, inl, inr}
use Rattle.std.specs.Int.{bit_at}
use Rattle.std.specs.Int.RustNames.{count_ones}
use Rattle.std.specs.Int.Count.{ones}
use Rattle.std.proofs.Math.Nat.{add-mul, div-div-eq-div-mul}
use lib.Pow.{mod-mod-pow}
use lib.Count.{ones_step}
use Rattle.std.proofs.lemmas.Nat.{ones_cat, mod-mul-add, div-mul-add, mod_below, pow-add, div-add-mod'}
use Rattle.std.proofs.lemmas.Nat.Bits.{bit_at_cat_low, bit_at_above, bit_at-lt}
use Rattle.std.proofs.lemmas.Bool.{cases_eq, eqb-true, eq-eqb, false≢true}
use Rattle.basics.specs.Bits.{has_bit}
use Rattle.snapshot_chain.specs.Page128.{rank}

-- a bit that is set, and one that is clear
pub bit_is_set : (m k : ℕ) → has_bit m k ≡ true → bit_at m k ≡ 1
bit_is_set m k is = eqb-true (bit_at m k) 1 is

pub clear_bit : (m p : ℕ) → has_bit m p ≡ false → bit_at m p ≡ 0
clear_bit m p none = elim (cases_eq (bit_at m p) 1) [
  | inl set ↦ absurd (false≢true (sym none ∙ eq-eqb (bit_at m p) 1 set))
  | inr other ↦ omega (arith, other, bit_at-lt m p)
]

-- no bit is set where the mask ends
pub clear_above : (m p : ℕ) → m < 2 ^ p → bit_at m p ≡ 0
clear_above m p above = bit_at_above m p p above (omega arith)

-- the mask is what stands above that bit and from it on, and what stands below
with_bit : (m p : ℕ) → m + 2 ^ p ≡ (m / 2 ^ p + 1) * 2 ^ p + m % 2 ^ p
with_bit m p = omega (arith, add-mul (m / 2 ^ p) 1 (2 ^ p), div-add-mod' m (2 ^ p))

above_more : (m p : ℕ) → (m + 2 ^ p) / 2 ^ p ≡ m / 2 ^ p + 1
above_more m p = ap (λ n. n / 2 ^ p) (with_bit m p)
    ∙ div-mul-add (m / 2 ^ p + 1) (2 ^ p) (m % 2 ^ p) (mod_below m (2 ^ p) (pow_pos p))

below_same : (m p : ℕ) → (m + 2 ^ p) % 2 ^ p ≡ m % 2 ^ p
below_same m p = ap (λ n. n % 2 ^ p) (with_bit m p)
    ∙ mod-mul-add (m / 2 ^ p + 1) (2 ^ p) (m % 2 ^ p) (mod_below m (2 ^ p) (pow_pos p))

-- the lowest bits of the low ones
pub low_of_low : (m j k : ℕ) → j ≤ k → m % 2 ^ k % 2 ^ j ≡ m % 2 ^ j
low_of_low m j k le = let at : (k - j) + j ≡ k = omega (arith, le) in
    ap (λ n. m % 2 ^ n % 2 ^ j) (sym at) ∙ mod-mod-pow m (k - j) j

-- the bits, where one is set by adding it
pub bit_below : (m p k : ℕ) → k < p → bit_at (m + 2 ^ p) k ≡ bit_at m k
bit_below m p k less =
    ap (λ n. bit_at n k) (with_bit m p)
    ∙ bit_at_cat_low (m / 2 ^ p + 1) p (m % 2 ^ p) k less
    ∙ sym (bit_at_cat_low (m / 2 ^ p) p (m % 2 ^ p) k less)
    ∙ ap (λ n. bit_at n k) (div-add-mod' m (2 ^ p))

pub bit_set : (m p : ℕ) → bit_at m p ≡ 0 → bit_at (m + 2 ^ p) p ≡ 1
bit_set m p clear = ap (λ n. n % 2) (above_more m p) ∙ omega (arith, clear)

-- nothing changes above the bit
pub same_above : (m p k : ℕ) → bit_at m p ≡ 0 → p < k → (m + 2 ^ p) / 2 ^ k ≡ m / 2 ^ k
same_above m p k clear less =
    halves (m + 2 ^ p) ∙ ap (λ n. n / 2 ^ (k - p - 1)) one ∙ sym (halves m)
  where
    one : (m + 2 ^ p) / 2 ^ p / 2 ≡ m / 2 ^ p / 2
    one = ap (λ n. n / 2) (above_more m p) ∙ omega (arith, clear)

    power : 2 ^ k ≡ 2 ^ p * (2 * 2 ^ (k - p - 1))
    power = let at : k ≡ p + (1 + (k - p - 1)) = omega (arith, less) in
        ap (λ n. 2 ^ n) at ∙ pow-add 2 p (1 + (k - p - 1))
        ∙ ap (λ n. 2 ^ p * n) (pow-add 2 1 (k - p - 1))

    halves : (n : ℕ) → n / 2 ^ k ≡ n / 2 ^ p / 2 / 2 ^ (k - p - 1)
    halves n = ap (λ d. n / d) power ∙ sym (div-div-eq-div-mul n (2 ^ p) (2 * 2 ^ (k - p - 1)))
        ∙ sym (div-div-eq-div-mul (n / 2 ^ p) 2 (2 ^ (k - p - 1)))

pub bit_behind : (m p k : ℕ) → bit_at m p ≡ 0 → p < k → bit_at (m + 2 ^ p) k ≡ bit_at m k
bit_behind m p k clear less = ap (λ n. n % 2) (same_above m p k clear less)

-- ---- ranks

pub count_parts : (n k : ℕ) → count_ones n ≡ count_ones (n / 2 ^ k) + count_ones (n % 2 ^ k)
unfolding count_ones
count_parts n k = ap ones (sym (div-add-mod' n (2 ^ k)))
    ∙ ones_cat k (n / 2 ^ k) (n % 2 ^ k) (mod_below n (2 ^ k) (pow_pos k))

count_odd : (n : ℕ) → n % 2 ≡ 0 → count_ones (n + 1) ≡ count_ones n + 1
unfolding count_ones
count_odd n even =
    let up : (n + 1) / 2 ≡ n / 2 = omega (arith, even) in
    omega (arith, ones_step (n + 1), ones_step n, ap ones up, even)

pub count_more : (m p : ℕ) → bit_at m p ≡ 0 → count_ones (m + 2 ^ p) ≡ count_ones m + 1
count_more m p clear =
    omega (
      arith,
      count_parts (m + 2 ^ p) p,
      count_parts m p,
      ap count_ones (above_more m p),
      ap count_ones (below_same m p),
      count_odd (m / 2 ^ p) clear,
    )

pub rank_below : (m p k : ℕ) → k ≤ p → rank (m + 2 ^ p) k ≡ rank m k
rank_below m p k le =
    ap count_ones (sym (low_of_low (m + 2 ^ p) k p le) ∙ ap (λ n. n % 2 ^ k) (below_same m p)
    ∙ low_of_low m k p le)

pub rank_behind : (m p k : ℕ) → bit_at m p ≡ 0 → p < k → rank (m + 2 ^ p) k ≡ rank m k + 1
rank_behind m p k clear less =
    omega (
      arith,
      count_parts (m + 2 ^ p) k,
      count_parts m k,
      count_more m p clear,
      ap count_ones (same_above m p k clear less),
    )

pub rank_all : (m k : ℕ) → rank m k ≤ count_ones m
rank_all m k = omega (arith, count_parts m k)

pub rank_grows : (m p k : ℕ) → p ≤ k → rank m p ≤ rank m k
rank_grows m p k le =
    omega (arith, count_parts (m % 2 ^ k) p, ap count_ones (low_of_low m p k le))
