-- The bits of a word, and of the blocks that a run meets.
use Rattle.std.proofs.Common.{◌≡◌, ℕ, zero, suc, ◌+◌, ◌-◌, ◌*◌, ◌/◌, ◌%◌, ◌^◌, ◌<◌, ◌≤◌, min, max, Bool, true, false, not, ◌&&◌, ◌||◌, eqb, leb, bit_and, bit_or, w64, sym, ap, refl, ◌∙◌, arith, inl, inr, ◌⊎◌}
use Rattle.std.specs.Int.{bit_at, bit_not}
use Rattle.std.proofs.lemmas.Bool.{cases_lt, lt-ltb, le-ltb, le-leb, lt-leb, and_right}
use Rattle.std.proofs.lemmas.Nat.Bits.{bit_at_or, bit_at_and, bit_at-lt, bit_at_not, ones_shr, ones_shl, bit_at_ones, bit_at_ones_above, bit_at_mask_inside, bit_at_mask_below, bit_at-zero}
use Rattle.sector_model.specs.Run.{meets}
use Rattle.basics.specs.Bits.{has_bit}

either_bit : (x y : ℕ) → x < 2 → y < 2 → eqb (max x y) 1 ≡ (eqb x 1 || eqb y 1)
either_bit zero zero less_x less_y = refl
either_bit zero (suc zero) less_x less_y = refl
either_bit (suc zero) zero less_x less_y = refl
either_bit (suc zero) (suc zero) less_x less_y = refl
either_bit zero (suc (suc y)) less_x less_y = absurd (omega arith)
either_bit (suc zero) (suc (suc y)) less_x less_y = absurd (omega arith)
either_bit (suc (suc x)) y less_x less_y = absurd (omega arith)

both_bits : (x y : ℕ) → x < 2 → y < 2 → eqb (min x y) 1 ≡ (eqb x 1 && eqb y 1)
both_bits zero zero less_x less_y = refl
both_bits zero (suc zero) less_x less_y = refl
both_bits (suc zero) zero less_x less_y = refl
both_bits (suc zero) (suc zero) less_x less_y = refl
both_bits zero (suc (suc y)) less_x less_y = absurd (omega arith)
both_bits (suc zero) (suc (suc y)) less_x less_y = absurd (omega arith)
both_bits (suc (suc x)) y less_x less_y = absurd (omega arith)

other_bit : (x : ℕ) → x < 2 → eqb (1 - x) 1 ≡ not (eqb x 1)
other_bit zero less = refl
other_bit (suc zero) less = refl
other_bit (suc (suc x)) less = absurd (omega arith)

pub or_has : (a b p : ℕ) → has_bit (bit_or a b) p ≡ (has_bit a p || has_bit b p)
or_has a b p = ap (λ n. eqb n 1) (bit_at_or a b p)
    ∙ either_bit (bit_at a p) (bit_at b p) (bit_at-lt a p) (bit_at-lt b p)

pub and_has : (a b p : ℕ) → has_bit (bit_and a b) p ≡ (has_bit a p && has_bit b p)
and_has a b p = ap (λ n. eqb n 1) (bit_at_and a b p)
    ∙ both_bits (bit_at a p) (bit_at b p) (bit_at-lt a p) (bit_at-lt b p)

pub not_has : (a p : ℕ) → a < 2 ^ 64 → p < 64 → has_bit (bit_not w64 a) p ≡ not (has_bit a p)
not_has a p fits less =
    ap (λ n. eqb n 1) (bit_at_not w64 a p fits less) ∙ other_bit (bit_at a p) (bit_at-lt a p)

pub none_has : (p : ℕ) → has_bit 0 p ≡ false
none_has p = ap (λ n. eqb n 1) (bit_at-zero p)

-- the bits from one place on
pub from_has : (l p : ℕ) → l ≤ 63 → p < 64
    → has_bit (18446744073709551615 * 2 ^ l % 18446744073709551616) p ≡ leb l p
from_has l p low less = ap (λ n. has_bit n p) (ones_shl 64 l (omega (arith, low)))
    ∙ (elim (cases_lt p l) [
      | inl below ↦ ap (λ n. eqb n 1) (bit_at_mask_below l 64 p below) ∙ sym (lt-leb l p below)
      | inr from ↦ ap (λ n. eqb n 1) (bit_at_mask_inside l 64 p from less) ∙ sym (le-leb l p from)
    ])

-- and up to another
upto_has : (h p : ℕ) → h ≤ 63 → has_bit (18446744073709551615 / 2 ^ (63 - h)) p ≡ leb p h
upto_has h p high = ap (λ n. has_bit n p) (ones_shr 64 (63 - h) (omega (arith, high)))
    ∙ (elim (cases_lt p (64 - (63 - h))) [
      | inl below ↦ ap (λ n. eqb n 1) (bit_at_ones (64 - (63 - h)) p below)
          ∙ sym (le-leb p h (omega (arith, below, high)))
      | inr above ↦ ap (λ n. eqb n 1) (bit_at_ones_above (64 - (63 - h)) p above)
          ∙ sym (lt-leb p h (omega (arith, above, high)))
    ])

-- a block is met exactly from the run's first block up to its last one
pub met_iff : (block first count : ℕ) → 0 < count
    → meets block first count ≡ (leb (first / 128) block && leb block ((first + count - 1) / 128))
met_iff block first count some = elim (cases_lt block (first / 128)) [
  | inl below ↦ le-ltb (max (128 * block) first) (min (128 * block + 128) (first + count))
      (omega arith) ∙ sym (ap (λ x. x && leb block ((first + count - 1) / 128))
      (lt-leb (first / 128) block below))
  | inr from ↦ elim (cases_lt ((first + count - 1) / 128) block) [
    | inl past ↦ le-ltb (max (128 * block) first) (min (128 * block + 128) (first + count))
        (omega arith) ∙ sym (ap (λ x. leb (first / 128) block && x)
        (lt-leb block ((first + count - 1) / 128) past)
        ∙ and_right (leb (first / 128) block) false refl)
    | inr upto ↦ lt-ltb (max (128 * block) first) (min (128 * block + 128) (first + count))
        (omega arith) ∙ sym (ap (λ x. x && leb block ((first + count - 1) / 128))
        (le-leb (first / 128) block from) ∙ le-leb block ((first + count - 1) / 128) upto)
  ]
]

pub mask_has : (w p first count l h : ℕ) → 0 < count → p < 64 → first / 128 / 64 ≤ w
    → w ≤ (first + count - 1) / 128 / 64
    → l ≡ max (first / 128) (64 * w) → h ≡ min ((first + count - 1) / 128) (64 * w + 63)
    → has_bit (bit_and (18446744073709551615 / 2 ^ (63 - (h - 64 * w)))
    (18446744073709551615 * 2 ^ (l - 64 * w) % 18446744073709551616)) p
    ≡ meets (64 * w + p) first count
mask_has w p first count l h some less from upto low high =
    and_has (18446744073709551615 / 2 ^ (63 - (h - 64 * w)))
    (18446744073709551615 * 2 ^ (l - 64 * w) % 18446744073709551616) p
    ∙ (λ i. upto_has (h - 64 * w) p (omega arith) i && from_has (l - 64 * w) p (omega arith) less i)
    ∙ turned (leb p (h - 64 * w)) (leb (l - 64 * w) p)
    ∙ (λ i. same_low (cases_lt p (l - 64 * w)) i && same_high (cases_lt (h - 64 * w) p) i)
    ∙ sym (met_iff (64 * w + p) first count some)
  where
    same_low : (p < l - 64 * w) ⊎ (l - 64 * w ≤ p)
        → leb (l - 64 * w) p ≡ leb (first / 128) (64 * w + p)
    same_low (inl below) =
        lt-leb (l - 64 * w) p below ∙ sym (lt-leb (first / 128) (64 * w + p) (omega arith))
    same_low (inr at) = le-leb (l - 64 * w) p at
        ∙ sym (le-leb (first / 128) (64 * w + p) (omega arith))

    same_high : (h - 64 * w < p) ⊎ (p ≤ h - 64 * w)
        → leb p (h - 64 * w) ≡ leb (64 * w + p) ((first + count - 1) / 128)
    same_high (inl above) =
        lt-leb p (h - 64 * w) above
        ∙ sym (lt-leb (64 * w + p) ((first + count - 1) / 128) (omega arith))
    same_high (inr at) = le-leb p (h - 64 * w) at
        ∙ sym (le-leb (64 * w + p) ((first + count - 1) / 128) (omega arith))

    turned : (x y : Bool) → (x && y) ≡ (y && x)
    turned true true = refl
    turned true false = refl
    turned false true = refl
    turned false false = refl
