-- A walk over words: the first block that was touched, or wasn't, and the next area.
use Rattle.std.proofs.Common.{◌≡◌, ◌≢◌, ℕ, ◌+◌, ◌*◌, ◌/◌, ◌%◌, ◌^◌, ◌<◌, ◌≤◌, max, true, false, not, ◌&&◌, leb, eqb, bit_and, w64, None, sym, ap, ◌∙◌, arith, inl, inr}
use Rattle.std.specs.Int.{bit_at, bit_not, trailing_zeros}
use Rattle.std.proofs.lemmas.Bool.{and_parts, cases_lt, le-leb, leb-true, eq-eqb, false≢true, not-true, not-false}
use Rattle.std.proofs.lemmas.Nat.Bits.{bit_at-trailing_zeros}
use Rattle.change_tracker.specs.declared.word.Window.{Window}
use Rattle.basics.specs.Bits.{has_bit}
use Rattle.basics.proofs.Truth.{first_fails}
use Rattle.change_tracker.specs.Touches.{TouchState, touched_in, word_of, is_touched_in}
use Rattle.change_tracker.proofs.Bits.{and_has, not_has, from_has, none_has}

pub in_word : (t : TouchState) (w : Window) (b word : ℕ) → b / 64 ≡ word
    → is_touched_in t w b ≡ touched_in w (b % 64) (word_of t word)
in_word t w b word at = ap (λ n. touched_in w (b % 64) (word_of t n)) at

pub no_word : (t : TouchState) (w : Window) (b : ℕ) → word_of t (b / 64) ≡ None
    → is_touched_in t w b ≡ false
no_word t w b none = ap (touched_in w (b % 64)) none

-- ---- the bits from a place on

abbrev pub masked : (bits first : ℕ) → ℕ
masked bits first = bit_and bits (18446744073709551615 * 2 ^ (first % 64) % 18446744073709551616)

masked_has : (bits first p : ℕ) → p < 64
    → has_bit (masked bits first) p ≡ (has_bit bits p && leb (first % 64) p)
masked_has bits first p less =
    and_has bits (18446744073709551615 * 2 ^ (first % 64) % 18446744073709551616) p
    ∙ ap (λ x. has_bit bits p && x) (from_has (first % 64) p (omega arith) less)

clear : (bits first p : ℕ) → p < 64 → first % 64 ≤ p → has_bit (masked bits first) p ≡ false
    → has_bit bits p ≡ false
clear bits first p less from none =
    first_fails (has_bit bits p) (leb (first % 64) p) (le-leb (first % 64) p from)
    (sym (masked_has bits first p less) ∙ none)

pub record Lowest (n k : ℕ) : Type 0 where
  pub within : k < 64
  pub here : has_bit n k ≡ true
  pub below : (p : ℕ) → p < k → has_bit n p ≡ false

pub lowest : (n k : ℕ) → n ≢ 0 → n < 2 ^ 64 → k ≡ trailing_zeros w64 n → Lowest n k
lowest n k some fits is =
    let low = bit_at-trailing_zeros w64 n (omega (arith, some)) fits in
    record {
      within = omega (arith, low.0, is);
      here = ap (has_bit n) is ∙ eq-eqb (bit_at n (trailing_zeros w64 n)) 1 low.1;
      below = λ p less. ap (λ x. eqb x 1) (low.2 p (omega (arith, less, is)));
    }

pub no_bits : (n p : ℕ) → n ≡ 0 → has_bit n p ≡ false
no_bits n p none = ap (λ x. has_bit x p) none ∙ none_has p

-- ---- the next block that was touched

-- a word that is met from block `at` on, and its bits inside the window
pub record Met (t : TouchState) (w : Window) (at word bits : ℕ) : Type 0 where
  pub from : at / 64 ≤ word
  pub between : (v : ℕ) → at / 64 ≤ v → v < word → word_of t v ≡ None
  pub told : (p : ℕ) → has_bit bits p ≡ touched_in w p (word_of t word)

pub none_before : (t : TouchState) (w : Window) (at word bits first k b : ℕ) → Met t w at word bits
    → first ≡ max at (64 * word) → k ≤ 64
    → ((p : ℕ) → p < k → has_bit (masked bits first) p ≡ false) → at ≤ b → b < 64 * word + k
    → is_touched_in t w b ≡ false
none_before t w at word bits first k b met is few none from less =
    let low = met.from in
    elim (cases_lt (b / 64) word) [
      | inl early ↦ no_word t w b (met.between (b / 64) (omega (arith, from)) early)
      | inr late ↦ let same : b / 64 ≡ word = omega (arith, late, less, few) in
          in_word t w b word same ∙ sym (met.told (b % 64))
          ∙ clear bits first (b % 64) (omega arith) (omega (arith, is, same, from, low))
          (none (b % 64) (omega (arith, same, less)))
    ]

pub touched_here : (t : TouchState) (w : Window) (at word bits first k : ℕ) → Met t w at word bits
    → first ≡ max at (64 * word) → Lowest (masked bits first) k
    → is_touched_in t w (64 * word + k) ≡ true
touched_here t w at word bits first k met is low =
    let inside = low.within in
    let same : (64 * word + k) / 64 ≡ word = omega (arith, inside) in
    let place : (64 * word + k) % 64 ≡ k = omega (arith, inside) in
    in_word t w (64 * word + k) word same ∙ ap (λ p. touched_in w p (word_of t word)) place
    ∙ sym (met.told k)
    ∙ (and_parts (has_bit bits k) (leb (first % 64) k) (sym (masked_has bits first k inside)
    ∙ low.here)).0

-- the lowest bit is of a block from `at` on
pub from_at : (at word bits first k : ℕ) → at / 64 ≤ word → first ≡ max at (64 * word)
    → Lowest (masked bits first) k → at ≤ 64 * word + k
from_at at word bits first k from is low =
    let inside = low.within in
    let above : first % 64 ≤ k =
    leb-true (first % 64) k
    ((and_parts (has_bit bits k) (leb (first % 64) k) (sym (masked_has bits first k inside)
    ∙ low.here)).1) in
    omega (arith, above, is, from)

-- ---- the next block that wasn't

pub all_before : (t : TouchState) (w : Window) (at bits k b : ℕ) → bits < 2 ^ 64
    → ((p : ℕ) → has_bit bits p ≡ touched_in w p (word_of t (at / 64))) → k ≤ 64
    → ((p : ℕ) → p < k → has_bit (masked (bit_not w64 bits) at) p ≡ false) → at ≤ b
    → b < 64 * (at / 64) + k → is_touched_in t w b ≡ true
all_before t w at bits k b fits told few none from less =
    let same : b / 64 ≡ at / 64 = omega (arith, from, less, few) in
    ap (λ n. touched_in w (b % 64) (word_of t n)) same ∙ sym (told (b % 64))
    ∙ not-false (has_bit bits (b % 64)) (sym (not_has bits (b % 64) fits (omega arith))
    ∙ clear (bit_not w64 bits) at (b % 64) (omega arith) (omega (arith, same, from))
    (none (b % 64) (omega (arith, same, less))))

pub untouched_here : (t : TouchState) (w : Window) (at bits k : ℕ) → bits < 2 ^ 64
    → ((p : ℕ) → has_bit bits p ≡ touched_in w p (word_of t (at / 64)))
    → Lowest (masked (bit_not w64 bits) at) k
    → is_touched_in t w (64 * (at / 64) + k) ≡ false
untouched_here t w at bits k fits told low =
    let inside = low.within in
    let same : (64 * (at / 64) + k) / 64 ≡ at / 64 = omega (arith, inside) in
    let place : (64 * (at / 64) + k) % 64 ≡ k = omega (arith, inside) in
    ap (λ n. touched_in w ((64 * (at / 64) + k) % 64) (word_of t n)) same
    ∙ ap (λ p. touched_in w p (word_of t (at / 64))) place ∙ sym (told k)
    ∙ not-true (has_bit bits k) (sym (not_has bits k fits inside)
    ∙ (and_parts (has_bit (bit_not w64 bits) k) (leb (at % 64) k)
    (sym (masked_has (bit_not w64 bits) at k inside) ∙ low.here)).0)

pub from_here : (at bits k : ℕ) → Lowest (masked bits at) k → at ≤ 64 * (at / 64) + k
from_here at bits k low =
    let inside = low.within in
    let above : at % 64 ≤ k =
    leb-true (at % 64) k ((and_parts (has_bit bits k) (leb (at % 64) k)
    (sym (masked_has bits at k inside) ∙ low.here)).1) in
    omega (arith, above)
