use Rattle.std.proofs.Common.{◌≡◌, ℕ, ◌%◌, ◌+◌, ◌*◌, ◌/◌, ◌^◌, ◌<◌, ◌≤◌, true, w64, arith, inl, inr, ap, ◌∙◌, rules}
use Rattle.std.specs.Int.{bit_not}
use Rattle.std.proofs.lemmas.Bool.{cases_lt}
use Rattle.std.proofs.lemmas.Nat.{and_le_l}
use Rattle.change_tracker.specs.declared.word.Window.{Window}
use Rattle.change_tracker.specs.Touches.{TouchState, IsSeen, touched_in, word_of, is_touched_in}
use Rattle.change_tracker.proofs.Walks.{Lowest, lowest, masked, no_bits, all_before, untouched_here, from_here}
use Rattle.change_tracker.proofs.touches.Touches.next_untouched.Goals as goal

fits : (bits first : ℕ) → masked (bit_not w64 bits) first < 2 ^ 64
fits bits first = omega (
  arith,
  and_le_l (bit_not w64 bits)
      (18446744073709551615 * 2 ^ (first % 64) % 18446744073709551616),
)

up_to : (t : TouchState) (w : Window) (block at top : ℕ)
    → ((b : ℕ) → block ≤ b → b < at → is_touched_in t w b ≡ true)
    → ((b : ℕ) → at ≤ b → b < top → is_touched_in t w b ≡ true) → (b : ℕ) → block ≤ b → b < top
    → is_touched_in t w b ≡ true
up_to t w block at top all more b from less =
    elim (cases_lt b at) [ inl early ↦ all b from early | inr late ↦ more b late less ]

told : (t : TouchState) (w : Window) (word at bits : ℕ) → IsSeen t w word bits → word ≡ at / 64
    → IsSeen t w (at / 64) bits
told t w word at bits seen is = λ p. seen p ∙ ap (λ n. touched_in w p (word_of t n)) is

pub returns-then-bits-ne0-clause-from : goal.returns-then-bits-ne0-clause-from
returns-then-bits-ne0-clause-from c =
    let bits : ℕ = c.look_up.new.seen.bits in
    let low : Lowest (masked (bit_not w64 bits) c.loop-at.at) c.from.result =
    lowest _ _ c.if-bits-ne0.true (fits bits c.loop-at.at) c.from.ensures in
    let start = from_here c.loop-at.at (bit_not w64 bits) c.from.result low in
    omega (arith, start, c.min.ensures, c.requires.below, c.loop-at.invariant.from)

pub returns-then-bits-ne0-clause-touched : goal.returns-then-bits-ne0-clause-touched
returns-then-bits-ne0-clause-touched c =
    let bits : ℕ = c.look_up.new.seen.bits in
    let small : bits < 2 ^ 64 = search rules in
    let is = told c.args.self.now c.args.window c.look_up.new.seen.word c.loop-at.at bits
    c.look_up.ensures.seen c.look_up.ensures.word in
    let low : Lowest (masked (bit_not w64 bits) c.loop-at.at) c.from.result =
    lowest _ _ c.if-bits-ne0.true (fits bits c.loop-at.at) c.from.ensures in
    let inside = low.within in
    λ b from less. up_to c.args.self.now c.args.window c.args.block c.loop-at.at
    (64 * (c.loop-at.at / 64) + c.from.result) c.loop-at.invariant.all
    (λ b from less. all_before c.args.self.now c.args.window c.loop-at.at bits c.from.result b small
    is (omega arith) low.below from less)
    b from (omega (arith, less, c.min.ensures))

pub returns-then-bits-ne0-clause-found : goal.returns-then-bits-ne0-clause-found
returns-then-bits-ne0-clause-found c =
    let bits : ℕ = c.look_up.new.seen.bits in
    let small : bits < 2 ^ 64 = search rules in
    let is = told c.args.self.now c.args.window c.look_up.new.seen.word c.loop-at.at bits
    c.look_up.ensures.seen c.look_up.ensures.word in
    let low : Lowest (masked (bit_not w64 bits) c.loop-at.at) c.from.result =
    lowest _ _ c.if-bits-ne0.true (fits bits c.loop-at.at) c.from.ensures in
    λ less. let same : c.min.result ≡ 64 * (c.loop-at.at / 64) + c.from.result =
    omega (arith, less, c.min.ensures) in
    ap (is_touched_in c.args.self.now c.args.window) same
    ∙ untouched_here c.args.self.now c.args.window c.loop-at.at bits c.from.result small is low

pub loop-at-preserved : goal.loop-at-preserved
loop-at-preserved c =
    let bits : ℕ = c.look_up.new.seen.bits in
    let small : bits < 2 ^ 64 = search rules in
    let is = told c.args.self.now c.args.window c.look_up.new.seen.word c.loop-at.at bits
    c.look_up.ensures.seen c.look_up.ensures.word in
    record {
      from = omega (arith, c.loop-at.invariant.from);
      seen = c.look_up.ensures.seen;
      all = up_to c.args.self.now c.args.window c.args.block c.loop-at.at
          (64 * (c.loop-at.at / 64) + 64) c.loop-at.invariant.all
          (λ b from less. all_before c.args.self.now c.args.window c.loop-at.at bits 64 b small is
          (omega arith) (λ p _. no_bits _ p c.if-bits-ne0.false) from less);
    }
