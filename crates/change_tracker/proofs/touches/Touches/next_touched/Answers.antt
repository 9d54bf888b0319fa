use Rattle.std.proofs.Common.{◌≡◌, ℕ, ◌%◌, ◌+◌, ◌*◌, ◌^◌, ◌<◌, ◌≤◌, false, arith, inl, inr, rules}
use Rattle.std.proofs.lemmas.Bool.{cases_lt}
use Rattle.std.proofs.lemmas.Nat.{and_le_l}
use Rattle.change_tracker.specs.declared.word.Window.{Window}
use Rattle.change_tracker.specs.Touches.{TouchState, is_touched_in}
use Rattle.change_tracker.proofs.Walks.{Met, Lowest, lowest, masked, no_bits, none_before, touched_here, from_at}
use Rattle.change_tracker.proofs.touches.Touches.next_touched.Goals as goal

fits : (bits first : ℕ) → bits < 2 ^ 64 → masked bits first < 2 ^ 64
fits bits first less =
    omega (
      arith,
      less,
      and_le_l bits
          (18446744073709551615 * 2 ^ (first % 64) % 18446744073709551616),
    )

up_to : (t : TouchState) (w : Window) (block at top : ℕ)
    → ((b : ℕ) → block ≤ b → b < at → is_touched_in t w b ≡ false)
    → ((b : ℕ) → at ≤ b → b < top → is_touched_in t w b ≡ false) → (b : ℕ) → block ≤ b → b < top
    → is_touched_in t w b ≡ false
up_to t w block at top none more b from less =
    elim (cases_lt b at) [ inl early ↦ none b from early | inr late ↦ more b late less ]

pub returns-then-found-end-clause-found : goal.returns-then-found-end-clause-found
returns-then-found-end-clause-found c =
    let word : ℕ = c.look_ahead.new.seen.word in
    let bits : ℕ = c.look_ahead.new.seen.bits in
    let small : bits < 2 ^ 64 = search rules in
    let met : Met c.args.self.now c.args.window c.loop-at.at word bits =
    record {
      from = c.if-look_ahead.ensures.ahead.from_on;
      between =
          c.if-look_ahead.ensures.ahead.between;
      told = c.look_ahead.ensures.seen;
    } in
    let low : Lowest (masked bits c.max-first.result) c.from.result =
    lowest _ _ c.if-bits-ne0.true (fits bits c.max-first.result small) c.from.ensures in
    let inside = low.within in
    let start = from_at c.loop-at.at word bits c.max-first.result c.from.result met.from
    c.max-first.ensures low in (
      record {
        from_on = omega (arith, start, c.loop-at.invariant.from);
        passes = touched_here c.args.self.now c.args.window c.loop-at.at word bits
            c.max-first.result c.from.result met c.max-first.ensures low;
        earlier = up_to c.args.self.now c.args.window c.args.block c.loop-at.at
            (64 * word + c.from.result) c.loop-at.invariant.none
            (λ b from less. none_before c.args.self.now c.args.window c.loop-at.at word bits
            c.max-first.result c.from.result b met c.max-first.ensures (omega arith) low.below
            from less);
      },
      c.if-found-end.true,
    )

pub returns-else-found-end-clause-found : goal.returns-else-found-end-clause-found
returns-else-found-end-clause-found c =
    let word : ℕ = c.look_ahead.new.seen.word in
    let bits : ℕ = c.look_ahead.new.seen.bits in
    let small : bits < 2 ^ 64 = search rules in
    let met : Met c.args.self.now c.args.window c.loop-at.at word bits =
    record {
      from = c.if-look_ahead.ensures.ahead.from_on;
      between =
          c.if-look_ahead.ensures.ahead.between;
      told = c.look_ahead.ensures.seen;
    } in
    let low : Lowest (masked bits c.max-first.result) c.from.result =
    lowest _ _ c.if-bits-ne0.true (fits bits c.max-first.result small) c.from.ensures in
    let inside = low.within in
    let past : c.args.end ≤ 64 * word + c.from.result = c.if-found-end.false in
    λ b from less. up_to c.args.self.now c.args.window c.args.block c.loop-at.at
    (64 * word + c.from.result) c.loop-at.invariant.none
    (λ b from less. none_before c.args.self.now c.args.window c.loop-at.at word bits
    c.max-first.result c.from.result b met c.max-first.ensures (omega arith) low.below from
    less)
    b from (omega (arith, less, past))

pub loop-at-preserved : goal.loop-at-preserved
loop-at-preserved c =
    let word : ℕ = c.look_ahead.new.seen.word in
    let bits : ℕ = c.look_ahead.new.seen.bits in
    let met : Met c.args.self.now c.args.window c.loop-at.at word bits =
    record {
      from = c.if-look_ahead.ensures.ahead.from_on;
      between =
          c.if-look_ahead.ensures.ahead.between;
      told = c.look_ahead.ensures.seen;
    } in
    record {
      from = omega (arith, met.from, c.loop-at.invariant.from);
      seen = c.look_ahead.ensures.seen;
      none = up_to c.args.self.now c.args.window c.args.block c.loop-at.at (64 * word + 64)
          c.loop-at.invariant.none
          (λ b from less. none_before c.args.self.now c.args.window c.loop-at.at word bits
          c.max-first.result 64 b met c.max-first.ensures (omega arith)
          (λ p _. no_bits _ p c.if-bits-ne0.false) from less);
    }
