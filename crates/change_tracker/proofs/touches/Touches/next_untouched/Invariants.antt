use Rattle.std.proofs.Common.{◌-◌, ◌≡◌, ◌<◌, ◌≤◌, ℕ, true}
use Rattle.change_tracker.specs.Touches.{is_touched_in, IsSeen}
use Rattle.change_tracker.proofs.touches.Touches.next_untouched.Given as goal

-- each block before `at` was touched
abbrev pub invariant-loop-at : goal.invariant-loop-at
invariant-loop-at l = record {
  from : l.block ≤ l.at;
  seen : IsSeen l.self l.window l.seen.word l.seen.bits;
  all : (b : ℕ) → l.block ≤ b → b < l.at → is_touched_in l.self l.window b ≡ true;
}

abbrev pub decreases-loop-at : goal.decreases-loop-at
decreases-loop-at l = l.end - l.at
