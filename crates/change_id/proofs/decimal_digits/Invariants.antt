use Rattle.std.proofs.Common.{◌≡◌, ◌+◌, ◌<◌, ◌++◌, decimal, drop, length}
use Rattle.change_id.proofs.decimal_digits.Given as goal

-- the digits from `start + 1` on are the last ones, and those of `rest` are still to come
abbrev pub invariant-loop-rest : goal.invariant-loop-rest
invariant-loop-rest l = record {
  within : l.start < 20;
  sized : length l.digits ≡ 20;
  so_far : decimal l.number ≡ decimal l.rest ++ drop (l.start + 1) l.digits;
}

abbrev pub decreases-loop-rest : goal.decreases-loop-rest
decreases-loop-rest l = l.rest
