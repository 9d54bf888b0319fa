-- The blocks so far, from that of the first sector on.
use Rattle.std.proofs.Common.{◌≡◌, ◌≤◌, ℕ, ◌||◌, ◌&&◌, nat_cmp, nat_lt, nat_le, max}
use Rattle.std.specs.BTreeSet.{contains}
use Rattle.log_facts.proofs.stages.add_met.Given as goal

abbrev pub invariant-loop-block : goal.invariant-loop-block
invariant-loop-block l = record {
  from : l.initial.block ≤ l.block;
  upto : l.block ≤ max l.initial.block l.block-end;
  are : (block : ℕ) → contains nat_cmp l.blocks block
      ≡ (contains nat_cmp l.initial.blocks block ||
      (nat_le l.initial.block block && nat_lt block l.block));
}
