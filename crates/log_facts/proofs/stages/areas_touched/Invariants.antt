-- The blocks that the entries so far touch.
use Rattle.std.proofs.Common.{◌≡◌, ℕ, take, ◌&&◌, nat_cmp, nat_lt}
use Rattle.std.specs.BTreeSet.{contains}
use Rattle.std.specs.List.{list_any}
use Rattle.sector_model.specs.Run.{block_count, touches}
use Rattle.log_model.specs.Entry.{writes_of}
use Rattle.log_facts.proofs.stages.areas_touched.Given as goal

abbrev pub invariant-loop-entry : goal.invariant-loop-entry
invariant-loop-entry l = (block : ℕ) → contains nat_cmp l.blocks block
    ≡ (nat_lt block (block_count l.capacity) && list_any (touches block)
    (writes_of l.disk (take l.entry-index l.entries)))
