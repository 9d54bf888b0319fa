use Rattle.std.proofs.Common.{◌≡◌}
use Rattle.record_keeping.specs.Keeping.{keeping}
use Rattle.record_keeping.proofs.KeepLemmas.{KeptTo}
use Rattle.record_keeping.proofs.keep.keep_records.Given as goal

abbrev pub invariant-loop-record : goal.invariant-loop-record
invariant-loop-record g l = record {
  kept : KeptTo l.fn.records l.record-index
      (keeping l.fn.controller.state l.fn.controller.journal)
      (keeping l.controller.state l.controller.journal);
  store : l.controller.store ≡ l.fn.controller.store;
}
