use Rattle.std.proofs.Common.{◌≡◌}
use Rattle.std.proofs.lemmas.Result.{on_ok_weaker}
use Rattle.snapshot_chain.specs.Chain as chain
use Rattle.source_disk.proofs.Taking.{takes_remove}
use Rattle.source_disk.proofs.source_disk.SourceDisk.merge.Goals as goal

pub returns-clause-stands : goal.returns-clause-stands
returns-clause-stands c =
    on_ok_weaker c.merge.result
    (λ (merged : c.merge.new.self ≡ chain.after_merging c.args.id c.self.inside.chain).
    rw (← c.self.view_is, merged)
    (takes_remove c.args.id
    (record { chain = c.self.inside.chain; tracker = c.self.inside.tracker })))
    c.merge.ensures.ok
