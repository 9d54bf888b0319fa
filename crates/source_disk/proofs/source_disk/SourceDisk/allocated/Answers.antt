use Rattle.snapshot_chain.specs.Chain.{snapshot_of}
use Rattle.source_disk.proofs.Answering.{blocks_as, allocated_by}
use Rattle.source_disk.proofs.source_disk.SourceDisk.allocated.Goals as goal

pub returns-clause-ok : goal.returns-clause-ok
returns-clause-ok c =
    rw (← c.self.view_is)
    (blocks_as c.self.inside.chain.capacity c.allocated.result
    (snapshot_of c.args.id c.self.inside.chain) c.allocated.ensures.ok)

pub returns-clause-told : goal.returns-clause-told
returns-clause-told c =
    rw (← c.self.view_is)
    (λ log stands. allocated_by
    (record { chain = c.self.inside.chain; tracker = c.self.inside.tracker }) c.args.id
    c.allocated.result log stands c.allocated.ensures.refused c.allocated.ensures.ok)
