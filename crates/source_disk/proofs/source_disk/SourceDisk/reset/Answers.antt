use Rattle.source_disk.proofs.Taking.{takes_reset}
use Rattle.source_disk.proofs.source_disk.SourceDisk.reset.Goals as goal

pub returns-clause-stands : goal.returns-clause-stands
returns-clause-stands c =
    rw (← c.self.view_is, c.reset.ensures.reset)
    (takes_reset (record { chain = c.self.inside.chain; tracker = c.self.inside.tracker }))
