use Rattle.source_disk.proofs.Taking.{takes_enable}
use Rattle.source_disk.proofs.source_disk.SourceDisk.enable.Goals as goal

pub returns-clause-stands : goal.returns-clause-stands
returns-clause-stands c =
    rw (← c.self.view_is, c.enable.ensures.enabled)
    (takes_enable (record { chain = c.self.inside.chain; tracker = c.self.inside.tracker }))
