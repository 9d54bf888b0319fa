-- The room that was made is gone after the mark, so it is as if it had been there before.
use Rattle.std.proofs.Common.{◌≡◌, length}
use Rattle.change_tracker.specs.Tracker.{after_marking}
use Rattle.source_disk.proofs.Taking.{takes_write}
use Rattle.source_disk.proofs.source_disk.SourceDisk.write.Goals as goal

pub returns-clause-stands : goal.returns-clause-stands
returns-clause-stands c =
    let marked : c.mark.new.self
    ≡ after_marking (record { first = c.args.first; count = length c.args.sectors.now })
    c.reserve_mark.new.self = rw c.unwrap.ensures at c.mark.ensures.ok in
    rw (← c.self.view_is, c.in_ok-write.ensures.ok, marked, c.in-Ok.ensures.ok)
    (takes_write c.args.first c.args.sectors.now
    (record { chain = c.self.inside.chain; tracker = c.self.inside.tracker }))
