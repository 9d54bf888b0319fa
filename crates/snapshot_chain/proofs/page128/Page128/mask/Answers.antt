-- A lone sector is a page.
use Rattle.std.proofs.Common.{◌<◌}
use Rattle.snapshot_chain.proofs.Masks.{lone_page}
use Rattle.snapshot_chain.proofs.page128.Page128.mask.Goals as goal

pub returns-in-Lone-clause-page : goal.returns-in-Lone-clause-page
returns-in-Lone-clause-page c =
    let within : c.in-Lone.offset < 128 = rw c.in-Lone.is at c.self.invariant in
    rw (← c.self.view_is, c.in-Lone.is) (lone_page c.in-Lone.offset c.in-Lone._sector within)
