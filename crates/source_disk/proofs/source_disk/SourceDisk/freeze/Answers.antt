-- The room that was made is gone after the freeze, so it is as if it had been there before.
use Rattle.std.proofs.Common.{◌≡◌, ap, ◌∙◌}
use Rattle.std.proofs.lemmas.Result.{on_ok_weaker}
use Rattle.snapshot_chain.specs.Chain as chain
use Rattle.change_tracker.specs.Tracker as tracker
use Rattle.source_disk.specs.SourceDisk.{with_freeze_room}
use Rattle.source_disk.proofs.Taking.{takes_snap}
use Rattle.source_disk.proofs.Answering.{named_after}
use Rattle.source_disk.proofs.source_disk.SourceDisk.freeze.Goals as goal

pub returns-clause-named : goal.returns-clause-named
returns-clause-named c =
    named_after c.args.self.now c.self.inside.tracker
    (ap (λ d. d.tracker) (c.self.view_is ∙ c.in_ok-reserve_freeze.ensures.ok))
    c.args.id c.freeze-2.result c.freeze-2.ensures.named

pub returns-clause-stands : goal.returns-clause-stands
returns-clause-stands c =
    let reserved_chain : c.self.inside.chain ≡ (with_freeze_room c.args.self.now).chain =
    ap (λ d. d.chain) (c.self.view_is ∙ c.in_ok-reserve_freeze.ensures.ok) in
    let reserved_tracker : c.self.inside.tracker ≡ (with_freeze_room c.args.self.now).tracker =
    ap (λ d. d.tracker) (c.self.view_is ∙ c.in_ok-reserve_freeze.ensures.ok) in
    let frozen : c.freeze.new.self ≡ chain.after_freezing c.args.id c.self.inside.chain =
    rw c.unwrap.ensures at c.freeze.ensures.ok in
    on_ok_weaker c.freeze-2.result
    (λ (counted : c.freeze-2.new.self ≡ tracker.after_freezing c.args.id c.self.inside.tracker).
    λ owner.
    rw (counted, frozen, reserved_chain, reserved_tracker)
    (takes_snap c.args.id owner c.args.self.now c.requires))
    c.freeze-2.ensures.ok
