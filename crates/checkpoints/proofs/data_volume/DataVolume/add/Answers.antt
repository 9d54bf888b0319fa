use Rattle.std.proofs.Common.{◌≡◌, true, sym, ap, ◌∙◌}
use Rattle.checkpoints.specs.DataVolume.{DataVolumeState, goes_on}
use Rattle.checkpoints.proofs.Order.{added_is_sound}
use Rattle.checkpoints.proofs.data_volume.DataVolume.add.Goals as goal

pub invariant_of-self-2 : goal.invariant_of-self-2
invariant_of-self-2 c =
    let on : goes_on c.self.inside.checkpoints.items c.args.previous c.args.current ≡ true =
    ap (λ (s : DataVolumeState). goes_on s.checkpoints c.args.previous c.args.current)
    c.self.view_is ∙ sym c.if-not-goes_on.ensures in
    rw c.in_ok-push.ensures.items
    (added_is_sound c.self.inside.checkpoints.items c.args.previous c.args.current c.args.last
    c.self.invariant.in_order on)
