use Rattle.target_volume.proofs.FilledRanges.{filled_range}
use Rattle.target_volume.proofs.mem_volume.fill.Goals as goal

pub returns : goal.returns
returns g c = filled_range c.args.items.now c.fill.new.self c.args.first c.args.count c.args.value
    c.requires.within (c.fill.ensures.after c.requires.exact)
