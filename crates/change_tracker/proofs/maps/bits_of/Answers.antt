use Rattle.change_tracker.proofs.Bits.{mask_has}
use Rattle.change_tracker.proofs.maps.bits_of.Goals as goal

pub returns : goal.returns
returns c = λ place less. mask_has c.args.word place c.args.run.first c.args.run.count c.max.result
    c.min.result c.requires.some less c.requires.from c.requires.upto c.max.ensures c.min.ensures
