use Rattle.basics.proofs.NumberLemmas.{each_fits}
use Rattle.basics.proofs.number_list.each_fits.Goals as goal

pub returns : goal.returns
returns c = each_fits c.args.numbers.now c.type_inv.numbers
