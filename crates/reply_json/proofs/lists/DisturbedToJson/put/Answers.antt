use Rattle.std.proofs.Common.{length, subst, arith}
use Rattle.reply_json.specs.Fits.{NumbersFit}
use Rattle.reply_json.specs.Values.{array_of, disturbed_data}
use Rattle.reply_json.proofs.FitLemmas.{array_fits}
use Rattle.reply_json.proofs.lists.DisturbedToJson.put.Goals as goal

pub returns-clause-fits : goal.returns-clause-fits
returns-clause-fits c =
    subst (λ refusals. NumbersFit (array_of disturbed_data refusals))
    c.as_slice-refusal-items.ensures
    (array_fits disturbed_data c.as_slice-refusal-items.result.now c.loop-refusal.refusal-index
    (omega arith) c.loop-refusal.invariant.fits)
