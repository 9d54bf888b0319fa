use Rattle.std.proofs.Common.{length, subst, arith}
use Rattle.reply_json.specs.Fits.{NumbersFit}
use Rattle.reply_json.specs.Values.{array_of}
use Rattle.reply_json.proofs.FitLemmas.{array_fits}
use Rattle.reply_json.proofs.lists.SequenceToJson.put.Goals as goal

pub returns-clause-fits : goal.returns-clause-fits
returns-clause-fits g c =
    subst (λ values. NumbersFit (array_of g.T.ToJson.json values)) c.as_slice-item-items.ensures
    (array_fits g.T.ToJson.json c.as_slice-item-items.result.now c.loop-item.item-index
    (omega arith) c.loop-item.invariant.fits)
