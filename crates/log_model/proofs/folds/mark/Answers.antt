use Rattle.std.proofs.Common.{◌∙◌, length, ap, unwrap_or}
use Rattle.log_model.specs.Entry.{takes}
use Rattle.log_model.proofs.FoldLemmas.{position_or_len-from_position}
use Rattle.log_model.proofs.folds.mark.Goals as goal

pub returns-clause-mark : goal.returns-clause-mark
returns-clause-mark c =
    c.unwrap_or.ensures ∙ ap (λ o. unwrap_or o (length c.args.log.now)) c.snap_place.ensures
    ∙ position_or_len-from_position (λ e. takes c.args.snapshot e.act) c.args.log.now
