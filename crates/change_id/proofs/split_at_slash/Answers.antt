use Rattle.std.proofs.Common.{sym, ◌∙◌}
use Rattle.change_id.proofs.SpellingLemmas.{cut_at}
use Rattle.change_id.proofs.split_at_slash.Goals as goal

pub returns : goal.returns
returns c = cut_at c.args.text.now c.in_ok-at.at (sym c.first_slash.ensures.place ∙ c.in_ok-at.was)
