use Rattle.reply_json.specs.Reply.{reply_data}
use Rattle.reply_json.proofs.OneLineLemmas as lemmas
use Rattle.reply_json.proofs.line.one_line.Goals as goal

pub returns : goal.returns
returns c = λ reply fits. lemmas.one_line (reply_data reply) fits
