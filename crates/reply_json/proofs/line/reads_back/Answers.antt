use Rattle.reply_json.specs.Reply.{reply_data}
use Rattle.reply_json.proofs.ReadLemmas as lemmas
use Rattle.reply_json.proofs.ReplyLemmas.{reply_reads}
use Rattle.reply_json.proofs.line.reads_back.Goals as goal

pub returns : goal.returns
returns c = λ reply fits. lemmas.reads_back (reply_data reply) fits (reply_reads reply fits)
