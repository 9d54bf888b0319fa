use Rattle.std.proofs.lemmas.Result.{on_ok_weaker}
use Rattle.reply_json.specs.Reply.{reply_data}
use Rattle.reply_json.proofs.ReadLemmas.{reads_back}
use Rattle.reply_json.proofs.ReplyLemmas.{reply_reads}
use Rattle.reply_json.proofs.OneLineLemmas.{one_line}
use Rattle.reply_json.proofs.line.reply_line.Goals as goal

pub returns-else-is_err-clause-reads : goal.returns-else-is_err-clause-reads
returns-else-is_err-clause-reads c =
    let reply = c.args.reply.now in
    on_ok_weaker c.append_line-ended.result
    (λ fits. reads_back (reply_data reply) fits (reply_reads reply fits))
    c.append_line-ended.ensures.fits

pub returns-else-is_err-clause-one_line : goal.returns-else-is_err-clause-one_line
returns-else-is_err-clause-one_line c =
    on_ok_weaker c.append_line-ended.result (λ fits. one_line (reply_data c.args.reply.now) fits)
    c.append_line-ended.ensures.fits
