use Rattle.std.proofs.Common.{◌≡◌, [], ◌∷◌, ◌++◌, ap, ◌∙◌, Ok}
use Rattle.json.specs.Print.{print}
use Rattle.reply_json.specs.Reply.{reply_data}
use Rattle.reply_json.specs.ToJson.{Puts, tokens_of}
use Rattle.reply_json.proofs.LineLemmas.{line-text}
use Rattle.reply_json.proofs.line.append_line.Goals as goal

pub returns-clause-line : goal.returns-clause-line
returns-clause-line c =
    let d = reply_data c.args.reply.now in
    let ended = c.put-written.new.writer in
    let stood : ended.before ≡ c.args.out.now.items = cc in
    let put = rw c.in_ok-written.was at c.put-written.ensures.puts in
    let whole = put.whole ∙ ap (λ ts. ts ++ tokens_of d) c.new-writer.ensures.tokens in
    c.in_ok-push.ensures.items
    ∙ ap (λ s. s ++ 10 ∷ []) (c.into_inner.ensures.items ∙ ap (λ s. s ++ print ended.tokens) stood)
    ∙ line-text c.args.out.now.items ended.tokens d whole
