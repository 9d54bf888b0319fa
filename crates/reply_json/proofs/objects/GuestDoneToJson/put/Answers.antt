use Rattle.reply_json.proofs.TokenLemmas.{one, then}
use Rattle.reply_json.proofs.objects.GuestDoneToJson.put.Goals as goal

pub returns-clause-puts : goal.returns-clause-puts
returns-clause-puts c =
    then (one c.in_ok-begin_object.ensures)
    (then c.in_ok-member.ensures.puts
    (then c.in_ok-member-2.ensures.puts
    (then c.in_ok-member-3.ensures.puts
    (one c.in_ok-end_object.ensures))))
