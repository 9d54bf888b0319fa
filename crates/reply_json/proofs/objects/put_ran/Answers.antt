use Rattle.reply_json.proofs.TokenLemmas.{one, then}
use Rattle.reply_json.proofs.objects.put_ran.Goals as goal

pub returns-clause-puts : goal.returns-clause-puts
returns-clause-puts c =
    then c.in_ok-member.ensures.puts
    (then c.in_ok-member-2.ensures.puts
    (then c.in_ok-member-3.ensures.puts
    (then c.in_ok-member-4.ensures.puts
    (then c.in_ok-member-5.ensures.puts
    (one c.in_ok-end_object.ensures)))))
