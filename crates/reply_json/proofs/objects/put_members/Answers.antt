use Rattle.reply_json.proofs.objects.put_members.Goals as goal

pub returns-in-Started-clause-puts : goal.returns-in-Started-clause-puts
returns-in-Started-clause-puts c = rw c.in-Started.is c.put_and_ok-in-Started.ensures.puts

pub returns-in-Status-clause-puts : goal.returns-in-Status-clause-puts
returns-in-Status-clause-puts c = rw c.in-Status.is c.put_and_ok-in-Status.ensures.puts
