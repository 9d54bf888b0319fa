use Rattle.migrate_server.proofs.Answered.{ok_query}
use Rattle.migrate_server.proofs.serve.answer_query.Goals as goal

pub returns-clause-answer : goal.returns-clause-answer
returns-clause-answer c =
    ok_query c.args.vm.now c.args.snapshot c.args.disk c.args.since.now c.as_str.result.now
    c.args.start c.run_query.result c.args.fleet.now c.run_query.new.fleet c.as_str.ensures
    c.run_query.ensures.answer
