use Rattle.migrate_server.proofs.Serving.{tells_usage}
use Rattle.migrate_server.proofs.refuse_words.Goals as goal

pub returns-clause-told : goal.returns-clause-told
returns-clause-told g c =
    tells_usage c.put.result (g.K.Sink.state c.args.out.now) (g.K.Sink.state c.put.new.self)
    c.as_bytes.result.now c.as_bytes.ensures.value c.put.ensures.whole c.put.ensures.part
    c.put.ensures.cause.stays c.put.ensures.cause.later c.put.ensures.cause.failed
