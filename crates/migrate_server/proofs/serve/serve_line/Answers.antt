use Rattle.std.proofs.Common.{Some, subst}
use Rattle.std.proofs.lemmas.Result.{err_from_is_err_and}
use Rattle.migrate_server.specs.Serve.{IsAnswered}
use Rattle.migrate_server.specs.Session.{state_of}
use Rattle.migrate_server.specs.World.{server_of}
use Rattle.migrate_server.proofs.Serving.{has_reply, lacks_reply, stopped, tells_quit}
use Rattle.migrate_server.proofs.serve.serve_line.Goals as goal

pub returns-in_err-put_answer-clause-lacks : goal.returns-in_err-put_answer-clause-lacks
returns-in_err-put_answer-clause-lacks g c =
    let p = err_from_is_err_and c.from_residual-in_err-put_answer.result
    c.from_residual-in_err-put_answer.ensures.1 in
    rw (p.1, p.2) (λ text held.
    let old = server_of c.args.fleet.now c.args.controller.now.journal
    (g.T.VolumeStore.state c.args.controller.now.store) in
    let new = server_of c.answer_to.new.fleet c.answer_to.new.controller.journal
    (g.T.VolumeStore.state c.answer_to.new.controller.store) in
    let answers = subst (λ answer. IsAnswered c.in_ok-what.what answer (state_of old)
    (state_of new)) c.in-Some.is c.in_ok-answer.ensures.answer in
    lacks_reply c.in_err-put_answer.field-0.0 text c.in-Some.answer (g.K.Sink.state c.args.out.now)
    (g.K.Sink.state c.put_answer.new.out) old new
    (has_reply text c.in_ok-what.what (Some c.in-Some.answer) (state_of old) (state_of new)
    (c.in_ok-what.ensures.means text held) answers)
    c.in_ok-answer.ensures.unfailed c.in_err-put_answer.ensures.lacks)

pub returns-in_err-answer-clause-lacks : goal.returns-in_err-answer-clause-lacks
returns-in_err-answer-clause-lacks g c =
    let p = err_from_is_err_and c.from_residual-in_err-answer.result
    c.from_residual-in_err-answer.ensures.1 in
    rw (p.1, p.2) (λ text held.
    let old = server_of c.args.fleet.now c.args.controller.now.journal
    (g.T.VolumeStore.state c.args.controller.now.store) in
    let new = server_of c.answer_to.new.fleet c.answer_to.new.controller.journal
    (g.T.VolumeStore.state c.answer_to.new.controller.store) in
    stopped text c.in_ok-what.what c.in_err-answer.field-0.0 (g.K.Sink.state c.args.out.now) old new
    (c.in_ok-what.ensures.means text held) c.in_err-answer.ensures.stopped)

pub returns-in_ok-put_answer-clause-quits : goal.returns-in_ok-put_answer-clause-quits
returns-in_ok-put_answer-clause-quits g c = λ text held.
    tells_quit text c.in_ok-what.what c.quits-quits.result c.quits-quits.ensures
    (c.in_ok-what.ensures.means text held)
