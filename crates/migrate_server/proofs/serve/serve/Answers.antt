use Rattle.std.proofs.Common.{sym, subst}
use Rattle.std.proofs.lemmas.Result.{err_from_is_err_and}
use Rattle.basics.proofs.Truth.{at_true, at_false}
use Rattle.migrate_server.specs.Reader.{ReaderState}
use Rattle.migrate_server.specs.Serve.{TellsQuit}
use Rattle.migrate_server.specs.World.{desk_of, server_of}
use Rattle.migrate_server.proofs.Serving.{Progress, progress_start, progress_line, ended_at_once, ended_whole_input, ended_by_quit, ended_without_line, ended_without_reply, all_in_now, budget_falls}
use Rattle.migrate_server.proofs.serve.serve.Goals as goal

pub returns-in_default-clause-served : goal.returns-in_default-clause-served
returns-in_default-clause-served g c = (ended_at_once _ c.requires.ready.unfailed).serves

pub loop-commands-init : goal.loop-commands-init
loop-commands-init g c =
    let old = desk_of (g.S.Source.state c.args.input.now) (g.K.Sink.state c.args.out.now)
    (server_of c.args.fleet.now c.args.controller.now.journal
    (g.T.VolumeStore.state c.args.controller.now.store)) in
    record {
      progress = subst (λ (r : ReaderState). Progress old old r) (sym c.in-Ok.ensures)
          (progress_start old c.requires.ready.unfailed);
      ready = c.requires.ready;
      taken = c.requires.taken;
    }

pub returns-in_err-next-clause-served : goal.returns-in_err-next-clause-served
returns-in_err-next-clause-served g c =
    let old = desk_of (g.S.Source.state c.args.input.now) (g.K.Sink.state c.args.out.now)
    (server_of c.args.fleet.now c.args.controller.now.journal
    (g.T.VolumeStore.state c.args.controller.now.store)) in
    let now = desk_of (g.S.Source.state c.loop-commands.input) (g.K.Sink.state c.loop-commands.out)
    (server_of c.loop-commands.fleet c.loop-commands.controller.journal
    (g.T.VolumeStore.state c.loop-commands.controller.store)) in
    let ended =
    ended_without_line old now (g.S.Source.state c.next.new.source) c.loop-commands.reader
    c.next.new.self c.in_err-next.field-0.0 c.loop-commands.invariant.progress
    c.in_err-next.ensures.none in
    let p = err_from_is_err_and c.from_residual.result c.from_residual.ensures.1 in
    rw (p.1, p.2) ended.serves

pub returns-then-not-branch-clause-served : goal.returns-then-not-branch-clause-served
returns-then-not-branch-clause-served g c =
    let old = desk_of (g.S.Source.state c.args.input.now) (g.K.Sink.state c.args.out.now)
    (server_of c.args.fleet.now c.args.controller.now.journal
    (g.T.VolumeStore.state c.args.controller.now.store)) in
    let now = desk_of (g.S.Source.state c.loop-commands.input) (g.K.Sink.state c.loop-commands.out)
    (server_of c.loop-commands.fleet c.loop-commands.controller.journal
    (g.T.VolumeStore.state c.loop-commands.controller.store)) in
    let end = at_false _ _ c.in_ok-next.field-0 c.if-not-branch.true c.in_ok-next.ensures.taken in
    (ended_whole_input old now (g.S.Source.state c.next.new.source) c.loop-commands.reader
    c.next.new.self c.loop-commands.invariant.progress end).serves

pub loop-commands-smaller : goal.loop-commands-smaller
loop-commands-smaller g c =
    let line = at_true _ _ c.in_ok-next.field-0 c.if-not-branch.false c.in_ok-next.ensures.taken in
    budget_falls (g.S.Source.state c.loop-commands.input) (g.S.Source.state c.next.new.source)
    c.loop-commands.reader c.next.new.self c.next.new.line line

pub loop-commands-preserved : goal.loop-commands-preserved
loop-commands-preserved g c =
    let old = desk_of (g.S.Source.state c.args.input.now) (g.K.Sink.state c.args.out.now)
    (server_of c.args.fleet.now c.args.controller.now.journal
    (g.T.VolumeStore.state c.args.controller.now.store)) in
    let now = desk_of (g.S.Source.state c.loop-commands.input) (g.K.Sink.state c.loop-commands.out)
    (server_of c.loop-commands.fleet c.loop-commands.controller.journal
    (g.T.VolumeStore.state c.loop-commands.controller.store)) in
    let after = desk_of (g.S.Source.state c.next.new.source) (g.K.Sink.state c.serve_line.new.out)
    (server_of c.serve_line.new.fleet c.serve_line.new.controller.journal
    (g.T.VolumeStore.state c.serve_line.new.controller.store)) in
    let line = at_true _ _ c.in_ok-next.field-0 c.if-not-branch.false c.in_ok-next.ensures.taken in
    let goes = subst (λ told. TellsQuit told line.text) c.if-quits.false
    (c.in_ok-quits.ensures.quits line.text line.held) in
    record {
      progress = progress_line old now after c.loop-commands.reader c.next.new.self c.next.new.line
          c.loop-commands.invariant.progress line (c.in_ok-quits.ensures.served line.text line.held)
          goes;
      ready = c.in_ok-quits.ensures.ready;
      taken = c.in_ok-quits.ensures.taken;
    }

pub returns-then-quits-clause-served : goal.returns-then-quits-clause-served
returns-then-quits-clause-served g c =
    let old = desk_of (g.S.Source.state c.args.input.now) (g.K.Sink.state c.args.out.now)
    (server_of c.args.fleet.now c.args.controller.now.journal
    (g.T.VolumeStore.state c.args.controller.now.store)) in
    let now = desk_of (g.S.Source.state c.loop-commands.input) (g.K.Sink.state c.loop-commands.out)
    (server_of c.loop-commands.fleet c.loop-commands.controller.journal
    (g.T.VolumeStore.state c.loop-commands.controller.store)) in
    let after = desk_of (g.S.Source.state c.next.new.source) (g.K.Sink.state c.serve_line.new.out)
    (server_of c.serve_line.new.fleet c.serve_line.new.controller.journal
    (g.T.VolumeStore.state c.serve_line.new.controller.store)) in
    let line = at_true _ _ c.in_ok-next.field-0 c.if-not-branch.false c.in_ok-next.ensures.taken in
    let asks = subst (λ told. TellsQuit told line.text) c.if-quits.true
    (c.in_ok-quits.ensures.quits line.text line.held) in
    (ended_by_quit old now after c.loop-commands.reader c.next.new.self c.next.new.line
    c.loop-commands.invariant.progress line (c.in_ok-quits.ensures.served line.text line.held)
    asks).serves

pub returns-in_err-quits-clause-served : goal.returns-in_err-quits-clause-served
returns-in_err-quits-clause-served g c =
    let old = desk_of (g.S.Source.state c.args.input.now) (g.K.Sink.state c.args.out.now)
    (server_of c.args.fleet.now c.args.controller.now.journal
    (g.T.VolumeStore.state c.args.controller.now.store)) in
    let now = desk_of (g.S.Source.state c.loop-commands.input) (g.K.Sink.state c.loop-commands.out)
    (server_of c.loop-commands.fleet c.loop-commands.controller.journal
    (g.T.VolumeStore.state c.loop-commands.controller.store)) in
    let after = desk_of (g.S.Source.state c.next.new.source) (g.K.Sink.state c.serve_line.new.out)
    (server_of c.serve_line.new.fleet c.serve_line.new.controller.journal
    (g.T.VolumeStore.state c.serve_line.new.controller.store)) in
    let line = at_true _ _ c.in_ok-next.field-0 c.if-not-branch.false c.in_ok-next.ensures.taken in
    let ended =
    ended_without_reply old now after c.loop-commands.reader c.next.new.self c.next.new.line
    c.in_err-quits.field-0.0 c.loop-commands.invariant.progress line
    (c.in_err-quits.ensures.lacks line.text line.held) in
    let p = err_from_is_err_and c.from_residual-in_err-quits.result
    c.from_residual-in_err-quits.ensures.1 in
    rw (p.1, p.2) ended.serves

pub serve_line-requires : goal.serve_line-requires
serve_line-requires g c =
    let old = desk_of (g.S.Source.state c.args.input.now) (g.K.Sink.state c.args.out.now)
    (server_of c.args.fleet.now c.args.controller.now.journal
    (g.T.VolumeStore.state c.args.controller.now.store)) in
    let now = desk_of (g.S.Source.state c.loop-commands.input) (g.K.Sink.state c.loop-commands.out)
    (server_of c.loop-commands.fleet c.loop-commands.controller.journal
    (g.T.VolumeStore.state c.loop-commands.controller.store)) in
    record {
      all_in = all_in_now old now c.loop-commands.reader c.loop-commands.invariant.progress
          c.requires.all_in;
      ready = c.loop-commands.invariant.ready;
      taken = c.loop-commands.invariant.taken;
    }
