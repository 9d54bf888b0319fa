use Rattle.std.proofs.Common.{refl, ◌∙◌}
use Rattle.std.proofs.lemmas.Result.{err_from_is_err_and}
use Rattle.record_keeping.specs.Keeping.{keeping}
use Rattle.record_keeping.proofs.KeepLemmas.{kept_none, kept_more, kept_all, next_stands, front_kept}
use Rattle.record_keeping.proofs.keep.keep_records.Goals as goal

pub loop-record-init : goal.loop-record-init
loop-record-init g c = record {
  kept = kept_none c.args.records.now
      (keeping c.args.controller.now.state c.args.controller.now.journal) c.requires.ready;
  store = refl;
}

pub keep-requires-clause-ready : goal.keep-requires-clause-ready
keep-requires-clause-ready g c = ((c.loop-record.invariant.kept).keeps).ready

pub keep-requires-clause-stands : goal.keep-requires-clause-stands
keep-requires-clause-stands g c =
    next_stands c.args.records.now c.loop-record.record-index c.record-item.result
    (keeping c.args.controller.now.state c.args.controller.now.journal)
    (keeping c.loop-record.controller.state c.loop-record.controller.journal)
    c.loop-record-test.true c.record-item.is c.requires.ready c.requires.follow
    c.loop-record.invariant.kept

pub returns-in_err-keep-clause-cut : goal.returns-in_err-keep-clause-cut
returns-in_err-keep-clause-cut g c =
    let told = err_from_is_err_and c.from_residual.result c.from_residual.ensures.1 in
    rw (told.1, told.2) (front_kept c.in_err-keep.field-0.0 c.args.records.now
    c.loop-record.record-index c.record-item.result
    (keeping c.args.controller.now.state c.args.controller.now.journal)
    (keeping c.loop-record.controller.state c.loop-record.controller.journal)
    c.keep.new.controller.journal c.loop-record-test.true c.record-item.is
    c.loop-record.invariant.kept c.in_err-keep.ensures.cut)

pub returns-in_err-keep-clause-store : goal.returns-in_err-keep-clause-store
returns-in_err-keep-clause-store g c =
    c.keep.ensures.store ∙ c.loop-record.invariant.store

pub loop-record-preserved : goal.loop-record-preserved
loop-record-preserved g c = record {
  kept = kept_more c.args.records.now c.loop-record.record-index c.record-item.result
      (keeping c.args.controller.now.state c.args.controller.now.journal)
      (keeping c.loop-record.controller.state c.loop-record.controller.journal)
      (keeping c.keep.new.controller.state c.keep.new.controller.journal)
      c.loop-record-test.true c.record-item.is c.loop-record.invariant.kept
      c.in_ok-keep.ensures.kept;
  store = c.keep.ensures.store ∙ c.loop-record.invariant.store;
}

pub returns-clause-kept : goal.returns-clause-kept
returns-clause-kept g c = kept_all c.args.records.now c.loop-record.record-index
    (keeping c.args.controller.now.state c.args.controller.now.journal)
    (keeping c.loop-record.controller.state c.loop-record.controller.journal)
    c.loop-record-test.false c.loop-record.invariant.kept

pub returns-clause-store : goal.returns-clause-store
returns-clause-store g c = c.loop-record.invariant.store
