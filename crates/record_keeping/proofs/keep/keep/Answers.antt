use Rattle.record_keeping.proofs.KeepLemmas.{acknowledged, keeps_one}
use Rattle.journal.specs.Journal.{append_refusal}
use Rattle.record_keeping.proofs.keep.keep.Goals as goal

pub returns-in-Ok-apply-clause-kept : goal.returns-in-Ok-apply-clause-kept
returns-in-Ok-apply-clause-kept g c =
    let old = c.args.controller.now in
    let appended = acknowledged c.args.record.now old.journal c.append.new.self
    (append_refusal c.args.record.now old.journal) c.append.result c.in-Ok.field-0 c.in-Ok.is
    c.append.ensures in
    keeps_one c.args.record.now old.state c.apply.new.self old.journal c.append.new.self
    c.requires.ready c.requires.stands appended c.in-Ok-apply.ensures.applied
