use Rattle.std.proofs.Common.{◌≡◌, sym, ap, ◌∙◌, arith}
use Rattle.std.proofs.lemmas.Bool.{eqb-true}
use Rattle.std.proofs.lemmas.List.{get_or_default}
use Rattle.sector_model.specs.Run.{end_of}
use Rattle.sector_model.proofs.RunsOf.{with_run-grown_at, with_run-apart_at, with_run-first}
use Rattle.sector_model.proofs.run.append.Goals as goal
use Rattle.sector_model.proofs.run.append.Goals.{in_default-via-in-None-1, in_default-via-in-Some+else-ends_at}

-- the last run ends where the new one begins
pub returns : goal.returns
returns c = record {
  ok =
      let read = c.index_mut.ensures.value in
      let same : c.index_mut.result.now ≡ c.index.result.now =
      read ∙ get_or_default c.args.runs.now.items c.in-Some.last c.index_mut.result.now
      c.index.result.now (omega arith) ∙ sym c.index.ensures in
      let ends : end_of c.index_mut.result.now ≡ c.args.run.first =
      ap end_of same ∙ eqb-true _ _ (sym c.if-ends_at.ensures) in
      with_run-grown_at c.args.runs.now.items c.in-Some.last c.index_mut.result.now c.args.run.first
      c.args.run.count (omega arith) read ends;
}

pub returns-2 : goal.returns-2
returns-2 c =
    elim c.in_default.branch [
      | in_default-via-in-None-1 w ↦ record {
        ok = c.in_ok-push.ensures.items
            ∙ with_run-first c.args.runs.now.items c.args.run.first c.args.run.count (omega arith)
            (omega arith);
      }
      | in_default-via-in-Some+else-ends_at w ↦ record {
        ok =
            c.in_ok-push.ensures.items
            ∙ with_run-apart_at c.args.runs.now.items w.in-Some.last w.index.result.now
            c.args.run.first c.args.run.count (omega arith) w.index.ensures
            (sym w.if-ends_at.ensures) (omega arith);
      }
    ]
