use Rattle.std.proofs.Common.{◌≡◌, ◌≤◌, List, length, sym, ap, subst, ◌∙◌}
use Rattle.std.specs.List.{All, sum_by}
use Rattle.sector_model.specs.Run.{end_of, AreSpaced}
use Rattle.sector_model.specs.declared.run.Run.{Run}
use Rattle.sector_model.proofs.Spacing.{sum_fits}
use Rattle.sector_model.proofs.LooseRuns.{loose_runs_count}
use Rattle.sector_model.proofs.run.Runs.loose_count.Goals as goal

pub sectors_of-requires : goal.sectors_of-requires
sectors_of-requires c = sum_fits c.as_slice.result.now c.as_slice.ensures.spaced

pub returns : goal.returns
returns c =
    let is = c.as_slice.ensures.same in
    let runs = c.args.self.now in
    c.sectors_of.ensures ∙ ap (λ (rs : List Run). sum_by (λ (r : Run). r.count) rs) is
    ∙ sym (loose_runs_count c.args.sectors.now runs (subst AreSpaced is c.as_slice.ensures.spaced)
    c.requires)
