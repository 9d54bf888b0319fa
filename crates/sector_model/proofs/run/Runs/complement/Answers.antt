use Rattle.std.proofs.Common.{◌≡◌, ◌+◌, ◌-◌, ◌≤◌, [], ◌∷◌, List, not, get_or, drop, subst, refl, sym, ap, ◌∙◌, arith}
use Rattle.std.specs.List.{All}
use Rattle.std.proofs.lemmas.List.{drop_more, drop_all}
use Rattle.sector_model.specs.Run.{with_run, in_runs, complement_of, AreSpaced, end_of}
use Rattle.sector_model.specs.declared.run.Run.{Run}
use Rattle.sector_model.proofs.RunsOf.{runs_of-none, Left, gap-before, left-after, gap-behind}
use Rattle.sector_model.proofs.Spacing.{runs_of-spaced}
use Rattle.sector_model.proofs.run.Runs.complement.Goals as goal

pub loop-run-init : goal.loop-run-init
loop-run-init c = record {
  gaps = c.new-gaps.ensures.items ∙ runs_of-none _;
  left = record { same = λ s from. refl; spaced = c.as_slice-runs.ensures.spaced };
  within = omega arith;
}

pub loop-run-preserved : goal.loop-run-preserved
loop-run-preserved c =
    let all = c.as_slice-runs.result.now in
    let i = c.loop-run.run-index in
    let zero_run : Run = record { first = 0; count = 0 } in
    let r = get_or all i zero_run in
    let within : All (λ run. end_of run ≤ c.args.capacity) all =
    subst (λ (rs : List Run). All (λ run. end_of run ≤ c.args.capacity) rs)
    (sym c.as_slice-runs.ensures.same) c.requires in
    let next : drop i all ≡ r ∷ drop (i + 1) all = drop_more all i zero_run (omega arith) in
    let left : Left all (r ∷ drop (i + 1) all) c.loop-run.at =
    subst (λ (rest : List Run). Left all rest c.loop-run.at) next c.loop-run.invariant.left in
    record {
      gaps = c.in_ok-append.ensures.ok
          ∙ ap (λ rs. with_run rs c.loop-run.at (r.first - c.loop-run.at)) c.loop-run.invariant.gaps
          ∙ gap-before all r (drop (i + 1) all) c.loop-run.at left;
      left = left-after all r (drop (i + 1) all) c.loop-run.at left;
      within = within i zero_run (omega arith);
    }

pub returns : goal.returns
returns c =
    let all = c.as_slice-runs.result.now in
    let none_left : Left all [] c.loop-run.at =
    subst (λ (rest : List Run). Left all rest c.loop-run.at)
    (drop_all c.loop-run.run-index all (omega arith)) c.loop-run.invariant.left in
    c.in_ok-append-2.ensures.ok
    ∙ ap (λ rs. with_run rs c.loop-run.at (c.args.capacity - c.loop-run.at))
    c.loop-run.invariant.gaps
    ∙ gap-behind all c.loop-run.at c.args.capacity none_left c.loop-run.invariant.within
    ∙ ap (complement_of c.args.capacity) c.as_slice-runs.ensures.same

pub invariant_of-result : goal.invariant_of-result
invariant_of-result c =
    let all = c.as_slice-runs.result.now in
    let none_left : Left all [] c.loop-run.at =
    subst (λ (rest : List Run). Left all rest c.loop-run.at)
    (drop_all c.loop-run.run-index all (omega arith)) c.loop-run.invariant.left in
    let is_complement = c.in_ok-append-2.ensures.ok
    ∙ ap (λ rs. with_run rs c.loop-run.at (c.args.capacity - c.loop-run.at))
    c.loop-run.invariant.gaps
    ∙ gap-behind all c.loop-run.at c.args.capacity none_left c.loop-run.invariant.within in
    subst AreSpaced (sym is_complement)
    (runs_of-spaced (λ s. not (in_runs all s)) c.args.capacity (omega arith)).spaced
