use Rattle.std.proofs.Common.{◌≡◌, ◌≤◌, [], List, length, drop, refl, sym, ap, subst, ◌∙◌, arith}
use Rattle.std.specs.List.{All, sum_by}
use Rattle.std.proofs.lemmas.List.{drop_all}
use Rattle.std.proofs.lemmas.List.Elements.{recursion_from_All}
use Rattle.sector_model.specs.Run.{end_of, AreSpaced}
use Rattle.sector_model.specs.VolumeContents.{with_found, loose_count}
use Rattle.sector_model.specs.LooseRuns.{flags_of, volume_of}
use Rattle.sector_model.specs.declared.run.Run.{Run}
use Rattle.sector_model.specs.declared.sector.Sector.{Sector}
use Rattle.sector_model.proofs.LooseRuns.{fill_runs, fill_runs-is, loose_runs_count}
use Rattle.sector_model.proofs.sector.SectorList.take_found.Goals as goal

-- as many sectors are loose as the runs have
counted : (sectors : List Sector) (loose all : List Run) → loose ≡ all → AreSpaced all
    → All (λ r. end_of r ≤ length sectors) all
    → loose_count (volume_of sectors loose) ≡ sum_by (λ (r : Run). r.count) all
counted sectors loose all is spaced ends =
    ap (λ (rs : List Run). loose_count (volume_of sectors rs)) is
    ∙ loose_runs_count sectors all spaced ends

pub loop-run-init : goal.loop-run-init
loop-run-init c =
    let all = c.as_slice-run-items.result.now in
    let old = c.args.self.now in
    let is : all ≡ c.args.loose.now = c.as_slice-run-items.ensures.same in
    let ends : All (λ r. end_of r ≤ length old) all =
    subst (λ (rs : List Run). All (λ r. end_of r ≤ length old) rs) (sym is) c.requires.within in
    let long = c.requires.long
    ∙ counted old c.args.loose.now all (sym is) c.as_slice-run-items.ensures.spaced ends in
    record {
      told = refl;
      left = omega (arith, long);
      long = refl;
    }

pub returns : goal.returns
returns c =
    let all = c.as_slice-run-items.result.now in
    let i = c.loop-run.run-index in
    let old = c.args.self.now in
    let filling = c.args.filling.now in
    let is : all ≡ c.args.loose.now = c.as_slice-run-items.ensures.same in
    let none : drop i all ≡ [] = drop_all i all (omega arith) in
    let ends : All (λ r. end_of r ≤ length old) all =
    subst (λ (rs : List Run). All (λ r. end_of r ≤ length old) rs) (sym is) c.requires.within in
    let long : length filling ≡ sum_by (λ (r : Run). r.count) all =
    c.requires.long ∙ counted old c.args.loose.now all (sym is)
    c.as_slice-run-items.ensures.spaced ends in
    ap (λ (rs : List Run). fill_runs rs c.loop-run.self (drop c.loop-run.at filling)) (sym none)
    ∙ c.loop-run.invariant.told
    ∙ fill_runs-is all old filling c.as_slice-run-items.ensures.spaced
    (recursion_from_All (λ r. end_of r ≤ length old) all ends) long
    ∙ ap (λ (rs : List Run). with_found (flags_of (length old) rs) old filling) is
