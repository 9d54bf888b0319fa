use Rattle.std.proofs.Common.{◌≡◌, ℕ, ◌<◌, List, sym, ap, ◌∙◌, arith, inl, inr}
use Rattle.std.proofs.lemmas.Bool.{cases_lt}
use Rattle.sector_model.specs.Run.{touched_blocks}
use Rattle.sector_model.proofs.Among.{past_areas}
use Rattle.sector_model.proofs.Spacing.{areas_of-spaced}
use Rattle.log_model.specs.declared.entry.Entry.{Entry}
use Rattle.log_model.specs.Entry.{writes_of}
use Rattle.log_model.specs.Touched.{is_touched}
use Rattle.sector_model.proofs.NextRun.{next_some, next_none, true_false}
use Rattle.log_model.proofs.AreaLemmas.{in_touched_runs, touched_runs}
use Rattle.log_model.proofs.query.next_touched.Goals as goal

pub returns-then-first-capacity : goal.returns-then-first-capacity
returns-then-first-capacity c =
    let log : List Entry = c.args.log.now in
    let d : ℕ = c.args.disk in
    let top : ℕ = c.args.capacity in
    sym (next_none 0 (touched_runs top d log) c.args.at
    (areas_of-spaced top (touched_blocks top (writes_of d log)) (omega arith)).spaced
    (λ s from. elim (cases_lt s top) [
      | inl less ↦ in_touched_runs top d s log less
          ∙ c.first_sector-first.ensures.before s from (omega arith)
      | inr past ↦ past_areas top s (touched_blocks top (writes_of d log)) past
    ]))

pub returns : goal.returns
returns c =
    let log : List Entry = c.args.log.now in
    let d : ℕ = c.args.disk in
    let top : ℕ = c.args.capacity in
    let f : ℕ = c.first_sector-first.result in
    let e : ℕ = c.first_sector-end.result in
    let found : f < top = omega arith in
    let some : f < e = elim (cases_lt f e) [
      | inl less ↦ less
      | inr over ↦ let same : e ≡ f = omega arith in
          absurd (true_false (c.first_sector-first.ensures.found found)
          (ap (λ s. is_touched d s log) (sym same)
          ∙ c.first_sector-end.ensures.found (omega arith)))
    ] in
    sym (next_some 0 (touched_runs top d log) c.args.at f e
    (areas_of-spaced top (touched_blocks top (writes_of d log)) (omega arith)).spaced
    c.first_sector-first.ensures.from some
    (λ s from less. in_touched_runs top d s log (omega arith)
    ∙ c.first_sector-first.ensures.before s from less)
    (λ s from less. in_touched_runs top d s log (omega arith)
    ∙ c.first_sector-end.ensures.before s from less)
    (elim (cases_lt e top) [
      | inl less ↦ in_touched_runs top d e log less ∙ c.first_sector-end.ensures.found less
      | inr past ↦ past_areas top e (touched_blocks top (writes_of d log)) past
    ]))
