use Rattle.std.proofs.Common.{◌≡◌, ◌-◌, List, [], ◌∷◌, ◌++◌, length, get_or, append_assoc, length-append, sym, ap, ◌∙◌, arith}
use Rattle.sector_model.specs.Run.{end_of, touched_blocks}
use Rattle.sector_model.specs.Page.{PageContents, areas_from}
use Rattle.sector_model.specs.declared.run.Run.{Run}
use Rattle.log_model.specs.Entry.{writes_of}
use Rattle.sector_model.proofs.NextRun.{next_area, areas_from-none}
use Rattle.log_model.proofs.AreaLemmas.{touched_runs}
use Rattle.sector_model.proofs.PageMade.{one_area_more, last_pushed, full_page, last_page}
use Rattle.log_model.proofs.query.answer_page.Goals as goal

pub overflow_add-at : goal.overflow_add-at
overflow_add-at c =
    let facts = next_area c.args.capacity c.loop-run.at
    (touched_blocks c.args.capacity (writes_of c.args.disk c.args.log.now)) c.in-Some.run'
    (omega arith) (sym c.in-Some.ensures) in
    omega (arith, facts.is.inside)

pub loop-run-smaller : goal.loop-run-smaller
loop-run-smaller c =
    let facts = next_area c.args.capacity c.loop-run.at
    (touched_blocks c.args.capacity (writes_of c.args.disk c.args.log.now)) c.in-Some.run'
    (omega arith) (sym c.in-Some.ensures) in
    omega (arith, facts.is.inside, facts.is.from, facts.is.some)

pub loop-run-preserved : goal.loop-run-preserved
loop-run-preserved c =
    let r : Run = c.in-Some.run' in
    let areas : List Run = touched_runs c.args.capacity c.args.disk c.args.log.now in
    let told : List Run = c.loop-run.page.areas in
    let facts = next_area c.args.capacity c.loop-run.at
    (touched_blocks c.args.capacity (writes_of c.args.disk c.args.log.now)) r (omega arith)
    (sym c.in-Some.ensures) in
    let pushed : c.push.new.self.areas ≡ told ++ r ∷ [] =
    ap (λ (p : PageContents). p.areas) c.push.ensures in
    record {
      begins = ap (λ (p : PageContents). p.start) c.push.ensures ∙ c.loop-run.invariant.begins;
      joined = one_area_more c.args.start c.loop-run.at areas told r c.loop-run.invariant.joined
          facts.areas
          ∙ sym (append_assoc told (r ∷ []) (areas_from (end_of r) areas))
          ∙ ap (λ (xs : List Run). xs ++ areas_from (end_of r) areas) (sym pushed);
      from = omega (arith, facts.is.from, c.loop-run.invariant.from);
      within = facts.is.inside;
      few = omega (
        arith,
        ap length pushed,
        length-append told (r ∷ []),
        c.loop-run.invariant.few,
        ap length c.areas.ensures,
      );
      ended = λ d some. ap (λ (xs : List Run). end_of (get_or xs (length xs - 1) d)) pushed
          ∙ ap end_of (last_pushed told r d);
    }

pub returns-then-areas-eq-PAGE_AREAS : goal.returns-then-areas-eq-PAGE_AREAS
returns-then-areas-eq-PAGE_AREAS c =
    let r : Run = c.in-Some.run' in
    let areas : List Run = touched_runs c.args.capacity c.args.disk c.args.log.now in
    let told : List Run = c.loop-run.page.areas in
    let facts = next_area c.args.capacity c.loop-run.at
    (touched_blocks c.args.capacity (writes_of c.args.disk c.args.log.now)) r (omega arith)
    (sym c.in-Some.ensures) in
    let long : length told ≡ 1024 =
    sym (ap length c.areas.ensures) ∙ c.if-areas-eq-PAGE_AREAS.true in
    c.cover.ensures ∙ ap (λ n. record
    { start = n; length = c.loop-run.at - c.args.start; areas = told })
    c.loop-run.invariant.begins
    ∙ full_page c.args.capacity c.args.start c.loop-run.at areas told (areas_from (end_of r) areas)
    r (one_area_more c.args.start c.loop-run.at areas told r c.loop-run.invariant.joined
    facts.areas) long c.loop-run.invariant.ended

pub returns : goal.returns
returns c =
    let areas : List Run = touched_runs c.args.capacity c.args.disk c.args.log.now in
    let told : List Run = c.loop-run.page.areas in
    let none : areas_from c.loop-run.at areas ≡ [] =
    areas_from-none areas c.loop-run.at (sym c.next_touched.ensures ∙ c.in_default.is) in
    c.cover-2.ensures ∙ ap
    (λ n. record { start = n; length = c.args.capacity - c.args.start; areas = told })
    c.loop-run.invariant.begins
    ∙ last_page c.args.capacity c.args.start areas told (c.loop-run.invariant.joined
    ∙ ap (λ (rest : List Run). told ++ rest) none) c.loop-run.invariant.few
