use Rattle.std.proofs.Common.{◌≡◌, ◌-◌, List, [], ◌∷◌, ◌++◌, length, get_or, append_assoc, length-append, sym, ap, ◌∙◌, arith}
use Rattle.sector_model.specs.Run.{end_of}
use Rattle.sector_model.specs.Page.{PageContents, areas_from}
use Rattle.sector_model.specs.declared.run.Run.{Run}
use Rattle.sector_model.proofs.PageMade.{one_area_more, last_pushed}
use Rattle.sector_model.proofs.NextRun.{next_area}
use Rattle.change_tracker.specs.Touches.{areas_in, blocks_touched_in}
use Rattle.change_tracker.proofs.AreasIn.{full_then, full_last}
use Rattle.change_tracker.proofs.touches.Touches.fill_page.Goals as goal
use Rattle.change_tracker.proofs.touches.Touches.fill_page.Goals.{in-Some-next_block, in-None}

pub overflow_add-at : goal.overflow_add-at
overflow_add-at c =
    let facts = next_area c.args.capacity c.loop-seen.at
    (blocks_touched_in c.args.capacity c.args.self.now c.args.window)
    c.in-Some.run' (omega arith) (sym c.in-Some.ensures.found) in
    omega (arith, facts.is.inside)

pub loop-seen-smaller : goal.loop-seen-smaller
loop-seen-smaller c =
    let facts = next_area c.args.capacity c.loop-seen.at
    (blocks_touched_in c.args.capacity c.args.self.now c.args.window)
    c.in-Some.run' (omega arith) (sym c.in-Some.ensures.found) in
    omega (arith, facts.is.inside, facts.is.from, facts.is.some)

pub loop-seen-preserved : goal.loop-seen-preserved
loop-seen-preserved c =
    let r : Run = c.in-Some.run' in
    let areas : List Run = areas_in c.args.capacity c.args.self.now c.args.window in
    let told : List Run = c.loop-seen.page.areas in
    let facts = next_area c.args.capacity c.loop-seen.at
    (blocks_touched_in c.args.capacity c.args.self.now c.args.window) r
    (omega arith) (sym c.in-Some.ensures.found) in
    let pushed : c.push.new.self.areas ≡ told ++ r ∷ [] =
    ap (λ (p : PageContents). p.areas) c.push.ensures in
    record {
      seen = c.next_area.ensures.seen;
      begins = ap (λ (p : PageContents). p.start) c.push.ensures ∙ c.loop-seen.invariant.begins;
      joined = one_area_more c.args.start c.loop-seen.at areas told r c.loop-seen.invariant.joined
          facts.areas
          ∙ sym (append_assoc told (r ∷ []) (areas_from (end_of r) areas))
          ∙ ap (λ (xs : List Run). xs ++ areas_from (end_of r) areas) (sym pushed);
      from = omega (arith, facts.is.from, c.loop-seen.invariant.from);
      within = facts.is.inside;
      few = omega (
        arith,
        ap length pushed,
        length-append told (r ∷ []),
        c.loop-seen.invariant.few,
        ap length c.areas.ensures,
      );
      ended = λ d some. ap (λ (xs : List Run). end_of (get_or xs (length xs - 1) d)) pushed
          ∙ ap end_of (last_pushed told r d);
    }

pub returns-in_default : goal.returns-in_default
returns-in_default c =
    let none = sym c.next_area.ensures.found ∙ c.in_default.is in
    c.cover.ensures ∙ ap (λ n. record
    { start = n; length = c.args.capacity - c.args.start; areas = c.loop-seen.page.areas })
    c.loop-seen.invariant.begins
    ∙ full_last c.args.capacity c.args.start c.loop-seen.at c.args.self.now c.args.window
    c.loop-seen.page.areas none c.loop-seen.invariant.joined c.loop-seen.invariant.few

pub returns : goal.returns
returns c =
    let told : List Run = c.loop-seen.page.areas in
    let long : length told ≡ 1024 =
    omega (arith, ap length c.areas.ensures, c.loop-seen-test.false, c.loop-seen.invariant.few)
    in
    c.cover-2.ensures ∙ ap
    (λ n. record { start = n; length = c.match-next_block.end - c.args.start; areas = told })
    c.loop-seen.invariant.begins
    ∙ (elim c.match-next_block.branch [
      | in-Some-next_block w ↦
          let first = (w.in-Some-next_block).ensures.found in
          ap (λ n. record { start = c.args.start; length = n - c.args.start; areas = told })
          w.end-is
          ∙ full_then c.args.capacity c.args.start c.loop-seen.at (w.in-Some-next_block).field-0
          c.args.self.now c.args.window told (omega arith) first.0 first.1 first.2
          c.loop-seen.invariant.joined long c.loop-seen.invariant.ended
      | in-None w ↦
          ap (λ n. record { start = c.args.start; length = n - c.args.start; areas = told })
          w.end-is
          ∙ full_last c.args.capacity c.args.start c.loop-seen.at c.args.self.now c.args.window told
          (w.in-None).ensures.found c.loop-seen.invariant.joined c.loop-seen.invariant.few
    ])
