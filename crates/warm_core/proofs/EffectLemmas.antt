-- What a world in memory owes its steps, and what they leave of what it stands for.
use Rattle.std.proofs.Common.{◌≡◌, ℕ, ◌+◌, ◌<◌, ◌^◌, List, Option, Some, None, Ok, IsOk, sym, ap, subst, ◌∙◌}
use Rattle.std.specs.Option.{is_some, IsSomeAnd}
use Rattle.std.proofs.lemmas.Option.{same_Some}
use Rattle.basics.proofs.Options.{some_value}
use Rattle.sector_model.specs.Run.{areas_of}
use Rattle.sector_model.specs.Page.{PageContents, page_from, LiesWithin}
use Rattle.sector_model.specs.declared.run.Run.{Run}
use Rattle.log_model.specs.declared.link.Snapped.{Snapped}
use Rattle.warm_core.specs.declared.stage_state.StageState.{StageState}
use Rattle.warm_core.specs.StageState.{IsInOrder, with_page}
use Rattle.warm_core.specs.Staged.{blocks_asked, StageFits}
use Rattle.warm_core.specs.World.{World, IsSound}
use Rattle.warm_core.specs.Events.{Runs, answer_now, page_end_of, after_page}
use Rattle.warm_core.specs.Laws.{AnswersTell}
use Rattle.warm_core.proofs.Worlds.{ok-parts, by_stage-is, ground-of}
use Rattle.warm_core.proofs.Answered.{stages_are_answered}

-- ---- the stage of a sound world

-- the snapshot that a stage copies
pub record Copies (w : World) (t : StageState) (s : Snapped) : Type 0 where
  pub snap : w.snap ≡ Some s
  pub fits : StageFits w.capacity w.disk w.log w.base s t

pub stage-copies : (w : World) (t : StageState) → IsSound w → w.stage ≡ Some t
    → (s : Snapped) × Copies w t s
stage-copies w t sound is =
    let snap = some_value w.snap
    (sound.stage_has_snap (ap (λ (o : Option StageState). is_some o) is)) in
    (snap.0, record { snap = snap.1; fits = (sound.stage_is snap.0 snap.1 t is).fits })

pub order-of : (w : World) (t : StageState) → IsSound w → w.stage ≡ Some t → IsInOrder t
order-of w t sound is = ((stage-copies w t sound is).1).fits.order

pub sized-of : (w : World) (t : StageState) → IsSound w → w.stage ≡ Some t → t.capacity ≡ w.capacity
sized-of w t sound is = ((stage-copies w t sound is).1).fits.sized

-- what an event of the stage asks, at the stage that is at hand
runs-at-both : (w : World) (P : List ℕ → Snapped → StageState
    → Type 0) (s : Snapped) (t : StageState) (snap : Option Snapped) (stage : Option StageState)
    → snap ≡ Some s → stage ≡ Some t
    → IsSomeAnd snap (λ s. IsSomeAnd stage
    (λ t. P (blocks_asked w.capacity w.disk w.log w.base s t.full) s t))
    → P (blocks_asked w.capacity w.disk w.log w.base s t.full) s t
runs-at-both w P s t None stage one two h = absurd h
runs-at-both w P s t (Some x) None one two h = absurd h
runs-at-both w P s t (Some x) (Some y) one two h =
    subst (λ (t : StageState). P (blocks_asked w.capacity w.disk w.log w.base s t.full) s t)
    (same_Some y t two)
    (subst (λ (s : Snapped). P (blocks_asked w.capacity w.disk w.log w.base s y.full) s y)
    (same_Some x s one) h)

pub runs-at : (w : World) (P : List ℕ → Snapped → StageState
    → Type 0) (s : Snapped) (t : StageState) → w.snap ≡ Some s → w.stage ≡ Some t → Runs w P
    → P (blocks_asked w.capacity w.disk w.log w.base s t.full) s t
runs-at w P s t one two h = runs-at-both w P s t w.snap w.stage one two h

-- ---- a page

pub tells-of : (w : World) (s : Snapped) (t : StageState) → w.capacity < 2 ^ 64 → IsSound w
    → w.snap ≡ Some s → w.stage ≡ Some t
    → AnswersTell w.machine w.capacity w.disk w.log w.base s t.full
tells-of w s t small sound one two =
    let fits = (sound.stage_is s one t two).fits in
    stages_are_answered w.machine w.capacity w.disk w.log w.base s t.full
    (ground-of w s small sound one) fits.unfinished fits.partial

pub page-effect : (w : World) (s : Snapped) (t : StageState) (page : PageContents)
    → w.capacity < 2 ^ 64 → IsSound w → w.snap ≡ Some s → w.stage ≡ Some t → IsOk (answer_now w s t)
    → page ≡ page_from w.capacity
    (areas_of w.capacity (blocks_asked w.capacity w.disk w.log w.base s t.full)) t.covered
    → record w { stage = Some (with_page (page.start + page.length) t) } ≡ after_page w
page-effect w s t page small sound one two ok is =
    let tells = tells-of w s t small sound one two in
    let areas : List Run =
    areas_of w.capacity (blocks_asked w.capacity w.disk w.log w.base s t.full) in
    let found = ok-parts (answer_now w s t) ok in
    let answer_is : answer_now w s t ≡ Ok areas =
    found.1 ∙ ap (λ (rs : List Run). Ok rs) (tells.told found.0 found.1) in
    let end : page.start + page.length ≡ page_end_of w.capacity t.covered (answer_now w s t) =
    ap (λ (p : PageContents). p.start + p.length) is
    ∙ sym (ap (page_end_of w.capacity t.covered) answer_is) in
    let step : Snapped → StageState → World → World =
    λ snap t w. record w {
      stage = Some
          (with_page (page_end_of w.capacity t.covered (answer_now w snap t)) t);
    } in
    ap (λ n. record w { stage = Some (with_page n t) }) end
    ∙ sym (by_stage-is step w s t (record { snap = one; stage = two }))

pub page-lies : (w : World) (s : Snapped) (t : StageState) (page : PageContents)
    → w.capacity < 2 ^ 64 → IsSound w → w.snap ≡ Some s → w.stage ≡ Some t → t.covered < w.capacity
    → page ≡ page_from w.capacity
    (areas_of w.capacity (blocks_asked w.capacity w.disk w.log w.base s t.full)) t.covered
    → LiesWithin t.capacity page
page-lies w s t page small sound one two less is =
    let tells = tells-of w s t small sound one two in
    let sized = sized-of w t sound two in
    subst (λ n. LiesWithin n page) (sym sized)
    (subst (λ (p : PageContents). LiesWithin w.capacity p) (sym is)
    (tells.pages t.covered less))
