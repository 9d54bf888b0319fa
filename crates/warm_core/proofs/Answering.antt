-- What a query answers a stage, and what later entries leave of what it asks for.
use Rattle.std.proofs.Common.{◌≡◌, ℕ, ◌<◌, ◌≤◌, ◌^◌, List, ◌++◌, length, Bool, true, false, Option, Some, None, Ok, Err, refl, sym, ap, ◌∙◌, arith, IsSome}
use Rattle.sector_model.specs.declared.run.Run.{Run}
use Rattle.change_id.specs.declared.ChangeId.{ChangeId}
use Rattle.log_model.specs.declared.entry.Entry.{Entry}
use Rattle.log_model.specs.declared.link.Snapped.{Snapped}
use Rattle.log_model.specs.Marks.{mark}
use Rattle.log_model.specs.Touched.{touched_areas}
use Rattle.log_model.specs.Laws.{AnswersBetween, AreAreas}
use Rattle.log_model.proofs.AnswerLaws.{ids_answer_between}
use Rattle.log_model.proofs.AnswerPages.{answers_are_areas}
use Rattle.log_model.proofs.LaterPlaces.{later_entries_keep_places}
use Rattle.warm_core.specs.declared.disk_world.Base.{Base}
use Rattle.warm_core.specs.declared.stage_state.StageState.{StageState}
use Rattle.warm_core.specs.StageState.{sectors_below}
use Rattle.warm_core.specs.Staged.{is_unfinished, disk_at, blocks_asked, since_mark, since_of, answer, HasToBeFull, IsForgotten, HasWritten, StageFits}
use Rattle.warm_core.specs.Events.{page_end_of}
use Rattle.warm_core.specs.Laws.{IsGround}

-- ---- pages

pub areas-answered : (machine c d : ℕ) (log : List Entry) (base : Option Base) (snap : Snapped)
    (full : Bool) (areas : List Run) → c < 2 ^ 64
    → answer machine c d log base snap full ≡ Ok areas → AreAreas c areas
areas-answered machine c d log base snap full areas small ok =
    answers_are_areas machine c d snap.id (since_of full base) log areas small ok

pub page-ends : (machine c d : ℕ) (log : List Entry) (base : Option Base) (snap : Snapped)
    (full : Bool) (areas : List Run) (start : ℕ) → c < 2 ^ 64
    → answer machine c d log base snap full ≡ Ok areas → start < c
    → (start < page_end_of c start (Ok areas)) × (page_end_of c start (Ok areas) ≤ c)
page-ends machine c d log base snap full areas start small ok less =
    let page = (areas-answered machine c d log base snap full areas small ok).pages start less in
    (omega (arith, page.some), page.within)

-- ---- what an identifier answers

pub answers-between : (machine c d : ℕ) (log : List Entry) (b : Base) (snap : Snapped)
    → IsGround machine c d log (Some b) snap → AnswersBetween machine c d b.mark snap.id b.id log
answers-between machine c d log b snap ground =
    let low = ground.from_base b refl in
    let is = ground.snap_is.mark_is in
    let within = ground.snap_is.within in
    ids_answer_between machine c d b.mark snap.id b.id log (ground.base_is b refl)
    (omega (arith, low, is)) (omega (arith, within, is))

pub answer-not-err : {A B : Type 0} (x : A) (y : B) → Ok x ≡ Err y → ⊥
answer-not-err x y h = cc

must-be-full-at : (machine c d : ℕ) (log : List Entry) (base : Option Base) (snap : Snapped)
    (found : Option ChangeId) → IsGround machine c d log base snap
    → is_unfinished base (Some snap) ≡ true → IsSome base
    → answer machine c d log base snap false ≡ Err found → HasToBeFull d log base snap
must-be-full-at machine c d log None snap found ground unfinished some err = tt
must-be-full-at machine c d log (Some b) snap found ground unfinished some err =
    let between = answers-between machine c d log b snap ground in
    record {
      unfinished = unfinished;
      reset = λ same. answer-not-err (touched_areas c d b.mark (mark snap.id log) log) found
          (sym (between.accepted same) ∙ err);
    }

-- a partial stage whose page is refused has to be a full one
pub must-be-full : (machine c d : ℕ) (log : List Entry) (base : Option Base) (snap : Snapped)
    (full : Bool) (found : Option ChangeId) → IsGround machine c d log base snap
    → is_unfinished base (Some snap) ≡ true → IsSome base
    → full ≡ false → answer machine c d log base snap full ≡ Err found → HasToBeFull d log base snap
must-be-full machine c d log base snap full found ground unfinished some partial err =
    must-be-full-at machine c d log base snap found ground unfinished some
    (sym (ap (answer machine c d log base snap) partial) ∙ err)

-- ---- later entries

-- the marks of a ground lie within its log
pub mark-within : (machine c d : ℕ) (log : List Entry) (base : Option Base) (snap : Snapped)
    → IsGround machine c d log base snap → snap.mark ≤ length log
mark-within machine c d log base snap ground = let within = ground.snap_is.within in
    omega (arith, within)

pub base-within : (machine c d : ℕ) (log : List Entry) (b : Base) (snap : Snapped)
    → IsGround machine c d log (Some b) snap → b.mark ≤ length log
base-within machine c d log b snap ground = let within = ground.snap_is.within in let low =
    ground.from_base b refl in omega (arith, within, low)

pub disk_at-later : (c d m : ℕ) (log more : List Entry) → m ≤ length log
    → disk_at c d m (log ++ more) ≡ disk_at c d m log
disk_at-later c d m log more le = (later_entries_keep_places m log more le).contents_stay c d

pub asked-later : (c d : ℕ) (log more : List Entry) (base : Option Base) (snap : Snapped)
    (full : Bool) → snap.mark ≤ length log
    → blocks_asked c d (log ++ more) base snap full ≡ blocks_asked c d log base snap full
asked-later c d log more base snap full le =
    (later_entries_keep_places snap.mark log more le).touched_stay c d (since_mark full base)

pub forgotten-later : (d : ℕ) (log more : List Entry) (b : Base) (snap : Option Snapped)
    → b.mark ≤ length log → IsForgotten d log b snap → IsForgotten d (log ++ more) b snap
forgotten-later d log more b snap le forgotten = record {
  unfinished = forgotten.unfinished;
  reset = (later_entries_keep_places b.mark log more le).reset_stays d forgotten.reset;
}

pub must-be-full-later : (machine c d : ℕ) (log more : List Entry) (base : Option Base)
    (snap : Snapped) → IsGround machine c d log base snap → HasToBeFull d log base snap
    → HasToBeFull d (log ++ more) base snap
must-be-full-later machine c d log more None snap ground must = tt
must-be-full-later machine c d log more (Some b) snap ground must =
    forgotten-later d log more b (Some snap) (base-within machine c d log b snap ground) must

has-written-later : (c d : ℕ) (log more : List Entry) (base : Option Base) (snap : Snapped)
    (full : Bool) (at written : ℕ) → snap.mark ≤ length log
    → HasWritten c d log base snap full at written
    → HasWritten c d (log ++ more) base snap full at written
has-written-later c d log more base snap false at written le has =
    has ∙ ap (λ (bs : List ℕ). sectors_below bs at)
    (sym (asked-later c d log more base snap false le))
has-written-later c d log more None snap true at written le has = has
has-written-later c d log more (Some b) snap true at written le has =
    let same = ap (λ (bs : List ℕ). sectors_below bs c)
    (asked-later c d log more (Some b) snap false le) in
    (has.0, omega (arith, has.1, same))

pub fits-later : (machine c d : ℕ) (log more : List Entry) (base : Option Base) (snap : Snapped)
    (t : StageState) → IsGround machine c d log base snap
    → StageFits c d log base snap t → StageFits c d (log ++ more) base snap t
fits-later machine c d log more base snap t ground fits = record {
  unfinished = fits.unfinished;
  sized = fits.sized;
  order = fits.order;
  written = has-written-later c d log more base snap t.full t.at t.written
      (mark-within machine c d log base snap ground) fits.written;
  full = λ is. must-be-full-later machine c d log more base snap ground (fits.full is);
  partial = fits.partial;
}
