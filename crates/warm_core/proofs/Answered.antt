-- What a query answers a stage: the areas that it asks for, or that it has to become a full one.
use Rattle.std.proofs.Common.{◌≡◌, ℕ, ◌≤◌, List, take, Bool, true, false, Option, Some, None, Result, Ok, Err, IsErr, refl, sym, ap, subst, ◌∙◌, inl, inr, IsSome}
use Rattle.std.proofs.lemmas.Bool.{cases_eq, false≢true}
use Rattle.std.proofs.lemmas.List.Elements.{All-from_recursion}
use Rattle.sector_model.specs.Run.{end_of, in_blocks, areas_of}
use Rattle.sector_model.specs.declared.run.Run.{Run}
use Rattle.sector_model.proofs.Spacing.{runs_of-spaced}
use Rattle.sector_model.proofs.PageWithin.{page_lies_within}
use Rattle.change_id.specs.declared.ChangeId.{ChangeId}
use Rattle.log_model.specs.declared.entry.Entry.{Entry}
use Rattle.log_model.specs.declared.link.Snapped.{Snapped}
use Rattle.log_model.specs.Marks.{epoch, mark, in_force}
use Rattle.log_model.specs.Touched.{touched_areas}
use Rattle.warm_core.specs.declared.disk_world.Base.{Base}
use Rattle.warm_core.specs.Staged.{is_unfinished, blocks_asked, answer, HasToBeFull}
use Rattle.warm_core.specs.Laws.{IsGround, IsAnswered, StagesAreAnswered}
use Rattle.warm_core.proofs.Answering.{answers-between}

-- the mark of a ground's snapshot is what the log says
at-mark : (machine c d : ℕ) (log : List Entry) (base : Option Base) (snap : Snapped) (from : ℕ)
    → IsGround machine c d log base snap
    → touched_areas c d from (mark snap.id log) log ≡ touched_areas c d from snap.mark log
at-mark machine c d log base snap from ground =
    ap (λ n. touched_areas c d from n log) ground.snap_is.mark_is

same-ok : {A B : Type 0} (x y : A) (r : Result A B) → r ≡ Ok x → r ≡ Ok y → y ≡ x
same-ok x y r one two = cc

is-err : {A B : Type 0} (r : Result A B) (y : B) → r ≡ Err y → IsErr r
is-err {A} {B} r y h = subst (λ (x : Result A B). IsErr x) (sym h) refl

answered-at : (machine c d : ℕ) (log : List Entry) (base : Option Base) (snap : Snapped)
    (full : Bool) → IsGround machine c d log base snap → is_unfinished base (Some snap) ≡ true
    → (full ≡ false → IsSome base)
    → IsAnswered machine c d log base snap full
answered-at machine c d log base snap true ground unfinished some =
    let told = at-mark machine c d log base snap 0 ground in
    inl (ap (λ (rs : List Run). Ok rs) told)
answered-at machine c d log None snap false ground unfinished some = absurd (false≢true (some refl))
answered-at machine c d log (Some b) snap false ground unfinished some =
    let between = answers-between machine c d log b snap ground in
    elim (cases_eq (epoch d (take b.mark log)) (epoch d log)) [
      | inl same ↦ inl (between.accepted same
          ∙ ap (λ (rs : List Run). Ok rs) (at-mark machine c d log (Some b) snap b.mark ground))
      | inr reset ↦ inr (
        refl,
        record { unfinished = unfinished; reset = reset },
        is-err (answer machine c d log (Some b) snap false) (in_force machine d log)
            (between.strange reset),
      )
    ]

told-at : (machine c d : ℕ) (log : List Entry) (base : Option Base) (snap : Snapped) (full : Bool)
    (areas : List Run) → IsAnswered machine c d log base snap full
    → answer machine c d log base snap full ≡ Ok areas
    → areas ≡ areas_of c (blocks_asked c d log base snap full)
told-at machine c d log base snap full areas (inl ok) is =
    same-ok (areas_of c (blocks_asked c d log base snap full)) areas
    (answer machine c d log base snap full) ok is
told-at machine c d log base snap full areas (inr strange) is =
    absurd (false≢true (subst (λ (r : Result (List Run) (Option ChangeId)). IsErr r) is strange.2))

strange-at : (machine c d : ℕ) (log : List Entry) (base : Option Base) (snap : Snapped)
    (full : Bool) → IsGround machine c d log base snap → (full ≡ false → IsSome base) → full ≡ false
    → HasToBeFull d log base snap → IsErr (answer machine c d log base snap full)
strange-at machine c d log base snap true ground some partial must =
    absurd (false≢true (sym partial))
strange-at machine c d log None snap false ground some partial must =
    absurd (false≢true (some refl))
strange-at machine c d log (Some b) snap false ground some partial must =
    is-err (answer machine c d log (Some b) snap false) (in_force machine d log)
    ((answers-between machine c d log b snap ground).strange must.reset)

pub stages_are_answered : StagesAreAnswered
stages_are_answered machine c d log base snap full ground unfinished some =
    let blocks : List ℕ = blocks_asked c d log base snap full in
    let kept = runs_of-spaced (in_blocks blocks) c ground.small in
    let answered = answered-at machine c d log base snap full ground unfinished some in
    record {
      answered = answered;
      told = λ areas is. told-at machine c d log base snap full areas answered is;
      strange = λ partial must. strange-at machine c d log base snap full ground some partial must;
      pages = λ start less. page_lies_within c (areas_of c blocks) start kept.spaced
          (All-from_recursion (λ r. end_of r ≤ c) (areas_of c blocks) kept.ends) less;
    }
