-- The pages of an answer of a log, one behind another, are all its areas.
use Rattle.std.proofs.Common.{◌≡◌, ℕ, ◌<◌, ◌+◌, ◌^◌, ◌≤◌, List, [], ◌∷◌, unwrap_or, Ok, sym, ap, subst, refl, ◌∙◌, arith}
use Rattle.std.proofs.lemmas.Bool.{lt-ltb, le-ltb}
use Rattle.std.proofs.lemmas.List.Elements.{All-from_recursion}
use Rattle.sector_model.proofs.PageLaws.{areas_from-later}
use Rattle.sector_model.specs.Run.{end_of, in_blocks, areas_of, AreSpacedFrom}
use Rattle.sector_model.specs.Page.{areas_from}
use Rattle.sector_model.specs.declared.run.Run.{Run}
use Rattle.sector_model.proofs.Spacing.{SpacedWithin, runs_of-spaced}
use Rattle.sector_model.proofs.AreaPages.{pages_tell}
use Rattle.sector_model.proofs.PageWithin.{page_lies_within}
use Rattle.change_id.proofs.Answered.{ok_part}
use Rattle.change_id.specs.declared.Since.{Since}
use Rattle.change_id.specs.declared.Since.TheVariants.{All as Everything, From}
use Rattle.log_model.specs.declared.entry.Entry.{Entry}
use Rattle.log_model.specs.Query.{changed_areas, accepts}
use Rattle.log_model.specs.Marks.{mark, in_force, mark_of_id}
use Rattle.log_model.specs.Touched.{touched, touched_areas}
use Rattle.log_model.specs.Laws.{AnswersAreAreas, AnswerPagesJoin, AllPagesAreTheAnswer}

-- an answer is the areas of some blocks
answered : (machine c d s : ℕ) (since : Since) (log : List Entry) (areas : List Run)
    → changed_areas machine c d s since log ≡ Ok areas
    → (blocks : List ℕ) × (areas ≡ areas_of c blocks)
answered machine c d s Everything log areas found = (touched c d 0 (mark s log) log, cc)
answered machine c d s (From id) log areas found = (
  touched c d (unwrap_or (mark_of_id machine d id log) 0) (mark s log) log,
  sym
      (ok_part (accepts machine d s id log)
      (touched_areas c d (unwrap_or (mark_of_id machine d id log) 0) (mark s log) log) areas
      (in_force machine d log) found),
)

kept : (machine c d s : ℕ) (since : Since) (log : List Entry) (areas : List Run) → c < 2 ^ 64
    → changed_areas machine c d s since log ≡ Ok areas → SpacedWithin 0 c areas
kept machine c d s since log areas fits found =
    let blocks = answered machine c d s since log areas found in
    subst (SpacedWithin 0 c) (sym blocks.1) (runs_of-spaced (in_blocks blocks.0) c fits)

pub answer_pages_join : AnswerPagesJoin
answer_pages_join machine c d s since log areas fits found =
    pages_tell c areas (kept machine c d s since log areas fits found)

pub all_pages_are_the_answer : AllPagesAreTheAnswer
all_pages_are_the_answer machine c d s since log areas pages fits found are =
    let k = kept machine c d s since log areas fits found in
    answer_pages_join machine c d s since log areas fits found 0 pages are
    ∙ areas_from-later 0 0 areas k.spaced (omega arith)

pub answers_are_areas : AnswersAreAreas
answers_are_areas machine c d s since log areas fits found =
    let k = kept machine c d s since log areas fits found in
    let within = All-from_recursion (λ (r : Run). end_of r ≤ c) areas k.ends in
    record {
      spaced = k.spaced;
      within = within;
      pages = λ start before. page_lies_within c areas
          start k.spaced within before;
    }
