-- The pages of an answer of maps, one behind another, are all its areas.
use Rattle.std.proofs.Common.{◌≡◌, ℕ, ◌≤◌, List, Bool, true, false, cond, Option, unwrap_or, Ok, Err, sym, subst}
use Rattle.sector_model.specs.Run.{in_blocks, areas_of, met_blocks}
use Rattle.sector_model.specs.declared.run.Run.{Run}
use Rattle.sector_model.specs.Page.{PagesTell}
use Rattle.sector_model.proofs.AreaPages.{area_pages_join}
use Rattle.change_id.proofs.Answered.{ok_part}
use Rattle.change_id.specs.History as history
use Rattle.change_id.specs.declared.ChangeId.{ChangeId}
use Rattle.change_id.specs.declared.Since.{Since}
use Rattle.change_id.specs.declared.Since.TheVariants.{All, From}
use Rattle.change_tracker.specs.History.{TrackStep, reading, freezes, runs_between, areas_between, answered}
use Rattle.change_tracker.specs.Laws.{AnswerPagesJoin}

-- an answer is the areas of some blocks
of_blocks : (machine disk capacity snapshot : ℕ) (since : Since) (steps : List TrackStep)
    (areas : List Run) → answered machine disk capacity snapshot since steps ≡ Ok areas
    → (blocks : List ℕ) × (areas ≡ areas_of capacity blocks)
of_blocks machine disk capacity snapshot All steps areas found =
    (met_blocks capacity (runs_between 0 (history.mark freezes snapshot steps) steps), cc)
of_blocks machine disk capacity snapshot (From id) steps areas found = (
  met_blocks capacity (runs_between (unwrap_or (history.mark_of_id reading machine disk id steps) 0)
      (history.mark freezes snapshot steps) steps),
  sym (ok_part (history.accepts reading machine disk snapshot id steps)
      (areas_between capacity (unwrap_or (history.mark_of_id reading machine disk id steps) 0)
      (history.mark freezes snapshot steps) steps) areas
      (history.in_force reading machine disk steps) found),
)

pub answer_pages_join : AnswerPagesJoin
answer_pages_join machine disk capacity snapshot since steps areas fits found =
    let blocks = of_blocks machine disk capacity snapshot since steps areas found in
    subst (PagesTell capacity) (sym blocks.1) (area_pages_join (in_blocks blocks.0) capacity fits)
