-- Paths through the table: lists of phases in which each comes after the one before it. A path goes
-- by phases and not by facts, so that what holds of all paths holds whatever a migration sees.
use Rattle.std.specs.Prelude.{◌≡◌, ◌<◌, ◌≤◌, List, [], ◌∷◌, ◌++◌, Some, None}
use Rattle.std.specs.List.{last_or}
use Rattle.phase_table.specs.declared.phases.Phase.{Phase}
use Rattle.phase_table.specs.declared.phases.Phase.TheVariants.{CreateFinalSnapshot, AddFinalCheckpoint, Completed}
use Rattle.phase_table.specs.declared.table.Fact.{Fact}
use Rattle.phase_table.specs.Phases.{phase_number}
use Rattle.phase_table.specs.Table.{successor_in}
use Rattle.phase_table.specs.Edges.{all_rows, back_edge_of}

-- a phase comes after another by some fact
abbrev pub Follows : (earlier later : Phase) → Type 0
Follows earlier later = (fact : Fact) × (successor_in all_rows earlier fact ≡ Some later)

-- a relation holds between each phase of a list and the one behind it
abbrev pub EachStep : (Phase → Phase → Type 0) → List Phase → Type 0
EachStep R [] = Unit {0}
EachStep R (phase ∷ []) = Unit {0}
EachStep R (phase ∷ later ∷ rest) = R phase later × EachStep R (later ∷ rest)

abbrev pub IsPath : List Phase → Type 0
IsPath path = EachStep Follows path

abbrev pub EndsIn : Phase → List Phase → Type 0
EndsIn end path = last_or None path ≡ Some end

-- a step that doesn't lead where the back edge of its phase leads, whatever was seen
abbrev pub IsNoBackEdge : (earlier later : Phase) → Type 0
IsNoBackEdge earlier later = ¬ (back_edge_of earlier ≡ Some later)

abbrev pub HasNoBackEdge : List Phase → Type 0
HasNoBackEdge path = EachStep IsNoBackEdge path

-- the later phase has the greater number
abbrev pub Rises : (earlier later : Phase) → Type 0
Rises earlier later = phase_number earlier < phase_number later

-- the phases behind the final snapshot, of migrations that complete or did
pub record IsBehindFinalSnapshot (phase : Phase) : Type 0 where
  pub behind : phase_number AddFinalCheckpoint ≤ phase_number phase
  pub completing : phase_number phase ≤ phase_number Completed

-- the path is `before`, then the step that the final snapshot makes, then `after`
abbrev pub TakesFinalSnapshot : (path before after : List Phase) → Type 0
TakesFinalSnapshot path before after =
    path ≡ before ++ CreateFinalSnapshot ∷ AddFinalCheckpoint ∷ after

-- the path has that step, and no back edge from there on
pub record PassesFinalSnapshot (path : List Phase) : Type 0 where
  pub before : List Phase
  pub after : List Phase
  pub taken : TakesFinalSnapshot path before after
  pub no_back_edge : HasNoBackEdge (AddFinalCheckpoint ∷ after)
