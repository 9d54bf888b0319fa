-- What holds of the table of successors and of every path through it. The successors stand here
-- once more, phase by phase, so that a row in the wrong place of the table breaks a law.
use Rattle.std.specs.Prelude.{◌≡◌, ◌↔◌, List, [], ◌∷◌, ◌++◌, ◌⊎◌, Bool, Some, None, IsTrue, Contains}
use Rattle.std.specs.List.{list_all}
use Rattle.phase_table.specs.declared.phases.Phase.{Phase}
use Rattle.phase_table.specs.declared.phases.Phase.TheVariants.{Started, CreateInitialSnapshot, StoreInitialIds, CreateVolumes, AddFirstCheckpoint, CopyDisks, CopyingPaused, RemovePreviousSnapshot, CreateSnapshot, StoreIds, AddCheckpoint, StorePowerState, PowerOffSource, WaitForPowerOff, RemovePenultimateSnapshot, CreateFinalSnapshot, AddFinalCheckpoint, CopyFinal, RemoveFinalSnapshot, Completed, Cancelled, Failed}
use Rattle.phase_table.specs.declared.table.Fact.{Fact}
use Rattle.phase_table.specs.declared.table.Fact.TheVariants.{Done, Precopy, Cutover, Running, Cancelled as Cancel, Failed as Fail}
use Rattle.phase_table.specs.declared.table.Row.{Row}
use Rattle.phase_table.specs.Phases.{phase_number, is_end}
use Rattle.phase_table.specs.Table.{Fits, fits, NoRowFits, successor_in}
use Rattle.phase_table.specs.Edges.{row_of, all_rows}
use Rattle.phase_table.specs.Paths.{Follows, IsPath, EndsIn, HasNoBackEdge, TakesFinalSnapshot, PassesFinalSnapshot, IsBehindFinalSnapshot, Rises, EachStep}

-- what comes after each phase, and by which fact
abbrev pub successors_of : Phase → List (Fact × Phase)
successors_of Started = (Done, CreateInitialSnapshot) ∷ (Cancel, Cancelled) ∷ (Fail, Failed) ∷ []
successors_of CreateInitialSnapshot =
    (Done, StoreInitialIds) ∷ (Cancel, Cancelled) ∷ (Fail, Failed) ∷ []
successors_of StoreInitialIds = (Done, CreateVolumes) ∷ (Cancel, Cancelled) ∷ (Fail, Failed) ∷ []
successors_of CreateVolumes = (Done, AddFirstCheckpoint) ∷ (Cancel, Cancelled) ∷ (Fail, Failed) ∷ []
successors_of AddFirstCheckpoint = (Done, CopyDisks) ∷ (Cancel, Cancelled) ∷ (Fail, Failed) ∷ []
successors_of CopyDisks = (Done, CopyingPaused) ∷ (Cancel, Cancelled) ∷ (Fail, Failed) ∷ []
successors_of CopyingPaused =
    (Precopy, RemovePreviousSnapshot) ∷ (Cutover, StorePowerState)
    ∷ (Cancel, Cancelled) ∷ (Fail, Failed) ∷ []
successors_of RemovePreviousSnapshot =
    (Done, CreateSnapshot) ∷ (Cancel, Cancelled) ∷ (Fail, Failed) ∷ []
successors_of CreateSnapshot = (Done, StoreIds) ∷ (Cancel, Cancelled) ∷ (Fail, Failed) ∷ []
successors_of StoreIds = (Done, AddCheckpoint) ∷ (Cancel, Cancelled) ∷ (Fail, Failed) ∷ []
successors_of AddCheckpoint = (Done, CopyDisks) ∷ (Cancel, Cancelled) ∷ (Fail, Failed) ∷ []
successors_of StorePowerState = (Done, PowerOffSource) ∷ (Cancel, Cancelled) ∷ (Fail, Failed) ∷ []
successors_of PowerOffSource = (Done, WaitForPowerOff) ∷ (Cancel, Cancelled) ∷ (Fail, Failed) ∷ []
successors_of WaitForPowerOff =
    (Done, RemovePenultimateSnapshot) ∷ (Running, PowerOffSource)
    ∷ (Cancel, Cancelled) ∷ (Fail, Failed) ∷ []
successors_of RemovePenultimateSnapshot =
    (Done, CreateFinalSnapshot) ∷ (Cancel, Cancelled) ∷ (Fail, Failed) ∷ []
successors_of CreateFinalSnapshot =
    (Done, AddFinalCheckpoint) ∷ (Running, PowerOffSource)
    ∷ (Cancel, Cancelled) ∷ (Fail, Failed) ∷ []
successors_of AddFinalCheckpoint = (Done, CopyFinal) ∷ (Cancel, Cancelled) ∷ (Fail, Failed) ∷ []
successors_of CopyFinal = (Done, RemoveFinalSnapshot) ∷ (Cancel, Cancelled) ∷ (Fail, Failed) ∷ []
successors_of RemoveFinalSnapshot = (Done, Completed) ∷ (Cancel, Cancelled) ∷ (Fail, Failed) ∷ []
successors_of Completed = []
successors_of Cancelled = []
successors_of Failed = []

abbrev pub SuccessorsAreThose : Type 0
SuccessorsAreThose = (phase : Phase) (fact : Fact) (later : Phase)
    → (successor_in all_rows phase fact ≡ Some later) ↔ Contains (successors_of phase) (fact, later)

-- the ends are the phases behind which nothing comes
abbrev pub EndsHaveNoSuccessor : Type 0
EndsHaveNoSuccessor = (phase : Phase)
    → IsTrue (is_end phase) ↔ ((fact : Fact) → successor_in all_rows phase fact ≡ None)

-- the test of rows tells what it should
abbrev pub FitsMeans : Type 0
FitsMeans = (row : Row) (phase : Phase) (fact : Fact)
    → IsTrue (fits row phase fact) ↔ Fits row phase fact

-- a table of whatever rows gives nothing exactly where none of them fits
abbrev pub NoneWhereNoRowFits : Type 0
NoneWhereNoRowFits = (rows : List Row) (phase : Phase) (fact : Fact)
    → (successor_in rows phase fact ≡ None) ↔ NoRowFits rows phase fact

-- what a test says of every row of a table it says of every step through it
abbrev pub TestsHoldOfSteps : Type 0
TestsHoldOfSteps = (rows : List Row) (test : Row → Bool) → IsTrue (list_all test rows)
    → (phase later : Phase) (fact : Fact) → successor_in rows phase fact ≡ Some later
    → IsTrue (test (row_of phase fact later))

abbrev pub NumbersDiffer : Type 0
NumbersDiffer = (a b : Phase) → phase_number a ≡ phase_number b → a ≡ b

-- every front of a path is a path, and a path goes on with what follows its last phase
abbrev pub FrontsArePaths : Type 0
FrontsArePaths = (front rest : List Phase) → IsPath (front ++ rest) → IsPath front

abbrev pub PathsGrow : Type 0
PathsGrow = (path : List Phase) (phase later : Phase)
    → IsPath (path ++ phase ∷ []) → Follows phase later → IsPath (path ++ phase ∷ later ∷ [])

-- every path from the start to completion, and to each phase between the final snapshot and
-- completion, takes the final snapshot, and has no back edge after it
abbrev pub FinalSnapshotIsPassed : Type 0
FinalSnapshotIsPassed = (rest : List Phase) (end : Phase)
    → IsPath (Started ∷ rest) → EndsIn end (Started ∷ rest) → IsBehindFinalSnapshot end
    → PassesFinalSnapshot (Started ∷ rest)

-- there is no other way into these phases
abbrev pub OnlyTheFinalSnapshotLeadsOn : Type 0
OnlyTheFinalSnapshotLeadsOn = (earlier later : Phase)
    → Follows earlier later → IsBehindFinalSnapshot later
    → ((earlier ≡ CreateFinalSnapshot) × (later ≡ AddFinalCheckpoint))
    ⊎ IsBehindFinalSnapshot earlier

-- behind each taking of the final snapshot no step is a back edge
abbrev pub NoBackEdgeAfter : Type 0
NoBackEdgeAfter = (path before after : List Phase)
    → IsPath path → TakesFinalSnapshot path before after
    → HasNoBackEdge (AddFinalCheckpoint ∷ after)

-- and each phase there has a number above that of the one before it
abbrev pub PhasesRiseAfter : Type 0
PhasesRiseAfter = (path before after : List Phase)
    → IsPath path → TakesFinalSnapshot path before after
    → EachStep Rises (AddFinalCheckpoint ∷ after)
