-- The table of a migration's phases as a list of rows. Each phase that isn't an end leads to
-- Cancelled and to Failed besides, so these rows are made from the list of such phases.
use Rattle.std.specs.Prelude.{List, [], ◌∷◌, ◌++◌, map, not, Option}
use Rattle.std.specs.List.{filter}
use Rattle.phase_table.specs.declared.phases.Phase.{Phase}
use Rattle.phase_table.specs.declared.phases.Phase.TheVariants.{Started, CreateInitialSnapshot, StoreInitialIds, CreateVolumes, AddFirstCheckpoint, CopyDisks, CopyingPaused, RemovePreviousSnapshot, CreateSnapshot, StoreIds, AddCheckpoint, StorePowerState, PowerOffSource, WaitForPowerOff, RemovePenultimateSnapshot, CreateFinalSnapshot, AddFinalCheckpoint, CopyFinal, RemoveFinalSnapshot, Completed, Cancelled, Failed}
use Rattle.phase_table.specs.declared.table.Fact.{Fact}
use Rattle.phase_table.specs.declared.table.Fact.TheVariants.{Done, Precopy, Cutover, Running, Cancelled as Cancel, Failed as Fail}
use Rattle.phase_table.specs.declared.table.Row.{Row}
use Rattle.phase_table.specs.Phases.{is_end, all_phases}
use Rattle.phase_table.specs.Table.{successor_in}

abbrev pub row_of : (phase : Phase) (fact : Fact) (successor : Phase) → Row
row_of phase fact successor = record { phase = phase; fact = fact; successor = successor }

abbrev pub forward_rows : List Row
forward_rows =
    row_of Started Done CreateInitialSnapshot
    ∷ row_of CreateInitialSnapshot Done StoreInitialIds
    ∷ row_of StoreInitialIds Done CreateVolumes
    ∷ row_of CreateVolumes Done AddFirstCheckpoint
    ∷ row_of AddFirstCheckpoint Done CopyDisks
    ∷ row_of CopyDisks Done CopyingPaused
    ∷ row_of CopyingPaused Precopy RemovePreviousSnapshot
    ∷ row_of CopyingPaused Cutover StorePowerState
    ∷ row_of RemovePreviousSnapshot Done CreateSnapshot
    ∷ row_of CreateSnapshot Done StoreIds
    ∷ row_of StoreIds Done AddCheckpoint
    ∷ row_of AddCheckpoint Done CopyDisks
    ∷ row_of StorePowerState Done PowerOffSource
    ∷ row_of PowerOffSource Done WaitForPowerOff
    ∷ row_of WaitForPowerOff Done RemovePenultimateSnapshot
    ∷ row_of RemovePenultimateSnapshot Done CreateFinalSnapshot
    ∷ row_of CreateFinalSnapshot Done AddFinalCheckpoint
    ∷ row_of AddFinalCheckpoint Done CopyFinal
    ∷ row_of CopyFinal Done RemoveFinalSnapshot
    ∷ row_of RemoveFinalSnapshot Done Completed
    ∷ []

-- the back edges: the machine, which should be off, is on
abbrev pub back_rows : List Row
back_rows =
    row_of WaitForPowerOff Running PowerOffSource
    ∷ row_of CreateFinalSnapshot Running PowerOffSource
    ∷ []

abbrev pub live_phases : List Phase
live_phases = filter (λ phase. not (is_end phase)) all_phases

abbrev pub all_rows : List Row
all_rows =
    forward_rows ++ back_rows
    ++ map (λ phase. row_of phase Cancel Cancelled) live_phases
    ++ map (λ phase. row_of phase Fail Failed) live_phases

abbrev pub back_edge_of : Phase → Option Phase
back_edge_of phase = successor_in all_rows phase Running
