-- The phases one by one: their numbers, which tell them apart, their names as replies show them,
-- and which of them are ends, in which a migration is no longer live.
use Rattle.std.specs.Prelude.{ℕ, Bool, true, false, List, [], ◌∷◌, codes}
use Rattle.phase_table.specs.declared.phases.Phase.{Phase}
use Rattle.phase_table.specs.declared.phases.Phase.TheVariants.{Started, CreateInitialSnapshot, StoreInitialIds, CreateVolumes, AddFirstCheckpoint, CopyDisks, CopyingPaused, RemovePreviousSnapshot, CreateSnapshot, StoreIds, AddCheckpoint, StorePowerState, PowerOffSource, WaitForPowerOff, RemovePenultimateSnapshot, CreateFinalSnapshot, AddFinalCheckpoint, CopyFinal, RemoveFinalSnapshot, Completed, Cancelled, Failed}

abbrev pub phase_number : Phase → ℕ
phase_number Started = 1
phase_number CreateInitialSnapshot = 2
phase_number StoreInitialIds = 3
phase_number CreateVolumes = 4
phase_number AddFirstCheckpoint = 5
phase_number CopyDisks = 6
phase_number CopyingPaused = 7
phase_number RemovePreviousSnapshot = 8
phase_number CreateSnapshot = 9
phase_number StoreIds = 10
phase_number AddCheckpoint = 11
phase_number StorePowerState = 12
phase_number PowerOffSource = 13
phase_number WaitForPowerOff = 14
phase_number RemovePenultimateSnapshot = 15
phase_number CreateFinalSnapshot = 16
phase_number AddFinalCheckpoint = 17
phase_number CopyFinal = 18
phase_number RemoveFinalSnapshot = 19
phase_number Completed = 20
phase_number Cancelled = 21
phase_number Failed = 22

abbrev pub is_end : Phase → Bool
is_end Completed = true
is_end Cancelled = true
is_end Failed = true
is_end _ = false

abbrev pub all_phases : List Phase
all_phases =
    Started ∷ CreateInitialSnapshot ∷ StoreInitialIds ∷ CreateVolumes ∷ AddFirstCheckpoint
    ∷ CopyDisks ∷ CopyingPaused
    ∷ RemovePreviousSnapshot ∷ CreateSnapshot ∷ StoreIds ∷ AddCheckpoint
    ∷ StorePowerState ∷ PowerOffSource ∷ WaitForPowerOff ∷ RemovePenultimateSnapshot
    ∷ CreateFinalSnapshot ∷ AddFinalCheckpoint ∷ CopyFinal ∷ RemoveFinalSnapshot
    ∷ Completed ∷ Cancelled ∷ Failed ∷ []

abbrev pub phase_name : Phase → List ℕ
phase_name Started = codes "Started"
phase_name CreateInitialSnapshot = codes "CreateInitialSnapshot"
phase_name StoreInitialIds = codes "StoreInitialIds"
phase_name CreateVolumes = codes "CreateVolumes"
phase_name AddFirstCheckpoint = codes "AddFirstCheckpoint"
phase_name CopyDisks = codes "CopyDisks"
phase_name CopyingPaused = codes "CopyingPaused"
phase_name RemovePreviousSnapshot = codes "RemovePreviousSnapshot"
phase_name CreateSnapshot = codes "CreateSnapshot"
phase_name StoreIds = codes "StoreIds"
phase_name AddCheckpoint = codes "AddCheckpoint"
phase_name StorePowerState = codes "StorePowerState"
phase_name PowerOffSource = codes "PowerOffSource"
phase_name WaitForPowerOff = codes "WaitForPowerOff"
phase_name RemovePenultimateSnapshot = codes "RemovePenultimateSnapshot"
phase_name CreateFinalSnapshot = codes "CreateFinalSnapshot"
phase_name AddFinalCheckpoint = codes "AddFinalCheckpoint"
phase_name CopyFinal = codes "CopyFinal"
phase_name RemoveFinalSnapshot = codes "RemoveFinalSnapshot"
phase_name Completed = codes "Completed"
phase_name Cancelled = codes "Cancelled"
phase_name Failed = codes "Failed"
