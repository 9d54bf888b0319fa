-- What holds of all records over all fleets: records are strange at one number or nowhere, and they
-- are strange nowhere where the fleet agrees with them; and with those that are taken it agrees.
use Rattle.std.specs.Prelude.{◌≡◌, ℕ, ◌≤◌, List, length, Option, None}
use Rattle.fleet.specs.Fleet.{FleetState}
use Rattle.fleet.specs.Sound.{IsFleet}
use Rattle.record_codec.specs.declared.record.Record.{Record}
use Rattle.ctl_state.specs.Value.{CtlValue}
use Rattle.target_volume.specs.declared.volume_name.VolumeName.{VolumeName}
use Rattle.target_volume.specs.VolumeStore.{StoredVolume}
use Rattle.restart.specs.Agrees.{Agrees}
use Rattle.restart.specs.Standing.{AreTaken, IsStrange}

-- ---- strange at one number, or taken

abbrev pub StrangeAtOne : Type 0
StrangeAtOne = (fleet : FleetState) (records : List Record) (one other : ℕ)
    → IsStrange fleet records one → IsStrange fleet records other → one ≡ other

abbrev pub TakenAreNotStrange : Type 0
TakenAreNotStrange = (fleet : FleetState) (records : List Record) (v : CtlValue) (number : ℕ)
    → AreTaken fleet records v → ¬ IsStrange fleet records number

-- at one of the records
abbrev pub StrangeAmongThem : Type 0
StrangeAmongThem = (fleet : FleetState) (records : List Record) (number : ℕ)
    → IsStrange fleet records number → (1 ≤ number) × (number ≤ length records)

-- ---- taken where the fleet agrees

-- no record is strange to a fleet that agrees
abbrev pub AgreeingAreNotStrange : Type 0
AgreeingAreNotStrange = (fleet : FleetState) (records : List Record)
    (told : Option (List (VolumeName × StoredVolume))) (number : ℕ)
    → Agrees fleet records told → ¬ IsStrange fleet records number

-- they are taken
abbrev pub AgreeingAreTaken : Type 0
AgreeingAreTaken = (fleet : FleetState) (records : List Record)
    (told : Option (List (VolumeName × StoredVolume))) → Agrees fleet records told
    → (v : CtlValue) × AreTaken fleet records v

-- a fleet agrees with the records that are taken over it, but for what volumes hold
abbrev pub TakenAgree : Type 0
TakenAgree = (fleet : FleetState) (records : List Record) (v : CtlValue)
    → IsFleet fleet → AreTaken fleet records v → Agrees fleet records None
