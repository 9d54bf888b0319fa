-- When a fleet and the records of a journal agree, and the volumes with them where a store tells
-- those: the records come to a value, the machines of each plan are there and tracked, each
-- migration has what it asks of its machine, of that machine's log and of its volumes, and each
-- volume under a migration's name is of a migration that the records know.
use Rattle.std.specs.Prelude.{◌≡◌, ℕ, Some, Option, true, List, IsSome, IsSomeAnd}
use Rattle.std.specs.List.{list_all}
use Rattle.std.specs.Option.{ForSome}
use Rattle.fleet.specs.Fleet.{FleetState, machine_of}
use Rattle.fleet.specs.Sound.{IsFleet}
use Rattle.plan_model.specs.declared.plan.Plan.{Plan}
use Rattle.record_codec.specs.declared.record.Record.{Record}
use Rattle.ctl_state.specs.declared.migration.Migration.{Migration}
use Rattle.ctl_state.specs.Asks.{AsksOf}
use Rattle.ctl_state.specs.Fold.{IsStateOf}
use Rattle.ctl_state.specs.Value.{CtlValue, plan_in, migration_in}
use Rattle.target_volume.specs.declared.volume_name.VolumeName.{VolumeName}
use Rattle.target_volume.specs.declared.volume_name.VolumeName.TheVariants.{Disk}
use Rattle.target_volume.specs.VolumeName.{find_volume}
use Rattle.target_volume.specs.VolumeStore.{StoredVolume}
use Rattle.restart.specs.Machines.{is_tracked}

-- the machines of each plan are there, and tracking is active on them
abbrev pub PlansAsk : FleetState → CtlValue → Type 0
PlansAsk fleet v = (number : ℕ) (plan : Plan) → plan_in v number ≡ Some plan
    → list_all (is_tracked fleet) plan.vms ≡ true

-- the migration has what its records ask: its machine is there, and so on
abbrev pub MigrationAsks : FleetState → List Record → Option (List (VolumeName × StoredVolume))
    → (mig : ℕ) → Migration → Type 0
MigrationAsks fleet records told mig m =
    IsSomeAnd (machine_of m.vm fleet) (λ at. AsksOf mig at records m told)

-- each volume under a migration's name is of one that the records know
abbrev pub AreOfMigrations : CtlValue → List (VolumeName × StoredVolume) → Type 0
AreOfMigrations v told = (mig disk : ℕ) → IsSome (find_volume (Disk mig disk) told)
    → IsSome (migration_in v mig)

pub record Agrees (fleet : FleetState) (records : List Record)
    (told : Option (List (VolumeName × StoredVolume))) : Type 0 where
  pub value : CtlValue
  pub come_to : IsStateOf value records
  pub fleet_sound : IsFleet fleet
  pub plans : PlansAsk fleet value
  pub migrations : (mig : ℕ) (m : Migration) → migration_in value mig ≡ Some m
      → MigrationAsks fleet records told mig m
  pub volumes : ForSome told (AreOfMigrations value)
