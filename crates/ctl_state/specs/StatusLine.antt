-- What is told of a migration to whoever asks how it stands: from its records, the names of its
-- plan and its machine, and the machine's log. A place and a number of writes are told once it is
-- complete and not before, although its records may hold a place.
use Rattle.std.specs.Prelude.{ℕ, Bool, true, false, List, map, codes, Option, Some, None, option_map}
use Rattle.std.specs.Option.{option_map_or}
use Rattle.checkpoints.specs.DataVolume.{phase_of}
use Rattle.checkpoints.specs.declared.checkpoint.Checkpoint.{Checkpoint}
use Rattle.checkpoints.specs.declared.checkpoint.DvPhase.{DvPhase}
use Rattle.checkpoints.specs.declared.checkpoint.DvPhase.TheVariants as DvPhases
use Rattle.log_model.specs.declared.entry.Entry.{Entry}
use Rattle.log_model.specs.Entry.{writes_before}
use Rattle.phase_table.specs.declared.phases.Phase.{Phase}
use Rattle.phase_table.specs.declared.phases.Phase.TheVariants.{Started, CreateInitialSnapshot, StoreInitialIds, CreateVolumes, AddFirstCheckpoint, CopyDisks, CopyingPaused, RemovePreviousSnapshot, CreateSnapshot, StoreIds, AddCheckpoint, StorePowerState, PowerOffSource, WaitForPowerOff, RemovePenultimateSnapshot, CreateFinalSnapshot, AddFinalCheckpoint, CopyFinal, RemoveFinalSnapshot, Completed, Cancelled, Failed}
use Rattle.phase_table.specs.Phases.{phase_name}
use Rattle.ctl_state.specs.declared.migration.Migration.{Migration}
use Rattle.ctl_state.specs.declared.migration.How.{How}
use Rattle.ctl_state.specs.declared.migration.How.TheVariants as Hows
use Rattle.ctl_state.specs.Value.{CtlValue, plan_in}

-- why it failed
abbrev pub cause_of_end : How → Option (List ℕ)
cause_of_end Hows.Completed = None
cause_of_end Hows.Cancelled = None
cause_of_end Hows.FailedVolume = Some (codes "volume")
cause_of_end Hows.FailedSpent = Some (codes "spent")

abbrev pub cause_of : Option How → Option (List ℕ)
cause_of None = None
cause_of (Some how) = cause_of_end how

-- how one stands that has ended
abbrev pub state_of_end : How → List ℕ
state_of_end Hows.Completed = codes "complete"
state_of_end Hows.Cancelled = codes "cancelled"
state_of_end Hows.FailedVolume = codes "failed"
state_of_end Hows.FailedSpent = codes "failed"

-- how one stands that is live, and whose cancel wasn't asked for
abbrev pub state_in : Phase → List ℕ
state_in Started = codes "ready"
state_in CreateInitialSnapshot = codes "running"
state_in StoreInitialIds = codes "running"
state_in CreateVolumes = codes "running"
state_in AddFirstCheckpoint = codes "running"
state_in CopyDisks = codes "running"
state_in CopyingPaused = codes "paused"
state_in RemovePreviousSnapshot = codes "running"
state_in CreateSnapshot = codes "running"
state_in StoreIds = codes "running"
state_in AddCheckpoint = codes "running"
state_in StorePowerState = codes "running"
state_in PowerOffSource = codes "running"
state_in WaitForPowerOff = codes "running"
state_in RemovePenultimateSnapshot = codes "running"
state_in CreateFinalSnapshot = codes "running"
state_in AddFinalCheckpoint = codes "running"
state_in CopyFinal = codes "running"
state_in RemoveFinalSnapshot = codes "running"
state_in Completed = codes "running"
state_in Cancelled = codes "running"
state_in Failed = codes "running"

-- an end goes before a cancel, and a cancel before the phase
abbrev pub state_of : (how : Option How) (cancel : Bool) → Phase → List ℕ
state_of (Some how) cancel phase = state_of_end how
state_of None true phase = codes "cancelling"
state_of None false phase = state_in phase

abbrev pub dv_name : DvPhase → List ℕ
dv_name DvPhases.Pending = codes "Pending"
dv_name DvPhases.InProgress = codes "InProgress"
dv_name DvPhases.Paused = codes "Paused"
dv_name DvPhases.Succeeded = codes "Succeeded"

-- the place is told of a migration that is complete
abbrev pub place_by_end : (how : Option How) → (place : Option ℕ) → Option ℕ
place_by_end None place = None
place_by_end (Some Hows.Completed) place = place
place_by_end (Some Hows.Cancelled) place = None
place_by_end (Some Hows.FailedVolume) place = None
place_by_end (Some Hows.FailedSpent) place = None

abbrev pub told_place : Migration → Option ℕ
told_place m = place_by_end m.how m.place

-- the snapshots between which a checkpoint leads, 0 standing for no snapshot
pub record CheckpointLine : Type 0 where
  pub previous : ℕ
  pub current : ℕ

abbrev pub checkpoint_line : Checkpoint → CheckpointLine
checkpoint_line c = record { previous = c.previous; current = c.current }

pub record StatusLine : Type 0 where
  pub cause : Option (List ℕ)
  -- an unfinished last one included
  pub checkpoints : List CheckpointLine
  pub dv : List ℕ
  -- those of the finished checkpoints, as the sectors that were written for each
  pub marks : List ℕ
  pub mig : ℕ
  pub phase : List ℕ
  pub place : Option ℕ
  pub plan : List ℕ
  pub state : List ℕ
  pub vm : List ℕ
  pub writes : Option ℕ
  pub written : List ℕ

-- the name of the plan of a migration
abbrev pub plan_name : CtlValue → Migration → List ℕ
plan_name v m = option_map_or (λ plan. plan.name) (plan_in v m.plan) (codes "")

-- the line of a migration of the machine of this name, whose log this is
abbrev pub status_line : CtlValue → (vm_name : List ℕ) → List Entry → Migration → StatusLine
status_line v vm_name log m = record {
  cause = cause_of m.how;
  checkpoints = map checkpoint_line m.dv.checkpoints;
  dv = dv_name (phase_of m.dv);
  marks = m.marks;
  mig = m.number;
  phase = phase_name m.phase;
  place = told_place m;
  plan = plan_name v m;
  state = state_of m.how m.cancel m.phase;
  vm = vm_name;
  writes = option_map (λ place. writes_before place log) (told_place m);
  written = m.written;
}
