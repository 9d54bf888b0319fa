-- A migration of one disk between two of its copies, and as it is complete, with the log of its
-- machine and the lines that are told of it.
use Rattle.std.specs.Prelude.{◌≡◌, ℕ, Bool, true, false, List, [], ◌∷◌, ◌++◌, replicate, codes, Option, Some, None}
use Rattle.sector_model.specs.Sector.{filled}
use Rattle.checkpoints.specs.DataVolume.{DataVolumeState, checkpoint_of}
use Rattle.log_model.specs.declared.entry.Owner.TheVariants.{Operator, Migration as OfMigration}
use Rattle.log_model.specs.declared.entry.Act.{Act}
use Rattle.log_model.specs.declared.entry.Act.TheVariants.{Write, Snap, Remove, Enable, Off}
use Rattle.log_model.specs.declared.entry.Entry.{Entry}
use Rattle.log_model.specs.Entry.{entry_of}
use Rattle.phase_table.specs.declared.phases.Phase.TheVariants as Phases
use Rattle.ctl_state.specs.declared.migration.Migration.{Migration}
use Rattle.ctl_state.specs.declared.migration.How.TheVariants as Hows
use Rattle.ctl_state.specs.declared.copies.DiskCopy.{DiskCopy}
use Rattle.ctl_state.specs.Value.{CtlValue, new_course}
use Rattle.ctl_state.specs.StatusLine.{StatusLine, status_line}

abbrev written : (first fill : ℕ) → Entry
written first fill = entry_of (Write 0 first (filled fill ∷ []))

-- tracking is enabled, and a first snapshot of the operator comes and goes; then the migration's
-- snapshots, between the writes
abbrev migrated_log : List Entry
migrated_log = entry_of Enable ∷ entry_of (Snap 1 Operator) ∷ entry_of (Remove 1) ∷ written 5 1
    ∷ entry_of (Snap 2 (OfMigration 1)) ∷ written 200 2 ∷ entry_of (Remove 2)
    ∷ entry_of (Snap 3 (OfMigration 1)) ∷ written 6 3 ∷ entry_of Off ∷ entry_of (Remove 3)
    ∷ entry_of (Snap 4 (OfMigration 1)) ∷ entry_of (Remove 4) ∷ []

abbrev small_value : CtlValue
small_value = record {
  plans = record { number = 1; name = codes "p"; interval = 60; vms = 1 ∷ [] } ∷ [];
  courses = new_course ∷ [];
  migrations = [];
}

abbrev paused_volume : DataVolumeState
paused_volume = record { checkpoints = checkpoint_of 0 2 true ∷ []; has_final = false }

abbrev whole_volume : DataVolumeState
whole_volume = record {
  checkpoints = checkpoint_of 0 2 true ∷ checkpoint_of 2 3 true ∷ checkpoint_of 3 4 true ∷ [];
  has_final = true;
}

-- as it is paused, and as it is complete
abbrev paused_one : List DiskCopy → Migration
paused_one copies = record {
  number = 1;
  plan = 1;
  vm = 1;
  disks = 1;
  phase = Phases.CopyingPaused;
  cancel = false;
  snap = Some 2;
  marks = 4 ∷ [];
  written = 256 ∷ [];
  dv = paused_volume;
  last = Some (record { 0 = 1714557600 });
  how = None;
  place = None;
  mark = 4;
  volumes = true;
  power = None;
  copies = copies;
}

abbrev complete_one : List DiskCopy → Migration
complete_one copies = record {
  number = 1;
  plan = 1;
  vm = 1;
  disks = 1;
  phase = Phases.Completed;
  cancel = false;
  snap = None;
  marks = 4 ∷ 7 ∷ 11 ∷ [];
  written = 256 ∷ 128 ∷ 128 ∷ [];
  dv = whole_volume;
  last = Some (record { 0 = 1714561200 });
  how = Some Hows.Completed;
  place = Some 9;
  mark = 0;
  volumes = true;
  power = Some true;
  copies = copies;
}

abbrev paused_line : StatusLine
paused_line = record {
  cause = None;
  checkpoints = record { previous = 0; current = 2 } ∷ [];
  dv = codes "Paused";
  marks = 4 ∷ [];
  mig = 1;
  phase = codes "CopyingPaused";
  place = None;
  plan = codes "p";
  state = codes "paused";
  vm = codes "a";
  writes = None;
  written = 256 ∷ [];
}

abbrev complete_line : StatusLine
complete_line = record {
  cause = None;
  checkpoints = record { previous = 0; current = 2 } ∷ record { previous = 2; current = 3 }
      ∷ record { previous = 3; current = 4 } ∷ [];
  dv = codes "Succeeded";
  marks = 4 ∷ 7 ∷ 11 ∷ [];
  mig = 1;
  phase = codes "Completed";
  place = Some 9;
  plan = codes "p";
  state = codes "complete";
  vm = codes "a";
  writes = Some 3;
  written = 256 ∷ 128 ∷ 128 ∷ [];
}

-- one whose cancel stands, and one that failed behind its final snapshot
abbrev cancelling_one : List DiskCopy → Migration
cancelling_one copies = record (paused_one copies) { cancel = true }

abbrev failed_one : List DiskCopy → Migration
failed_one copies =
    record (complete_one copies) { phase = Phases.Failed; how = Some Hows.FailedVolume }

abbrev failed_line : StatusLine
failed_line = record complete_line {
  cause = Some (codes "volume");
  phase = codes "Failed";
  place = None;
  state = codes "failed";
  writes = None;
}

abbrev line : Migration → StatusLine
line m = status_line small_value (codes "a") migrated_log m

pub record SmallLines (copies : List DiskCopy) : Type 0 where
  pub paused : line (paused_one copies) ≡ paused_line
  pub complete : line (complete_one copies) ≡ complete_line
  pub cancelling : line (cancelling_one copies)
      ≡ record paused_line { state = codes "cancelling" }
  pub failed : line (failed_one copies) ≡ failed_line
