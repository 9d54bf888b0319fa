-- What is kept of the log of a machine that was read: it says what the log says, place by place,
-- snapshot by snapshot and disk by disk.
use Rattle.std.specs.Prelude.{◌≡◌, List, length, Bool}
use Rattle.log_model.specs.Legal.{Legal, all_of}
use Rattle.log_model.specs.Link.{is_active}
use Rattle.log_model.specs.Marks.{tracking}
use Rattle.source_vm.specs.Machine.{MachineState}
use Rattle.log_facts.specs.declared.places.PlaceFacts.{PlaceFacts}
use Rattle.log_facts.specs.declared.snapshots.SnapshotFacts.{SnapshotFacts}
use Rattle.log_facts.specs.declared.disks.DiskFacts.{DiskFacts}
use Rattle.log_facts.specs.Places.{ArePlaces}
use Rattle.log_facts.specs.Snapshots.{AreSnapshots}
use Rattle.log_facts.specs.Disks.{AreDisks}

-- what is kept is what the log says, which is legal
pub record AreRead (at : MachineState) (active : Bool) (places : List PlaceFacts)
    (snapshots : List SnapshotFacts) (disks : List DiskFacts) : Type 0 where
  pub legal : Legal (all_of at.capacities) at.log
  pub tracked : active ≡ is_active (tracking at.log)
  pub by_place : ArePlaces at.log places
  pub by_number : AreSnapshots at.log snapshots
  pub by_disk : AreDisks (length at.capacities) at.log disks
