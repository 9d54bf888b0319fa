-- A store that gains a volume under a name that had none, by a copy of a disk. Which call fails on
-- the way, and what the volume holds then, is the store's choice: that is a relation.
use Rattle.std.specs.Prelude.{◌≡◌, ◌⊎◌, ℕ, List, false, Some, None, IfSome, IsSome, Result, Ok, Err, option_map}
use Rattle.sector_model.specs.declared.sector.Sector.{Sector}
use Rattle.target_volume.specs.VolumeName.{find_volume, with_volume}
use Rattle.target_volume.specs.VolumeStore.{StoreState, StoredVolume}
use Rattle.target_volume.specs.declared.store_refused.StoreRefused.{StoreRefused}
use Rattle.target_volume.specs.declared.store_refused.StoreRefused.TheVariants.{Exists, Failed, NoMemory}
use Rattle.target_volume.specs.declared.volume_name.VolumeName.{VolumeName}
use Rattle.migrate_server.specs.Copy.{copied_contents}
use Rattle.basics.specs.Faults.{HasRisen}

-- no volume has the name, as far as the store tells
abbrev pub IsFree : VolumeName → StoreState → Type 0
IsFree name store = IfSome store.volumes (λ volumes. find_volume name volumes ≡ None)

-- one has it, as far as the store tells
abbrev pub IsTaken : VolumeName → StoreState → Type 0
IsTaken name store = IfSome store.volumes (λ volumes. IsSome (find_volume name volumes))

-- the store with the volume under the name; one that doesn't tell its volumes stays as it was
abbrev pub with_new_volume : VolumeName → StoredVolume → StoreState → StoreState
with_new_volume name volume store =
    record store { volumes = option_map (with_volume name volume) store.volumes }

-- a volume to which a disk was copied: it holds the disk's sectors, nothing of it is loose, and
-- each sector was written once
abbrev pub copied_volume : (disk : List Sector) (sectors : ℕ) → StoredVolume
copied_volume disk sectors =
    record { capacity = sectors; contents = Some (copied_contents disk); written = sectors }

-- its volumes are as they were, or the name was free and has a volume of that capacity, which may
-- hold anything
abbrev pub MayHaveMade : VolumeName → (capacity : ℕ) (old new : StoreState) → Type 0
MayHaveMade name capacity old new = (new.volumes ≡ old.volumes)
    ⊎ (IsFree name old × ((volume : StoredVolume) × (volume.capacity ≡ capacity)
    × (new.volumes ≡ (with_new_volume name volume old).volumes)))

-- the store, or the volume while it was lent out, failed
pub record FailsInCopy (name : VolumeName) (capacity : ℕ) (old new : StoreState) : Type 0 where
  -- a sound store doesn't
  pub unsound : old.sound ≡ false
  pub rises : HasRisen old.faults new.faults
  pub volumes : MayHaveMade name capacity old new
  pub kept : new ≡ record old { volumes = new.volumes; faults = new.faults }

-- what the copy of a disk to a new volume leaves of the store
abbrev pub CopyAnswers : (disk : List Sector) (name : VolumeName) (sectors : ℕ)
    → Result (Unit {0}) StoreRefused → (old new : StoreState) → Type 0
CopyAnswers disk name sectors (Ok _) old new =
    IsFree name old × (new ≡ with_new_volume name (copied_volume disk sectors) old)
CopyAnswers disk name sectors (Err Exists) old new = IsTaken name old × (new ≡ old)
CopyAnswers disk name sectors (Err Failed) old new = FailsInCopy name sectors old new
CopyAnswers disk name sectors (Err NoMemory) old new = new ≡ old
