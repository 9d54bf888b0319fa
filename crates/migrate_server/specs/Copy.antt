-- What a full copy of a disk leaves of a volume, and how it gets there: one run after another, with
-- zeros between them.
use Rattle.std.specs.Prelude.{◌≡◌, ℕ, ◌<◌, List, length, replicate, take, drop, ◌++◌, true, false, slice_index_or, option_map}
use Rattle.sector_model.specs.Sector.{zero_sector}
use Rattle.sector_model.specs.Run.{in_runs}
use Rattle.sector_model.specs.VolumeContents.{VolumeContents}
use Rattle.sector_model.specs.declared.sector.Sector.{Sector}
use Rattle.sector_model.specs.declared.run.Run.{Run}
use Rattle.target_volume.specs.Volume.{VolumeState}
use Rattle.basics.specs.Faults.{HasRisen}

-- the sectors of the disk, and nothing loose
abbrev pub copied_contents : List Sector → VolumeContents
copied_contents disk = record { sectors = disk; loose = replicate (length disk) false }

-- a volume that was never written, after the copy: each sector was written once
abbrev pub after_copy : List Sector → VolumeState → VolumeState
after_copy disk v = record v {
  contents = option_map (λ _. copied_contents disk) v.contents;
  written = length disk;
}

-- the same before the flush, as far as the first sectors
abbrev pub contents_copied_to : List Sector → (at : ℕ) → VolumeContents → VolumeContents
contents_copied_to disk at c = record {
  sectors = take at disk ++ drop at c.sectors;
  loose = replicate at true ++ drop at c.loose;
}

abbrev pub copied_to : List Sector → (at : ℕ) → VolumeState → VolumeState
copied_to disk at v = record v {
  contents = option_map (contents_copied_to disk at) v.contents;
  written = at;
}

-- a volume that failed, which a sound one doesn't: what it holds is open
pub record CopyFails (old new : VolumeState) : Type 0 where
  pub unsound : old.sound ≡ false
  pub rises : HasRisen old.faults new.faults
  pub kept : new ≡ record old {
    contents = new.contents;
    written = new.written;
    faults = new.faults;
  }

-- what is in none of the runs is zero
abbrev pub IsClearOutside : List Run → List Sector → Type 0
IsClearOutside runs disk = (s : ℕ) → s < length disk → in_runs runs s ≡ false
    → slice_index_or disk s zero_sector ≡ zero_sector
