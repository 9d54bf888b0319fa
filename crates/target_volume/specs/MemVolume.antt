-- A volume in memory: what it holds, and the calls that are to fail.
use Rattle.std.specs.Prelude.{ℕ, List, length, replicate, true, false, Some}
use Rattle.basics.specs.Calls.{CallLog, no_calls, never_fails, after_call}
use Rattle.basics.specs.Faults.{counted_by}
use Rattle.basics.specs.Replaced.{replaced}
use Rattle.sector_model.specs.Sector.{filled}
use Rattle.sector_model.specs.VolumeContents.{VolumeContents, volume_written, volume_zeroed, volume_flushed}
use Rattle.sector_model.specs.declared.sector.Sector.{Sector}
use Rattle.target_volume.specs.Volume.{VolumeState}
use Rattle.target_volume.specs.declared.mem_volume.Held.{Held}
use Rattle.target_volume.specs.declared.volume_name.VolumeName.{VolumeName}

-- all of it but its name, which its store keeps while it is at home
pub record HeldState : Type 0 where
  pub contents : VolumeContents
  -- how many sectors were written, a count that ends at 2^64 - 1
  pub written : ℕ
  pub calls : CallLog

abbrev pub held_state : Held → HeldState
held_state h = record {
  contents = record { sectors = h.sectors.items; loose = h.loose.items };
  written = h.written;
  calls = h.calls;
}

pub record MemVolumeState : Type 0 where
  pub name : VolumeName
  pub held : HeldState

-- what it is as a volume
abbrev pub volume_state : MemVolumeState → VolumeState
volume_state v = record {
  name = Some v.name;
  capacity = length v.held.contents.sectors;
  contents = Some v.held.contents;
  written = v.held.written;
  faults = v.held.calls.faults;
  sound = never_fails v.held.calls;
}

-- one that was never written: each byte is the junk byte
abbrev pub fresh_held : (capacity junk : ℕ) (failing : List ℕ) → HeldState
fresh_held capacity junk failing = record {
  contents = record {
    sectors = replicate capacity (filled junk);
    loose = replicate capacity false;
  };
  written = 0;
  calls = no_calls failing;
}

-- after a write of these sectors from `first` on
abbrev pub held_written : (first : ℕ) → List Sector → HeldState → HeldState
held_written first sectors h = record {
  contents = volume_written first sectors h.contents;
  written = counted_by (length sectors) h.written;
  calls = after_call h.calls true;
}

-- after zeros were written over `count` sectors from `first` on
abbrev pub held_zeroed : (first count : ℕ) → HeldState → HeldState
held_zeroed first count h = record {
  contents = volume_zeroed first count h.contents;
  written = counted_by count h.written;
  calls = after_call h.calls true;
}

-- after a flush
abbrev pub held_flushed : HeldState → HeldState
held_flushed h = record {
  contents = volume_flushed h.contents;
  written = h.written;
  calls = after_call h.calls true;
}

-- after a failed write or zeroing of `count` sectors from `first` on: the range is loose, and its
-- sectors are as they were
abbrev pub held_broken : (first count : ℕ) → HeldState → HeldState
held_broken first count h = record {
  contents = record {
    sectors = h.contents.sectors;
    loose = replaced h.contents.loose first (replicate count true);
  };
  written = h.written;
  calls = after_call h.calls false;
}
