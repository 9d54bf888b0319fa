-- What a volume is to whoever fills it, and what each call leaves of that. What a volume holds is
-- told by some volumes only, but how many sectors were written to it by each.
use Rattle.std.specs.Prelude.{◌≡◌, ℕ, ◌≤◌, List, length, Bool, Option, Some, None, option_map}
use Rattle.basics.specs.Faults.{HasRisen, counted_by}
use Rattle.sector_model.specs.VolumeContents.{VolumeContents, IsBrokenAt, volume_written, volume_zeroed, volume_flushed}
use Rattle.sector_model.specs.declared.sector.Sector.{Sector}
use Rattle.target_volume.specs.declared.volume_name.VolumeName.{VolumeName}

pub record VolumeState : Type 0 where
  -- its name in the store that lent it out, where one did
  pub name : Option VolumeName
  -- how many sectors it has
  pub capacity : ℕ
  -- what it holds, where it tells that
  pub contents : Option VolumeContents
  -- how many sectors were written to it, and how often it has failed; both end at 2^64 - 1
  pub written : ℕ
  pub faults : ℕ
  -- it tells what it holds, and no call of it fails
  pub sound : Bool

-- after a write of these sectors from `first` on
abbrev pub after_write : (first : ℕ) → List Sector → VolumeState → VolumeState
after_write first sectors v = record v {
  contents = option_map (volume_written first sectors) v.contents;
  written = counted_by (length sectors) v.written;
}

-- after zeros were written over `count` sectors from `first` on
abbrev pub after_zero : (first count : ℕ) → VolumeState → VolumeState
after_zero first count v = record v {
  contents = option_map (volume_zeroed first count) v.contents;
  written = counted_by count v.written;
}

-- after a flush
abbrev pub after_flush : VolumeState → VolumeState
after_flush v = record v { contents = option_map volume_flushed v.contents }

-- a failed read or flush leaves what the volume holds; only its count of faults rose
pub record VolumeFails (old new : VolumeState) : Type 0 where
  pub kept : new ≡ record old { faults = new.faults }
  pub rises : HasRisen old.faults new.faults

-- what a broken range leaves of what is told: a volume that tells it goes on to tell it
abbrev pub BreaksTold : (first count : ℕ) (old new : Option VolumeContents) → Type 0
BreaksTold first count None None = Unit {0}
BreaksTold first count None (Some new) = ⊥
BreaksTold first count (Some old) None = ⊥
BreaksTold first count (Some old) (Some new) = IsBrokenAt first count old new

-- a failed write or zeroing of `count` sectors leaves anything in its range, which is loose, and
-- has written at most those; all else is as before, and the count of faults rose
pub record Breaks (first count : ℕ) (old new : VolumeState) : Type 0 where
  pub kept : new ≡ record old {
    contents = new.contents;
    written = new.written;
    faults = new.faults;
  }
  pub contents : BreaksTold first count old.contents new.contents
  pub no_less : old.written ≤ new.written
  pub no_more : new.written ≤ counted_by count old.written
  pub rises : HasRisen old.faults new.faults
