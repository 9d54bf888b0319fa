-- A disk in memory: what it holds, the room for that, and the calls that are to fail.
use Rattle.std.specs.Prelude.{◌≡◌, ℕ, zero, suc, ◌+◌, ◌-◌, ◌*◌, ◌/◌, ◌%◌, ◌^◌, ◌<◌, ◌≤◌, nat_lt, Bool, true, false, not, ◌&&◌, if◌then◌else◌, List, [], ◌∷◌, length, slice_index, Some}
use Rattle.std.specs.List.{list_any}
use Rattle.std.specs.Vec.{vec_capacity}
use Rattle.std.specs.declared.vec.Vec.{Vec}
use Rattle.std.specs.declared.alloc.Global.{Global}
use Rattle.basics.specs.Calls.{CallLog, no_calls, after_call}
use Rattle.basics.specs.Generator.{advance}
use Rattle.edge_traits.specs.Disk.{DiskContents, DiskState, IsImage, covers, settled, after_write, after_cut, after_sync}
use Rattle.edge_traits.specs.declared.span.Span.{Span}
use Rattle.edge_traits.specs.declared.mem_disk.Pick.{Pick}
use Rattle.edge_traits.specs.declared.mem_disk.Pick.TheVariants.{Old, New, Mixed}
use Rattle.edge_traits.specs.declared.mem_disk.TheConstants.{CALL_USE}

pub record MemDiskState : Type 0 where
  pub contents : DiskContents
  -- the most bytes that it can use, and how many it has used: those that it began with, and for
  -- each write, cut and sync that did what it was asked CALL_USE and the bytes written
  pub room : ℕ
  pub used : ℕ
  pub calls : CallLog

-- what it is as a disk
abbrev pub disk_state : MemDiskState → DiskState
disk_state d = record { contents = Some d.contents; faults = d.calls.faults }

-- a disk that was not called yet
abbrev pub untouched : (bytes : List ℕ) (room : ℕ) (failing : List ℕ) → MemDiskState
untouched bytes room failing = record {
  contents = settled bytes;
  room = room;
  used = length bytes;
  calls = no_calls failing;
}

-- there is no room for a call that writes so many bytes
abbrev pub IsTooFullFor : MemDiskState → (count : ℕ) → Type 0
IsTooFullFor d count = d.room < d.used + CALL_USE + count

-- after a call that used no room: a length, a read, or any call that failed
abbrev pub after_asking : (succeeded : Bool) → MemDiskState → MemDiskState
after_asking succeeded d = record d { calls = after_call d.calls succeeded }

-- after a call that did what it was asked, wrote so many bytes and left these contents
abbrev pub after_using : (count : ℕ) → DiskContents → MemDiskState → MemDiskState
after_using count contents d = record d {
  contents = contents;
  used = d.used + CALL_USE + count;
  calls = after_call d.calls true;
}

-- the high bytes of so many numbers of the generator
abbrev pub noise : (count seed : ℕ) → List ℕ
noise zero x = []
noise (suc count) x = advance x / 2 ^ 56 ∷ noise count (advance x)

-- the lower bytes as far as they go and the spans leave them, and elsewhere the upper ones
pub record IsOverlaid (spans : List Span) (lower upper result : List ℕ) : Type 0 where
  pub long : length result ≡ length upper
  pub each : (offset : ℕ) → offset < length upper → slice_index result offset
      ≡ (if nat_lt offset (length lower) && not (list_any (covers offset) spans)
      then slice_index lower offset else slice_index upper offset)

-- a length between the least and the greatest, by the generator
abbrev pub mixed_length : (seed : ℕ) → DiskContents → ℕ
mixed_length seed c = c.least + advance seed / 2 ^ 33 % (c.greatest - c.least + 1)

abbrev pub IsMixed : (seed : ℕ) → DiskContents → (image : List ℕ) → Type 0
IsMixed seed c image =
    IsOverlaid c.loose c.synced (noise (mixed_length seed c) (advance seed)) image

-- the image with the loose ranges as before, as written, or from the generator
abbrev pub IsPicked : Pick → DiskContents → (image : List ℕ) → Type 0
IsPicked Old c image = image ≡ c.synced
IsPicked New c image = image ≡ c.bytes
IsPicked (Mixed seed) c image = IsMixed seed c image

-- what a read gives, and what was there at the last sync, are images
pub record IsConsistent (c : DiskContents) : Type 0 where
  pub read : IsImage c c.bytes
  pub synced : IsImage c c.synced

-- what is held, and the memory for all that the room allows
pub record HasRoom (bytes synced : Vec ℕ Global) (loose : Vec Span Global)
    (c : DiskContents) (room used : ℕ) : Type 0 where
  pub consistent : IsConsistent c
  pub longest : c.greatest ≤ used
  pub within : used ≤ room
  pub spans : CALL_USE * length c.loose ≤ used
  pub for_bytes : room ≤ vec_capacity bytes
  pub for_synced : room ≤ vec_capacity synced
  pub for_spans : room / CALL_USE ≤ vec_capacity loose
