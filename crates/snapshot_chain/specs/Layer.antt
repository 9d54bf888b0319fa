-- A layer: pages under the keys of their blocks, in ascending order of the keys.
use Rattle.std.specs.Prelude.{◌≡◌, ◌==◌, if◌then◌else◌, ℕ, ◌+◌, ◌*◌, ◌%◌, ◌^◌, ◌<◌, nat_lt, ◌⊎◌, List, Bool, true, false, Option, Some, None, is_some, IsSome, option_map, unwrap_or}
use Rattle.std.specs.Option.{option_or, option_and_then}
use Rattle.std.specs.Ordering.{nat_cmp}
use Rattle.std.specs.BTreeMap.{is_at}
use Rattle.std.specs.Map.{lookup}
use Rattle.std.specs.List.{list_any, range_with_len}
use Rattle.sector_model.specs.declared.run.TheConstants.{BLOCK_SECTORS}
use Rattle.sector_model.specs.declared.sector.Sector.{Sector}
use Rattle.snapshot_chain.specs.declared.layer.TheConstants.{SPREAD}
use Rattle.snapshot_chain.specs.Page128.{PageState, no_sectors, sector_at, run_at, IsPutInPlace}

abbrev pub LayerState : Type 0
LayerState = List (ℕ × PageState)

-- the key under which the page of a block stands: blocks are spread over the keys by an odd factor,
-- so that a tree fills about alike whether they are written in order or in no order; a number that
-- is no block of 64 bits is its own key
unfoldable pub key_of : (block : ℕ) → ℕ
key_of block = if nat_lt block (2 ^ 64) then block * SPREAD % 2 ^ 64 else block

-- what is kept under the key of a block: its page, or a page without sectors, which only keeps the
-- slot
abbrev pub slot_of : LayerState → (block : ℕ) → Option PageState
slot_of layer block = lookup (is_at (nat_cmp (key_of block))) layer

-- the page, where it has a sector
abbrev pub if_written : PageState → Option PageState
if_written page = if page.mask == 0 then None else Some page

-- the page of a block of which the layer has a sector
abbrev pub page_of : LayerState → (block : ℕ) → Option PageState
page_of layer block = option_and_then if_written (slot_of layer block)

-- what a page has at an offset, where there is a page
abbrev pub sector_of : Option PageState → (offset : ℕ) → Option Sector
sector_of None offset = None
sector_of (Some page) offset = sector_at page offset

-- what the layer has at an offset of a block
abbrev pub sector_in : LayerState → (block offset : ℕ) → Option Sector
sector_in layer block offset = sector_of (slot_of layer block) offset

-- the layer has a sector of the block
abbrev pub has_sector : LayerState → (block : ℕ) → Bool
has_sector layer block =
    list_any (λ offset. is_some (sector_in layer block offset)) (range_with_len 0 BLOCK_SECTORS)

-- each page is of a block that begins below the capacity
abbrev pub IsWithin : (capacity : ℕ) → LayerState → Type 0
IsWithin c layer = (block : ℕ) → IsSome (slot_of layer block) → BLOCK_SECTORS * block < c

-- ---- writes

-- both layers have the same sectors
abbrev pub HasSame : (old new : LayerState) → Type 0
HasSame old new = (block offset : ℕ) → offset < BLOCK_SECTORS
    → sector_in new block offset ≡ sector_in old block offset

-- the layer has the run's sectors from sector `first` of the disk on, and elsewhere what the old
-- one has
abbrev pub IsWritten : (old new : LayerState) (first : ℕ) → List Sector → Type 0
IsWritten old new first sectors = (block offset : ℕ) → offset < BLOCK_SECTORS
    → sector_in new block offset
    ≡ option_or (run_at first sectors (BLOCK_SECTORS * block + offset))
    (sector_in old block offset)

-- the page of a block took sectors in place, or is as it was; without a page the answer is false,
-- and there is none after
abbrev pub IsPutAt : (added : Bool) (offset : ℕ) → List Sector
    → (old new : Option PageState) → Type 0
IsPutAt added offset sectors None new = (added ≡ false) × (new ≡ None)
IsPutAt added offset sectors (Some old) None = ⊥
IsPutAt added offset sectors (Some old) (Some new) =
    IsPutInPlace added offset sectors old new

-- the run is written, or the layer has the same sectors
abbrev pub IsWrittenIf : (added : Bool) (old new : LayerState) (first : ℕ) → List Sector → Type 0
IsWrittenIf true old new first sectors = IsWritten old new first sectors
IsWrittenIf false old new first sectors = HasSame old new

-- each sector that the layer had is the run's where the run has one, and it has no other
abbrev pub IsWrittenOver : (old new : LayerState) (first : ℕ) → List Sector → Type 0
IsWrittenOver old new first sectors = (block offset : ℕ) → offset < BLOCK_SECTORS
    → sector_in new block offset
    ≡ option_map (unwrap_or (run_at first sectors (BLOCK_SECTORS * block + offset)))
    (sector_in old block offset)

-- the page has what the layer has after a write of the run; without a page, the layer has a sector
-- wherever the run has one
abbrev pub IsGrownAt : LayerState → (block first : ℕ) → List Sector → (offset : ℕ)
    → Option PageState → Type 0
IsGrownAt layer block first sectors offset (Some page) =
    sector_at page offset
    ≡ option_or (run_at first sectors (BLOCK_SECTORS * block + offset))
    (sector_in layer block offset)
IsGrownAt layer block first sectors offset None =
    IsSome (run_at first sectors (BLOCK_SECTORS * block + offset))
    → IsSome (sector_in layer block offset)

-- the pages of the blocks in which a write of the run needs memory
abbrev pub AreGrown : LayerState → (first : ℕ) → List Sector → (pages : LayerState) → Type 0
AreGrown layer first sectors pages = (block offset : ℕ) → offset < BLOCK_SECTORS
    → IsGrownAt layer block first sectors offset (slot_of pages block)

-- ---- slots

-- each block of the old layer has a slot in the new one
abbrev pub KeepsSlots : (old new : LayerState) → Type 0
KeepsSlots old new = (block : ℕ) → IsSome (slot_of old block) → IsSome (slot_of new block)

-- the slot is as it was, or a new one of a block of the other layer
abbrev pub IsSlotAdded : (other old new : Option PageState) → Type 0
IsSlotAdded other old new =
    (new ≡ old) ⊎ (IsSome other × (old ≡ None) × (new ≡ Some no_sectors))

-- the new layer is the old one, and has besides empty slots for blocks of the other
abbrev pub AddsSlots : (other old new : LayerState) → Type 0
AddsSlots other old new = (block : ℕ)
    → IsSlotAdded (slot_of other block) (slot_of old block) (slot_of new block)

-- ---- merges

-- the new layer has what the upper one has, and elsewhere what the lower one has
abbrev pub IsMerged : (lower upper new : LayerState) → Type 0
IsMerged lower upper new = (block offset : ℕ) → offset < BLOCK_SECTORS
    → sector_in new block offset
    ≡ option_or (sector_in upper block offset) (sector_in lower block offset)

-- no page, or one without sectors
abbrev pub IsBlank : Option PageState → Type 0
IsBlank None = Unit {0}
IsBlank (Some page) = page.mask ≡ 0

-- the page has what the upper one has, and elsewhere what the lower one has
abbrev pub IsJoinAt : (lower upper : Option PageState) → PageState → Type 0
IsJoinAt lower upper page = (offset : ℕ) → offset < BLOCK_SECTORS → sector_at page offset
    ≡ option_or (sector_of upper offset) (sector_of lower offset)

-- a slot for the page of a block that is joined of two layers': empty, or with that page
abbrev pub IsOpenAt : (lower upper room : Option PageState) → Type 0
IsOpenAt lower upper None = (lower ≡ None) × (upper ≡ None)
IsOpenAt lower upper (Some page) = (page.mask ≡ 0) ⊎ IsJoinAt lower upper page

-- the same, and empty only where one of the layers has no sector of the block
abbrev pub IsRoomAt : (lower upper room : Option PageState) → Type 0
IsRoomAt lower upper None = (lower ≡ None) × (upper ≡ None)
IsRoomAt lower upper (Some page) =
    ((page.mask ≡ 0) × (IsBlank lower ⊎ IsBlank upper)) ⊎ IsJoinAt lower upper page

-- room for the layer that is joined of two
pub record IsRoomFor (lower upper room : LayerState) : Type 0 where
  pub each : (block : ℕ)
      → IsRoomAt (slot_of lower block) (slot_of upper block) (slot_of room block)
  pub within : (c : ℕ) → IsWithin c lower → IsWithin c upper → IsWithin c room

-- a page goes into its slot where that is empty
abbrev pub after_taking : (page slot : Option PageState) → Option PageState
after_taking None slot = slot
after_taking (Some page) None = None
after_taking (Some page) (Some slot) = if slot.mask == 0 then Some page else Some slot

-- each page of the other layer goes into its slot where that is empty
abbrev pub TakesPages : (other old new : LayerState) → Type 0
TakesPages other old new = (block : ℕ)
    → slot_of new block ≡ after_taking (slot_of other block) (slot_of old block)
