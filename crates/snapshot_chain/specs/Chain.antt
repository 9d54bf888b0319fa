-- What a chain holds: the contents now and at each live snapshot, the blocks that were written by
-- then, and for which next call room was made. Layers are how it is kept, and no caller sees them.
use Rattle.std.specs.Prelude.{◌≡◌, ℕ, ◌+◌, ◌==◌, List, [], ◌∷◌, ◌++◌, filter, Bool, false, not, Option, Some, None, is_some, is_none, option_map, Result, Ok, Err, ⊤, if◌then◌else◌}
use Rattle.std.specs.List.{find}
use Rattle.sector_model.specs.Disk.{Write, after_write, fresh_disk}
use Rattle.sector_model.specs.Run.{is_within, range_of, with_met}
use Rattle.sector_model.specs.declared.sector.Sector.{Sector}
use Rattle.snapshot_chain.specs.declared.chain.ChainRefused.{ChainRefused}
use Rattle.snapshot_chain.specs.declared.chain.ChainRefused.TheVariants.{UnknownSnap, Range, NoMemory}

-- a live snapshot: what it froze, and the blocks that were written before it, ascending
pub record Snapshot : Type 0 where
  pub id : ℕ
  pub contents : List Sector
  pub blocks : List ℕ

pub record ChainState : Type 0 where
  pub capacity : ℕ
  pub present : List Sector
  pub blocks : List ℕ
  pub snapshots : List Snapshot
  pub free_from : ℕ  -- no snapshot had an id from here on
  pub freeze_room : Bool  -- the next freeze takes no memory
  pub merge_room : Option ℕ  -- the snapshot whose merge takes no memory

-- a disk that was never written
abbrev pub fresh : ℕ → ChainState
fresh c = record {
  capacity = c;
  present = fresh_disk c;
  blocks = [];
  snapshots =
      [];
  free_from = 0;
  freeze_room = false;
  merge_room = None;
}

abbrev pub snapshot_of : ℕ → ChainState → Option Snapshot
snapshot_of id chain = find (λ s. s.id == id) chain.snapshots

-- the contents of a snapshot, or without one those now
abbrev pub contents_of : Option ℕ → ChainState → Option (List Sector)
contents_of None chain = Some chain.present
contents_of (Some id) chain = option_map (λ s. s.contents) (snapshot_of id chain)

abbrev pub after_writing : Write → ChainState → ChainState
after_writing w chain = record chain {
  present = after_write chain.present w;
  blocks = with_met chain.capacity (range_of w) chain.blocks;
  merge_room = None;
}

abbrev pub after_freezing : ℕ → ChainState → ChainState
after_freezing id chain = record chain {
  snapshots = chain.snapshots ++ record {
    id = id;
    contents = chain.present;
    blocks =
        chain.blocks;
  } ∷ [];
  free_from = id + 1;
  freeze_room = false;
  merge_room = None;
}

abbrev pub after_merging : ℕ → ChainState → ChainState
after_merging id chain = record chain {
  snapshots =
      filter (λ s. not (s.id == id)) chain.snapshots;
  merge_room = None;
}

-- why a call is refused, but for want of memory
abbrev pub write_refusal : ChainState → (first count : ℕ) → Option ChainRefused
write_refusal chain first count = if is_within chain.capacity first count then None else Some Range

abbrev pub snapshot_refusal : ChainState → ℕ → Option ChainRefused
snapshot_refusal chain id = if is_some (snapshot_of id chain) then None else Some UnknownSnap

abbrev pub read_refusal : ChainState → Option ℕ → (first count : ℕ) → Option ChainRefused
read_refusal chain id first count =
    if is_none (contents_of id chain) then Some UnknownSnap else write_refusal chain first count

-- a refused call changes nothing; after want of memory the room for a merge is gone
abbrev pub IsKeptAfter : {T : Type 0} → Result T ChainRefused → (old new : ChainState) → Type 0
IsKeptAfter (Ok answer) old new = ⊤
IsKeptAfter (Err NoMemory) old new = new ≡ record old { merge_room = None }
IsKeptAfter (Err why) old new = new ≡ old
