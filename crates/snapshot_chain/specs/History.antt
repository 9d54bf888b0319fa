-- What happened to a disk, one event after another, and what a chain that stands for it holds.
use Rattle.std.specs.Prelude.{◌≡◌, ℕ, ◌<◌, ◌≤◌, ◌==◌, ◌↔◌, List, [], ◌∷◌, ◌++◌, map, filter, take, Bool, false, not, Option, Some, None, IfSome}
use Rattle.std.specs.List.{fold, filter_map, list_any, position_or_len, All, AllPairs}
use Rattle.sector_model.specs.Disk.{Write, fold_writes}
use Rattle.sector_model.specs.Run.{touched_blocks, areas_of}
use Rattle.sector_model.specs.declared.sector.Sector.{Sector}
use Rattle.sector_model.specs.declared.run.Run.{Run}
use Rattle.snapshot_chain.specs.Chain.{ChainState, Snapshot, snapshot_of}

pub data DiskEvent : Type 0 where
  Written : (write : Write) → DiskEvent
  Frozen : (id : ℕ) → DiskEvent
  Merged : (id : ℕ) → DiskEvent

abbrev pub write_in : DiskEvent → Option Write
write_in (Written write) = Some write
write_in (Frozen id) = None
write_in (Merged id) = None

abbrev pub frozen_in : DiskEvent → Option ℕ
frozen_in (Frozen id) = Some id
frozen_in (Written write) = None
frozen_in (Merged id) = None

abbrev pub freezes : ℕ → DiskEvent → Bool
freezes s (Frozen id) = id == s
freezes s (Written write) = false
freezes s (Merged id) = false

-- the writes, in order
abbrev pub writes_in : List DiskEvent → List Write
writes_in history = filter_map write_in history

-- the ids that were frozen, in order
abbrev pub frozen_ids : List DiskEvent → List ℕ
frozen_ids history = filter_map frozen_in history

-- what the events leave of a disk of c sectors
abbrev pub present : ℕ → List DiskEvent → List Sector
present c history = fold_writes c (writes_in history)

-- the events before snapshot s was frozen
abbrev pub before_freeze : ℕ → List DiskEvent → List DiskEvent
before_freeze s history = take (position_or_len (freezes s) history) history

abbrev pub frozen : (c s : ℕ) → List DiskEvent → List Sector
frozen c s history = present c (before_freeze s history)

-- the blocks that were written before snapshot s, ascending, and their areas
abbrev pub touched_before : (c s : ℕ) → List DiskEvent → List ℕ
touched_before c s history = touched_blocks c (writes_in (before_freeze s history))

abbrev pub allocated : (c s : ℕ) → List DiskEvent → List Run
allocated c s history = areas_of c (touched_before c s history)

-- the live snapshots: those that were frozen and not merged since, in the order of their freezes
abbrev pub live_after : (live : List ℕ) → DiskEvent → List ℕ
live_after live (Frozen id) = live ++ id ∷ []
live_after live (Merged id) = filter (λ s. not (s == id)) live
live_after live (Written write) = live

abbrev pub live_snapshots : List DiskEvent → List ℕ
live_snapshots history = fold live_after [] history

abbrev pub is_live : ℕ → List DiskEvent → Bool
is_live s history = list_any (λ id. id == s) (live_snapshots history)

-- the snapshot has what s froze
pub record IsFrozenAs (c s : ℕ) (history : List DiskEvent) (snapshot : Snapshot) : Type 0 where
  pub contents : snapshot.contents ≡ frozen c s history
  pub blocks : snapshot.blocks ≡ touched_before c s history

-- the chain holds what the history leaves, now and at each live snapshot, and the history is one of
-- a disk: each freeze is under an id above all earlier ones, so no snapshot stands twice among the
-- live ones
pub record StandsFor (chain : ChainState) (history : List DiskEvent) : Type 0 where
  pub present : chain.present ≡ present chain.capacity history
  pub blocks : chain.blocks ≡ touched_blocks chain.capacity (writes_in history)
  pub ascending : AllPairs (λ earlier later. earlier < later) (frozen_ids history)
  pub distinct : AllPairs (λ earlier later. earlier < later) (live_snapshots history)
  pub live : map (λ snapshot. snapshot.id) chain.snapshots ≡ live_snapshots history
  pub frozen : (s : ℕ) → IfSome (snapshot_of s chain) (IsFrozenAs chain.capacity s history)
  -- an id is free exactly where it is above all that were frozen
  pub free : (id : ℕ) → (chain.free_from ≤ id) ↔ All (λ s. s < id) (frozen_ids history)

-- whatever the old value stood for, the new one stands for with one event more
abbrev pub Takes : DiskEvent → (old new : ChainState) → Type 0
Takes event old new = (history : List DiskEvent) → StandsFor old history
    → StandsFor new (history ++ event ∷ [])
