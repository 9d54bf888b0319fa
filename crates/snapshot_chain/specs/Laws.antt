-- What the contents that a chain holds are to the history for which it stands.
use Rattle.std.specs.Prelude.{◌≡◌, ℕ, List, length, Bool, true, false, Option, Some, None, IsNone, IsSomeAnd}
use Rattle.sector_model.specs.Run.{areas_of}
use Rattle.snapshot_chain.specs.Chain.{ChainState, snapshot_of, contents_of}
use Rattle.snapshot_chain.specs.History.{DiskEvent, StandsFor, present, frozen, allocated, live_snapshots, is_live}

pub record HoldsTheFold (chain : ChainState) (history : List DiskEvent) : Type 0 where
  pub now : contents_of None chain ≡ Some (present chain.capacity history)
  pub live : (s : ℕ) → is_live s history ≡ true
      → contents_of (Some s) chain ≡ Some (frozen chain.capacity s history)
  pub areas : (s : ℕ) → is_live s history ≡ true
      → IsSomeAnd (snapshot_of s chain) (λ snapshot. areas_of chain.capacity snapshot.blocks
      ≡ allocated chain.capacity s history)
  pub count : length chain.snapshots ≡ length (live_snapshots history)
  pub gone : (s : ℕ) → is_live s history ≡ false → IsNone (snapshot_of s chain)

abbrev pub ReadsTheFold : Type 0
ReadsTheFold = (chain : ChainState) (history : List DiskEvent) → StandsFor chain history
    → HoldsTheFold chain history

-- the room for later calls is no part of what a chain stands for
abbrev pub RoomIsNoPart : Type 0
RoomIsNoPart =
    (chain : ChainState) (history : List DiskEvent) (freeze_room : Bool) (merge_room : Option ℕ)
    → StandsFor chain history
    → StandsFor (record chain { freeze_room = freeze_room; merge_room = merge_room }) history
