-- How a chain is kept: layers, and the ids under which all but the last were frozen.
use Rattle.std.specs.Prelude.{◌≡◌, ℕ, ◌+◌, ◌<◌, List, [], ◌∷◌, length, nat_eq, Bool, true, false, Option, Some, IfSome, option_map}
use Rattle.std.specs.List.{list_any, position, AllByRecursion}
use Rattle.std.specs.Vec.{vec_len, vec_capacity}
use Rattle.std.specs.declared.vec.Vec.{Vec}
use Rattle.std.specs.declared.alloc.Global.{Global}
use Rattle.snapshot_chain.specs.declared.chain.MergeRoom.{MergeRoom}
use Rattle.snapshot_chain.specs.Chain.{ChainState}
use Rattle.snapshot_chain.specs.Layer.{LayerState, IsWithin, IsRoomFor}
use Rattle.snapshot_chain.specs.Layers.{contents_in, blocks_in, snapshots_in, layer_at}

abbrev pub state_of : (c : ℕ) (layers : List LayerState) (ids : List ℕ) (free_from : ℕ)
    (freeze_room : Bool) (merge_room : Option ℕ) → ChainState
state_of c layers ids free_from freeze_room merge_room = record {
  capacity = c;
  present = contents_in c layers;
  blocks = blocks_in c layers;
  snapshots = snapshots_in c [] ids layers;
  free_from = free_from;
  freeze_room = freeze_room;
  merge_room = merge_room;
}

-- no two ids are one, and each is below a bound
abbrev pub IdsDiffer : ℕ → List ℕ → Type 0
IdsDiffer bound [] = Unit {0}
IdsDiffer bound (id ∷ ids) = (id < bound) × (list_any (nat_eq id) ids ≡ false) × IdsDiffer bound ids

-- the snapshot for whose merge there is room
abbrev pub room_id : Option MergeRoom → Option ℕ
room_id room = option_map (λ r. r.id) room

-- the room is for the layer of its snapshot and the next one
pub record HasMergeRoom (layers : List LayerState) (ids : List ℕ) (room : MergeRoom) : Type 0 where
  pub index : ℕ
  pub at : position (nat_eq room.id) ids ≡ Some index
  pub fits : IsRoomFor (layer_at layers index) (layer_at layers (index + 1)) room.pages

pub record IsKept (c : ℕ) (layers : Vec LayerState Global) (ids : Vec ℕ Global)
    (free_from : ℕ) (freeze_room : Bool) (merge_room : Option MergeRoom) : Type 0 where
  pub long : length layers.items ≡ length ids.items + 1
  pub distinct : IdsDiffer free_from ids.items
  pub within : AllByRecursion (IsWithin c) layers.items
  pub can_freeze : freeze_room ≡ true → (vec_len ids < vec_capacity ids)
      × (vec_len layers < vec_capacity layers)
  pub can_merge : IfSome merge_room (HasMergeRoom layers.items ids.items)
