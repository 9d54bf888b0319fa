-- What a list of layers holds, the oldest of them first.
use Rattle.std.specs.Prelude.{◌≡◌, ℕ, ◌+◌, ◌/◌, ◌%◌, List, [], ◌∷◌, ◌++◌, map, slice_set, slice_index_or, Bool, Option, None, is_some, unwrap_or}
use Rattle.std.specs.Option.{option_or}
use Rattle.std.specs.List.{list_any, range_with_len, remove}
use Rattle.sector_model.specs.Sector.{zero_sector}
use Rattle.sector_model.specs.Run.{blocks_where}
use Rattle.sector_model.specs.declared.run.TheConstants.{BLOCK_SECTORS}
use Rattle.sector_model.specs.declared.sector.Sector.{Sector}
use Rattle.snapshot_chain.specs.Chain.{Snapshot}
use Rattle.snapshot_chain.specs.Layer.{LayerState, sector_in, IsWithin, IsMerged}

-- the newest layer's sector, else what the layers below have
abbrev pub found : List LayerState → (block offset : ℕ) → Option Sector
found [] block offset = None
found (layer ∷ layers) block offset =
    option_or (found layers block offset) (sector_in layer block offset)

-- sector s of the disk, zero where no layer has it
abbrev pub sector_found : List LayerState → ℕ → Sector
sector_found layers s = unwrap_or (found layers (s / BLOCK_SECTORS) (s % BLOCK_SECTORS)) zero_sector

abbrev pub contents_in : ℕ → List LayerState → List Sector
contents_in c layers = map (sector_found layers) (range_with_len 0 c)

-- a layer has a sector of the block
abbrev pub has_found : List LayerState → ℕ → Bool
has_found layers block =
    list_any (λ offset. is_some (found layers block offset)) (range_with_len 0 BLOCK_SECTORS)

-- the blocks of a disk of c sectors of which a layer has a sector, ascending
abbrev pub blocks_in : ℕ → List LayerState → List ℕ
blocks_in c layers = blocks_where c (has_found layers)

abbrev pub snapshot_in : (c id : ℕ) → List LayerState → Snapshot
snapshot_in c id layers = record {
  id = id;
  contents = contents_in c layers;
  blocks =
      blocks_in c layers;
}

-- the snapshots: each id with the layers up to the one that was frozen under it
abbrev pub snapshots_in : ℕ → (below : List LayerState) (ids : List ℕ) (layers : List LayerState)
    → List Snapshot
snapshots_in c below [] layers = []
snapshots_in c below (id ∷ ids) [] = []
snapshots_in c below (id ∷ ids) (layer ∷ layers) =
    snapshot_in c id (below ++ layer ∷ []) ∷ snapshots_in c (below ++ layer ∷ []) ids layers

abbrev pub layer_at : List LayerState → ℕ → LayerState
layer_at layers index = slice_index_or layers index []

-- the layer at the index and the next one are one
pub record MergedAt (index : ℕ) (old new : List LayerState) : Type 0 where
  pub others : new ≡ slice_set (remove old index) index (layer_at new index)
  pub merged : IsMerged (layer_at old index) (layer_at old (index + 1)) (layer_at new index)
  pub within : (c : ℕ) → IsWithin c (layer_at old index) → IsWithin c (layer_at old (index + 1))
      → IsWithin c (layer_at new index)
