-- The source disk of a move, write by write, and what is frozen of it.
use Rattle.std.proofs.Common.{◌≡◌, ℕ, ◌+◌, ◌*◌, ◌/◌, ◌^◌, ◌<◌, ◌≤◌, min, max, Bool, false, cond, leb, ◌||◌, ◌&&◌, List, [], ◌∷◌, ◌++◌, length, get_or, take, drop, Option, Some, None, subst, sym, ap, ◌∙◌, add-zero, arith}
use Rattle.std.specs.Prelude.{replicate, All, unwrap_or, option_map, is_none, IfSome, slice_range, ◌==◌}
use Rattle.std.specs.List.{list_any, fold, find, range_with_len, AllByRecursion}
use Rattle.std.proofs.Math.Bool.{or-false}
use Rattle.std.proofs.lemmas.Bool.{lt-ltb, le-ltb, le-leb}
use Rattle.std.proofs.lemmas.Grind.{fold-append}
use Rattle.std.proofs.lemmas.List.{map-append, take_more, take-append-drop, append-nil, length-replicate, get_or-replicate}
use Rattle.std.proofs.lemmas.List.Folds.{list_any-append}
use Rattle.std.proofs.lemmas.List.Elements.{recursion_from_All, All-from_recursion}
use Rattle.std.proofs.lemmas.Option.{unwrap_or-slice_get}
use Rattle.sector_model.specs.Sector.{zero_sector, filled}
use Rattle.sector_model.specs.Disk.{Fits, after_write, fresh_disk}
use Rattle.sector_model.specs.Run.{block_count, touches, touched_blocks, with_met, range_of, is_within, in_blocks, areas_of, AreSpaced, end_of}
use Rattle.sector_model.specs.declared.run.Run.{Run}
use Rattle.sector_model.specs.declared.sector.Sector.{Sector}
use Rattle.sector_model.proofs.Among.{none_pass}
use Rattle.sector_model.proofs.Exact.{in_runs_of}
use Rattle.sector_model.proofs.Spacing.{runs_of-spaced}
use Rattle.sector_model.proofs.WritesKept.{length-after_writes, untouched}
use Rattle.sector_model.proofs.Touched.{filter-range_same, not_touched}
use Rattle.basics.specs.Replaced.{replaced}
use Rattle.snapshot_chain.specs.Chain.{Snapshot}
use Rattle.snapshot_chain.specs.declared.chain.ChainRefused.TheVariants.{UnknownSnap, Range}
use Rattle.snapshot_chain.proofs.Touching.{touched_push}
use Rattle.source_disk.specs.SourceDisk.{SourceDiskState, capacity_of, contents_of, blocks_of, fresh, after_writing, after_freezing}
use Rattle.source_disk.specs.Refusals.{read_refusal}
use Rattle.cmd_json.specs.declared.command.MoveWrite.{MoveWrite}
use Rattle.migrate_server.specs.Copy.{IsClearOutside}
use Rattle.migrate_server.specs.WrittenDisk.{disk_write, disk_writes, written_disk, AreWithin, IsWritten, IsFrozenAfter, frozen_sectors, IsFrozen}
use Rattle.migrate_server.specs.declared.written_disk.TheConstants.{SNAPSHOT}
use Rattle.migrate_server.specs.declared.written_disk.WrittenDisk.{WrittenDisk}

-- ---- sectors

-- the writes as writes of the disk lie within it too
all_fit : (c : ℕ) (ws : List MoveWrite) → AllByRecursion (λ w. w.first + w.count ≤ c) ws
    → AllByRecursion (Fits c) (disk_writes ws)
all_fit c [] within = tt
all_fit c (w ∷ ws) within = (
  let e = length-replicate w.count (filled w.fill) in
      omega (arith, e, within.0),
  all_fit c ws within.1,
)

pub length-fold : (ws : List MoveWrite) (disk : List Sector) (c : ℕ) → length disk ≡ c
    → AllByRecursion (λ w. w.first + w.count ≤ c) ws
    → length (fold after_write disk (disk_writes ws)) ≡ c
length-fold ws disk c long within =
    length-after_writes c disk (disk_writes ws) long (all_fit c ws within)

-- writes that touch nothing of a sector's block leave the sector
same_sector : (ws : List MoveWrite) (disk : List Sector) (s c : ℕ) → length disk ≡ c
    → AllByRecursion (λ w. w.first + w.count ≤ c) ws
    → list_any (touches (s / 128)) (disk_writes ws) ≡ false
    → get_or (fold after_write disk (disk_writes ws)) s zero_sector ≡ get_or disk s zero_sector
same_sector ws disk s c long within none =
    sym (unwrap_or-slice_get (fold after_write disk (disk_writes ws)) s zero_sector)
    ∙ ap (λ o. unwrap_or o zero_sector)
    (untouched c disk (disk_writes ws) s long (all_fit c ws within) none)
    ∙ unwrap_or-slice_get disk s zero_sector

pub disk_clear : (c : ℕ) (ws : List MoveWrite) → All (λ w. w.first + w.count ≤ c) ws
    → IsClearOutside (areas_of c (touched_blocks c (disk_writes ws))) (written_disk c ws)
disk_clear c ws within s below outside =
    let long : length (fresh_disk c) ≡ c = length-replicate c zero_sector in
    let each = recursion_from_All (λ w. w.first + w.count ≤ c) ws within in
    let inside : s < c = let e = length-fold ws (fresh_disk c) c long each in omega arith in
    let blocks = touched_blocks c (disk_writes ws) in
    let not_in : in_blocks blocks s ≡ false =
    sym (ap (λ b. b && in_blocks blocks s) (lt-ltb s c inside))
    ∙ sym (in_runs_of (in_blocks blocks) c s) ∙ outside in
    same_sector ws (fresh_disk c) s c long each (not_touched c s (disk_writes ws) inside not_in)
    ∙ get_or-replicate c s zero_sector zero_sector inside

-- ---- a source disk, write by write

disk-push : (c : ℕ) (ws : List MoveWrite) (w : MoveWrite)
    → after_write (written_disk c ws) (disk_write w) ≡ written_disk c (ws ++ w ∷ [])
disk-push c ws w =
    sym (ap (fold after_write (fresh_disk c)) (map-append disk_write ws (w ∷ []))
    ∙ fold-append after_write (fresh_disk c) (disk_writes ws) (disk_write w ∷ []))

blocks-push : (c : ℕ) (ws : List MoveWrite) (w : MoveWrite)
    → with_met c (range_of (disk_write w)) (touched_blocks c (disk_writes ws))
    ≡ touched_blocks c (disk_writes (ws ++ w ∷ []))
blocks-push c ws w = touched_push c (disk_writes ws) (disk_write w)
    ∙ ap (touched_blocks c) (sym (map-append disk_write ws (w ∷ [])))

pub written_none : (c machine disk : ℕ) (d : SourceDiskState) → d ≡ fresh machine disk c
    → IsWritten c [] d
written_none c machine disk d is = record {
  sized = ap capacity_of is;
  present = ap (λ (x : SourceDiskState). x.chain.present) is;
  blocks = ap (λ (x : SourceDiskState). x.chain.blocks) is
      ∙ sym (none_pass (range_with_len 0 (block_count c)));
  snapshots = ap (λ (x : SourceDiskState). x.chain.snapshots) is;
  free_from = ap (λ (x : SourceDiskState). x.chain.free_from) is;
}

pub written_more : (c : ℕ) (ws : List MoveWrite) (w : MoveWrite) (sectors : List Sector)
    (old new : SourceDiskState) → sectors ≡ (disk_write w).sectors
    → new ≡ after_writing w.first sectors old → IsWritten c ws old → IsWritten c (ws ++ w ∷ []) new
written_more c ws w sectors old new same is written = record {
  sized = ap capacity_of is ∙ written.sized;
  present = ap (λ (x : SourceDiskState). x.chain.present) is
      ∙ ap (replaced old.chain.present w.first) same
      ∙ ap (λ xs. after_write xs (disk_write w)) written.present ∙ disk-push c ws w;
  blocks = ap (λ (x : SourceDiskState). x.chain.blocks) is
      ∙ ap (λ (xs : List Sector). with_met (capacity_of old)
      (record { first = w.first; count = length xs }) old.chain.blocks) same
      ∙ ap (λ n. with_met n (range_of (disk_write w)) old.chain.blocks) written.sized
      ∙ ap (with_met c (range_of (disk_write w))) written.blocks ∙ blocks-push c ws w;
  snapshots = ap (λ (x : SourceDiskState). x.chain.snapshots) is ∙ written.snapshots;
  free_from = ap (λ (x : SourceDiskState). x.chain.free_from) is ∙ written.free_from;
}

-- a write without sectors

nothing_replaced : (disk : List Sector) (first n : ℕ) (x : Sector) → n ≡ 0
    → replaced disk first (replicate n x) ≡ disk
nothing_replaced disk first n x none =
    ap (λ k. replaced disk first (replicate k x)) none
    ∙ ap (λ front. front ++ drop (first + 0) disk) (append-nil (take first disk))
    ∙ ap (λ k. take first disk ++ drop k disk) (add-zero first)
    ∙ take-append-drop first disk

touches_nothing : (b : ℕ) (w : MoveWrite) → w.count ≡ 0 → touches b (disk_write w) ≡ false
touches_nothing b w none =
    le-ltb (max (128 * b) w.first) (min (128 * b + 128) (w.first + length (disk_write w).sectors))
    (let long = length-replicate w.count (filled w.fill) in omega (arith, none, long))

pub written_nothing : (c : ℕ) (ws : List MoveWrite) (w : MoveWrite) (d : SourceDiskState)
    → w.count ≡ 0 → IsWritten c ws d → IsWritten c (ws ++ w ∷ []) d
written_nothing c ws w d none written = record {
  sized = written.sized;
  present = written.present
      ∙ sym (nothing_replaced (written_disk c ws) w.first w.count (filled w.fill) none)
      ∙ disk-push c ws w;
  blocks = written.blocks
      ∙ filter-range_same (λ b. list_any (touches b) (disk_writes ws))
      (λ b. list_any (touches b) (disk_writes ws ++ disk_write w ∷ [])) 0 (block_count c)
      (λ b from below. sym (list_any-append (touches b) (disk_writes ws) (disk_write w ∷ [])
      ∙ ap (λ x. list_any (touches b) (disk_writes ws) || (x || false)) (touches_nothing b w none)
      ∙ or-false (list_any (touches b) (disk_writes ws))))
      ∙ ap (touched_blocks c) (sym (map-append disk_write ws (w ∷ [])));
  snapshots = written.snapshots;
  free_from = written.free_from;
}

-- the same along a list of writes
pub written_at : (c : ℕ) (ws : List MoveWrite) (i : ℕ) (w : MoveWrite) (d : SourceDiskState)
    → i < length ws → IsWritten c (take i ws ++ get_or ws i w ∷ []) d
    → IsWritten c (take (i + 1) ws) d
written_at c ws i w d less written =
    subst (λ (xs : List MoveWrite). IsWritten c xs d) (sym (take_more ws i w less)) written

-- ---- what is frozen then

abbrev taken_of : SourceDiskState → Snapshot
taken_of d = record { id = SNAPSHOT; contents = d.chain.present; blocks = d.chain.blocks }

pub frozen_after : (c : ℕ) (ws : List MoveWrite) (old new : SourceDiskState)
    → new ≡ after_freezing SNAPSHOT old → IsWritten c ws old → IsFrozenAfter c ws new
frozen_after c ws old new is written = record {
  sized = ap capacity_of is ∙ written.sized;
  contents = ap (contents_of (Some SNAPSHOT)) is
      ∙ ap (λ (xs : List Snapshot). option_map (λ s. s.contents)
      (find (λ s. s.id == SNAPSHOT) (xs ++ taken_of old ∷ []))) written.snapshots
      ∙ ap (λ (xs : List Sector). Some xs) written.present;
  blocks = ap (blocks_of SNAPSHOT) is
      ∙ ap (λ (xs : List Snapshot). option_map (λ s. s.blocks)
      (find (λ s. s.id == SNAPSHOT) (xs ++ taken_of old ∷ []))) written.snapshots
      ∙ ap (λ (xs : List ℕ). Some xs) written.blocks;
}

pub sectors_frozen : (c : ℕ) (ws : List MoveWrite) (disk : WrittenDisk)
    → IsFrozenAfter c ws disk.source → frozen_sectors disk ≡ written_disk c ws
sectors_frozen c ws disk frozen = ap (λ (o : Option (List Sector)). unwrap_or o []) frozen.contents

length-written : (c : ℕ) (ws : List MoveWrite) → AreWithin c ws → length (written_disk c ws) ≡ c
length-written c ws within =
    length-fold ws (fresh_disk c) c (length-replicate c zero_sector)
    (recursion_from_All (λ w. w.first + w.count ≤ c) ws within)

pub length-frozen : (c : ℕ) (ws : List MoveWrite) (disk : WrittenDisk) → AreWithin c ws
    → IsFrozenAfter c ws disk.source → length (frozen_sectors disk) ≡ c
length-frozen c ws disk within frozen =
    ap length (sectors_frozen c ws disk frozen) ∙ length-written c ws within

-- what the disk tells as allocated
pub areas_frozen : (c : ℕ) (ws : List MoveWrite) (d : SourceDiskState) (runs : List Run)
    → IsFrozenAfter c ws d
    → IfSome (blocks_of SNAPSHOT d) (λ blocks. runs ≡ areas_of (capacity_of d) blocks)
    → runs ≡ areas_of c (touched_blocks c (disk_writes ws))
areas_frozen c ws d runs frozen told =
    let is : runs ≡ areas_of (capacity_of d) (touched_blocks c (disk_writes ws)) =
    subst (λ (o : Option (List ℕ)). IfSome o (λ blocks. runs ≡ areas_of (capacity_of d) blocks))
    frozen.blocks told in
    is ∙ ap (λ n. areas_of n (touched_blocks c (disk_writes ws))) frozen.sized

pub is_frozen : (c : ℕ) (ws : List MoveWrite) (disk : WrittenDisk) → c < 2 ^ 64 → AreWithin c ws
    → IsFrozenAfter c ws disk.source
    → disk.allocated ≡ areas_of c (touched_blocks c (disk_writes ws)) → IsFrozen disk
is_frozen c ws disk fits within frozen areas =
    let sectors = sectors_frozen c ws disk frozen in
    let long = length-frozen c ws disk within frozen in
    let blocks = touched_blocks c (disk_writes ws) in
    let spaced = runs_of-spaced (in_blocks blocks) c fits in
    record {
      live = frozen.contents ∙ ap (λ (xs : List Sector). Some xs) (sym sectors);
      long = long ∙ sym frozen.sized;
      spaced = subst AreSpaced (sym areas) spaced.spaced;
      inside = subst (λ (n : ℕ). All (λ run. end_of run ≤ n) disk.allocated) (sym long)
          (subst (λ (runs : List Run). All (λ run. end_of run ≤ c) runs) (sym areas)
          (All-from_recursion (λ run. end_of run ≤ c) (areas_of c blocks) spaced.ends));
      clear = subst (IsClearOutside disk.allocated) (sym sectors)
          (subst (λ (runs : List Run). IsClearOutside runs (written_disk c ws)) (sym areas)
          (disk_clear c ws within));
    }

-- ---- reads of the snapshot

-- a read of some sectors that lie within it isn't refused
pub may_read : (disk : WrittenDisk) (first count : ℕ) → IsFrozen disk → 0 < count
    → first + count ≤ length (frozen_sectors disk)
    → read_refusal (Some SNAPSHOT) first count disk.source ≡ None
may_read disk first count frozen some within =
    ap (λ (o : Option (List Sector)). cond (is_none o) (Some UnknownSnap)
    (cond (is_within (capacity_of disk.source) first count) None (Some Range))) frozen.live
    ∙ ap (λ (b : Bool). cond (b && leb (first + count) (capacity_of disk.source)) None (Some Range))
    (le-leb 1 count (omega arith))
    ∙ ap (λ (b : Bool). cond b None (Some Range))
    (le-leb (first + count) (capacity_of disk.source) (omega (arith, within, frozen.long)))

pub read_gives : (disk : WrittenDisk) (now : List Sector) (first end : ℕ) → IsFrozen disk
    → IfSome (contents_of (Some SNAPSHOT) disk.source)
    (λ contents. now ≡ slice_range contents first end)
    → now ≡ slice_range (frozen_sectors disk) first end
read_gives disk now first end frozen told =
    subst (λ (o : Option (List Sector)). IfSome o
    (λ contents. now ≡ slice_range contents first end)) frozen.live told
