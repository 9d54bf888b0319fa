-- What the steps on the disk leave, of which an opening and an append are made. They speak of bytes
-- alone, and of a disk that tells what it holds.
use Rattle.std.specs.Prelude.{◌≡◌, ◌⊎◌, ℕ, ◌-◌, ◌%◌, ◌<◌, ◌≤◌, List, [], ◌∷◌, ◌++◌, length, take, Option, option_map, IfSome, Result, Ok, Err}
use Rattle.std.specs.declared.vec.Vec.{Vec}
use Rattle.std.specs.declared.alloc.Global.{Global}
use Rattle.basics.specs.Faults.{HasRisen}
use Rattle.edge_traits.specs.Disk.{DiskContents, DiskState, IsImage, after_sync, settled}
use Rattle.journal.specs.Opening.{IsOnlySynced, IsSyncedOrNot}
use Rattle.journal.specs.declared.format.TheConstants.{MAX_BYTES, PIECE_BYTES}
use Rattle.journal.specs.declared.refusal.JournalRefused.{JournalRefused}
use Rattle.journal.specs.declared.refusal.JournalRefused.TheVariants.{DiskFault, NotAJournal, BadRecord, Full, NoMemory}

-- all that it holds is on the disk
abbrev pub IsSettled : DiskContents → Type 0
IsSettled c = c ≡ settled c.bytes

-- what an append may leave that was cut: the old file and perhaps something behind its last gate,
-- or the whole new file but for that gate
abbrev pub IsCutAppend : (file cell image : List ℕ) → Type 0
IsCutAppend file cell image =
    ((tail : List ℕ) × (image ≡ file ++ tail) × (length tail ≤ length cell))
    ⊎ ((gate : ℕ) × (image ≡ take (length file - 1) file ++ gate ∷ cell))

abbrev pub LeavesCutAppend : (cell : List ℕ) → (old new : DiskContents) → Type 0
LeavesCutAppend cell old new = (image : List ℕ) → IsImage new image
    → IsCutAppend old.bytes cell image

-- what a cut may leave that failed
abbrev pub LeavesCut : (end : ℕ) → (old new : DiskContents) → Type 0
LeavesCut end old new = (image : List ℕ) → IsImage new image
    → (end ≤ length image) × (image ≡ take (length image) old.bytes)

-- what a creation may leave that was cut
abbrev pub LeavesFew : (most : ℕ) → (old new : DiskContents) → Type 0
LeavesFew most old new = (image : List ℕ) → IsImage new image → length image ≤ most

-- nothing was done but one sync, and what a read gives was possible before
pub record IsJustSynced (old new : DiskState) : Type 0 where
  pub synced : IsOnlySynced old new
  pub possible : IfSome old.contents (λ c. IsImage c c.bytes)

-- a piece of the file begins here
abbrev pub IsPieceOffset : (at : ℕ) → (file : List ℕ) → Type 0
IsPieceOffset at file = (at < length file) × (at % PIECE_BYTES ≡ 0)

-- what a reading of the whole disk answers
abbrev pub IsFileRead : (old new : DiskState) → Result (Vec ℕ Global) JournalRefused → Type 0
IsFileRead old new (Ok bytes) = IsJustSynced old new × (length bytes.items ≤ MAX_BYTES)
    × IfSome old.contents (λ c. bytes.items ≡ c.bytes)
IsFileRead old new (Err NotAJournal) = IsJustSynced old new
    × IfSome old.contents (λ c. MAX_BYTES < length c.bytes)
IsFileRead old new (Err NoMemory) = IsJustSynced old new
IsFileRead old new (Err (DiskFault at)) = HasRisen old.faults new.faults
    × IsSyncedOrNot old new
    × ((at ≡ 0) ⊎ ((at < MAX_BYTES) × (at % PIECE_BYTES ≡ 0)))
    × IfSome old.contents (λ c. (at ≡ 0) ⊎ IsPieceOffset at c.bytes)
IsFileRead old new (Err (BadRecord number)) = ⊥
IsFileRead old new (Err (Full len)) = ⊥
