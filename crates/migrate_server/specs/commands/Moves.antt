-- The command `move`: when it is refused, what it answers, and what it leaves of the store. It
-- needs no machine. What it asks for says whether its writes fit; the store alone says whether the
-- name is taken, where it tells its volumes.
use Rattle.std.specs.Prelude.{◌≡◌, ◌⊎◌, ℕ, ◌+◌, List, length, nat_le, is_some, if◌then◌else◌, Option, Some, None, IfSome, IsSomeAnd}
use Rattle.std.specs.List.{list_all, sum_by}
use Rattle.basics.specs.declared.limits.TheConstants.{MAX_LOGGED_SECTORS}
use Rattle.cmd_json.specs.declared.command.MoveWrite.{MoveWrite}
use Rattle.reply_json.specs.declared.reply.Reply.{Reply}
use Rattle.reply_json.specs.declared.reply.Reply.TheVariants.{Moved}
use Rattle.target_volume.specs.VolumeName.{find_volume}
use Rattle.target_volume.specs.VolumeStore.{StoreState, StoredVolume}
use Rattle.target_volume.specs.declared.volume_name.VolumeName.{VolumeName}
use Rattle.target_volume.specs.declared.volume_name.VolumeName.TheVariants.{Given}
use Rattle.migrate_server.specs.NewVolume.{with_new_volume, copied_volume, FailsInCopy}
use Rattle.migrate_server.specs.WrittenDisk.{written_disk}
use Rattle.answers.specs.declared.refusal.Refusal.{Refusal}
use Rattle.answers.specs.declared.refusal.Refusal.TheVariants.{Range, LogFull, NameTaken}

-- a write passes the end of the disk, or all have more sectors in sum than a log may have
abbrev pub move_refusal : (sectors : ℕ) → List MoveWrite → Option Refusal
move_refusal sectors writes =
    if list_all (λ w. nat_le (w.first + w.count) sectors) writes
    then if nat_le (sum_by (λ w. w.count) writes) MAX_LOGGED_SECTORS then None else Some LogFull
    else Some Range

abbrev pub name_refusal : (name : List ℕ) → List (VolumeName × StoredVolume) → Option Refusal
name_refusal name volumes =
    if is_some (find_volume (Given name) volumes) then Some NameTaken else None

-- the name is taken, or nothing refuses the move; a store that tells its volumes says which of them
abbrev pub MoveRefusal : (name : List ℕ) → Option Refusal → StoreState → Type 0
MoveRefusal name refusal store = ((refusal ≡ None) ⊎ (refusal ≡ Some NameTaken))
    × IfSome store.volumes (λ volumes. refusal ≡ name_refusal name volumes)

abbrev pub move_reply : (sectors : ℕ) → List MoveWrite → Reply
move_reply sectors writes = Moved (length writes) sectors

-- the volume of a move: its disk is what the writes leave of one of zeros
abbrev pub moved_volume : (sectors : ℕ) → List MoveWrite → StoredVolume
moved_volume sectors writes = copied_volume (written_disk sectors writes) sectors

abbrev pub after_move : (name : List ℕ) (sectors : ℕ) → List MoveWrite → StoreState → StoreState
after_move name sectors writes store =
    with_new_volume (Given name) (moved_volume sectors writes) store

abbrev pub MoveFails : (name : List ℕ) (sectors : ℕ) (old new : StoreState) → Type 0
MoveFails name sectors old new = FailsInCopy (Given name) sectors old new

-- the volume of the move is in the store
abbrev pub HasMoved : (name : List ℕ) (sectors : ℕ) → List MoveWrite → StoreState → Type 0
HasMoved name sectors writes store = IsSomeAnd store.volumes
    (λ volumes. find_volume (Given name) volumes ≡ Some (moved_volume sectors writes))
