-- One migration as its records left it, and what is read from that: its current snapshot, the
-- disks that are left to copy, whether it is live. What a stage of one disk does to the disk's
-- copy stands here too.
use Rattle.std.specs.Prelude.{◌≡◌, ℕ, ◌+◌, ◌==◌, nat_lt, Bool, true, false, not, List, [], ◌∷◌, length, Option, Some, None, is_none, is_some, unwrap_or, slice_get, slice_set, if◌then◌else◌}
use Rattle.std.specs.List.{list_all, sum_by}
use Rattle.std.specs.Option.{option_map_or}
use Rattle.checkpoints.specs.DataVolume.{last_checkpoint, reached_from}
use Rattle.change_id.specs.declared.ChangeId.{ChangeId}
use Rattle.change_id.specs.declared.Since.{Since}
use Rattle.change_id.specs.declared.Since.TheVariants as Sinces
use Rattle.phase_table.specs.declared.phases.Phase.{Phase}
use Rattle.phase_table.specs.declared.table.Fact.{Fact}
use Rattle.phase_table.specs.Phases.{phase_number}
use Rattle.phase_table.specs.Table.{successor_in}
use Rattle.phase_table.specs.Edges.{all_rows}
use Rattle.ctl_state.specs.declared.migration.Migration.{Migration}
use Rattle.ctl_state.specs.declared.copies.DiskCopy.{DiskCopy}
use Rattle.ctl_state.specs.declared.copies.CopyBase.{CopyBase}

unfoldable pub same_phase : (a b : Phase) → Bool
same_phase a b = phase_number a == phase_number b

unfoldable pub next_of : Phase → Fact → Option Phase
next_of phase fact = successor_in all_rows phase fact

-- the phase that comes after the one that the migration is in, by that fact
abbrev pub moved : Migration → Fact → Migration
moved m fact = record m { phase = unwrap_or (next_of m.phase fact) m.phase }

-- it hasn't ended
abbrev pub is_live : Migration → Bool
is_live m = is_none m.how

-- the snapshot of its last checkpoint, 0 where there is none
abbrev pub reached : Migration → ℕ
reached m = reached_from 0 (last_checkpoint m.dv.checkpoints)

-- the snapshot that it works on, 0 where there is none
abbrev pub current_snapshot : Migration → ℕ
current_snapshot m = unwrap_or m.snap 0

-- the place that its final snapshot told, 0 where there is none
abbrev pub stored_place : Migration → ℕ
stored_place m = unwrap_or m.place 0

abbrev pub copy_of : Migration → (disk : ℕ) → Option DiskCopy
copy_of m disk = slice_get m.copies disk

-- the disk exists, and no stage of it is done in the last checkpoint
abbrev pub is_left : Migration → (disk : ℕ) → Bool
is_left m disk = option_map_or (λ copy. not copy.done) (copy_of m disk) false

-- besides, a stage of it began in the last checkpoint
abbrev pub is_being_copied : Migration → (disk : ℕ) → Bool
is_being_copied m disk =
    option_map_or (λ copy. if copy.begun then not copy.done else false) (copy_of m disk) false

abbrev pub all_done : List DiskCopy → Bool
all_done copies = list_all (λ copy. copy.done) copies

-- the numbers, from this one on, of the disks that are left
abbrev pub left_from : (first : ℕ) → List DiskCopy → List ℕ
left_from first [] = []
left_from first (copy ∷ copies) = if copy.done then left_from (first + 1) copies
    else first ∷ left_from (first + 1) copies

-- the disks that are left in the last checkpoint
abbrev pub disks_left : Migration → List ℕ
disks_left m = left_from 0 m.copies

-- what the next stage of a disk asks for: all of it, or what changed since the snapshot on which
-- its last one that is done stands
abbrev pub since_base : Option CopyBase → Since
since_base None = Sinces.All
since_base (Some base) = option_map_or Sinces.From base.id Sinces.All

-- the sectors that the stages of the last checkpoint wrote, those that are done
abbrev pub sectors_written : List DiskCopy → ℕ
sectors_written copies = sum_by (λ copy. copy.written) copies

-- a disk of which nothing is copied yet
abbrev pub new_copy : DiskCopy
new_copy = record { begun = false; done = false; written = 0; id = None; base = None }

-- what a new checkpoint finds of a disk
abbrev pub fresh_copy : DiskCopy → DiskCopy
fresh_copy copy = record copy { begun = false; done = false; written = 0 }

abbrev pub begun_copy : DiskCopy → DiskCopy
begun_copy copy = record copy { begun = true }

-- the stage is done on the snapshot of this mark
abbrev pub done_copy : (mark written : ℕ) → DiskCopy → DiskCopy
done_copy mark written copy = record copy {
  done = true;
  written = written;
  base = Some (record { mark = mark; id = copy.id });
}

-- a new snapshot, at which no identifier is stored yet
abbrev pub unnamed_copy : DiskCopy → DiskCopy
unnamed_copy copy = record copy { id = None }

abbrev pub named_copy : ChangeId → DiskCopy → DiskCopy
named_copy id copy = record copy { id = Some id }

-- each disk with its identifier
abbrev pub named_copies : List DiskCopy → List ChangeId → List DiskCopy
named_copies [] ids = []
named_copies (copy ∷ copies) [] = copy ∷ copies
named_copies (copy ∷ copies) (id ∷ ids) = named_copy id copy ∷ named_copies copies ids

-- the one at a place is changed
abbrev pub change_at : {X : Type 0} → List X → (place : ℕ) → (X → X) → List X
change_at xs place f = option_map_or (λ x. slice_set xs place (f x)) (slice_get xs place) xs
