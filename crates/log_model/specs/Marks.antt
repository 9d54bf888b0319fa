-- Places in a log, which count from 0, and the change identifiers of a disk. Snapshots of one epoch
-- of a disk are numbered 1, 2 and so on, so an identifier leads back to one place of the log. What
-- the words say stands in change_id, for any list of happenings; here they are those of a log.
use Rattle.std.specs.Prelude.{ℕ, List, Bool, Option, if◌then◌else◌, ◌||◌}
use Rattle.std.specs.List.{fold}
use Rattle.change_id.specs.History.{Reading}
use Rattle.change_id.specs.History as history
use Rattle.change_id.specs.declared.ChangeId.{ChangeId}
use Rattle.log_model.specs.declared.entry.Entry.{Entry}
use Rattle.log_model.specs.declared.folds.Tracking.{Tracking}
use Rattle.log_model.specs.declared.folds.Tracking.TheVariants.{Never, Enabled, Active}
use Rattle.log_model.specs.Entry.{is_snap, takes, resets, is_enable, is_on}

-- what an entry is to the tracking of a disk
abbrev pub takes_in : (snapshot : ℕ) → Entry → Bool
takes_in snapshot e = takes snapshot e.act

abbrev pub reading_of : (disk : ℕ) → Reading Entry
reading_of disk = record {
  is_snap = λ e. is_snap e.act;
  takes = takes_in;
  resets = λ e. resets disk e.act;
  enables = λ e. is_enable e.act;
}

-- the mark of a snapshot: how many entries stand before its Snap entry
abbrev pub mark : (snapshot : ℕ) → List Entry → ℕ
mark snapshot log = history.mark takes_in snapshot log

-- the log up to the Snap entry of a snapshot, without and with it
abbrev pub before : (snapshot : ℕ) → List Entry → List Entry
before snapshot log = history.before takes_in snapshot log

abbrev pub through : (snapshot : ℕ) → List Entry → List Entry
through snapshot log = history.through takes_in snapshot log

-- the epoch of a disk: how often its tracking was reset
abbrev pub epoch : (disk : ℕ) → List Entry → ℕ
epoch disk log = history.epoch (reading_of disk) log

-- how many snapshots were taken since both the Enable entry and the last reset of the disk; none
-- where no Enable entry stands
abbrev pub counted_after : (disk : ℕ) (counted : Option ℕ) → Entry → Option ℕ
counted_after disk counted e = history.counted_after (reading_of disk) counted e

abbrev pub counted : (disk : ℕ) → List Entry → Option ℕ
counted disk log = history.counted (reading_of disk) log

-- the sequence number of the disk, 0 where no Enable entry stands
abbrev pub number : (disk : ℕ) → List Entry → ℕ
number disk log = history.number (reading_of disk) log

-- tracking is active once a Snap or On entry stands after the Enable entry
abbrev pub tracking_after : Tracking → Entry → Tracking
tracking_after Never e = if is_enable e.act then Enabled else Never
tracking_after Enabled e = if is_snap e.act || is_on e.act then Active else Enabled
tracking_after Active e = Active

abbrev pub tracking : List Entry → Tracking
tracking log = fold tracking_after Never log

-- the identifier of the disk that is in force: its epoch and its sequence number, or none where
-- that is 0
abbrev pub in_force : (machine disk : ℕ) → List Entry → Option ChangeId
in_force machine disk log = history.in_force (reading_of disk) machine disk log

-- the identifier of the disk at a snapshot, which counts with it: none where no Enable entry stands
-- before it
abbrev pub id_at : (machine disk snapshot : ℕ) → List Entry → Option ChangeId
id_at machine disk snapshot log = history.id_at (reading_of disk) machine disk snapshot log

-- the mark of the snapshot that has the identifier for the disk: the first place with whose entry
-- the identifier is in force
abbrev pub mark_of_id : (machine disk : ℕ) → ChangeId → List Entry → Option ℕ
mark_of_id machine disk id log = history.mark_of_id (reading_of disk) machine disk id log

-- the entry at this place takes a snapshot
abbrev pub TakesSnapshot : (log : List Entry) (place : ℕ) → Type 0
TakesSnapshot log place = history.TakesSnapshot (λ e. is_snap e.act) log place

-- the entry at this place takes a snapshot, which has the identifier for the disk
abbrev pub HasId : (machine disk : ℕ) (id : ChangeId) (log : List Entry) (place : ℕ) → Type 0
HasId machine disk id log place = history.HasId (reading_of disk) machine disk id log place
