-- What a list of happenings says of the tracking of one disk: the places of its snapshots, their
-- identifiers, and what a query answers. A machine's log is such a list, and so is what a tracker
-- of one disk was told. So the words stand once, for any list, over what each of its entries is.
use Rattle.std.specs.Prelude.{◌≡◌, ℕ, ◌+◌, ◌<◌, ◌==◌, nat_le, List, length, take, slice_get, Bool, true, false, ◌&&◌, Option, Some, None, unwrap_or, Result, Ok, Err, if◌then◌else◌}
use Rattle.std.specs.List.{fold, count_by, find, position_or_len, range_with_len}
use Rattle.change_id.specs.ChangeId.{packed, counted_id}
use Rattle.change_id.specs.declared.ChangeId.{ChangeId}
use Rattle.change_id.specs.declared.Since.{Since}
use Rattle.change_id.specs.declared.Since.TheVariants.{All, From}

-- what an entry is to the tracking of a disk
pub record Reading (E : Type 0) : Type 0 where
  pub is_snap : E → Bool  -- it takes a snapshot
  pub takes : (snapshot : ℕ) → E → Bool  -- it takes this snapshot
  pub resets : E → Bool  -- it resets the tracking of the disk
  pub enables : E → Bool  -- it enables tracking

-- what each list of happenings keeps: what takes a certain snapshot takes one, and what takes one
-- resets nothing
pub record IsApart {E : Type 0} (reading : Reading E) : Type 0 where
  pub takes_snap : (snapshot : ℕ) (e : E) → reading.takes snapshot e ≡ true
      → reading.is_snap e ≡ true
  pub snap_resets_none : (e : E) → reading.is_snap e ≡ true → reading.resets e ≡ false

-- the mark of a snapshot: how many entries stand before the one that takes it, all of them where
-- none does
abbrev pub mark : {E : Type 0} → (takes : ℕ → E → Bool) (snapshot : ℕ) → List E → ℕ
mark takes snapshot log = position_or_len (takes snapshot) log

-- the list up to the entry that takes a snapshot, without and with it; the whole list where none
-- does
abbrev pub before : {E : Type 0} → (takes : ℕ → E → Bool) (snapshot : ℕ) → List E → List E
before takes snapshot log = take (mark takes snapshot log) log

abbrev pub through : {E : Type 0} → (takes : ℕ → E → Bool) (snapshot : ℕ) → List E → List E
through takes snapshot log = take (mark takes snapshot log + 1) log

-- the epoch of the disk: how often its tracking was reset
abbrev pub epoch : {E : Type 0} → Reading E → List E → ℕ
epoch reading log = count_by reading.resets log

-- how many snapshots were taken since tracking was enabled and last reset; none where it wasn't
-- enabled
abbrev pub counted_after : {E : Type 0} → Reading E → (counted : Option ℕ) → E → Option ℕ
counted_after reading None e = if reading.enables e then Some 0 else None
counted_after reading (Some n) e =
    if reading.resets e then Some 0 else if reading.is_snap e then Some (n + 1) else Some n

abbrev pub counted : {E : Type 0} → Reading E → List E → Option ℕ
counted reading log = fold (counted_after reading) None log

-- the sequence number of the disk, 0 where tracking wasn't enabled
abbrev pub number : {E : Type 0} → Reading E → List E → ℕ
number reading log = unwrap_or (counted reading log) 0

-- the identifier that is in force: of the epoch and the sequence number, or none where that is 0
abbrev pub in_force : {E : Type 0} → Reading E → (machine disk : ℕ) → List E → Option ChangeId
in_force reading machine disk log =
    counted_id (packed machine disk (epoch reading log)) (number reading log)

-- the identifier at a snapshot, which counts with it: none where tracking wasn't enabled before it.
-- Of a snapshot that wasn't taken it is the one in force, so ask for those that were taken.
abbrev pub id_at : {E : Type 0} → Reading E → (machine disk snapshot : ℕ) → List E
    → Option ChangeId
id_at reading machine disk snapshot log =
    in_force reading machine disk (through reading.takes snapshot log)

-- what was found is the identifier
abbrev pub is_id : (id : ChangeId) (found : Option ChangeId) → Bool
is_id id None = false
is_id id (Some found) = found.uuid == id.uuid && found.seq == id.seq

-- the mark of the snapshot that has the identifier: the first place with whose entry the identifier
-- is in force; none where no snapshot has it
abbrev pub mark_of_id : {E : Type 0} → Reading E → (machine disk : ℕ) → ChangeId → List E
    → Option ℕ
mark_of_id reading machine disk id log =
    find (λ place. is_id id (in_force reading machine disk (take (place + 1) log)))
    (range_with_len 0 (length log))

-- a query of the snapshot accepts the identifier: its UUID is that of the epoch both at the
-- snapshot and now, and its number is one from 1 to that of the snapshot
abbrev pub accepts : {E : Type 0} → Reading E → (machine disk snapshot : ℕ) → ChangeId → List E
    → Bool
accepts reading machine disk snapshot id log =
    id.uuid == packed machine disk (epoch reading log)
    && epoch reading (before reading.takes snapshot log) == epoch reading log
    && nat_le 1 id.seq && nat_le id.seq (number reading (through reading.takes snapshot log))

-- what a query of the snapshot answers: what changed between two places of the list, which are the
-- beginning or the mark of the identifier, and the mark of the snapshot. An identifier that isn't
-- accepted is strange, which tells the one in force. A snapshot that wasn't taken is answered as
-- one taken after all entries would be, so a caller refuses it first.
abbrev pub answered : {E A : Type 0} → Reading E → (machine disk snapshot : ℕ)
    (between : (from end : ℕ) → A) → Since → List E → Result A (Option ChangeId)
answered reading machine disk snapshot between All log =
    Ok (between 0 (mark reading.takes snapshot log))
answered reading machine disk snapshot between (From id) log =
    if accepts reading machine disk snapshot id log
    then Ok (between (unwrap_or (mark_of_id reading machine disk id log) 0)
    (mark reading.takes snapshot log))
    else Err (in_force reading machine disk log)

-- the entry at this place takes a snapshot
pub record TakesSnapshot {E : Type 0} (is_snap : E → Bool) (log : List E) (place : ℕ)
    : Type 0 where
  pub within : place < length log
  pub by_snap : (e : E) → slice_get log place ≡ Some e → is_snap e ≡ true

-- the number n has been given in the present epoch, at this place, by an entry that takes a
-- snapshot
pub record GivesNumber {E : Type 0} (reading : Reading E) (n : ℕ) (log : List E) (place : ℕ)
    : Type 0 where
  pub snapshot : TakesSnapshot reading.is_snap log place
  pub same_epoch : epoch reading (take (place + 1) log) ≡ epoch reading log
  pub numbered : number reading (take (place + 1) log) ≡ n

-- the entry at this place takes a snapshot, which has the identifier
pub record HasId {E : Type 0} (reading : Reading E) (machine disk : ℕ) (id : ChangeId)
    (log : List E) (place : ℕ) : Type 0 where
  pub snapshot : TakesSnapshot reading.is_snap log place
  pub identified : in_force reading machine disk (take (place + 1) log) ≡ Some id
