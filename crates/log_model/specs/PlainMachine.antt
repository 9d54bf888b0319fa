-- Words of the plain machine's own steps: each says of a log what one pass over it finds. They are
-- no promise of the crate, but for `plain_state` and `with_entry`, which say what a plain machine
-- is.
use Rattle.std.specs.Prelude.{◌≡◌, ℕ, ◌+◌, ◌-◌, ◌==◌, ◌&&◌, length, take, List, [], ◌∷◌, ◌++◌, true, nat_le, Option, Some, None, unwrap_or, slice_get, Result, Ok, Err, if◌then◌else◌}
use Rattle.std.specs.List.{fold, find, filter, range_with_len}
use Rattle.sector_model.specs.Disk.{Write as Replacement}
use Rattle.sector_model.specs.Sector.{zero_sector}
use Rattle.sector_model.specs.declared.sector.Sector.{Sector}
use Rattle.log_model.specs.declared.entry.Entry.{Entry}
use Rattle.log_model.specs.Entry.{write_to}
use Rattle.log_model.specs.Marks.{epoch, number}
use Rattle.log_model.specs.Link.{LinkState, is_by}

-- a sector after a write, if it is one to the disk
abbrev pub sector_of_write : (at : ℕ) → Sector → Option Replacement → Sector
sector_of_write at sector None = sector
sector_of_write at sector (Some w) =
    if nat_le w.first at then unwrap_or (slice_get w.sectors (at - w.first)) sector else sector

abbrev pub sector_after : (disk at : ℕ) → Sector → Entry → Sector
sector_after disk at sector e = sector_of_write at sector (write_to disk e.act)

-- what the log leaves of a sector of the disk
abbrev pub sector_at : (disk at : ℕ) → List Entry → Sector
sector_at disk at log = fold (sector_after disk at) zero_sector log

-- the place whose entry gives the disk this number in the epoch that it has now: for an identifier
-- that is accepted, the mark of the snapshot that has it
abbrev pub numbered_place : (disk seq : ℕ) → List Entry → ℕ
numbered_place disk seq log =
    unwrap_or (find (λ k. epoch disk (take (k + 1) log) == epoch disk log
    && number disk (take (k + 1) log) == seq)
    (range_with_len 0 (length log))) (length log)

-- the entry stands behind the others where the call is accepted; else all is as it was
abbrev pub Appends : {T E : Type 0} → Result T E → Entry → (old new : List Entry) → Type 0
Appends (Ok answer) e old new = new ≡ old ++ e ∷ []
Appends (Err refusal) e old new = new ≡ old

-- a machine that one caller alone reaches: all entries under the caller's number are its own
abbrev pub plain_state : (machine : ℕ) (capacities : List ℕ) (caller : ℕ) (entries : List Entry)
    → LinkState
plain_state machine capacities caller entries = record {
  machine = machine;
  capacities = capacities;
  caller = caller;
  turn = None;
  unshared = true;
  seen = entries;
  own = filter (is_by caller) entries;
}

-- the machine with one entry more, which is the caller's own where it is under the caller's number
abbrev pub with_entry : LinkState → Entry → LinkState
with_entry before e = record before {
  seen = before.seen ++ e ∷ [];
  own = before.own ++ filter (is_by before.caller) (e ∷ []);
}
