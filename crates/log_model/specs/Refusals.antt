-- Why a call is refused at a log, its reasons in order. None stands where the call is accepted.
-- Want of memory is no reason here: it may come where no other one stands.
use Rattle.std.specs.Prelude.{ℕ, ◌+◌, ◌==◌, List, length, Bool, true, false, not, ◌&&◌, ◌||◌, nat_lt, nat_le, Option, Some, None, is_some, Result, Ok, Err, if◌then◌else◌}
use Rattle.sector_model.specs.Run.{is_within}
use Rattle.sector_model.specs.declared.run.Run.{Run}
use Rattle.change_id.specs.declared.ChangeId.{ChangeId}
use Rattle.change_id.specs.declared.Since.{Since}
use Rattle.basics.specs.declared.limits.TheConstants.{MAX_WRITE_SECTORS, MAX_LOGGED_SECTORS}
use Rattle.log_model.specs.declared.entry.TheConstants.{MAX_LOG_ENTRIES, MIGRATION_CALLER}
use Rattle.log_model.specs.declared.entry.Owner.{Owner}
use Rattle.log_model.specs.declared.entry.Owner.TheVariants.{Operator, Migration}
use Rattle.log_model.specs.declared.entry.Entry.{Entry}
use Rattle.log_model.specs.declared.refusals.LinkRefused.{LinkRefused}
use Rattle.log_model.specs.declared.refusals.LinkRefused.TheVariants.{UnknownSnap, Running, Strange, Range, AlreadyOff, AlreadyOn, Spent, Owned, AlreadyEnabled, NoMemory}
use Rattle.log_model.specs.declared.refusals.WriteRefused.{WriteRefused}
use Rattle.log_model.specs.declared.refusals.WriteRefused.TheVariants.{Off, Range as OutOfRange, LogFull, NoMemory as NoRoom}
use Rattle.log_model.specs.Legal.{machine_on, owner_of, is_enabled, written, capacity_of}
use Rattle.log_model.specs.Query.{changed_areas}

-- the number of a refusal of a link; want of memory has none
abbrev pub refusal_number : LinkRefused → Option ℕ
refusal_number UnknownSnap = Some 1
refusal_number Running = Some 2
refusal_number (Strange id) = Some 3
refusal_number Range = Some 4
refusal_number AlreadyOff = Some 5
refusal_number AlreadyOn = Some 6
refusal_number Spent = Some 7
refusal_number Owned = Some 8
refusal_number AlreadyEnabled = Some 9
refusal_number NoMemory = None

-- the number of a refusal of a guest's write; want of memory has none
abbrev pub write_refusal_number : WriteRefused → Option ℕ
write_refusal_number Off = Some 1
write_refusal_number OutOfRange = Some 2
write_refusal_number LogFull = Some 3
write_refusal_number NoRoom = None

-- no entry fits behind the log
abbrev pub is_spent : List Entry → Bool
is_spent log = nat_le MAX_LOG_ENTRIES (length log)

abbrev pub spent_refusal : List Entry → Option LinkRefused
spent_refusal log = if is_spent log then Some Spent else None

abbrev pub is_live : (snapshot : ℕ) → List Entry → Bool
is_live snapshot log = is_some (owner_of snapshot log)

abbrev pub is_known : (capacities : List ℕ) (disk : ℕ) → Bool
is_known capacities disk = nat_lt disk (length capacities)

abbrev pub snap_refusal : (must_be_off : Bool) → List Entry → Option LinkRefused
snap_refusal must_be_off log =
    if must_be_off && machine_on log then Some Running else spent_refusal log

-- a caller may remove in an owner's name what that owner has; what a migration has, only under the
-- number of the caller that carries migrations out
abbrev pub may_remove : (caller : ℕ) (owner has : Owner) → Bool
may_remove caller Operator Operator = true
may_remove caller (Migration number) (Migration other) =
    number == other && caller == MIGRATION_CALLER
may_remove caller Operator (Migration other) = false
may_remove caller (Migration number) Operator = false

abbrev pub owner_refusal : (caller : ℕ) (owner : Owner) (has : Option Owner) → List Entry
    → Option LinkRefused
owner_refusal caller owner None log = Some UnknownSnap
owner_refusal caller owner (Some has) log =
    if may_remove caller owner has then spent_refusal log else Some Owned

abbrev pub remove_refusal : (caller : ℕ) (owner : Owner) (snapshot : ℕ) → List Entry
    → Option LinkRefused
remove_refusal caller owner snapshot log =
    owner_refusal caller owner (owner_of snapshot log) log

abbrev pub change_id_refusal : (capacities : List ℕ) (snapshot disk : ℕ) → List Entry
    → Option LinkRefused
change_id_refusal capacities snapshot disk log =
    if not (is_live snapshot log) then Some UnknownSnap
    else if not (is_known capacities disk) then Some Range else None

abbrev pub strange_refusal : Result (List Run) (Option ChangeId) → Option LinkRefused
strange_refusal (Ok areas) = None
strange_refusal (Err id) = Some (Strange id)

abbrev pub query_refusal : (machine : ℕ) (capacities : List ℕ) (snapshot disk : ℕ) (since : Since)
    (start : ℕ) → List Entry → Option LinkRefused
query_refusal machine capacities snapshot disk since start log =
    if not (is_live snapshot log) then Some UnknownSnap
    else if not (is_known capacities disk && nat_lt start (capacity_of capacities disk))
    then Some Range
    else strange_refusal
    (changed_areas machine (capacity_of capacities disk) disk snapshot since log)

-- the disk is known, and `count` sectors from `first` on are some, and lie within it
abbrev pub is_on_disk : (capacities : List ℕ) (disk first count : ℕ) → Bool
is_on_disk capacities disk first count =
    is_known capacities disk && is_within (capacity_of capacities disk) first count

abbrev pub read_refusal : (capacities : List ℕ) (snapshot disk first count : ℕ) → List Entry
    → Option LinkRefused
read_refusal capacities snapshot disk first count log =
    if not (is_live snapshot log) then Some UnknownSnap
    else if not (is_on_disk capacities disk first count) then Some Range else None

abbrev pub power_off_refusal : List Entry → Option LinkRefused
power_off_refusal log = if machine_on log then spent_refusal log else Some AlreadyOff

abbrev pub power_on_refusal : List Entry → Option LinkRefused
power_on_refusal log = if machine_on log then Some AlreadyOn else spent_refusal log

abbrev pub reset_refusal : (capacities : List ℕ) (disk : ℕ) → List Entry → Option LinkRefused
reset_refusal capacities disk log =
    if not (is_known capacities disk) then Some Range else spent_refusal log

abbrev pub enable_refusal : List Entry → Option LinkRefused
enable_refusal log = if is_enabled log then Some AlreadyEnabled else spent_refusal log

-- a guest's write of `count` sectors from `first` on
abbrev pub write_refusal : (capacities : List ℕ) (disk first count : ℕ) → List Entry
    → Option WriteRefused
write_refusal capacities disk first count log =
    if not (machine_on log) then Some Off
    else if not (is_on_disk capacities disk first count && nat_le count MAX_WRITE_SECTORS)
    then Some OutOfRange
    else if nat_lt MAX_LOGGED_SECTORS (written log + count) || is_spent log
    then Some LogFull else None
