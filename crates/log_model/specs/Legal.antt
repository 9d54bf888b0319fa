-- Which logs a machine may have. Each state of a machine is a fold of its log, one entry after
-- another. A log is judged either with all disks of its machine known, or for one disk alone, as
-- whoever copies that disk sees it: then nothing is asked of entries for other disks.
use Rattle.std.specs.Prelude.{◌≡◌, ℕ, ◌+◌, ◌<◌, ◌≤◌, ◌==◌, List, length, take, slice_get, slice_index, Bool, true, false, Option, Some, None, if◌then◌else◌}
use Rattle.std.specs.List.{fold, count_by, sum_by}
use Rattle.basics.specs.declared.limits.TheConstants.{MAX_WRITE_SECTORS, MAX_LOGGED_SECTORS}
use Rattle.log_model.specs.declared.entry.TheConstants.{MAX_LOG_ENTRIES, MIGRATION_CALLER}
use Rattle.log_model.specs.declared.entry.Owner.{Owner}
use Rattle.log_model.specs.declared.entry.Owner.TheVariants.{Operator, Migration}
use Rattle.log_model.specs.declared.entry.Act.{Act}
use Rattle.log_model.specs.declared.entry.Act.TheVariants.{Write, Snap, Remove, Reset, Enable, Off, On}
use Rattle.log_model.specs.declared.entry.Entry.{Entry}
use Rattle.log_model.specs.Entry.{is_snap, is_enable, is_off, is_on, sectors_of}

-- a machine begins on; Off powers it off, and On powers it on
abbrev pub on_after : (on : Bool) → Entry → Bool
on_after on e = if is_off e.act then false else if is_on e.act then true else on

abbrev pub machine_on : List Entry → Bool
machine_on log = fold on_after true log

-- how many snapshots were taken
abbrev pub taken : List Entry → ℕ
taken log = count_by (λ e. is_snap e.act) log

-- a snapshot has an owner from its Snap entry on until its Remove entry: while it has one, it is
-- live
abbrev pub owner_after_act : (snapshot : ℕ) (owner : Option Owner) → Act → Option Owner
owner_after_act snapshot owner (Write disk first sectors) = owner
owner_after_act snapshot owner (Snap id by) = if id == snapshot then Some by else owner
owner_after_act snapshot owner (Remove id) = if id == snapshot then None else owner
owner_after_act snapshot owner (Reset disk) = owner
owner_after_act snapshot owner Enable = owner
owner_after_act snapshot owner Off = owner
owner_after_act snapshot owner On = owner

abbrev pub owner_after : (snapshot : ℕ) (owner : Option Owner) → Entry → Option Owner
owner_after snapshot owner e = owner_after_act snapshot owner e.act

abbrev pub owner_of : (snapshot : ℕ) → List Entry → Option Owner
owner_of snapshot log = fold (owner_after snapshot) None log

-- whether an Enable entry stands
abbrev pub enabled_after : (enabled : Bool) → Entry → Bool
enabled_after enabled e = if is_enable e.act then true else enabled

abbrev pub is_enabled : List Entry → Bool
is_enabled log = fold enabled_after false log

-- how many sectors all writes have together
abbrev pub written : List Entry → ℕ
written log = sum_by (λ e. sectors_of e.act) log

-- the capacity of a disk of a machine; one that is unknown has none
abbrev pub capacity_of : (capacities : List ℕ) (disk : ℕ) → ℕ
capacity_of capacities disk = slice_index capacities disk

-- the disks that a log is judged by: all of a machine, by their capacities, or one alone
pub data Disks : Type 0 where
  all_of : (capacities : List ℕ) → Disks
  only : (disk capacity : ℕ) → Disks

-- an entry may name the disk
abbrev pub MayName : Disks → (disk : ℕ) → Type 0
MayName (all_of capacities) disk = disk < length capacities
MayName (only own capacity) disk = Unit {0}

-- `count` sectors from `first` on lie within the disk
abbrev pub LiesOn : Disks → (disk first count : ℕ) → Type 0
LiesOn (all_of capacities) disk first count =
    (disk < length capacities) × (first + count ≤ capacity_of capacities disk)
LiesOn (only own capacity) disk first count = disk ≡ own → first + count ≤ capacity

-- the disk is one of them, with this capacity
abbrev pub HasDisk : Disks → (disk capacity : ℕ) → Type 0
HasDisk (all_of capacities) disk capacity =
    (disk < length capacities) × (capacity_of capacities disk ≡ capacity)
HasDisk (only own size) disk capacity = (own ≡ disk) × (size ≡ capacity)

-- a write of `count` sectors from `first` on may stand after the log
pub record WriteMayStand (disks : Disks) (log : List Entry) (disk first count : ℕ) : Type 0 where
  pub running : machine_on log ≡ true
  pub some_sectors : 1 ≤ count
  pub few_sectors : count ≤ MAX_WRITE_SECTORS
  pub within : LiesOn disks disk first count
  pub room : written log + count ≤ MAX_LOGGED_SECTORS

-- snapshots of this owner are taken and removed under the number `who`: those of a migration under
-- the number of the caller that carries it out alone, which so knows that they are its own
abbrev pub ActsFor : (who : ℕ) → Owner → Type 0
ActsFor who Operator = Unit {0}
ActsFor who (Migration number) = who ≡ MIGRATION_CALLER

-- what has this owner may be removed under the number `who`: it is live, and that number acts for
-- its owner
abbrev pub OwnerLets : (who : ℕ) → Option Owner → Type 0
OwnerLets who None = ⊥
OwnerLets who (Some owner) = ActsFor who owner

-- the act of `who` may stand after the log
abbrev pub ActMayStand : Disks → List Entry → (who : ℕ) → Act → Type 0
ActMayStand disks log who (Write disk first sectors) =
    WriteMayStand disks log disk first (length sectors)
ActMayStand disks log who (Snap id owner) = (id ≡ taken log + 1) × ActsFor who owner
ActMayStand disks log who (Remove id) = OwnerLets who (owner_of id log)
ActMayStand disks log who (Reset disk) = MayName disks disk
ActMayStand disks log who Enable = is_enabled log ≡ false
ActMayStand disks log who Off = machine_on log ≡ true
ActMayStand disks log who On = machine_on log ≡ false

abbrev pub MayStand : Disks → List Entry → Entry → Type 0
MayStand disks log e = ActMayStand disks log e.who e.act

-- the log is within its limit, and each entry may stand after those before it
pub record Legal (disks : Disks) (log : List Entry) : Type 0 where
  pub short : length log ≤ MAX_LOG_ENTRIES
  pub each : (place : ℕ) (e : Entry) → slice_get log place ≡ Some e
      → MayStand disks (take place log) e
