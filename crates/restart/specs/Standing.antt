-- Which records stand over a fleet, and where they are strange: at the first one that contradicts
-- those before it or that the fleet doesn't bear out; or at the last one, where each is accepted
-- and a live migration lacks its snapshot.
use Rattle.std.specs.Prelude.{◌≡◌, ◌⊎◌, ℕ, ◌+◌, true, false, List, ◌∷◌, ◌++◌, length, Some, Result, Ok, Err}
use Rattle.fleet.specs.Fleet.{FleetState}
use Rattle.record_codec.specs.declared.record.Record.{Record}
use Rattle.ctl_state.specs.declared.migration.Migration.{Migration}
use Rattle.ctl_state.specs.Fold.{IsStateOf, after_record}
use Rattle.ctl_state.specs.MayStand.{record_may_stand}
use Rattle.ctl_state.specs.Value.{CtlValue, migration_in}
use Rattle.restart.specs.BorneOut.{IsBorneOut, HasItsSnapshot}
use Rattle.restart.specs.declared.refusal.ReopenRefused.{ReopenRefused}
use Rattle.restart.specs.declared.refusal.ReopenRefused.TheVariants.{Journal, Strange, NoMemory}

-- the fleet bears out each record, by what those before it came to
abbrev pub AreBorneOut : FleetState → List Record → Type 0
AreBorneOut fleet records = (front rest : List Record) (r : Record) (v : CtlValue)
    → records ≡ front ++ r ∷ rest → IsStateOf v front → IsBorneOut fleet v r

-- the records are accepted one after another, and come to this value
pub record StandOver (fleet : FleetState) (records : List Record) (v : CtlValue) : Type 0 where
  pub come_to : IsStateOf v records
  pub borne_out : AreBorneOut fleet records

-- a record isn't accepted behind those that came to this value
abbrev pub IsRejected : FleetState → CtlValue → Record → Type 0
IsRejected fleet v r = (record_may_stand v r ≡ false) ⊎ (¬ IsBorneOut fleet v r)

-- it is, and this is the value behind it
pub record Accepts (fleet : FleetState) (r : Record) (old new : CtlValue) : Type 0 where
  pub may_stand : record_may_stand old r ≡ true
  pub borne_out : IsBorneOut fleet old r
  pub after_it : new ≡ after_record old r

-- the record of this number, from 1 on, is the first that isn't accepted
pub record IsFirstStrange (fleet : FleetState) (records : List Record) (number : ℕ) : Type 0 where
  pub front : List Record
  pub strange : Record
  pub rest : List Record
  pub value : CtlValue
  pub split : records ≡ front ++ strange ∷ rest
  pub counted : number ≡ length front + 1
  pub before : StandOver fleet front value
  pub rejected : IsRejected fleet value strange

-- each migration has its snapshot
abbrev pub HaveSnapshots : FleetState → CtlValue → Type 0
HaveSnapshots fleet v = (mig : ℕ) (m : Migration) → migration_in v mig ≡ Some m
    → HasItsSnapshot fleet m

-- one doesn't
pub record LackASnapshot (fleet : FleetState) (v : CtlValue) : Type 0 where
  pub mig : ℕ
  pub migration : Migration
  pub known : migration_in v mig ≡ Some migration
  pub lacks : ¬ HasItsSnapshot fleet migration

-- each is accepted, but a snapshot isn't there
pub record IsLastStrange (fleet : FleetState) (records : List Record) (number : ℕ) : Type 0 where
  pub value : CtlValue
  pub stand : StandOver fleet records value
  pub lack : LackASnapshot fleet value
  pub counted : number ≡ length records

-- the records are strange at this number
abbrev pub IsStrange : FleetState → List Record → (number : ℕ) → Type 0
IsStrange fleet records number =
    IsFirstStrange fleet records number ⊎ IsLastStrange fleet records number

-- the records are those of a fleet that lacks nothing of what they say
pub record AreTaken (fleet : FleetState) (records : List Record) (v : CtlValue) : Type 0 where
  pub stand : StandOver fleet records v
  pub snapshots : HaveSnapshots fleet v

-- what the fold of records over a fleet answers
abbrev pub IsFolded : FleetState → List Record → Result CtlValue ReopenRefused → Type 0
IsFolded fleet records (Ok v) = AreTaken fleet records v
IsFolded fleet records (Err (Journal why)) = ⊥
IsFolded fleet records (Err (Strange number)) = IsStrange fleet records number
IsFolded fleet records (Err NoMemory) = Unit {0}
