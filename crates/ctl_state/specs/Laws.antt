-- What holds of every list of records: a list goes on from what a front of it came to, and a record
-- changes its own migration alone.
use Rattle.std.specs.Prelude.{◌≡◌, ◌≢◌, ℕ, ◌+◌, true, false, List, [], ◌∷◌, ◌++◌, length, Some, Result, Ok, Err}
use Rattle.record_codec.specs.declared.record.Record.{Record}
use Rattle.record_codec.specs.Record.{migration_of}
use Rattle.ctl_state.specs.Value.{CtlValue, migration_in}
use Rattle.ctl_state.specs.MayStand.{record_may_stand}
use Rattle.ctl_state.specs.Fold.{after_record, after_from, after, IsStateOf}

-- what came of a front, with the rest behind it
abbrev pub then_after : (before : ℕ) → Result CtlValue ℕ → List Record → Result CtlValue ℕ
then_after before (Ok v) records = after_from before v records
then_after before (Err number) records = Err number

abbrev pub ListsJoin : Type 0
ListsJoin = (front rest : List Record)
    → after (front ++ rest) ≡ then_after (length front) (after front) rest

-- a state is that of a list of records, one more of which may stand exactly where the state says so
abbrev pub GoesOn : Type 0
GoesOn = (v : CtlValue) (records : List Record) (r : Record) → IsStateOf v records
    → record_may_stand v r ≡ true → IsStateOf (after_record v r) (records ++ r ∷ [])

abbrev pub StopsAtStrange : Type 0
StopsAtStrange = (v : CtlValue) (records : List Record) (r : Record) → IsStateOf v records
    → record_may_stand v r ≡ false → after (records ++ r ∷ []) ≡ Err (length records + 1)

-- a record that may stand leaves the migrations of other numbers
abbrev pub OtherMigrationsStay : Type 0
OtherMigrationsStay = (v : CtlValue) (r : Record) (mig : ℕ) → record_may_stand v r ≡ true
    → migration_of r ≢ Some mig → migration_in (after_record v r) mig ≡ migration_in v mig
