-- What a migration that has ended tells of its records. Complete is one only with each of its disks
-- copied in its final checkpoint, with the place of its final snapshot, and with no cancel among
-- its records; cancelled is one exactly where a cancel stands there.
use Rattle.std.specs.Prelude.{◌≡◌, ℕ, ◌↔◌, true, List, Contains, Option, Some, IsSome, Ok}
use Rattle.record_codec.specs.declared.record.Record.{Record}
use Rattle.record_codec.specs.declared.record.Record.TheVariants.{CancelAsked}
use Rattle.ctl_state.specs.declared.migration.Migration.{Migration}
use Rattle.ctl_state.specs.declared.migration.How.TheVariants as Hows
use Rattle.ctl_state.specs.Value.{CtlValue, migration_in}
use Rattle.ctl_state.specs.Fold.{after}
use Rattle.ctl_state.specs.Sound.{IsComplete}

-- its cancel stands exactly where a record asks for it
abbrev pub CancelsAreAsked : Type 0
CancelsAreAsked = (records : List Record) (v : CtlValue) (mig : ℕ) (m : Migration)
    → after records ≡ Ok v → migration_in v mig ≡ Some m
    → (m.cancel ≡ true) ↔ Contains records (CancelAsked mig)

pub record IsWhole (records : List Record) (mig : ℕ) (m : Migration) : Type 0 where
  pub complete : IsComplete m
  pub not_cancelled : ¬ (Contains records (CancelAsked mig))

abbrev pub CompletedIsWhole : Type 0
CompletedIsWhole = (records : List Record) (v : CtlValue) (mig : ℕ) (m : Migration)
    → after records ≡ Ok v → migration_in v mig ≡ Some m → m.how ≡ Some Hows.Completed
    → IsWhole records mig m

abbrev pub CancelledWhereAsked : Type 0
CancelledWhereAsked = (records : List Record) (v : CtlValue) (mig : ℕ) (m : Migration)
    → after records ≡ Ok v → migration_in v mig ≡ Some m → IsSome m.how
    → (m.how ≡ Some Hows.Cancelled) ↔ Contains records (CancelAsked mig)
