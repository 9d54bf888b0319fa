-- A log by which the definitions are shown: each of them has a value on it that no other log of
-- two sectors would give so shortly.
use Rattle.std.specs.Prelude.{List, [], ◌∷◌}
use Rattle.sector_model.specs.Sector.{filled}
use Rattle.log_model.specs.declared.entry.Owner.TheVariants.{Operator, Migration}
use Rattle.log_model.specs.declared.entry.Act.TheVariants.{Write, Snap, Remove, Reset, Enable, Off}
use Rattle.log_model.specs.declared.entry.Entry.{Entry}

-- enabled, written, frozen, written again, off, frozen by a migration, then the first snapshot
-- removed and a reset
abbrev pub small_log : List Entry
small_log =
    record { who = 1; act = Enable }
    ∷ record { who = 3; act = Write 0 0 (filled 1 ∷ filled 1 ∷ []) }
    ∷ record { who = 1; act = Snap 1 Operator }
    ∷ record { who = 3; act = Write 0 0 (filled 2 ∷ []) }
    ∷ record { who = 1; act = Off }
    ∷ record { who = 1; act = Snap 2 (Migration 7) }
    ∷ record { who = 1; act = Remove 1 }
    ∷ record { who = 1; act = Reset 0 } ∷ []
