-- What a table of successors gives. Of rows that fit the one that stands first counts, so a table
-- is a function of phase and fact, whatever rows it has.
use Rattle.std.specs.Prelude.{◌≡◌, ℕ, ◌==◌, ◌&&◌, Bool, List, Option, option_map, All}
use Rattle.std.specs.List.{find}
use Rattle.phase_table.specs.declared.phases.Phase.{Phase}
use Rattle.phase_table.specs.declared.table.Fact.{Fact}
use Rattle.phase_table.specs.declared.table.Fact.TheVariants.{Done, Precopy, Cutover, Running, Cancelled, Failed}
use Rattle.phase_table.specs.declared.table.Row.{Row}
use Rattle.phase_table.specs.Phases.{phase_number}

-- facts have numbers only to tell them apart
abbrev pub fact_number : Fact → ℕ
fact_number Done = 0
fact_number Precopy = 1
fact_number Cutover = 2
fact_number Running = 3
fact_number Cancelled = 4
fact_number Failed = 5

-- the row is of that phase and that fact
pub record Fits (row : Row) (phase : Phase) (fact : Fact) : Type 0 where
  pub same_phase : row.phase ≡ phase
  pub same_fact : row.fact ≡ fact

-- the same as a test
abbrev pub fits : (row : Row) (phase : Phase) (fact : Fact) → Bool
fits row phase fact =
    phase_number row.phase == phase_number phase && fact_number row.fact == fact_number fact

abbrev pub successor_in : (rows : List Row) (phase : Phase) (fact : Fact) → Option Phase
successor_in rows phase fact =
    option_map (λ row. row.successor) (find (λ row. fits row phase fact) rows)

-- no row is of that phase and that fact
abbrev pub NoRowFits : (rows : List Row) (phase : Phase) (fact : Fact) → Type 0
NoRowFits rows phase fact = All (λ row. ¬ (Fits row phase fact)) rows
