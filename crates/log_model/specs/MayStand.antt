-- What is asked of a write wherever it lies: a word of the step that decides it.
use Rattle.std.specs.Prelude.{◌≡◌, ℕ, ◌+◌, ◌≤◌, List, true}
use Rattle.basics.specs.declared.limits.TheConstants.{MAX_WRITE_SECTORS, MAX_LOGGED_SECTORS}
use Rattle.log_model.specs.declared.entry.Entry.{Entry}
use Rattle.log_model.specs.Legal.{machine_on, written}

pub record MayWrite (log : List Entry) (count : ℕ) : Type 0 where
  pub running : machine_on log ≡ true
  pub some_sectors : 1 ≤ count
  pub few_sectors : count ≤ MAX_WRITE_SECTORS
  pub room : written log + count ≤ MAX_LOGGED_SECTORS
