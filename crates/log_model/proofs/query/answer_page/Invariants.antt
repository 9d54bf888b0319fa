use Rattle.std.proofs.Common.{◌≡◌, ◌-◌, ◌<◌, ◌≤◌, ◌++◌, length, get_or}
use Rattle.sector_model.specs.Run.{end_of}
use Rattle.sector_model.specs.Page.{areas_from}
use Rattle.sector_model.specs.declared.run.Run.{Run}
use Rattle.log_model.proofs.AreaLemmas.{touched_runs}
use Rattle.log_model.proofs.query.answer_page.Given as goal

-- the page has the areas up to `at`, and those from there on are left
abbrev pub invariant-loop-run : goal.invariant-loop-run
invariant-loop-run l = record {
  begins : l.page.start ≡ l.start;
  joined : areas_from l.start (touched_runs l.capacity l.disk l.log)
      ≡ l.page.areas ++ areas_from l.at (touched_runs l.capacity l.disk l.log);
  from : l.start ≤ l.at;
  within : l.at ≤ l.capacity;
  few : length l.page.areas ≤ 1024;
  ended : (d : Run) → 0 < length l.page.areas
      → end_of (get_or l.page.areas (length l.page.areas - 1) d) ≡ l.at;
}

abbrev pub decreases-loop-run : goal.decreases-loop-run
decreases-loop-run l = l.capacity - l.at
