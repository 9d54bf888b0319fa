use Rattle.std.proofs.Common.{◌≡◌, ◌-◌, ◌<◌, ◌≤◌, ◌++◌, length, get_or}
use Rattle.sector_model.specs.Run.{end_of}
use Rattle.sector_model.specs.Page.{areas_from}
use Rattle.sector_model.specs.declared.run.Run.{Run}
use Rattle.change_tracker.specs.Touches.{areas_in, IsSeen}
use Rattle.change_tracker.proofs.touches.Touches.fill_page.Given as goal

-- the page has the areas up to `at`, and those from there on are left
abbrev pub invariant-loop-seen : goal.invariant-loop-seen
invariant-loop-seen l = record {
  begins : l.page.start ≡ l.start;
  seen : IsSeen l.self l.window l.seen.word l.seen.bits;
  joined : areas_from l.start (areas_in l.capacity l.self l.window)
      ≡ l.page.areas ++ areas_from l.at (areas_in l.capacity l.self l.window);
  from : l.start ≤ l.at;
  within : l.at ≤ l.capacity;
  few : length l.page.areas ≤ 1024;
  ended : (d : Run) → 0 < length l.page.areas
      → end_of (get_or l.page.areas (length l.page.areas - 1) d) ≡ l.at;
}

abbrev pub decreases-loop-seen : goal.decreases-loop-seen
decreases-loop-seen l = l.capacity - l.at
