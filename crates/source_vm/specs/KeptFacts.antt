-- What is kept beside a log, so that no call has to walk it: facts that change by the act of each
-- entry alone. One relation says that they and the live snapshots are those of the log.
use Rattle.std.specs.Prelude.{◌≡◌, ℕ, ◌+◌, ◌≤◌, List, length, All, Bool, true, false, Some, None}
use Rattle.log_model.specs.declared.entry.Act.{Act}
use Rattle.log_model.specs.declared.entry.Act.TheVariants.{Write, Snap, Remove, Reset, Enable, Off, On}
use Rattle.log_model.specs.declared.entry.Entry.{Entry}
use Rattle.log_model.specs.declared.folds.Tracking.{Tracking}
use Rattle.log_model.specs.declared.folds.Tracking.TheVariants.{Never, Enabled, Active}
use Rattle.log_model.specs.Legal.{machine_on, taken, owner_of, written}
use Rattle.log_model.specs.Marks.{tracking}
use Rattle.log_model.specs.Frozen.{last_off}
use Rattle.source_vm.specs.declared.kept_facts.KeptFacts.{KeptFacts}
use Rattle.source_vm.specs.declared.live.LiveSnap.{LiveSnap}
use Rattle.source_vm.specs.Live.{owner_in, AreAscending}

-- a snapshot or a power-on puts tracking into effect, where it was enabled
abbrev pub started : Tracking → Tracking
started Never = Never
started Enabled = Active
started Active = Active

-- tracking was enabled
abbrev pub was_enabled : Tracking → Bool
was_enabled Never = false
was_enabled Enabled = true
was_enabled Active = true

-- the facts after an act whose entry stands at this place
abbrev pub facts_after : (place : ℕ) → Act → KeptFacts → KeptFacts
facts_after place (Write disk first sectors) facts =
    record facts { written = facts.written + length sectors }
facts_after place (Snap id owner) facts =
    record facts { taken = id; tracking = started facts.tracking }
facts_after place (Remove id) facts = facts
facts_after place (Reset disk) facts = facts
facts_after place Enable facts = record facts { tracking = Enabled }
facts_after place Off facts = record facts { on = false; last_off = Some place }
facts_after place On facts =
    record facts { on = true; last_off = None; tracking = started facts.tracking }

-- what is kept is what the log says
pub record FactsStand (facts : KeptFacts) (live : List LiveSnap) (log : List Entry) : Type 0 where
  pub on : facts.on ≡ machine_on log
  pub tracked : facts.tracking ≡ tracking log
  pub snapped : facts.taken ≡ taken log
  pub sectors : facts.written ≡ written log
  pub off : facts.last_off ≡ last_off log
  pub ascending : AreAscending live
  pub were_taken : All (λ s. s.id ≤ facts.taken) live
  pub owners : (s : ℕ) → owner_in s live ≡ owner_of s log
