-- What a log says of each snapshot: who owns it, and whether it was removed.
use Rattle.std.specs.Prelude.{◌≡◌, ℕ, ◌+◌, ◌≤◌, ◌||◌, Bool, true, false, List, length, slice_get, Option, Some, None}
use Rattle.log_model.specs.declared.entry.Owner.{Owner}
use Rattle.log_model.specs.declared.entry.Act.{Act}
use Rattle.log_model.specs.declared.entry.Act.TheVariants.{Write, Snap, Remove, Reset, Enable, Off, On}
use Rattle.log_model.specs.declared.entry.Entry.{Entry}
use Rattle.log_model.specs.Legal.{owner_of, taken}
use Rattle.ctl_state.specs.Migration.{change_at}
use Rattle.ctl_state.specs.Asks.{is_removed}
use Rattle.log_facts.specs.declared.snapshots.SnapshotFacts.{SnapshotFacts}

-- it gets this owner, or loses the one that it had, and may be removed
abbrev pub with_owner : (owner : Option Owner) (removed : Bool) → SnapshotFacts → SnapshotFacts
with_owner owner removed fact =
    record { owner = owner; removed = fact.removed || removed }

-- what an act makes of the facts of all snapshots, each at its number
abbrev pub facts_after : Act → List SnapshotFacts → List SnapshotFacts
facts_after (Write disk first sectors) facts = facts
facts_after (Snap id owner) facts = change_at facts id (with_owner (Some owner) false)
facts_after (Remove id) facts = change_at facts id (with_owner None true)
facts_after (Reset disk) facts = facts
facts_after Enable facts = facts
facts_after Off facts = facts
facts_after On facts = facts

abbrev pub snapshot_fact : (snapshot : ℕ) → List Entry → SnapshotFacts
snapshot_fact snapshot log =
    record { owner = owner_of snapshot log; removed = is_removed snapshot log }

-- at each number up to the last that was taken stands what the log says of it
pub record AreSnapshots (log : List Entry) (snapshots : List SnapshotFacts) : Type 0 where
  pub up_to_last : length snapshots ≡ taken log + 1
  pub each : (snapshot : ℕ) → snapshot ≤ taken log
      → slice_get snapshots snapshot ≡ Some (snapshot_fact snapshot log)
