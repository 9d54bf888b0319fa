-- What a call by which a caller reaches a machine leaves, and what it answers. A machine may have
-- other callers too: each call sees the log at one moment, which begins with what this caller had
-- seen, and what is new in it is of others. All that a caller knows of a machine is plain data, so
-- that a history which several callers share can carry it.
use Rattle.std.specs.Prelude.{◌≡◌, ℕ, ◌+◌, ◌-◌, ◌<◌, ◌≤◌, ◌==◌, List, [], ◌∷◌, ◌++◌, length, take, drop, Bool, true, false, Option, Some, None, Result, Ok, Err}
use Rattle.std.specs.List.{filter}
use Rattle.basics.specs.Prefix.{IsPrefix}
use Rattle.log_model.specs.declared.entry.Owner.{Owner}
use Rattle.log_model.specs.declared.entry.Act.{Act}
use Rattle.log_model.specs.declared.entry.Entry.{Entry}
use Rattle.log_model.specs.declared.folds.Tracking.{Tracking}
use Rattle.log_model.specs.declared.folds.Tracking.TheVariants.{Never, Enabled, Active}
use Rattle.log_model.specs.declared.refusals.LinkRefused.{LinkRefused}
use Rattle.log_model.specs.declared.link.Snapped.{Snapped}
use Rattle.log_model.specs.declared.link.Facts.{Facts}
use Rattle.log_model.specs.Legal.{Legal, all_of, machine_on, taken, owner_of, is_enabled}
use Rattle.log_model.specs.Marks.{tracking}
use Rattle.log_model.specs.Frozen.{last_off}

-- what names the turn that a link stands over: a list of numbers that no other turn has
abbrev pub TurnName : Type 0
TurnName = List ℕ

-- a machine as one caller reaches it: its number, the capacities of its disks, the caller's number,
-- the turn that the link stands over where it has one, whether nobody else reaches the machine, the
-- log as this caller has last seen it, and the caller's own entries
pub record LinkState : Type 0 where
  pub machine : ℕ
  pub capacities : List ℕ
  pub caller : ℕ
  pub turn : Option TurnName
  pub unshared : Bool
  pub seen : List Entry
  pub own : List Entry

-- the entry is under this number
abbrev pub is_by : (who : ℕ) → Entry → Bool
is_by who e = e.who == who

-- a call that sees `log` at its moment, and adds these entries to it
pub record IsCall (log added : List Entry) (old new : LinkState) : Type 0 where
  -- only the log as last seen and the caller's own entries change
  pub new_is : new ≡ record old { seen = log ++ added; own = old.own ++ added }
  -- the log begins with what the caller had seen
  pub goes_on : IsPrefix old.seen log
  -- what else is new is of others
  pub others : filter (is_by old.caller) (drop (length old.seen) log) ≡ []
  -- and where nobody else reaches the machine, nothing is
  pub alone : old.unshared ≡ true → log ≡ old.seen
  pub legal : Legal (all_of old.capacities) (log ++ added)

-- the call adds no entry
abbrev pub OnlyReads : (old new : LinkState) → Type 0
OnlyReads old new = IsCall new.seen [] old new

-- the log at the moment of a call that adds one entry exactly where it is accepted
abbrev pub log_met : {T : Type 0} → Result T LinkRefused → (new : LinkState) → List Entry
log_met (Ok answer) new = take (length new.seen - 1) new.seen
log_met (Err refusal) new = new.seen

abbrev pub entry_if_ok : {T : Type 0} → Result T LinkRefused → Entry → List Entry
entry_if_ok (Ok answer) e = e ∷ []
entry_if_ok (Err refusal) e = []

-- the call adds this act under the caller's number where it is accepted, and else no entry
abbrev pub AddsAct : {T : Type 0} → Result T LinkRefused → Act → (old new : LinkState) → Type 0
AddsAct result act old new =
    IsCall (log_met result new) (entry_if_ok result (record { who = old.caller; act = act }))
    old new

-- the link with these entries behind the log as last seen, and behind the caller's own
abbrev pub with_entries : (added : List Entry) → LinkState → LinkState
with_entries added a = record a { seen = a.seen ++ added; own = a.own ++ added }

-- what such a call leaves where nobody else reaches the machine: the entry of this act stands last
-- where it is accepted, and else all is as it was
abbrev pub after_act_alone : {T : Type 0} → Result T LinkRefused → Act → LinkState → LinkState
after_act_alone (Ok answer) act old =
    with_entries (record { who = old.caller; act = act } ∷ []) old
after_act_alone (Err refusal) act old = old

-- what calls in a row leave, however many: the same machine for the same caller, and a longer log,
-- in which what is new under the caller's number is what its own entries gained
pub record FollowsFrom (old new : LinkState) : Type 0 where
  pub machine : new.machine ≡ old.machine
  pub capacities : new.capacities ≡ old.capacities
  pub caller : new.caller ≡ old.caller
  pub turn : new.turn ≡ old.turn
  pub unshared : new.unshared ≡ old.unshared
  pub seen : IsPrefix old.seen new.seen
  pub own : new.own
      ≡ old.own ++ filter (is_by old.caller) (drop (length old.seen) new.seen)
  -- where nobody else reaches the machine, all that is new is the caller's
  pub alone : old.unshared ≡ true
      → filter (is_by old.caller) (drop (length old.seen) new.seen)
      ≡ drop (length old.seen) new.seen
  pub legal : Legal (all_of old.capacities) old.seen → Legal (all_of old.capacities) new.seen

-- what taking a snapshot after the log tells: its id, its mark, and the place where the machine
-- went off, if it is off
abbrev pub snapped_after : List Entry → Snapped
snapped_after log =
    record { id = taken log + 1; mark = length log; off_place = last_off log }

abbrev pub is_active : Tracking → Bool
is_active Never = false
is_active Enabled = false
is_active Active = true

abbrev pub facts_of : List Entry → Facts
facts_of log = record {
  on = machine_on log;
  entries = length log;
  enabled = is_enabled log;
  tracking = is_active (tracking log);
  snaps = taken log;
}

-- the snapshot is live, and this owner's
abbrev pub Owns : Owner → (snapshot : ℕ) → List Entry → Type 0
Owns owner snapshot log = owner_of snapshot log ≡ Some owner

-- the least number from `from` on of which this is true, or none where it is true of none
abbrev pub IsLeastWhere : (IsOne : ℕ → Type 0) → (from : ℕ) → Option ℕ → Type 0
IsLeastWhere IsOne from (Some n) =
    IsOne n × (from ≤ n)
    × ((earlier : ℕ) → from ≤ earlier → earlier < n → ¬ (IsOne earlier))
IsLeastWhere IsOne from None = (n : ℕ) → from ≤ n → ¬ (IsOne n)

-- the least live snapshot of the owner from `from` on, or none where there is none
abbrev pub IsLeastOwned : Owner → (from : ℕ) → List Entry → Option ℕ → Type 0
IsLeastOwned owner from log found = IsLeastWhere (λ s. Owns owner s log) from found
