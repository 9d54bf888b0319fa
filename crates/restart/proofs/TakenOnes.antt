-- A fleet agrees with the records that are taken over it: each machine that they name is there,
-- and what they say of a migration stands in the log of its machine.
use Rattle.std.proofs.Common.{◌≡◌, ℕ, ◌+◌, ◌-◌, ◌==◌, Bool, true, false, ◌&&◌, List, [], ◌∷◌, ◌++◌, length, Option, Some, None, option_map, refl, ap, subst, sym, ◌∙◌, append_assoc}
use Rattle.std.specs.Prelude.{option_and_then}
use Rattle.std.specs.List.{list_all}
use Rattle.std.specs.Option.{option_map_or}
use Rattle.std.proofs.lemmas.Bool.{eqb-true, eq-eqb, false≢true, and_parts}
use Rattle.std.proofs.lemmas.Option.{none-some, same_Some}
use Rattle.log_model.specs.Legal.{Legal, all_of}
use Rattle.log_model.specs.Link.{is_active}
use Rattle.log_model.specs.Marks.{tracking}
use Rattle.source_vm.specs.Machine.{MachineState}
use Rattle.fleet.specs.Fleet.{FleetState, machine_of}
use Rattle.fleet.specs.Sound.{IsFleet}
use Rattle.fleet.proofs.In.{is_in}
use Rattle.fleet.proofs.Logs.{at_place}
use Rattle.fleet.proofs.StaysSound.{IsVm-at}
use Rattle.plan_model.specs.declared.plan.Plan.{Plan}
use Rattle.record_codec.specs.declared.record.Record.{Record}
use Rattle.record_codec.specs.declared.record.Record.TheVariants.{PlanMade, MigrationStarted, Chosen, SnapTaken, IdsStored, VolumesMade, CheckpointAdded, StageBegun, StageDone, Paused, SnapRemoved, CutoverSet, PowerStored, PoweredOff, OffSeen, FinalSnapTaken, CancelAsked, Ended}
use Rattle.record_codec.specs.Record.{migration_of}
use Rattle.ctl_state.specs.declared.migration.Migration.{Migration}
use Rattle.ctl_state.specs.Asks.{RecordAsks, RecordsAsk, SnapshotAsks, AsksOf}
use Rattle.ctl_state.specs.Steps.{after_step}
use Rattle.ctl_state.specs.Fold.{IsStateOf, after, after_record, plan_of}
use Rattle.ctl_state.specs.MayStand.{record_may_stand}
use Rattle.ctl_state.specs.Value.{CtlValue, no_records, numbered, migration_in}
use Rattle.ctl_state.proofs.FoldFacts.{goes_on}
use Rattle.ctl_state.proofs.Came.{Came, made, stepped, stayed, came, fronts}
use Rattle.ctl_state.proofs.ListFacts.{none-numbered, numbered-before, numbered-added}
use Rattle.ctl_state.proofs.SoundValues.{SameOne, step-same, values_are_sound}
use Rattle.restart.specs.Machines.{has_tracking, is_tracked, is_tracked_with}
use Rattle.restart.specs.BorneOut.{names_machines, migration_before, IsBorneOut}
use Rattle.restart.specs.Standing.{AreBorneOut, StandOver, AreTaken}
use Rattle.restart.specs.Agrees.{PlansAsk, MigrationAsks}
use Rattle.restart.specs.Laws.{TakenAgree}
use Rattle.restart.proofs.There.{told_some, some_told}
use Rattle.restart.proofs.Staying.{values_go_on}

-- ---- the machines that records named

-- the machines of plans and migrations are there
record AreThere (fleet : FleetState) (v : CtlValue) : Type 0 where
  plans : PlansAsk fleet v
  migrations : (mig : ℕ) (m : Migration) → migration_in v mig ≡ Some m
      → is_tracked_with fleet m.vm m.disks ≡ true

none_there : (fleet : FleetState) → AreThere fleet no_records
none_there fleet = record {
  plans = λ number plan at. absurd (none-numbered number plan at);
  migrations = λ mig m at. absurd (none-numbered mig m at);
}

new_plan : (fleet : FleetState) (v : CtlValue) (new : Plan) → PlansAsk fleet v
    → list_all (is_tracked fleet) new.vms ≡ true → (p : ℕ) (plan : Plan)
    → numbered (v.plans ++ new ∷ []) p ≡ Some plan → list_all (is_tracked fleet) plan.vms ≡ true
new_plan fleet v new old named p plan at = by (p == length v.plans + 1) refl
  where
    by : (b : Bool) → (p == length v.plans + 1) ≡ b → list_all (is_tracked fleet) plan.vms ≡ true
    by true e =
        let is : new ≡ plan = same_Some new plan (sym (numbered-added v.plans new)
        ∙ ap (numbered (v.plans ++ new ∷ [])) (sym (eqb-true p (length v.plans + 1) e)) ∙ at) in
        ap (λ (x : Plan). list_all (is_tracked fleet) x.vms) (sym is) ∙ named
    by false e = old p plan (sym (numbered-before v.plans new p
        (λ is. false≢true (sym e ∙ eq-eqb p (length v.plans + 1) is))) ∙ at)

plans_ask : (fleet : FleetState) (v : CtlValue) (r : Record) → PlansAsk fleet v
    → names_machines fleet r ≡ true → PlansAsk fleet (after_record v r)
plans_ask fleet v (PlanMade number name interval vms) old named =
    new_plan fleet v (plan_of number name interval vms) old named
plans_ask fleet v (MigrationStarted k plan vm disks) old named = old
plans_ask fleet v (Chosen k way moment) old named = old
plans_ask fleet v (SnapTaken k snap mark) old named = old
plans_ask fleet v (IdsStored k ids) old named = old
plans_ask fleet v (VolumesMade k) old named = old
plans_ask fleet v (CheckpointAdded k previous current last) old named = old
plans_ask fleet v (StageBegun k disk) old named = old
plans_ask fleet v (StageDone k disk written) old named = old
plans_ask fleet v (Paused k moment) old named = old
plans_ask fleet v (SnapRemoved k snap) old named = old
plans_ask fleet v (CutoverSet plan has moment) old named = old
plans_ask fleet v (PowerStored k on) old named = old
plans_ask fleet v (PoweredOff k) old named = old
plans_ask fleet v (OffSeen k off) old named = old
plans_ask fleet v (FinalSnapTaken k snap mark place) old named = old
plans_ask fleet v (CancelAsked k) old named = old
plans_ask fleet v (Ended k how place) old named = old

abbrev Tracked : FleetState → Migration → Type 0
Tracked fleet m = is_tracked_with fleet m.vm m.disks ≡ true

tracked_same : (fleet : FleetState) (old new : Migration) → SameOne old new
    → Tracked fleet old → Tracked fleet new
tracked_same fleet old new same h =
    ap (λ (vm : ℕ). is_tracked_with fleet vm new.disks) same.vm
    ∙ ap (is_tracked_with fleet old.vm) same.disks ∙ h

migration_asks : (fleet : FleetState) (v : CtlValue) (r : Record) (mig : ℕ) (n : Migration)
    → ((k : ℕ) (m : Migration) → migration_in v k ≡ Some m → Tracked fleet m)
    → names_machines fleet r ≡ true → Came v r mig n → Tracked fleet n
migration_asks fleet v r mig n old named (made plan vm disks is may new) =
    subst (Tracked fleet) (sym new) (ap (names_machines fleet) (sym is) ∙ named)
migration_asks fleet v r mig n old named (stepped m there may is of) =
    subst (Tracked fleet) (sym is) (tracked_same fleet m (after_step m r) (step-same m r)
    (old mig m there))
migration_asks fleet v r mig n old named (stayed there other) = old mig n there

-- a front of records that are borne out is
pub front_borne : (fleet : FleetState) (front rest : List Record)
    → AreBorneOut fleet (front ++ rest) → AreBorneOut fleet front
front_borne fleet front rest borne before behind r v split come = borne before (behind ++ rest) r v
    (ap (λ (xs : List Record). xs ++ rest) split ∙ append_assoc before (r ∷ behind) rest) come

-- that of the last of them, too
last_borne : (fleet : FleetState) (front : List Record) (r : Record) (v : CtlValue)
    → AreBorneOut fleet (front ++ r ∷ []) → IsStateOf v front → IsBorneOut fleet v r
last_borne fleet front r v borne come = borne front [] r v refl come

abbrev Front : FleetState → List Record → CtlValue → Type 0
Front fleet front w = IsStateOf w front × (AreBorneOut fleet front → AreThere fleet w)

one_front : (fleet : FleetState) (front : List Record) (w : CtlValue) (r : Record)
    → Front fleet front w → record_may_stand w r ≡ true
    → Front fleet (front ++ r ∷ []) (after_record w r)
one_front fleet front w r old may = (
  goes_on w front r old.0 may,
  λ borne.
      let before = old.1 (front_borne fleet front (r ∷ []) borne) in
      let one = last_borne fleet front r w borne old.0 in
      record {
        plans = plans_ask fleet w r before.plans one.named;
        migrations = λ mig n there. migration_asks fleet w r mig n before.migrations one.named
            (came w r mig n may there);
      },
)

all_there : (fleet : FleetState) (records : List Record) (v : CtlValue) → StandOver fleet records v
    → AreThere fleet v
all_there fleet records v stand = (fronts (Front fleet) (one_front fleet)
    (refl, λ borne. none_there fleet) records v stand.come_to).1 stand.borne_out

-- ---- what a machine of a fleet tells

-- what is known of a machine that is tracked and has so many disks
pub record IsTrackedAt (fleet : FleetState) (vm disks : ℕ) : Type 0 where
  pub at : MachineState
  pub found : machine_of vm fleet ≡ Some at
  pub numbered : at.number ≡ vm
  pub sized : length at.capacities ≡ disks
  pub legal : Legal (all_of at.capacities) at.log
  pub tracked : is_active (tracking at.log) ≡ true

of_machine : (fleet : FleetState) (vm disks : ℕ) (m : MachineState) → IsFleet fleet
    → machine_of vm fleet ≡ Some m
    → (has_tracking m && length m.capacities == disks) ≡ true → IsTrackedAt fleet vm disks
of_machine fleet vm disks m is found both =
    let parts = and_parts (has_tracking m) (length m.capacities == disks) both in
    let known = is_in vm m fleet found in
    let legal =
    (IsVm-at (vm - 1) known.0 fleet is (at_place vm known.0 fleet known.1.there)).legal in
    record {
      at = m;
      found = found;
      numbered = ap (λ (x : MachineState). x.number) known.1.same;
      sized = eqb-true (length m.capacities) disks parts.1;
      legal = subst (λ (x : MachineState). Legal (all_of x.capacities) x.log)
          (sym known.1.same) legal;
      tracked = parts.0;
    }

pub tracked_at : (fleet : FleetState) (vm disks : ℕ) → IsFleet fleet
    → is_tracked_with fleet vm disks ≡ true → IsTrackedAt fleet vm disks
tracked_at fleet vm disks is h = by (machine_of vm fleet) refl h
  where
    by : (o : Option MachineState) → machine_of vm fleet ≡ o
        → option_map_or (λ machine. has_tracking machine && length machine.capacities == disks)
        o false ≡ true → IsTrackedAt fleet vm disks
    by None found e = absurd (false≢true e)
    by (Some m) found e = of_machine fleet vm disks m is found e

-- ---- what a migration's records ask

-- the migration of a record, as it was before it
pub before_is : (v : CtlValue) (r : Record) (mig : ℕ) (m : Migration) → migration_of r ≡ Some mig
    → migration_in v mig ≡ Some m → migration_before v r ≡ Some m
before_is v r mig m of there = ap (option_and_then (migration_in v)) of ∙ there

log_asks : (fleet : FleetState) (records : List Record) (v : CtlValue) (mig : ℕ) (m : Migration)
    (at : MachineState) → StandOver fleet records v → migration_in v mig ≡ Some m
    → machine_of m.vm fleet ≡ Some at → RecordsAsk mig at records
log_asks fleet records v mig m at stand there found front rest r w earlier split of come known =
    let goes = values_go_on front (r ∷ rest) w v come (sym (ap after split) ∙ stand.come_to) in
    let on = goes.migrations mig earlier known in
    let now : on.now ≡ m = same_Some on.now m (sym on.there ∙ there) in
    let vm : m.vm ≡ earlier.vm = ap (λ (x : Migration). x.vm) (sym now) ∙ on.same.vm in
    let borne = (stand.borne_out front rest r w split come).logged earlier
    (before_is w r mig earlier of known) in
    told_some (machine_of earlier.vm fleet) (λ here. RecordAsks here earlier r) at borne
    (ap (λ (k : ℕ). machine_of k fleet) (sym vm) ∙ found)

pub one_asks : (fleet : FleetState) (records : List Record) (v : CtlValue) (mig : ℕ)
    (m : Migration) → IsFleet fleet → AreTaken fleet records v → migration_in v mig ≡ Some m
    → is_tracked_with fleet m.vm m.disks ≡ true → MigrationAsks fleet records None mig m
one_asks fleet records v mig m is taken there tracked =
    let here = tracked_at fleet m.vm m.disks is tracked in
    let number = (values_are_sound records v taken.stand.come_to).migrations mig m there in
    let snapshot = told_some (machine_of m.vm fleet)
    (λ (at : MachineState). SnapshotAsks m.number at.log m) here.at
    (taken.snapshots mig m there) here.found in
    some_told (machine_of m.vm fleet) (λ at. AsksOf mig at records m None) here.at here.found
    (record {
      of_machine = record {
        numbered = here.numbered;
        sized = here.sized;
        legal = here.legal;
        tracked = here.tracked;
      };
      of_log = log_asks fleet records v mig m here.at taken.stand there here.found;
      of_snapshot = subst (λ (k : ℕ). SnapshotAsks k here.at.log m) number.numbered snapshot;
      of_volumes = λ told e. absurd (none-some told e);
    })

pub taken_agree : TakenAgree
taken_agree fleet records v is taken =
    let there = all_there fleet records v taken.stand in
    record {
      value = v;
      come_to = taken.stand.come_to;
      fleet_sound = is;
      plans = there.plans;
      migrations = λ mig m at. one_asks fleet records v mig m is taken at
          (there.migrations mig m at);
      volumes = λ told is. absurd (none-some told is);
    }
