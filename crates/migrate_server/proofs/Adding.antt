-- Records that commands on plans add are taken where those before them are: they name machines that
-- are there and tracked, and begin migrations that have nothing yet to be found in a log.
use Rattle.std.proofs.Common.{◌≡◌, ◌≢◌, ℕ, zero, suc, ◌+◌, ◌-◌, ◌==◌, ◌&&◌, Bool, true, false, cond, List, [], ◌∷◌, ◌++◌, length, map, drop, Option, Some, None, option_map, IsSomeAnd, All, refl, sym, ap, subst, ◌∙◌, append_assoc}
use Rattle.std.specs.Prelude.{is_some, unwrap_or}
use Rattle.std.specs.Cmp.Derive.{both_true}
use Rattle.std.specs.List.{AllByRecursion, list_all, zip, range_with_len}
use Rattle.std.specs.Option.{ForSome, option_map_or}
use Rattle.std.proofs.lemmas.Bool.{and_parts, eqb-true, eq-eqb, false≢true}
use Rattle.std.proofs.lemmas.List.{append-nil}
use Rattle.std.proofs.lemmas.List.Elements.{recursion_from_All}
use Rattle.std.proofs.lemmas.Option.{none-some, option_and_then_some, same_Some}
use Rattle.log_model.specs.Link.{is_active}
use Rattle.log_model.specs.Marks.{tracking}
use Rattle.source_vm.specs.Machine.{MachineState}
use Rattle.fleet.specs.Fleet.{FleetState, machine_of}
use Rattle.fleet.specs.Sound.{AllAreIn}
use Rattle.plan_model.specs.declared.moment.Moment.{Moment}
use Rattle.plan_model.specs.declared.plan.Plan.{Plan}
use Rattle.record_codec.specs.declared.record.Record.{Record}
use Rattle.record_codec.specs.declared.record.Record.TheVariants.{PlanMade, MigrationStarted, Chosen, SnapTaken, IdsStored, VolumesMade, CheckpointAdded, StageBegun, StageDone, Paused, SnapRemoved, CutoverSet, PowerStored, PoweredOff, OffSeen, FinalSnapTaken, CancelAsked, Ended}
use Rattle.record_codec.specs.Record.{migration_of}
use Rattle.ctl_state.specs.declared.migration.Migration.{Migration}
use Rattle.ctl_state.specs.declared.plans.PlanCourse.{PlanCourse}
use Rattle.ctl_state.specs.Asks.{SnapshotAsks}
use Rattle.ctl_state.specs.Fold.{IsStateOf, after, after_record}
use Rattle.ctl_state.specs.MayStand.{may_step, record_may_stand}
use Rattle.ctl_state.specs.Steps.{new_migration}
use Rattle.ctl_state.specs.Value.{CtlValue, course_in, migration_in, numbered, plan_in, plan_named, waiting}
use Rattle.ctl_state.proofs.Came.{Came, made, stepped, stayed, came}
use Rattle.ctl_state.proofs.SoundValues.{numbered-past}
use Rattle.plan_commands.specs.Laws.{PlansListTracked}
use Rattle.plan_commands.specs.Machines.{disks_of, known_of}
use Rattle.plan_commands.specs.commands.Cutover.{cutover_records, seconds_of}
use Rattle.plan_commands.specs.commands.Plan.{plan_refusal, plan_records}
use Rattle.plan_commands.specs.commands.Start.{begun_by, new_numbers, start_records, start_records_of, waiting_in}
use Rattle.plan_commands.specs.declared.plan.TheConstants.{DEFAULT_INTERVAL}
use Rattle.restart.specs.Agrees.{PlansAsk}
use Rattle.restart.specs.BorneOut.{IsBorneOut, HasItsSnapshot, migration_before, names_machines}
use Rattle.restart.specs.Machines.{has_tracking, is_tracked, is_tracked_with}
use Rattle.restart.specs.Standing.{Accepts, AreTaken, HaveSnapshots, StandOver}
use Rattle.restart.proofs.Folding.{stand_more}
use Rattle.restart.proofs.StrangeNumbers.{next_may}

-- ---- one record

-- the record makes a plan, begins a migration or sets a cutover, and the machines that it names are
-- there
abbrev pub IsNew : FleetState → Record → Type 0
IsNew fleet (PlanMade plan name interval vms) = list_all (is_tracked fleet) vms ≡ true
IsNew fleet (MigrationStarted mig plan vm disks) = is_tracked_with fleet vm disks ≡ true
IsNew fleet (CutoverSet plan has at) = Unit {0}
IsNew fleet _ = ⊥

new_names : (fleet : FleetState) (r : Record) → IsNew fleet r → names_machines fleet r ≡ true
new_names fleet (PlanMade plan name interval vms) new = new
new_names fleet (MigrationStarted mig plan vm disks) new = new
new_names fleet (CutoverSet plan has at) new = refl
new_names fleet _ new = absurd new

new_steps_none : (fleet : FleetState) (r : Record) (m : Migration) → IsNew fleet r
    → may_step m r ≡ true → ⊥
new_steps_none fleet (PlanMade plan name interval vms) m new may = false≢true may
new_steps_none fleet (MigrationStarted mig plan vm disks) m new may = false≢true may
new_steps_none fleet (CutoverSet plan has at) m new may = false≢true may
new_steps_none fleet _ m new may = absurd new

-- no migration is there that it would be a record of
none_before : (fleet : FleetState) (v : CtlValue) (r : Record) (m : Migration) → IsNew fleet r
    → record_may_stand v r ≡ true → migration_before v r ≡ Some m → ⊥
none_before fleet v (PlanMade plan name interval vms) m new may before = none-some m before
none_before fleet v (MigrationStarted mig plan vm disks) m new may before =
    let next = eqb-true mig (length v.migrations + 1)
    (and_parts (mig == length v.migrations + 1) _ may).0 in
    none-some m (sym (numbered-past v.migrations) ∙ ap (numbered v.migrations) (sym next) ∙ before)
none_before fleet v (CutoverSet plan has at) m new may before = none-some m before
none_before fleet v _ m new may before = absurd new

new_accepted : (fleet : FleetState) (v : CtlValue) (r : Record) → IsNew fleet r
    → record_may_stand v r ≡ true → Accepts fleet r v (after_record v r)
new_accepted fleet v r new may = record {
  may_stand = may;
  borne_out = record {
    named = new_names fleet r new;
    logged = λ m before. absurd (none_before fleet v r m new may before);
  };
  after_it = refl;
}

-- a migration that begins has no snapshot
machine_there : (fleet : FleetState) (vm disks : ℕ) (P : MachineState → Type 0)
    → is_tracked_with fleet vm disks ≡ true → ((at : MachineState) → P at)
    → IsSomeAnd (machine_of vm fleet) P
machine_there fleet vm disks P tracked all = by (machine_of vm fleet) tracked
  where
    by : (o : Option MachineState)
        → option_map_or (λ machine. has_tracking machine && length machine.capacities == disks)
        o false ≡ true → IsSomeAnd o P
    by None h = absurd (false≢true h)
    by (Some m) h = all m

came_snapshot : (fleet : FleetState) (v : CtlValue) (r : Record) (mig : ℕ) (n : Migration)
    → IsNew fleet r → HaveSnapshots fleet v → Came v r mig n → HasItsSnapshot fleet n
came_snapshot fleet v r mig n new have (made plan vm disks is may begun) =
    subst (HasItsSnapshot fleet) (sym begun)
    (machine_there fleet vm disks
    (λ at. SnapshotAsks mig at.log (new_migration mig plan vm disks))
    (subst (IsNew fleet) is new) (λ at live snap there. absurd (none-some snap there)))
came_snapshot fleet v r mig n new have (stepped m there may is of) =
    absurd (new_steps_none fleet r m new may)
came_snapshot fleet v r mig n new have (stayed there other) = have mig n there

taken_more : (fleet : FleetState) (records : List Record) (v : CtlValue) (r : Record)
    → IsNew fleet r → record_may_stand v r ≡ true → AreTaken fleet records v
    → AreTaken fleet (records ++ r ∷ []) (after_record v r)
taken_more fleet records v r new may taken = record {
  stand = stand_more fleet records v (after_record v r) r taken.stand
      (new_accepted fleet v r new may);
  snapshots = λ mig n there.
      came_snapshot fleet v r mig n new taken.snapshots (came v r mig n may there);
}

-- ---- all of them, and each front

abbrev pub AreTakenSome : FleetState → List Record → Type 0
AreTakenSome fleet records = (v : CtlValue) × AreTaken fleet records v

-- records that come to something behind those that are taken are taken as far as one likes
pub taken_front : (fleet : FleetState) (records front rest : List Record) (v w : CtlValue)
    → AreTaken fleet records v → AllByRecursion (IsNew fleet) (front ++ rest)
    → IsStateOf w (records ++ (front ++ rest)) → AreTakenSome fleet (records ++ front)
taken_front fleet records [] rest v w taken new come =
    (v, subst (λ (xs : List Record). AreTaken fleet xs v) (sym (append-nil records)) taken)
taken_front fleet records (r ∷ front) rest v w taken new come =
    let may = next_may records (front ++ rest) r v w taken.stand.come_to come in
    let more = taken_more fleet records v r new.0 may taken in
    subst (AreTakenSome fleet) (append_assoc records (r ∷ []) front)
    (taken_front fleet (records ++ r ∷ []) front rest (after_record v r) w more new.1
    (ap after (append_assoc records (r ∷ []) (front ++ rest)) ∙ come))

-- ---- what each command adds is new

tracked_by : (fleet : FleetState) (vm : ℕ) (o : Option MachineState)
    → machine_of vm fleet ≡ o → IsSomeAnd o (λ m. is_active (tracking m.log) ≡ true)
    → is_tracked fleet vm ≡ true
tracked_by fleet vm None is h = absurd h
tracked_by fleet vm (Some m) is h =
    ap (λ (o : Option MachineState). option_map_or has_tracking o false) is ∙ h

all_tracked : (fleet : FleetState) (vms : List ℕ)
    → AllByRecursion
    (λ vm. IsSomeAnd (machine_of vm fleet) (λ m. is_active (tracking m.log) ≡ true)) vms
    → list_all (is_tracked fleet) vms ≡ true
all_tracked fleet [] h = refl
all_tracked fleet (vm ∷ vms) h =
    both_true (tracked_by fleet vm (machine_of vm fleet) refl h.0) (all_tracked fleet vms h.1)

pub plan_is_new : PlansListTracked → (v : CtlValue) (fleet : FleetState) (name : List ℕ)
    (vms : List (List ℕ)) (interval : Option ℕ) → AllAreIn fleet
    → plan_refusal name vms fleet v ≡ None
    → AllByRecursion (IsNew fleet) (plan_records name vms interval fleet v)
plan_is_new tracked v fleet name vms interval all none = (
  all_tracked fleet _ (recursion_from_All
      (λ vm. IsSomeAnd (machine_of vm fleet) (λ m. is_active (tracking m.log) ≡ true)) _
      (tracked v fleet name vms (unwrap_or interval DEFAULT_INTERVAL) all none)),
  tt,
)

-- with the disks that it has
with_disks : (fleet : FleetState) (vm : ℕ) → is_tracked fleet vm ≡ true
    → is_tracked_with fleet vm (disks_of vm fleet) ≡ true
with_disks fleet vm h = by (machine_of vm fleet) refl h
  where
    by : (o : Option MachineState) → machine_of vm fleet ≡ o
        → option_map_or has_tracking o false ≡ true
        → is_tracked_with fleet vm (disks_of vm fleet) ≡ true
    by None is h = absurd (false≢true h)
    by (Some m) is h = rw is (both_true h (eq-eqb (length m.capacities) (length m.capacities) refl))

all_begun : (fleet : FleetState) (plan first : ℕ) (vms : List ℕ)
    → list_all (is_tracked fleet) vms ≡ true
    → AllByRecursion (IsNew fleet)
    (map (begun_by plan fleet) (zip (range_with_len first (length vms)) vms))
all_begun fleet plan first [] h = tt
all_begun fleet plan first (vm ∷ vms) h =
    let parts = and_parts (is_tracked fleet vm) (list_all (is_tracked fleet) vms) h in
    (with_disks fleet vm parts.0, all_begun fleet plan (first + 1) vms parts.1)

all_dropped : (test : ℕ → Bool) (count : ℕ) (xs : List ℕ) → list_all test xs ≡ true
    → list_all test (drop count xs) ≡ true
all_dropped test zero xs h = h
all_dropped test (suc count) [] h = refl
all_dropped test (suc count) (x ∷ xs) h =
    all_dropped test count xs (and_parts (test x) (list_all test xs) h).1

waiting_tracked : (fleet : FleetState) (v : CtlValue) (plan : ℕ) → PlansAsk fleet v
    → list_all (is_tracked fleet) (waiting_in plan v) ≡ true
waiting_tracked fleet v plan asks = by (plan_in v plan) refl (course_in v plan)
  where
    by : (p : Option Plan) → plan_in v plan ≡ p → (course : Option PlanCourse)
        → list_all (is_tracked fleet)
        (option_map_or (λ q. option_map_or (λ c. waiting (q, c)) course []) p []) ≡ true
    by None is course = refl
    by (Some p) is None = refl
    by (Some p) is (Some course) =
        all_dropped (is_tracked fleet) course.started p.vms (asks plan p is)

pub start_is_new : (fleet : FleetState) (v : CtlValue) (plan : List ℕ) → PlansAsk fleet v
    → AllByRecursion (IsNew fleet) (start_records plan fleet v)
start_is_new fleet v plan asks = by (plan_named v.plans plan)
  where
    by : (o : Option ℕ) → AllByRecursion (IsNew fleet)
        (option_map_or (λ number. start_records_of number fleet v) o [])
    by None = tt
    by (Some number) = all_begun fleet number (length v.migrations + 1) (waiting_in number v)
        (waiting_tracked fleet v number asks)

pub cutover_is_new : (fleet : FleetState) (v : CtlValue) (plan : List ℕ) (at : Option Moment)
    → AllByRecursion (IsNew fleet) (cutover_records plan at v)
cutover_is_new fleet v plan at = by (plan_named v.plans plan)
  where
    by : (o : Option ℕ) → AllByRecursion (IsNew fleet) (option_map_or
        (λ number. CutoverSet number (is_some at) (seconds_of at) ∷ []) o [])
    by None = tt
    by (Some number) = (tt, tt)
