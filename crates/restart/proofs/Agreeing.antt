-- Records are taken over a fleet that agrees with them: what each of them asks is so.
use Rattle.std.proofs.Common.{◌≡◌, ℕ, ◌+◌, ◌==◌, true, false, ◌&&◌, List, [], ◌∷◌, ◌++◌, length, Option, Some, None, option_map, IsSomeAnd, refl, ap, subst, sym, ◌∙◌, append_assoc}
use Rattle.std.specs.List.{list_all}
use Rattle.std.specs.Option.{option_map_or}
use Rattle.std.proofs.lemmas.Bool.{eqb-true, eq-eqb, and_parts}
use Rattle.std.proofs.lemmas.Option.{option_and_then_some}
use Rattle.source_vm.specs.Machine.{MachineState}
use Rattle.fleet.specs.Fleet.{FleetState, machine_of}
use Rattle.record_codec.specs.declared.record.Record.{Record}
use Rattle.record_codec.specs.declared.record.Record.TheVariants.{PlanMade, MigrationStarted, Chosen, SnapTaken, IdsStored, VolumesMade, CheckpointAdded, StageBegun, StageDone, Paused, SnapRemoved, CutoverSet, PowerStored, PoweredOff, OffSeen, FinalSnapTaken, CancelAsked, Ended}
use Rattle.record_codec.specs.Record.{migration_of}
use Rattle.target_volume.specs.declared.volume_name.VolumeName.{VolumeName}
use Rattle.target_volume.specs.VolumeStore.{StoredVolume}
use Rattle.ctl_state.specs.declared.migration.Migration.{Migration}
use Rattle.ctl_state.specs.Asks.{RecordAsks, SnapshotAsks, AsksOf}
use Rattle.ctl_state.specs.Steps.{new_migration}
use Rattle.ctl_state.specs.Fold.{IsStateOf, after, after_record, plan_of}
use Rattle.ctl_state.specs.MayStand.{record_may_stand, may_start}
use Rattle.ctl_state.specs.Value.{CtlValue, numbered, migration_in}
use Rattle.ctl_state.proofs.FoldFacts.{goes_on}
use Rattle.ctl_state.proofs.ListFacts.{numbered-added}
use Rattle.ctl_state.proofs.SoundValues.{values_are_sound}
use Rattle.restart.specs.Machines.{has_tracking, is_tracked, is_tracked_with}
use Rattle.restart.specs.BorneOut.{names_machines, migration_before, IsInLog, IsBorneOut, HasItsSnapshot}
use Rattle.restart.specs.Agrees.{PlansAsk, MigrationAsks, Agrees}
use Rattle.restart.specs.Laws.{AgreeingAreNotStrange, AgreeingAreTaken, TakenAreNotStrange}
use Rattle.restart.proofs.StrangeNumbers.{next_may}
use Rattle.restart.proofs.Staying.{GoesOn, values_go_on}
use Rattle.restart.proofs.There.{some_told}

-- ---- the machines that a record names

asked_machine : (fleet : FleetState) (records : List Record)
    (told : Option (List (VolumeName × StoredVolume))) (mig : ℕ) (m : Migration)
    → MigrationAsks fleet records told mig m → is_tracked_with fleet m.vm m.disks ≡ true
asked_machine fleet records told mig m asks = by (machine_of m.vm fleet) asks
  where
    by : (o : Option MachineState)
        → IsSomeAnd o (λ at. AsksOf mig at records m told)
        → option_map_or (λ machine. has_tracking machine && length machine.capacities == m.disks)
        o false ≡ true
    by None h = absurd h
    by (Some machine) h =
        ap (λ b. b && length machine.capacities == m.disks) h.of_machine.tracked
        ∙ eq-eqb (length machine.capacities) m.disks h.of_machine.sized

-- a machine that a later value's migration has is the one that the record named
started : (fleet : FleetState) (records : List Record)
    (told : Option (List (VolumeName × StoredVolume))) (v w : CtlValue) (mig plan vm disks : ℕ)
    → ((k : ℕ) (m : Migration) → migration_in w k ≡ Some m → MigrationAsks fleet records told k m)
    → may_start v mig plan vm disks ≡ true
    → GoesOn (after_record v (MigrationStarted mig plan vm disks)) w
    → is_tracked_with fleet vm disks ≡ true
started fleet records told v w mig plan vm disks asks may on =
    let new = new_migration mig plan vm disks in
    let next = eqb-true mig (length v.migrations + 1)
    (and_parts (mig == length v.migrations + 1) _ may).0 in
    let at : numbered (v.migrations ++ new ∷ []) mig ≡ Some new =
    ap (numbered (v.migrations ++ new ∷ [])) next ∙ numbered-added v.migrations new in
    let lasts = on.migrations mig new at in
    ap (λ (k : ℕ). is_tracked_with fleet k disks) (sym lasts.same.vm)
    ∙ ap (is_tracked_with fleet lasts.now.vm) (sym lasts.same.disks)
    ∙ asked_machine fleet records told mig lasts.now (asks mig lasts.now lasts.there)

planned : (fleet : FleetState) (v w : CtlValue) (plan : ℕ) (name : List ℕ) (interval : ℕ)
    (vms : List ℕ) → PlansAsk fleet w → GoesOn (after_record v (PlanMade plan name interval vms)) w
    → list_all (is_tracked fleet) vms ≡ true
planned fleet v w plan name interval vms asks on =
    let new = plan_of plan name interval vms in
    asks (length v.plans + 1) new
    (on.plans (length v.plans + 1) new (numbered-added v.plans new))

names : (fleet : FleetState) (records : List Record)
    (told : Option (List (VolumeName × StoredVolume))) (v w : CtlValue) (r : Record)
    → PlansAsk fleet w
    → ((k : ℕ) (m : Migration) → migration_in w k ≡ Some m → MigrationAsks fleet records told k m)
    → record_may_stand v r ≡ true → GoesOn (after_record v r) w → names_machines fleet r ≡ true
names fleet records told v w (PlanMade plan name interval vms) plans asks may on =
    planned fleet v w plan name interval vms plans on
names fleet records told v w (MigrationStarted mig plan vm disks) plans asks may on =
    started fleet records told v w mig plan vm disks asks may on
names fleet records told v w (Chosen k way moment) plans asks may on = refl
names fleet records told v w (SnapTaken k snap mark) plans asks may on = refl
names fleet records told v w (IdsStored k ids) plans asks may on = refl
names fleet records told v w (VolumesMade k) plans asks may on = refl
names fleet records told v w (CheckpointAdded k previous current last) plans asks may on = refl
names fleet records told v w (StageBegun k disk) plans asks may on = refl
names fleet records told v w (StageDone k disk written) plans asks may on = refl
names fleet records told v w (Paused k moment) plans asks may on = refl
names fleet records told v w (SnapRemoved k snap) plans asks may on = refl
names fleet records told v w (CutoverSet plan has moment) plans asks may on = refl
names fleet records told v w (PowerStored k on') plans asks may on = refl
names fleet records told v w (PoweredOff k) plans asks may on = refl
names fleet records told v w (OffSeen k off) plans asks may on = refl
names fleet records told v w (FinalSnapTaken k snap mark place) plans asks may on = refl
names fleet records told v w (CancelAsked k) plans asks may on = refl
names fleet records told v w (Ended k how place) plans asks may on = refl

-- ---- what a record says of a migration

logged : (fleet : FleetState) (records : List Record)
    (told : Option (List (VolumeName × StoredVolume))) (agree : Agrees fleet records told)
    (front rest : List Record) (r : Record) (v : CtlValue) (m : Migration)
    → records ≡ front ++ r ∷ rest → IsStateOf v front → migration_before v r ≡ Some m
    → IsInLog fleet m r
logged fleet records told agree front rest r v m split come before =
    option_and_then_some (migration_in v) (migration_of r) m before (λ mig of there.
    let goes = values_go_on front (r ∷ rest) v agree.value come
    (sym (ap after split) ∙ agree.come_to) in
    let on = goes.migrations mig m there in
    let asks = agree.migrations mig on.now on.there in
    by mig of there on.now on.same.vm (machine_of on.now.vm fleet) refl asks)
  where
    by : (mig : ℕ) → migration_of r ≡ Some mig → migration_in v mig ≡ Some m → (now : Migration)
        → now.vm ≡ m.vm → (o : Option MachineState) → machine_of now.vm fleet ≡ o
        → IsSomeAnd o (λ at. AsksOf mig at records now told) → IsInLog fleet m r
    by mig of there now vm None found asks = absurd asks
    by mig of there now vm (Some at) found asks =
        some_told (machine_of m.vm fleet) (λ here. RecordAsks here m r) at
        (ap (λ (k : ℕ). machine_of k fleet) (sym vm) ∙ found)
        (asks.of_log front rest r v m split of come there)

borne : (fleet : FleetState) (records : List Record)
    (told : Option (List (VolumeName × StoredVolume))) (agree : Agrees fleet records told)
    (front rest : List Record) (r : Record) (v : CtlValue) → records ≡ front ++ r ∷ rest
    → IsStateOf v front → record_may_stand v r ≡ true → IsBorneOut fleet v r
borne fleet records told agree front rest r v split come may = record {
  named = names fleet records told v agree.value r agree.plans agree.migrations may
      (values_go_on (front ++ r ∷ []) rest (after_record v r) agree.value
      (goes_on v front r come may)
      (ap after (append_assoc front (r ∷ []) rest) ∙ sym (ap after split) ∙ agree.come_to));
  logged = λ m before. logged fleet records told agree front rest r v m split come before;
}

has_snapshot : (fleet : FleetState) (records : List Record)
    (told : Option (List (VolumeName × StoredVolume))) (mig : ℕ) (m : Migration)
    → MigrationAsks fleet records told mig m → m.number ≡ mig → HasItsSnapshot fleet m
has_snapshot fleet records told mig m asks is = by (machine_of m.vm fleet) asks
  where
    by : (o : Option MachineState) → IsSomeAnd o (λ at. AsksOf mig at records m told)
        → IsSomeAnd o (λ at. SnapshotAsks m.number at.log m)
    by None h = absurd h
    by (Some at) h = subst (λ (k : ℕ). SnapshotAsks k at.log m) (sym is) h.of_snapshot

pub agreeing_taken : AgreeingAreTaken
agreeing_taken fleet records told agree =
    let sound = values_are_sound records agree.value agree.come_to in (
      agree.value,
      record {
        stand = record {
          come_to = agree.come_to;
          borne_out = λ front rest r v split come. borne fleet records told agree front rest r v
              split come (next_may front rest r v agree.value come
              (sym (ap after split) ∙ agree.come_to));
        };
        snapshots = λ mig m there. has_snapshot fleet records told mig m
            (agree.migrations mig m there) (sound.migrations mig m there).numbered;
      },
    )

module _ (not_strange : TakenAreNotStrange) where
  pub agreeing_not : AgreeingAreNotStrange
  agreeing_not fleet records told number agree strange =
      let taken = agreeing_taken fleet records told agree in
      not_strange fleet records taken.0 number taken.1 strange
