-- Records that are taken over a fleet are taken over one that goes on from it, as long as what
-- migrations own stays theirs: what a record says of a log is said of places that later entries
-- leave as they are.
use Rattle.std.proofs.Common.{◌≡◌, ℕ, zero, suc, ◌+◌, ◌-◌, ◌<◌, ◌≤◌, ◌==◌, Bool, true, false, ◌&&◌, ◌||◌, List, [], ◌∷◌, ◌++◌, length, take, drop, Option, Some, None, option_and_then, option_map, IsSomeAnd, cond, if◌then◌else◌, inl, inr, refl, sym, ap, subst, ◌∙◌, arith}
use Rattle.std.specs.Prelude.{slice_get, IsSome, fold, unwrap_or}
use Rattle.std.specs.List.{list_all, list_any}
use Rattle.std.specs.Option.{ForSome, option_map_or}
use Rattle.std.specs.Cmp.Derive.{both_true}
use Rattle.std.proofs.lemmas.Bool.{and_parts, eq-eqb, false≢true, le-leb, or_cases, or_left, true≢false}
use Rattle.std.proofs.lemmas.List.{take-append-le, take-append-drop}
use Rattle.std.proofs.lemmas.List.Folds.{list_any-append}
use Rattle.std.proofs.lemmas.List.Sums.{fold-append}
use Rattle.std.proofs.lemmas.Option.{get_or_from_slice_get, none-some, option_and_then_some, same_Some, slice_get_within}
use Rattle.basics.proofs.ItemAt.{slice_get-front}
use Rattle.change_id.specs.declared.ChangeId.{ChangeId}
use Rattle.log_model.specs.declared.entry.Owner.TheVariants.{Migration as OfMigration}
use Rattle.log_model.specs.declared.entry.Act.{Act}
use Rattle.log_model.specs.declared.entry.Act.TheVariants.{Snap}
use Rattle.log_model.specs.declared.entry.Entry.{Entry}
use Rattle.log_model.specs.declared.folds.Tracking.{Tracking}
use Rattle.log_model.specs.declared.folds.Tracking.TheVariants.{Never, Enabled, Active}
use Rattle.log_model.specs.Entry.{removes, resets, takes}
use Rattle.log_model.specs.Frozen.{off_place}
use Rattle.log_model.specs.Legal.{Legal, all_of, is_enabled, owner_of, capacity_of}
use Rattle.log_model.specs.Link.{is_active}
use Rattle.log_model.specs.Marks.{mark, id_at, tracking, tracking_after}
use Rattle.log_model.specs.Touched.{touched}
use Rattle.log_model.proofs.Later.{later_entries_keep}
use Rattle.log_model.proofs.LaterPlaces.{later_entries_keep_places}
use Rattle.log_model.proofs.SnapMarks.{snaps_have_their_marks}
use Rattle.warm_core.specs.StageState.{sectors_below}
use Rattle.source_vm.specs.Machine.{MachineState}
use Rattle.fleet.specs.Fleet.{VmState, FleetState, vm_of, machine_of, FleetGoesOn}
use Rattle.fleet.specs.Sound.{AllAreIn, IsFleet}
use Rattle.phase_table.specs.declared.phases.Phase.{Phase}
use Rattle.phase_table.specs.declared.phases.Phase.TheVariants.{StoreInitialIds, StoreIds}
use Rattle.phase_table.specs.Phases.{is_end}
use Rattle.record_codec.specs.declared.record.Record.{Record}
use Rattle.record_codec.specs.declared.record.Record.TheVariants.{PlanMade, MigrationStarted, Chosen, SnapTaken, IdsStored, VolumesMade, CheckpointAdded, StageBegun, StageDone, Paused, SnapRemoved, CutoverSet, PowerStored, PoweredOff, OffSeen, FinalSnapTaken, CancelAsked, Ended}
use Rattle.ctl_state.specs.declared.migration.Migration.{Migration}
use Rattle.ctl_state.specs.Asks.{IsItsSnapshot, AreIdsAt, HasStageWritten, WasResetFrom, RecordAsks, SnapshotAsks, changed_sectors, is_removed, is_removing, meets_volumes, may_lack}
use Rattle.ctl_state.specs.declared.migration.How.{How}
use Rattle.ctl_state.specs.Fold.{IsStateOf, after, after_record}
use Rattle.ctl_state.specs.MayStand.{goes_on_in, may_store, record_may_stand}
use Rattle.ctl_state.specs.Migration.{all_done, change_at, current_snapshot, done_copy, moved, reached, same_phase, sectors_written}
use Rattle.ctl_state.specs.Sound.{Current, FitsPhase, HasCurrent, IsSound, StandsNow, facts_in, last_mark}
use Rattle.ctl_state.specs.Sound.Current.{not_yet_added}
use Rattle.ctl_state.specs.Steps.{after_step, finished_volume, how_of, new_migration, with_checkpoint_done, with_end, with_stage_done}
use Rattle.ctl_state.specs.Value.{CtlValue, migration_in, no_records}
use Rattle.ctl_state.proofs.Came.{Came, made, stepped, stayed, came, fronts}
use Rattle.ctl_state.proofs.FoldFacts.{goes_on}
use Rattle.ctl_state.proofs.ListFacts.{none-numbered}
use Rattle.ctl_state.proofs.SoundMoves.{lives}
use Rattle.ctl_state.proofs.SoundSteps.{goes-on}
use Rattle.ctl_state.proofs.SoundValues.{step-same, values_are_sound}
use Rattle.record_codec.specs.Record.{migration_of}
use Rattle.restart.specs.BorneOut.{IsBorneOut, IsInLog, migration_before, names_machines}
use Rattle.restart.specs.Machines.{has_tracking, is_tracked, is_tracked_with}
use Rattle.restart.specs.Standing.{AreBorneOut, AreTaken, StandOver}
use Rattle.restart.proofs.StrangeNumbers.{next_may}
use Rattle.restart.proofs.TakenOnes.{before_is, front_borne}
use Rattle.restart.proofs.There.{told_some}
use Rattle.fleet.proofs.In.{is_in}
use Rattle.fleet.proofs.Logs.{at_place, is_within}
use Rattle.fleet.proofs.StaysSound.{IsVm-at}
use Rattle.phase_table.specs.declared.phases.Phase.TheVariants as Phases
use Rattle.phase_table.specs.declared.table.Fact.TheVariants as Facts

-- ---- one log, and entries behind it

-- tracking stays active
active_on : (more : List Entry) → fold tracking_after Active more ≡ Active
active_on [] = refl
active_on (e ∷ more) = active_on more

is_the_active : (t : Tracking) → is_active t ≡ true → t ≡ Active
is_the_active Never h = absurd (false≢true h)
is_the_active Enabled h = absurd (false≢true h)
is_the_active Active h = refl

pub still_active : (log more : List Entry) → is_active (tracking log) ≡ true
    → is_active (tracking (log ++ more)) ≡ true
still_active log more h = ap is_active (fold-append tracking_after Never log more
    ∙ ap (λ (t : Tracking). fold tracking_after t more) (is_the_active (tracking log) h)
    ∙ active_on more)

-- a snapshot is there, at a mark within the log
pub record IsThere (snap at : ℕ) (log : List Entry) : Type 0 where
  pub marked : mark snap log ≡ at
  pub within : at < length log

taken_there : (caps : List ℕ) (log : List Entry) (mig snap at : ℕ) (o : Option Entry)
    → Legal (all_of caps) log → slice_get log at ≡ o
    → IsSomeAnd o (λ e. e.act ≡ Snap snap (OfMigration mig)) → IsThere snap at log
taken_there caps log mig snap at None legal found h = absurd h
taken_there caps log mig snap at (Some e) legal found h = record {
  marked = (snaps_have_their_marks (all_of caps) log snap at e legal found
      (ap (takes snap) h ∙ eq-eqb snap snap refl)).mark_is;
  within = slice_get_within log at e found;
}

pub its_is_there : (caps : List ℕ) (log : List Entry) (mig snap at : ℕ) → Legal (all_of caps) log
    → IsItsSnapshot mig snap at log → IsThere snap at log
its_is_there caps log mig snap at legal its =
    taken_there caps log mig snap at (slice_get log at) legal refl its.taken

its_later : (log more : List Entry) (mig snap at : ℕ) → at < length log
    → IsItsSnapshot mig snap at log → IsItsSnapshot mig snap at (log ++ more)
its_later log more mig snap at within its = record {
  taken = subst (λ (o : Option Entry). IsSomeAnd o (λ e. e.act ≡ Snap snap (OfMigration mig)))
      (sym (slice_get-front log more at within)) its.taken;
  enabled = ap is_enabled (take-append-le at log more (omega (arith, within))) ∙ its.enabled;
}

ids_later : (log more : List Entry) (machine disks snap at : ℕ) (ids : List ChangeId)
    → IsThere snap at log → AreIdsAt machine disks snap ids log
    → AreIdsAt machine disks snap ids (log ++ more)
ids_later log more machine disks snap at ids there are = record {
  each_disk = are.each_disk;
  at_snapshot = λ disk within. are.at_snapshot disk within
      ∙ sym ((later_entries_keep snap log more (omega (arith, there.marked, there.within))).id_stays
      machine disk);
}

reset_later : (from disk : ℕ) (log more : List Entry) → WasResetFrom from disk log
    → WasResetFrom from disk (log ++ more)
reset_later zero disk log more h =
    list_any-append (λ e. resets disk e.act) log more ∙ or_left _ _ h
reset_later (suc from) disk [] more h = absurd (false≢true h)
reset_later (suc from) disk (e ∷ log) more h = reset_later from disk log more h

stage_later : (capacity disk : ℕ) (base : Option ℕ) (at written : ℕ) (log more : List Entry)
    → at ≤ length log → HasStageWritten capacity disk base at written log
    → HasStageWritten capacity disk base at written (log ++ more)
stage_later capacity disk None at written log more within h = h
stage_later capacity disk (Some from) at written log more within h =
    let same : changed_sectors capacity disk from at (log ++ more)
    ≡ changed_sectors capacity disk from at log =
    ap (λ (blocks : List ℕ). sectors_below blocks capacity)
    ((later_entries_keep_places at log more within).touched_stay capacity disk from) in
    elim h [
      | inl is ↦ inl (is ∙ sym same)
      | inr all ↦ inr (
        reset_later from disk log more all.0,
        all.1,
        subst (λ (n : ℕ). written ≤ capacity + n) (sym same) all.2,
      )
    ]

-- ---- one migration

-- the log has what the migration's fields say of its current snapshot
pub record IsKnown (log : List Entry) (m : Migration) : Type 0 where
  pub marked : m.mark ≤ length log
  pub taken : ForSome m.snap (λ snap. IsThere snap m.mark log)

abbrev pub with_more : (at : MachineState) (more : List Entry) → MachineState
with_more at more = record at { log = at.log ++ more }

-- where identifiers may be stored, the migration has a snapshot
some_of : (o : Option ℕ) (P : ℕ → Type 0) → IsSomeAnd o P → IsSome o
some_of None P h = absurd h
some_of (Some x) P h = refl

fits_now : (how : Option How) (m : Migration) → how ≡ None → StandsNow how m → FitsPhase m
fits_now None m is stands = stands
fits_now (Some how) m is stands = absurd (none-some how (sym is))

snapshot_in : (m : Migration) (p : Phase) → m.phase ≡ p → (facts_in p).current ≡ not_yet_added
    → is_end p ≡ false → IsSound m → IsSome m.snap
snapshot_in m p is facts goes sound =
    let live = lives m sound (ap is_end is ∙ goes) in
    let fits = fits_now m.how m live sound.now in
    some_of m.snap (λ s. reached m < s)
    (subst (λ (c : Current). HasCurrent c (reached m) m.snap)
    (ap (λ (q : Phase). (facts_in q).current) is ∙ facts) fits.current)

naming_has_snapshot : (m : Migration) (ids : List ChangeId) → IsSound m
    → may_store m ids ≡ true → IsSome m.snap
naming_has_snapshot m ids sound may =
    elim (or_cases (goes_on_in m StoreInitialIds) (goes_on_in m StoreIds) (and_parts _ _ may).0) [
      | inl first ↦ snapshot_in m StoreInitialIds (goes-on m StoreInitialIds first).phase refl refl
          sound
      | inr next ↦ snapshot_in m StoreIds (goes-on m StoreIds next).phase refl refl sound
    ]

ids_asked : (at : MachineState) (more : List Entry) (m : Migration) (ids : List ChangeId)
    (snap : Option ℕ) → m.snap ≡ snap → IsSome snap → IsKnown at.log m
    → AreIdsAt at.number m.disks (current_snapshot m) ids at.log
    → AreIdsAt at.number m.disks (current_snapshot m) ids (at.log ++ more)
ids_asked at more m ids None is some known asks = absurd (false≢true some)
ids_asked at more m ids (Some snap) is some known asks =
    let current : current_snapshot m ≡ snap = ap (λ (o : Option ℕ). unwrap_or o 0) is in
    subst (λ (s : ℕ). AreIdsAt at.number m.disks s ids (at.log ++ more)) (sym current)
    (ids_later at.log more at.number m.disks snap m.mark ids (known.taken snap is)
    (subst (λ (s : ℕ). AreIdsAt at.number m.disks s ids at.log) current asks))

-- a record that stores identifiers may stand
abbrev pub MayName : Migration → Record → Type 0
MayName m r = (k : ℕ) (ids : List ChangeId) → r ≡ IdsStored k ids → may_store m ids ≡ true

-- what a record asks of a log is so of a longer one
pub asks_later : (at : MachineState) (more : List Entry) (m : Migration) (r : Record)
    → Legal (all_of at.capacities) at.log → IsKnown at.log m → IsSound m → MayName m r
    → RecordAsks at m r → RecordAsks (with_more at more) m r
asks_later at more m (SnapTaken mig snap place) legal known sound may asks =
    its_later at.log more mig snap place
    (its_is_there at.capacities at.log mig snap place legal asks).within asks
asks_later at more m (FinalSnapTaken mig snap place off) legal known sound may asks =
    let there = its_is_there at.capacities at.log mig snap place legal asks.0 in (
      its_later at.log more mig snap place there.within asks.0,
      (later_entries_keep snap at.log more
          (omega (arith, there.marked, there.within))).off_place_stays ∙ asks.1,
    )
asks_later at more m (IdsStored mig ids) legal known sound may asks =
    ids_asked at more m ids m.snap refl (naming_has_snapshot m ids sound (may mig ids refl)) known
    asks
asks_later at more m (StageDone mig disk written) legal known sound may asks =
    stage_later (capacity_of at.capacities disk) disk (last_mark m.marks) m.mark written at.log more
    known.marked asks
asks_later at more m _ legal known sound may asks = asks

-- ---- snapshots

lacks_still : (a b c x y : Bool) → (a || (b || (c && (x || y)))) ≡ false
    → (a || (b || (c && x))) ≡ false
lacks_still true b c x y h = h
lacks_still false true c x y h = h
lacks_still false false false x y h = h
lacks_still false false true true y h = h
lacks_still false false true false y h = refl

lacks_before : (snap : ℕ) (log more : List Entry) (m : Migration)
    → may_lack snap (log ++ more) m ≡ false → may_lack snap log m ≡ false
lacks_before snap log more m h = lacks_still (is_removing m) m.cancel (meets_volumes m)
    (is_removed snap log) (is_removed snap more)
    (ap (λ (b : Bool). is_removing m || (m.cancel || (meets_volumes m && b)))
    (sym (list_any-append (λ e. removes snap e.act) log more)) ∙ h)

-- what migrations own stays theirs
abbrev pub StaysOwned : (log more : List Entry) → Type 0
StaysOwned log more = (snap mig : ℕ) → owner_of snap log ≡ Some (OfMigration mig)
    → owner_of snap (log ++ more) ≡ Some (OfMigration mig)

snapshot_later : (mig : ℕ) (log more : List Entry) (m : Migration) → StaysOwned log more
    → SnapshotAsks mig log m → SnapshotAsks mig (log ++ more) m
snapshot_later mig log more m owned asks live snap there lacks =
    owned snap mig (asks live snap there (lacks_before snap log more m lacks))

-- ---- what is known of each migration's snapshot

known_as : (log : List Entry) (m n : Migration) → n.mark ≡ m.mark → n.snap ≡ m.snap
    → IsKnown log m → IsKnown log n
known_as log m n at snap known = record {
  marked = subst (λ (k : ℕ). k ≤ length log) (sym at) known.marked;
  taken = λ s is. subst (λ (k : ℕ). IsThere s k log) (sym at) (known.taken s (sym snap ∙ is));
}

known_without : (log : List Entry) (n : Migration) → n.mark ≡ 0 → n.snap ≡ None → IsKnown log n
known_without log n at snap = record {
  marked = subst (λ (k : ℕ). k ≤ length log) (sym at) (omega arith);
  taken = λ s is. absurd (none-some s (sym snap ∙ is));
}

known_taken : (log : List Entry) (n : Migration) (snap at : ℕ) → n.mark ≡ at
    → n.snap ≡ Some snap → IsThere snap at log → IsKnown log n
known_taken log n snap at marked is there = record {
  marked = subst (λ (k : ℕ). k ≤ length log) (sym marked) (omega (arith, there.within));
  taken = λ s other. subst (λ (x : ℕ). IsThere x n.mark log)
      (same_Some snap s (sym is ∙ other))
      (subst (λ (k : ℕ). IsThere snap k log) (sym marked) there);
}

-- a step that ends a stage leaves the snapshot
one_known : (log : List Entry) (b : Bool) (x y : Migration) → IsKnown log x → IsKnown log y
    → IsKnown log (cond b x y)
one_known log true x y a b = a
one_known log false x y a b = b

stage_known : (log : List Entry) (m : Migration) (disk written : ℕ) → IsKnown log m
    → IsKnown log (with_stage_done disk written m)
stage_known log m disk written known =
    let copied = record m { copies = change_at m.copies disk (done_copy m.mark written) } in
    let counted = record copied {
      marks = m.marks ++ m.mark ∷ [];
      written = m.written ++ sectors_written copied.copies ∷ [];
    } in
    let finished = record counted { dv = finished_volume m.dv } in
    one_known log (all_done copied.copies) (with_checkpoint_done copied) copied
    (one_known log (same_phase m.phase Phases.CopyFinal) (moved finished Facts.Done) finished
    (known_as log m (moved finished Facts.Done) refl refl known)
    (known_as log m finished refl refl known)) (known_as log m copied refl refl known)

end_known : (log : List Entry) (m : Migration) (how : Option How) → IsKnown log m
    → IsKnown log (option_map_or (λ end. with_end end m) how m)
end_known log m None known = known
end_known log m (Some how) known = known_without log (with_end how m) refl refl

step_known : (at : MachineState) (m : Migration) (r : Record) → Legal (all_of at.capacities) at.log
    → IsKnown at.log m → RecordAsks at m r → IsKnown at.log (after_step m r)
step_known at m (PlanMade plan name interval vms) legal known asks = known
step_known at m (MigrationStarted mig plan vm disks) legal known asks = known
step_known at m (Chosen mig way moment) legal known asks = known_as at.log m _ refl refl known
step_known at m (SnapTaken mig snap place) legal known asks = known_taken at.log _ snap place refl
    refl (its_is_there at.capacities at.log mig snap place legal asks)
step_known at m (IdsStored mig ids) legal known asks = known_as at.log m _ refl refl known
step_known at m (VolumesMade mig) legal known asks = known_as at.log m _ refl refl known
step_known at m (CheckpointAdded mig previous current last) legal known asks =
    known_as at.log m _ refl refl known
step_known at m (StageBegun mig disk) legal known asks = known_as at.log m _ refl refl known
step_known at m (StageDone mig disk written) legal known asks =
    stage_known at.log m disk written known
step_known at m (Paused mig moment) legal known asks = known_as at.log m _ refl refl known
step_known at m (SnapRemoved mig snap) legal known asks = known_without at.log _ refl refl
step_known at m (CutoverSet plan has moment) legal known asks = known
step_known at m (PowerStored mig on) legal known asks = known_as at.log m _ refl refl known
step_known at m (PoweredOff mig) legal known asks = known_as at.log m _ refl refl known
step_known at m (OffSeen mig off) legal known asks = known_as at.log m _ refl refl known
step_known at m (FinalSnapTaken mig snap place off) legal known asks =
    known_taken at.log _ snap place refl refl
    (its_is_there at.capacities at.log mig snap place legal asks.0)
step_known at m (CancelAsked mig) legal known asks = known_as at.log m _ refl refl known
step_known at m (Ended mig how place) legal known asks = end_known at.log m (how_of how) known

-- the machine of a fleet has a legal log
pub legal_machine : (number : ℕ) (m : MachineState) (fleet : FleetState) → IsFleet fleet
    → machine_of number fleet ≡ Some m → Legal (all_of m.capacities) m.log
legal_machine number m fleet is found =
    let known = is_in number m fleet found in
    subst (λ (x : MachineState). Legal (all_of x.capacities) x.log) (sym known.1.same)
    (IsVm-at (number - 1) known.0 fleet is (at_place number known.0 fleet known.1.there)).legal

-- the machine of the migration has what its fields say, where it is there
abbrev Knows : FleetState → Migration → Type 0
Knows fleet m = ForSome (machine_of m.vm fleet) (λ at. IsKnown at.log m)

came_known : (fleet : FleetState) (v : CtlValue) (r : Record) (mig : ℕ) (n : Migration)
    → IsFleet fleet
    → ((k : ℕ) (m : Migration) → migration_in v k ≡ Some m → Knows fleet m)
    → IsBorneOut fleet v r → Came v r mig n → Knows fleet n
came_known fleet v r mig n is old borne (made plan vm disks which may new) = λ at found.
    subst (IsKnown at.log) (sym new)
    (known_without at.log (new_migration mig plan vm disks) refl refl)
came_known fleet v r mig n is old borne (stepped m there may new of) = λ at found.
    let vm : m.vm ≡ n.vm = sym (ap (λ (x : Migration). x.vm) new ∙ (step-same m r).vm) in
    let here = ap (λ (k : ℕ). machine_of k fleet) vm ∙ found in
    let asks = told_some (machine_of m.vm fleet) (λ a. RecordAsks a m r) at
    (borne.logged m (before_is v r mig m of there)) here in
    subst (IsKnown at.log) (sym new)
    (step_known at m r (legal_machine m.vm at fleet is here) (old mig m there at here) asks)
came_known fleet v r mig n is old borne (stayed there other) = old mig n there

abbrev Front : FleetState → List Record → CtlValue → Type 0
Front fleet front w = IsStateOf w front × (AreBorneOut fleet front
    → (mig : ℕ) (m : Migration) → migration_in w mig ≡ Some m → Knows fleet m)

one_front : (fleet : FleetState) → IsFleet fleet → (front : List Record) (w : CtlValue)
    (r : Record) → Front fleet front w → record_may_stand w r ≡ true
    → Front fleet (front ++ r ∷ []) (after_record w r)
one_front fleet is front w r old may = (
  goes_on w front r old.0 may,
  λ borne mig n there. came_known fleet w r mig n is
      (old.1 (front_borne fleet front (r ∷ []) borne)) (borne front [] r w refl old.0)
      (came w r mig n may there),
)

pub all_known : (fleet : FleetState) (records : List Record) (v : CtlValue) → IsFleet fleet
    → StandOver fleet records v → (mig : ℕ) (m : Migration) → migration_in v mig ≡ Some m
    → Knows fleet m
all_known fleet records v is stand = (fronts (Front fleet) (one_front fleet is)
    (refl, λ borne mig m at. absurd (none-numbered mig m at)) records v stand.come_to).1
    stand.borne_out

-- ---- the whole fleet

-- a machine that was there is there, with a log that may be longer, and what migrations own stays
-- theirs
pub record GrowsAt (new : FleetState) (vm : ℕ) (m : MachineState) : Type 0 where
  pub more : List Entry
  pub there : machine_of vm new ≡ Some (record m { log = m.log ++ more })
  pub owned : StaysOwned m.log more

abbrev pub Grows : (old new : FleetState) → Type 0
Grows old new = (vm : ℕ) (m : MachineState) → machine_of vm old ≡ Some m → GrowsAt new vm m

tracked_later : (old new : FleetState) (vm : ℕ) → Grows old new → is_tracked old vm ≡ true
    → is_tracked new vm ≡ true
tracked_later old new vm grows h = by (machine_of vm old) refl h
  where
    by : (o : Option MachineState) → machine_of vm old ≡ o
        → option_map_or has_tracking o false ≡ true → is_tracked new vm ≡ true
    by None is tracked = absurd (false≢true tracked)
    by (Some m) is tracked =
        let g = grows vm m is in
        ap (λ (o : Option MachineState). option_map_or has_tracking o false) g.there
        ∙ still_active m.log g.more tracked

all_tracked_later : (old new : FleetState) (vms : List ℕ) → Grows old new
    → list_all (is_tracked old) vms ≡ true → list_all (is_tracked new) vms ≡ true
all_tracked_later old new [] grows h = refl
all_tracked_later old new (vm ∷ vms) grows h =
    let parts = and_parts (is_tracked old vm) (list_all (is_tracked old) vms) h in
    both_true (tracked_later old new vm grows parts.0) (all_tracked_later old new vms grows parts.1)

tracked_with_later : (old new : FleetState) (vm disks : ℕ) → Grows old new
    → is_tracked_with old vm disks ≡ true → is_tracked_with new vm disks ≡ true
tracked_with_later old new vm disks grows h = by (machine_of vm old) refl h
  where
    by : (o : Option MachineState) → machine_of vm old ≡ o
        → option_map_or (λ machine. has_tracking machine && length machine.capacities == disks)
        o false ≡ true → is_tracked_with new vm disks ≡ true
    by None is tracked = absurd (false≢true tracked)
    by (Some m) is tracked =
        let g = grows vm m is in
        let parts = and_parts (has_tracking m) (length m.capacities == disks) tracked in
        ap (λ (o : Option MachineState). option_map_or
        (λ machine. has_tracking machine && length machine.capacities == disks) o false) g.there
        ∙ both_true (still_active m.log g.more parts.0) parts.1

names_later : (old new : FleetState) (r : Record) → Grows old new
    → names_machines old r ≡ true → names_machines new r ≡ true
names_later old new (PlanMade plan name interval vms) grows h =
    all_tracked_later old new vms grows h
names_later old new (MigrationStarted mig plan vm disks) grows h =
    tracked_with_later old new vm disks grows h
names_later old new _ grows h = refl

-- what is said of the machine of a migration is said of it as it has grown
facts_later : (old new : FleetState) (vm : ℕ) (P Q : MachineState → Type 0) → Grows old new
    → ((at : MachineState) (more : List Entry) → machine_of vm old ≡ Some at
    → StaysOwned at.log more → P at → Q (with_more at more))
    → IsSomeAnd (machine_of vm old) P → IsSomeAnd (machine_of vm new) Q
facts_later old new vm P Q grows later h = by (machine_of vm old) refl h
  where
    by : (o : Option MachineState) → machine_of vm old ≡ o → IsSomeAnd o P
        → IsSomeAnd (machine_of vm new) Q
    by None is p = absurd p
    by (Some m) is p =
        let g = grows vm m is in
        subst (λ (o : Option MachineState). IsSomeAnd o Q) (sym g.there)
        (later m g.more is g.owned p)

-- where a record that stores identifiers may stand, its migration may store them
stores : (v : CtlValue) (r : Record) (mig : ℕ) (m : Migration) → migration_of r ≡ Some mig
    → migration_in v mig ≡ Some m → record_may_stand v r ≡ true → MayName m r
stores v r mig m of there may k ids is =
    let same : k ≡ mig = same_Some k mig (sym (ap migration_of is) ∙ of) in
    let at : migration_in v k ≡ Some m = ap (migration_in v) same ∙ there in
    sym (ap (λ (o : Option Migration). option_map_or (λ n. may_store n ids) o false) at)
    ∙ sym (ap (record_may_stand v) is) ∙ may

in_log_later : (old new : FleetState) (front : List Record) (v : CtlValue) (r : Record)
    (m : Migration) → IsFleet old → Grows old new → StandOver old front v
    → record_may_stand v r ≡ true → migration_before v r ≡ Some m → IsInLog old m r
    → IsInLog new m r
in_log_later old new front v r m is grows stand may before logged =
    option_and_then_some (migration_in v) (migration_of r) m before (λ mig of there.
    let sound = ((values_are_sound front v stand.come_to).migrations mig m there).sound in
    facts_later old new m.vm (λ at. RecordAsks at m r) (λ at. RecordAsks at m r) grows
    (λ at more found owned asks. asks_later at more m r (legal_machine m.vm at old is found)
    (all_known old front v is stand mig m there at found) sound
    (stores v r mig m of there may) asks) logged)

stands_later : (old new : FleetState) (records : List Record) (v : CtlValue) → IsFleet old
    → Grows old new → StandOver old records v → AreBorneOut new records
stands_later old new records v is grows stand front rest r w split come =
    let whole = subst (λ (xs : List Record). AreBorneOut old xs) split stand.borne_out in
    let borne = stand.borne_out front rest r w split come in
    let before : StandOver old front w =
    record { come_to = come; borne_out = front_borne old front (r ∷ rest) whole } in
    let may = next_may front rest r w v come (sym (ap after split) ∙ stand.come_to) in
    record {
      named = names_later old new r grows borne.named;
      logged = λ m is_before. in_log_later old new front w r m is grows before may is_before
          (borne.logged m is_before);
    }

-- records that are taken over a fleet are taken over the one that it has grown to
pub taken_later : (old new : FleetState) (records : List Record) (v : CtlValue) → IsFleet old
    → Grows old new → AreTaken old records v → AreTaken new records v
taken_later old new records v is grows taken = record {
  stand = record {
    come_to = taken.stand.come_to;
    borne_out = stands_later old new records v is grows taken.stand;
  };
  snapshots = λ mig m there.
      facts_later old new m.vm (λ at. SnapshotAsks m.number at.log m)
      (λ at. SnapshotAsks m.number at.log m) grows
      (λ at more found owned asks. snapshot_later m.number at.log more m owned asks)
      (taken.snapshots mig m there);
}

-- ---- a fleet that goes on

-- what a migration owns of the log of a machine stays its own
abbrev pub OwnedStay : (old new : FleetState) → Type 0
OwnedStay old new = (number : ℕ) (vm later : VmState) → vm_of number old ≡ Some vm
    → vm_of number new ≡ Some later → (snap mig : ℕ)
    → owner_of snap vm.log ≡ Some (OfMigration mig)
    → owner_of snap later.log ≡ Some (OfMigration mig)

in_machine : (number : ℕ) (vm : VmState) (fleet : FleetState) → vm_of number fleet ≡ Some vm
    → AllAreIn fleet → machine_of number fleet
    ≡ Some (record { number = number; capacities = vm.capacities; log = vm.log })
in_machine number vm fleet there all =
    let at = at_place number vm fleet there in
    let within = slice_get_within fleet.vms (number - 1) vm at in
    let is_out : vm.out ≡ false =
    subst (λ (v : VmState). v.out ≡ false) (get_or_from_slice_get fleet.vms (number - 1) vm vm at)
    (all (number - 1) vm within) in
    ap (λ (o : Option VmState). option_map {T = VmState} {U = MachineState}
    (λ v. record { number = number; capacities = v.capacities; log = v.log })
    (option_and_then (λ v. if v.out then None else Some v) o)) there
    ∙ ap (λ (b : Bool). option_map {T = VmState} {U = MachineState}
    (λ v. record { number = number; capacities = v.capacities; log = v.log })
    (if b then None else Some vm)) is_out

numbered_vm : (number : ℕ) (fleet : FleetState) (later : VmState) → 1 ≤ number
    → slice_get fleet.vms (number - 1) ≡ Some later → vm_of number fleet ≡ Some later
numbered_vm number fleet later some at =
    ap (λ (b : Bool). if b then slice_get fleet.vms (number - 1) else None)
    (le-leb 1 number some) ∙ at

pub grows_by : (old new : FleetState) → FleetGoesOn old new → AllAreIn new → OwnedStay old new
    → Grows old new
grows_by old new on all owned number m found =
    let before = is_in number m old found in
    let vm : VmState = before.0 in
    let there = before.1.there in
    let some = (is_within number vm old there).0 in
    let goes = on.vms (number - 1) vm (at_place number vm old there) in
    let later : VmState = goes.0 in
    let now = numbered_vm number new later some goes.1 in
    let more = drop (length vm.log) later.log in
    let log : later.log ≡ vm.log ++ more = sym (take-append-drop (length vm.log) later.log)
    ∙ ap (λ (l : List Entry). l ++ more) goes.2.log in
    let same : m ≡ record { number = number; capacities = vm.capacities; log = vm.log } =
    before.1.same in
    record {
      more = more;
      there = in_machine number later new now all
          ∙ ap (λ (l : List Entry).
          Some (record { number = number; capacities = later.capacities; log = l })) log
          ∙ ap (λ (c : List ℕ).
          Some (record { number = number; capacities = c; log = vm.log ++ more })) goes.2.capacities
          ∙ ap (λ (x : MachineState). Some (record x { log = x.log ++ more })) (sym same);
      owned = λ snap mig own. subst (λ (l : List Entry). owner_of snap l ≡ Some (OfMigration mig))
          (log ∙ ap (λ (x : MachineState). x.log ++ more) (sym same))
          (owned number vm later there now snap mig
          (ap (λ (x : MachineState). owner_of snap x.log) (sym same) ∙ own));
    }
