-- What a phase says may stand in the state that its task was made from, phase by phase.
use Rattle.std.proofs.Common.{◌≡◌, ℕ, zero, suc, ◌+◌, ◌<◌, ◌≤◌, ◌==◌, List, [], ◌∷◌, Bool, true, false, ◌&&◌, ◌||◌, cond, not, Option, Some, None, refl, sym, ap, subst, ◌∙◌, length, map, arith}
use Rattle.std.specs.Prelude.{is_none, is_some, unwrap_or, nat_lt, nat_le, IsSome, IsSomeAnd, option_and_then}
use Rattle.std.specs.List.{list_all, filter_map, range_with_len, cons_option}
use Rattle.std.specs.Option.{option_map_or}
use Rattle.std.proofs.lemmas.Bool.{and_from, not-false, not-true, eqb-true, eq-eqb, lt-ltb, false≢true}
use Rattle.std.proofs.lemmas.Option.{none-some}
use Rattle.basics.proofs.Options.{none_is}
use Rattle.change_id.specs.declared.ChangeId.{ChangeId}
use Rattle.change_id.specs.ChangeId.{packed}
use Rattle.change_id.specs.History as history
use Rattle.checkpoints.specs.declared.checkpoint.CheckRefused.{CheckRefused}
use Rattle.checkpoints.specs.declared.checkpoint.CheckRefused.TheVariants.{Order, Final}
use Rattle.checkpoints.specs.DataVolume.{add_refusal}
use Rattle.log_model.specs.declared.entry.Entry.{Entry}
use Rattle.log_model.specs.Legal.{machine_on, taken}
use Rattle.log_model.specs.Marks.{id_at, through, number, epoch}
use Rattle.log_model.specs.Frozen.{last_off}
use Rattle.log_model.specs.Refusals.{is_spent, is_live as snapshot_is_live}
use Rattle.log_model.specs.Laws.{HasOffPlace}
use Rattle.log_model.proofs.OffPlace.{off_has_place}
use Rattle.phase_table.specs.declared.phases.Phase.{Phase}
use Rattle.phase_table.specs.declared.phases.Phase.TheVariants.{Started, CreateInitialSnapshot, StoreInitialIds, CreateVolumes, AddFirstCheckpoint, CopyDisks, CopyingPaused, RemovePreviousSnapshot, CreateSnapshot, StoreIds, AddCheckpoint, StorePowerState, PowerOffSource, WaitForPowerOff, RemovePenultimateSnapshot, CreateFinalSnapshot, AddFinalCheckpoint, CopyFinal, RemoveFinalSnapshot, Completed, Cancelled, Failed}
use Rattle.phase_table.specs.Phases.{is_end}
use Rattle.plan_model.specs.declared.moment.Moment.{Moment}
use Rattle.plan_model.specs.declared.way.Way.{Way}
use Rattle.plan_model.specs.declared.way.Way.TheVariants as Ways
use Rattle.plan_model.specs.Way.{way_number}
use Rattle.record_codec.specs.declared.record.Record.{Record}
use Rattle.record_codec.specs.declared.record.Record.TheVariants.{Chosen, SnapTaken, IdsStored, VolumesMade, CheckpointAdded, Paused, SnapRemoved, PowerStored, PoweredOff, OffSeen, FinalSnapTaken, Ended}
use Rattle.ctl_state.specs.declared.migration.Migration.{Migration}
use Rattle.ctl_state.specs.declared.migration.How.{How}
use Rattle.ctl_state.specs.declared.migration.How.TheVariants as Hows
use Rattle.ctl_state.specs.declared.ready.Job.TheVariants.{Phase as PhaseJob}
use Rattle.ctl_state.specs.Migration.{same_phase, reached, all_done, is_live, current_snapshot, stored_place}
use Rattle.ctl_state.specs.Value.{CtlValue}
use Rattle.ctl_state.specs.Ready.{way_due, is_copying, is_waiting, jobs_of}
use Rattle.ctl_state.specs.Task.{task_of}
use Rattle.ctl_state.specs.Steps.{how_number}
use Rattle.ctl_state.specs.MayStand.{may_step, may_end, is_failure}
use Rattle.ctl_state.specs.Sound.{IsSound, FitsPhase, is_open}
use Rattle.ctl_state.specs.Effect.{Effect, phase_at, ids_at, effect_at, says_record, by_call, removal_effect}
use Rattle.ctl_state.specs.declared.task.PhaseTask.{PhaseTask}
use Rattle.ctl_state.specs.EffectLaws.{record_of, HasForJob, PhasesMayStand, MayCleanUp, CleanUpsMayStand}
use Rattle.ctl_state.proofs.SoundMoves.{is-at, closed}
use Rattle.ctl_state.proofs.EffectStands.{IsPhaseJob, phase-job}

-- a migration whose phase has a job to do
abbrev ready_in : Phase → Migration → Migration
ready_in p m = record m { phase = p; how = None; cancel = false }

abbrev said_of : (mig : ℕ) → Option Effect → Option Record
said_of mig effect = option_and_then (λ e. record_of mig e.did) effect

-- the record that is said is one that may stand
abbrev Fine : Migration → Option Record → Type 0
Fine m said = (r : Record) → said ≡ Some r → may_step m r ≡ true

this-one : (m : Migration) (x r : Record) → may_step m x ≡ true → Some x ≡ Some r
    → may_step m r ≡ true
this-one m x r may e = let same : x ≡ r = cc in subst (λ (y : Record). may_step m y ≡ true) same may

pub fine : (m : Migration) (x : Record) → may_step m x ≡ true → Fine m (Some x)
fine m x may r e = this-one m x r may e

pub nothing-said : (m : Migration) → Fine m None
nothing-said m r e = absurd (none-some r e)

fine-if : (m : Migration) (mig : ℕ) (b : Bool) (one other : Effect)
    → (b ≡ true → Fine m (record_of mig one.did)) → (b ≡ false → Fine m (record_of mig other.did))
    → Fine m (record_of mig (cond b one other).did)
fine-if m mig true one other h k = h refl
fine-if m mig false one other h k = k refl

-- ---- numbers

below-next : (a b : ℕ) → a ≤ b → nat_lt a (b + 1) ≡ true
below-next a b h = lt-ltb a (b + 1) (omega (arith, h))

-- ---- identifiers

has-seq : (b : Bool) (n uuid : ℕ) (id : ChangeId) → (n == 0) ≡ b
    → cond b None (Some (record { uuid = uuid; seq = n })) ≡ Some id → nat_lt 0 id.seq ≡ true
has-seq true n uuid id e h = absurd (none-some id h)
has-seq false n uuid id e h =
    let other : n ≡ 0 → ⊥ = λ z. false≢true (sym e ∙ eq-eqb n 0 z) in
    let same : record { uuid = uuid; seq = n } ≡ id = cc in
    subst (λ (x : ChangeId). nat_lt 0 x.seq ≡ true) same (lt-ltb 0 n (omega (arith, other)))

ids-have-seq : (machine disk snap : ℕ) (log : List Entry) (id : ChangeId)
    → id_at machine disk snap log ≡ Some id → nat_lt 0 id.seq ≡ true
ids-have-seq machine disk snap log id h =
    has-seq (number disk (through snap log) == 0) (number disk (through snap log))
    (packed machine disk (epoch disk (through snap log))) id refl h

pub record AreIds (ids : List ChangeId) (n : ℕ) : Type 0 where
  pub many : length ids ≡ n
  pub numbered : list_all (λ id. nat_lt 0 id.seq) ids ≡ true

ids-there : (f : ℕ → Option ChangeId)
    → ((disk : ℕ) (id : ChangeId) → f disk ≡ Some id → nat_lt 0 id.seq ≡ true) → (from n : ℕ)
    → ((disk : ℕ) → from ≤ disk → disk < from + n → IsSome (f disk))
    → AreIds (filter_map f (range_with_len from n)) n
ids-there f seq from zero there = record { many = refl; numbered = refl }
ids-there f seq from (suc n) there =
    with-first (f from) refl (there from (omega arith) (omega arith))
    (ids-there f seq (from + 1) n (λ disk low high. there disk (omega arith) (omega arith)))
  where
    with-first : (found : Option ChangeId) → f from ≡ found → IsSome found
        → AreIds (filter_map f (range_with_len (from + 1) n)) n
        → AreIds (cons_option found (filter_map f (range_with_len (from + 1) n))) (suc n)
    with-first None e some rest = absurd (false≢true some)
    with-first (Some id) e some rest =
        record { many = ap suc rest.many; numbered = and_from _ _ (seq from id e) rest.numbered }

all-ids : (machine snap disks : ℕ) (log : List Entry)
    → ((disk : ℕ) → disk < disks → IsSome (id_at machine disk snap log))
    → AreIds (filter_map (λ disk. id_at machine disk snap log) (range_with_len 0 disks)) disks
all-ids machine snap disks log there =
    ids-there (λ disk. id_at machine disk snap log)
    (λ disk id e. ids-have-seq machine disk snap log id e) 0 disks
    (λ disk low high. there disk (omega arith))

stored-fine : (length_is numbered : Bool) → length_is ≡ true → numbered ≡ true
    → (true && (length_is && numbered)) ≡ true
stored-fine length_is numbered e f = and_from length_is numbered e f

-- ---- checkpoints

added-none : (final unfinished : Bool) (k s : ℕ) → final ≡ false → unfinished ≡ false → k < s
    → is_none (cond final (Some Final)
    (cond (not unfinished && (k == k && nat_lt k s)) None (Some Order))) ≡ true
added-none true unfinished k s e f h = absurd (false≢true (sym e))
added-none false true k s e f h = absurd (false≢true (sym f))
added-none false false k s e f h =
    ap (λ (b : Bool). is_none (cond b None (Some Order)))
    (and_from (k == k) (nat_lt k s) (eq-eqb k k refl) (lt-ltb k s h))

abbrev may_add_so : (final unfinished : Bool) (reached : ℕ) (snap : Option ℕ) → Bool
may_add_so final unfinished reached snap =
    option_map_or (λ current. current == unwrap_or snap 0) snap false
    && is_none (cond final (Some Final)
    (cond (not unfinished && (reached == reached && nat_lt reached (unwrap_or snap 0))) None
    (Some Order)))

adds : (final unfinished : Bool) (reached : ℕ) (snap : Option ℕ) → final ≡ false
    → unfinished ≡ false → IsSomeAnd snap (λ s. reached < s)
    → may_add_so final unfinished reached snap ≡ true
adds final unfinished reached None e f h = absurd h
adds final unfinished reached (Some s) e f h =
    and_from (s == s) _ (eq-eqb s s refl) (added-none final unfinished reached s e f h)

-- ---- a pause

choice : (w : Way) → (way_number w == 0) ≡ false → (way_number w == 1 || way_number w == 2) ≡ true
choice Ways.Nothing e = absurd (false≢true (sym e))
choice Ways.Precopy e = refl
choice Ways.Cutover e = refl

-- ---- the place of the final snapshot

place-below : (on : Bool) (place : Option ℕ) (log : List Entry) → on ≡ false
    → HasOffPlace on place log → unwrap_or place 0 < length log
place-below true place log e h = absurd (false≢true (sym e))
place-below false place log e (p, is, low, rest) =
    subst (λ (o : Option ℕ). unwrap_or o 0 < length log) (sym is) low

-- ---- a removal

removal-fine : (n : Migration) (task : PhaseTask) (log : List Entry) (b : Bool)
    → (task.snap == 0) ≡ b → may_step n (SnapRemoved task.mig task.snap) ≡ true
    → Fine n (said_of task.mig
    (effect_at (cond b (says_record (SnapRemoved task.mig 0)) (by_call (removal_effect task)))
    log))
removal-fine n task log true e may =
    fine n (SnapRemoved task.mig 0)
    (subst (λ (k : ℕ). may_step n (SnapRemoved task.mig k) ≡ true) (eqb-true task.snap 0 e) may)
removal-fine n task log false e may =
    fine-if n task.mig (snapshot_is_live task.snap log) _ _
    (λ _. fine-if n task.mig (is_spent log) _ _ (λ _. nothing-said n)
    (λ _. fine n (SnapRemoved task.mig task.snap) may))
    (λ _. fine n (SnapRemoved task.mig task.snap) may)

-- ---- phase by phase

abbrev PhaseFine : Phase → Type 0
PhaseFine p = (v : CtlValue) (now : Moment) (m : Migration) (machine : ℕ) (log : List Entry)
    → IsSound (ready_in p m) → is_copying (ready_in p m) ≡ false
    → is_waiting v now (ready_in p m) ≡ false
    → HasForJob machine (ready_in p m) log
    → Fine (ready_in p m)
    (said_of m.number (phase_at machine (task_of v now (ready_in p m)) log))

phase-fine : (p : Phase) → PhaseFine p
unfolding same_phase
phase-fine Started v now m machine log s copying waiting has =
    fine (ready_in Started m) (Chosen m.number 0 now.0) refl
phase-fine CreateInitialSnapshot v now m machine log s copying waiting has =
    let n = ready_in CreateInitialSnapshot m in
    fine-if n m.number (is_spent log) _ _ (λ _. nothing-said n)
    (λ _. fine n (SnapTaken m.number (taken log + 1) (length log))
    (below-next (reached m) (taken log) has.taken))
phase-fine StoreInitialIds v now m machine log s copying waiting has =
    let n = ready_in StoreInitialIds m in
    let ids = all-ids machine (current_snapshot m) m.disks log (has.named refl) in
    fine n (IdsStored m.number (ids_at machine m.disks (current_snapshot m) log))
    (stored-fine _ _ (eq-eqb _ _ ids.many) ids.numbered)
phase-fine CreateVolumes v now m machine log s copying waiting has =
    fine (ready_in CreateVolumes m) (VolumesMade m.number) refl
phase-fine AddFirstCheckpoint v now m machine log s copying waiting has =
    let f : FitsPhase (ready_in AddFirstCheckpoint m) = s.now in
    fine (ready_in AddFirstCheckpoint m)
    (CheckpointAdded m.number (reached m) (current_snapshot m) false)
    (adds m.dv.has_final (is_open m) (reached m) m.snap f.final f.unfinished f.current)
phase-fine CopyDisks v now m machine log s copying waiting has =
    fine (ready_in CopyDisks m) (Paused m.number now.0) (not-false (all_done m.copies) copying)
phase-fine CopyingPaused v now m machine log s copying waiting has =
    fine (ready_in CopyingPaused m) (Chosen m.number (way_number (way_due v now m)) now.0)
    (choice (way_due v now m) waiting)
phase-fine RemovePreviousSnapshot v now m machine log s copying waiting has =
    removal-fine (ready_in RemovePreviousSnapshot m)
    (task_of v now (ready_in RemovePreviousSnapshot m)) log (current_snapshot m == 0) refl
    (eq-eqb (current_snapshot m) (current_snapshot m) refl)
phase-fine CreateSnapshot v now m machine log s copying waiting has =
    let n = ready_in CreateSnapshot m in
    fine-if n m.number (is_spent log) _ _ (λ _. nothing-said n)
    (λ _. fine n (SnapTaken m.number (taken log + 1) (length log))
    (below-next (reached m) (taken log) has.taken))
phase-fine StoreIds v now m machine log s copying waiting has =
    let n = ready_in StoreIds m in
    let ids = all-ids machine (current_snapshot m) m.disks log (has.named refl) in
    fine n (IdsStored m.number (ids_at machine m.disks (current_snapshot m) log))
    (stored-fine _ _ (eq-eqb _ _ ids.many) ids.numbered)
phase-fine AddCheckpoint v now m machine log s copying waiting has =
    let f : FitsPhase (ready_in AddCheckpoint m) = s.now in
    fine (ready_in AddCheckpoint m)
    (CheckpointAdded m.number (reached m) (current_snapshot m) false)
    (adds m.dv.has_final (is_open m) (reached m) m.snap f.final (f.unfinished ∙ ap not f.copied)
    f.current)
phase-fine StorePowerState v now m machine log s copying waiting has =
    fine (ready_in StorePowerState m) (PowerStored m.number (machine_on log)) refl
phase-fine PowerOffSource v now m machine log s copying waiting has =
    let n = ready_in PowerOffSource m in
    fine-if n m.number (machine_on log) _ _
    (λ _. fine-if n m.number (is_spent log) _ _ (λ _. nothing-said n)
    (λ _. fine n (PoweredOff m.number) refl)) (λ _. fine n (PoweredOff m.number) refl)
phase-fine WaitForPowerOff v now m machine log s copying waiting has =
    fine (ready_in WaitForPowerOff m) (OffSeen m.number (not (machine_on log))) refl
phase-fine RemovePenultimateSnapshot v now m machine log s copying waiting has =
    removal-fine (ready_in RemovePenultimateSnapshot m)
    (task_of v now (ready_in RemovePenultimateSnapshot m)) log (current_snapshot m == 0) refl
    (eq-eqb (current_snapshot m) (current_snapshot m) refl)
phase-fine CreateFinalSnapshot v now m machine log s copying waiting has =
    let n = ready_in CreateFinalSnapshot m in
    fine-if n m.number (machine_on log) _ _ (λ _. fine n (OffSeen m.number false) refl)
    (λ off. fine-if n m.number (is_spent log) _ _ (λ _. nothing-said n)
    (λ _. fine n (FinalSnapTaken m.number (taken log + 1) (length log) (unwrap_or (last_off log) 0))
    (and_from _ _ (lt-ltb _ _
    (place-below (machine_on log) (last_off log) log off (off_has_place log)))
    (below-next (reached m) (taken log) has.taken))))
phase-fine AddFinalCheckpoint v now m machine log s copying waiting has =
    let f : FitsPhase (ready_in AddFinalCheckpoint m) = s.now in
    fine (ready_in AddFinalCheckpoint m)
    (CheckpointAdded m.number (reached m) (current_snapshot m) true)
    (adds m.dv.has_final (is_open m) (reached m) m.snap f.final (f.unfinished ∙ ap not f.copied)
    f.current)
phase-fine CopyFinal v now m machine log s copying waiting has = nothing-said (ready_in CopyFinal m)
phase-fine RemoveFinalSnapshot v now m machine log s copying waiting has =
    let n = ready_in RemoveFinalSnapshot m in
    let may : may_step n (Ended m.number 0 (stored_place m)) ≡ true =
    eq-eqb (stored_place m) (stored_place m) refl in
    fine-if n m.number (snapshot_is_live (current_snapshot m) log && not (is_spent log)) _ _
    (λ _. fine n (Ended m.number 0 (stored_place m)) may)
    (λ _. fine n (Ended m.number 0 (stored_place m)) may)
phase-fine Completed v now m machine log s copying waiting has = nothing-said (ready_in Completed m)
phase-fine Cancelled v now m machine log s copying waiting has = nothing-said (ready_in Cancelled m)
phase-fine Failed v now m machine log s copying waiting has = nothing-said (ready_in Failed m)

-- ---- any phase

is-ready : (m : Migration) → is_live m ≡ true → m.cancel ≡ false → m ≡ ready_in m.phase m
is-ready m live going =
    ap (λ (how : Option How). record m { how = how })
    (none_is m.how (not-true (is_some m.how) live))
    ∙ ap (λ (c : Bool). record m { how = None; cancel = c }) going

pub phases_may_stand : PhasesMayStand
phases_may_stand v now m machine log effect r s jobs has at said =
    let job = phase-job v now m jobs in
    let same = is-ready m job.live job.not_cancelled in
    let all : Fine m (said_of m.number (phase_at machine (task_of v now m) log)) =
    subst (λ (x : Migration). Fine x (said_of x.number (phase_at machine (task_of v now x) log)))
    (sym same)
    (phase-fine m.phase v now m machine log (subst IsSound same s)
    (subst (λ (x : Migration). is_copying x ≡ false) same job.not_copying)
    (subst (λ (x : Migration). is_waiting v now x ≡ false) same job.not_waiting)
    (subst (λ (x : Migration). HasForJob machine x log) same has)) in
    all r (ap (said_of m.number) at ∙ said)

-- ---- a clean-up

pub clean_ups_may_stand : CleanUpsMayStand
clean_ups_may_stand m Hows.Completed live may = absurd may
clean_ups_may_stand m Hows.Cancelled live may = and_from (is_live m) _ live may
clean_ups_may_stand m Hows.FailedVolume live may = and_from (is_live m) _ live (ap not may)
clean_ups_may_stand m Hows.FailedSpent live may = and_from (is_live m) _ live (ap not may)
