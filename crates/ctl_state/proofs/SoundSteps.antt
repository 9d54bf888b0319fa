-- Each record that may stand for a sound migration leaves it sound.
use Rattle.std.proofs.Common.{◌≡◌, ℕ, ◌<◌, ◌==◌, List, Bool, true, false, ◌&&◌, ◌||◌, ◌⊎◌, inl, inr, cond, not, Option, Some, None, refl, sym, ap, subst, ◌∙◌, length}
use Rattle.std.specs.Prelude.{is_none, is_some, unwrap_or, nat_lt, nat_le, IsSome}
use Rattle.std.specs.List.{list_all}
use Rattle.std.proofs.lemmas.Bool.{and_parts, or_cases, not-true, eqb-true, ltb-true, false≢true}
use Rattle.basics.proofs.Options.{none_is}
use Rattle.change_id.specs.declared.ChangeId.{ChangeId}
use Rattle.checkpoints.specs.DataVolume.{add_refusal}
use Rattle.phase_table.specs.declared.phases.Phase.{Phase}
use Rattle.phase_table.specs.declared.phases.Phase.TheVariants.{Started, CreateInitialSnapshot, StoreInitialIds, CreateVolumes, AddFirstCheckpoint, CopyDisks, CopyingPaused, RemovePreviousSnapshot, CreateSnapshot, StoreIds, AddCheckpoint, StorePowerState, PowerOffSource, WaitForPowerOff, RemovePenultimateSnapshot, CreateFinalSnapshot, AddFinalCheckpoint, CopyFinal, RemoveFinalSnapshot, Completed, Cancelled, Failed}
use Rattle.phase_table.specs.declared.table.Fact.TheVariants as Facts
use Rattle.phase_table.specs.Phases.{is_end}
use Rattle.plan_model.specs.declared.moment.Moment.{Moment}
use Rattle.record_codec.specs.declared.record.Record.{Record}
use Rattle.record_codec.specs.declared.record.Record.TheVariants.{PlanMade, MigrationStarted, Chosen, SnapTaken, IdsStored, VolumesMade, CheckpointAdded, StageBegun, StageDone, Paused, SnapRemoved, CutoverSet, PowerStored, PoweredOff, OffSeen, FinalSnapTaken, CancelAsked, Ended}
use Rattle.ctl_state.specs.declared.migration.Migration.{Migration}
use Rattle.ctl_state.specs.declared.migration.How.{How}
use Rattle.ctl_state.specs.declared.migration.How.TheVariants as Hows
use Rattle.ctl_state.specs.declared.copies.DiskCopy.{DiskCopy}
use Rattle.ctl_state.specs.Migration.{same_phase, next_of, moved, reached, all_done, is_left, is_being_copied, is_live, current_snapshot, stored_place, named_copies, change_at, begun_copy, done_copy}
use Rattle.ctl_state.specs.declared.copies.TheConstants.{MAX_STAGE_SECTORS}
use Rattle.ctl_state.specs.Steps.{fact_of_way, fact_of_end, with_snapshot, without_snapshot, with_checkpoint_done, with_stage_done, with_end, end_by, after_step, finished_volume}
use Rattle.ctl_state.specs.MayStand.{goes_on_in, copies_disks, may_choose, is_later, may_take, may_store, is_current, adds_checkpoint, may_add, may_begin, may_finish, may_pause, may_remove, may_see, may_take_final, may_cancel, is_failure, may_end, may_step}
use Rattle.ctl_state.specs.Sound.{HaveCopied, facts_in, is_open, is_final_done, FitsPhase, StandsNow, HasEnded, IsComplete, EndSays, phase_of_end, IsSound}
use Rattle.ctl_state.specs.SoundLaws.{StepsKeepSound}
use Rattle.ctl_state.proofs.NextFacts.{is_that}
use Rattle.ctl_state.proofs.SoundCopies.{done-change}
use Rattle.ctl_state.proofs.SoundMoves.{phase_is, at, is-at, by-phase, keeps, move, closed, first-snapshot, next-snapshot, final-snapshot, first-ids, next-ids, volumes-made, paused, power-stored, previous-removed, penultimate-removed, goes-back, unmarked-stand}
use Rattle.ctl_state.proofs.SoundStages.{opened, checkpoint-first, checkpoint-next, checkpoint-final, begins, stage_done, left-there, goes-on-copying, finished, finished-is, finishes-copying, finishes-final}

-- ---- tests

pub record GoesOn (m : Migration) (p : Phase) : Type 0 where
  pub not_cancelled : m.cancel ≡ false
  pub phase : m.phase ≡ p

pub goes-on : (m : Migration) (p : Phase) → goes_on_in m p ≡ true → GoesOn m p
goes-on m p e =
    let parts = and_parts (not m.cancel) (same_phase m.phase p) e in
    record { not_cancelled = not-true m.cancel parts.0; phase = phase_is m.phase p parts.1 }

-- ---- record by record

chosen-first : (m : Migration) → IsSound m → m.phase ≡ Started → IsSound (moved m (fact_of_way 0))
unfolding next_of
chosen-first m s e =
    by-phase m Started (λ x. moved x (fact_of_way 0)) refl s e
    (λ t. move Started CreateInitialSnapshot m refl refl refl refl refl refl refl refl t)

chosen-copy : (m : Migration) → IsSound m → m.phase ≡ CopyingPaused
    → IsSound (moved m (fact_of_way 1))
unfolding next_of
chosen-copy m s e =
    by-phase m CopyingPaused (λ x. moved x (fact_of_way 1)) refl s e
    (λ t. move CopyingPaused RemovePreviousSnapshot m refl refl refl refl refl refl refl refl t)

chosen-cutover : (m : Migration) → IsSound m → m.phase ≡ CopyingPaused
    → IsSound (moved m (fact_of_way 2))
unfolding next_of
chosen-cutover m s e =
    by-phase m CopyingPaused (λ x. moved x (fact_of_way 2)) refl s e
    (λ t. move CopyingPaused StorePowerState m refl refl refl refl refl refl refl refl t)

way-is : (m : Migration) (way k : ℕ) → (way == k) ≡ true → IsSound (moved m (fact_of_way k))
    → IsSound (moved m (fact_of_way way))
way-is m way k e s = subst (λ (w : ℕ). IsSound (moved m (fact_of_way w))) (sym (eqb-true way k e)) s

chosen : (m : Migration) (way : ℕ) → IsSound m → may_choose m way ≡ true
    → IsSound (moved m (fact_of_way way))
chosen m way s h =
    elim (or_cases (goes_on_in m Started && way == 0)
    (goes_on_in m CopyingPaused && (way == 1 || way == 2)) h) [
      | inl first ↦ (let parts = and_parts (goes_on_in m Started) (way == 0) first in
          way-is m way 0 parts.1 (chosen-first m s (goes-on m Started parts.0).phase))
      | inr later ↦ (
          let parts = and_parts (goes_on_in m CopyingPaused) (way == 1 || way == 2) later in
          let e = (goes-on m CopyingPaused parts.0).phase in
          elim (or_cases (way == 1) (way == 2) parts.1) [
            | inl one ↦ way-is m way 1 one (chosen-copy m s e)
            | inr two ↦ way-is m way 2 two (chosen-cutover m s e)
          ])
    ]

taken : (m : Migration) (snap mark : ℕ) → IsSound m → may_take m snap ≡ true
    → IsSound (moved (with_snapshot snap mark m) Facts.Done)
taken m snap mark s h =
    let parts = and_parts (goes_on_in m CreateInitialSnapshot || goes_on_in m CreateSnapshot)
    (is_later m snap) h in
    let later = ltb-true (reached m) snap parts.1 in
    elim (or_cases (goes_on_in m CreateInitialSnapshot) (goes_on_in m CreateSnapshot) parts.0) [
      | inl e ↦ by-phase m CreateInitialSnapshot (λ x. moved (with_snapshot snap mark x) Facts.Done)
          refl s (goes-on m CreateInitialSnapshot e).phase (first-snapshot m snap mark later)
      | inr e ↦ by-phase m CreateSnapshot (λ x. moved (with_snapshot snap mark x) Facts.Done) refl s
          (goes-on m CreateSnapshot e).phase (next-snapshot m snap mark later)
    ]

stored : (m : Migration) (ids : List ChangeId) → IsSound m → may_store m ids ≡ true
    → IsSound (moved (record m { copies = named_copies m.copies ids }) Facts.Done)
stored m ids s h =
    let parts = and_parts (goes_on_in m StoreInitialIds || goes_on_in m StoreIds)
    (length ids == m.disks && list_all (λ id. nat_lt 0 id.seq) ids) h in
    let e = eqb-true (length ids) m.disks
    (and_parts (length ids == m.disks) (list_all (λ id. nat_lt 0 id.seq) ids) parts.1).0 in
    elim (or_cases (goes_on_in m StoreInitialIds) (goes_on_in m StoreIds) parts.0) [
      | inl p ↦ by-phase m StoreInitialIds
          (λ x. moved (record x { copies = named_copies x.copies ids }) Facts.Done) refl s
          (goes-on m StoreInitialIds p).phase (first-ids m ids e)
      | inr p ↦ by-phase m StoreIds
          (λ x. moved (record x { copies = named_copies x.copies ids }) Facts.Done) refl s
          (goes-on m StoreIds p).phase (next-ids m ids e)
    ]

made : (m : Migration) → IsSound m → goes_on_in m CreateVolumes ≡ true
    → IsSound (moved (record m { volumes = true }) Facts.Done)
made m s h = by-phase m CreateVolumes (λ x. moved (record x { volumes = true }) Facts.Done) refl s
    (goes-on m CreateVolumes h).phase (volumes-made m)

added : (m : Migration) (previous current : ℕ) (last : Bool) → IsSound m
    → may_add m previous current last ≡ true
    → IsSound (moved (opened m previous current last) Facts.Done)
added m previous current last s h =
    let parts = and_parts (adds_checkpoint m last)
    (is_current m current && is_none (add_refusal m.dv previous current)) h in
    let rest = and_parts (is_current m current) (is_none (add_refusal m.dv previous current))
    parts.1 in
    by-last m previous current last s parts.0 (is_that m.snap current rest.0)
    (none_is (add_refusal m.dv previous current)
    (not-true (is_some (add_refusal m.dv previous current)) rest.1))
  where
    by-last : (m : Migration) (previous current : ℕ) (last : Bool) → IsSound m
        → adds_checkpoint m last ≡ true → m.snap ≡ Some current
        → add_refusal m.dv previous current ≡ None
        → IsSound (moved (opened m previous current last) Facts.Done)
    by-last m previous current true s p snap may =
        by-phase m AddFinalCheckpoint (λ x. moved (opened x previous current true) Facts.Done) refl
        s (goes-on m AddFinalCheckpoint p).phase (checkpoint-final m previous current snap may)
    by-last m previous current false s p snap may =
        elim (or_cases (goes_on_in m AddFirstCheckpoint) (goes_on_in m AddCheckpoint) p) [
          | inl e ↦ by-phase m AddFirstCheckpoint
              (λ x. moved (opened x previous current false) Facts.Done) refl s
              (goes-on m AddFirstCheckpoint e).phase (checkpoint-first m previous current snap may)
          | inr e ↦ by-phase m AddCheckpoint
              (λ x. moved (opened x previous current false) Facts.Done) refl s
              (goes-on m AddCheckpoint e).phase (checkpoint-next m previous current snap may)
        ]

begun-keeps : (m : Migration) (disk : ℕ) → IsSound m → may_begin m disk ≡ true
    → IsSound (record m { copies = change_at m.copies disk begun_copy })
begun-keeps m disk s h =
    let parts = and_parts (copies_disks m) (is_left m disk)
    (and_parts (not m.cancel) (copies_disks m && is_left m disk) h).1 in
    elim (or_cases (same_phase m.phase CopyDisks) (same_phase m.phase CopyFinal) parts.0) [
      | inl e ↦ by-phase m CopyDisks (λ x. record x { copies = change_at x.copies disk begun_copy })
          refl s (phase_is m.phase CopyDisks e) (begins CopyDisks m disk refl (λ k. k))
      | inr e ↦ by-phase m CopyFinal (λ x. record x { copies = change_at x.copies disk begun_copy })
          refl s (phase_is m.phase CopyFinal e)
          (begins CopyFinal m disk refl (λ k. done-change begun_copy (λ c. refl) m.copies disk ∙ k))
    ]

-- the last stage of a checkpoint, or one before it
abbrev finished_or : Bool → Migration → Migration
finished_or b m = cond b (with_checkpoint_done m) m

abbrev with_volume_of : Migration → Migration → Migration
with_volume_of m n = record n { dv = finished_volume m.dv }

done-copying : (m : Migration) (disk written : ℕ) (b : Bool)
    → all_done (change_at m.copies disk (done_copy m.mark written)) ≡ b → is_open m ≡ true
    → IsSound (at CopyDisks m)
    → IsSound (finished_or b (stage_done (at CopyDisks m) disk written))
unfolding same_phase
done-copying m disk written false e now_open s =
    goes-on-copying CopyDisks m disk written refl now_open e tt s
done-copying m disk written true e now_open s =
    let k = finished (stage_done (at CopyDisks m) disk written) in
    subst (λ dv. IsSound (record k { dv = dv })) (sym (finished-is m.dv now_open))
    (finishes-copying m disk written now_open e s)

done-final : (m : Migration) (disk written : ℕ) (b : Bool)
    → all_done (change_at m.copies disk (done_copy m.mark written)) ≡ b → is_open m ≡ true
    → IsSound (at CopyFinal m)
    → IsSound (finished_or b (stage_done (at CopyFinal m) disk written))
unfolding same_phase next_of
done-final m disk written false e now_open s =
    goes-on-copying CopyFinal m disk written refl now_open e e s
done-final m disk written true e now_open s =
    let k = moved (finished (stage_done (at CopyFinal m) disk written)) Facts.Done in
    subst (λ dv. IsSound (record k { dv = dv })) (sym (finished-is m.dv now_open))
    (finishes-final m disk written now_open e s)

stage-keeps : (m : Migration) (disk written : ℕ) → IsSound m → may_finish m disk written ≡ true
    → IsSound (with_stage_done disk written m)
stage-keeps m disk written s h =
    let parts = and_parts (copies_disks m)
    (is_being_copied m disk && nat_le written MAX_STAGE_SECTORS) h in
    let left = left-there m.copies disk
    (and_parts (is_being_copied m disk) (nat_le written MAX_STAGE_SECTORS) parts.1).0 in
    elim (or_cases (same_phase m.phase CopyDisks) (same_phase m.phase CopyFinal) parts.0) [
      | inl e ↦ by-phase m CopyDisks (with_stage_done disk written) refl s
          (phase_is m.phase CopyDisks e)
          (λ t. done-copying m disk written
          (all_done (change_at m.copies disk (done_copy m.mark written))) refl
          (t.now.unfinished ∙ ap not left) t)
      | inr e ↦ by-phase m CopyFinal (with_stage_done disk written) refl s
          (phase_is m.phase CopyFinal e)
          (λ t. done-final m disk written
          (all_done (change_at m.copies disk (done_copy m.mark written))) refl
          (t.now.unfinished ∙ ap not left) t)
    ]

pauses : (m : Migration) (last : Option Moment) → IsSome last → IsSound m → may_pause m ≡ true
    → IsSound (moved (record m { last = last }) Facts.Done)
pauses m last there s h =
    let parts = and_parts (goes_on_in m CopyDisks) (all_done m.copies) h in
    by-phase m CopyDisks (λ x. moved (record x { last = last }) Facts.Done) refl s
    (goes-on m CopyDisks parts.0).phase (paused m last there parts.1)

removed : (m : Migration) (snap : ℕ) → IsSound m → may_remove m snap ≡ true
    → IsSound (moved (without_snapshot m) Facts.Done)
removed m snap s h =
    let parts = and_parts
    (goes_on_in m RemovePreviousSnapshot || goes_on_in m RemovePenultimateSnapshot)
    (snap == current_snapshot m) h in
    elim (or_cases (goes_on_in m RemovePreviousSnapshot) (goes_on_in m RemovePenultimateSnapshot)
    parts.0) [
      | inl e ↦ by-phase m RemovePreviousSnapshot (λ x. moved (without_snapshot x) Facts.Done) refl
          s (goes-on m RemovePreviousSnapshot e).phase (previous-removed m)
      | inr e ↦ by-phase m RemovePenultimateSnapshot (λ x. moved (without_snapshot x) Facts.Done)
          refl s (goes-on m RemovePenultimateSnapshot e).phase (penultimate-removed m)
    ]

power : (m : Migration) (on : Bool) → IsSound m → goes_on_in m StorePowerState ≡ true
    → IsSound (moved (record m { power = Some on }) Facts.Done)
power m on s h = by-phase m StorePowerState (λ x. moved (record x { power = Some on }) Facts.Done)
    refl s (goes-on m StorePowerState h).phase (power-stored m on)

powered-off : (m : Migration) → IsSound m → goes_on_in m PowerOffSource ≡ true
    → IsSound (moved m Facts.Done)
unfolding next_of
powered-off m s h =
    by-phase m PowerOffSource (λ x. moved x Facts.Done) refl s (goes-on m PowerOffSource h).phase
    (λ t. move PowerOffSource WaitForPowerOff m refl refl refl refl refl refl refl refl t)

off-seen : (m : Migration) → IsSound m → m.phase ≡ WaitForPowerOff → IsSound (moved m Facts.Done)
unfolding next_of
off-seen m s e = by-phase m WaitForPowerOff (λ x. moved x Facts.Done) refl s e
    (λ t. move WaitForPowerOff RemovePenultimateSnapshot m refl refl refl refl refl refl refl refl
    t)

on-seen : (m : Migration) → IsSound m → m.phase ≡ WaitForPowerOff → IsSound (moved m Facts.Running)
unfolding next_of
on-seen m s e = by-phase m WaitForPowerOff (λ x. moved x Facts.Running) refl s e
    (λ t. move WaitForPowerOff PowerOffSource m refl refl refl refl refl refl refl refl t)

on-seen-late : (m : Migration) → IsSound m → m.phase ≡ CreateFinalSnapshot
    → IsSound (moved m Facts.Running)
unfolding next_of
on-seen-late m s e = by-phase m CreateFinalSnapshot (λ x. moved x Facts.Running) refl s e
    (λ t. goes-back m t)

seen : (m : Migration) (off : Bool) → IsSound m → may_see m off ≡ true
    → IsSound (moved m (cond off Facts.Done Facts.Running))
seen m true s h = elim (or_cases (goes_on_in m WaitForPowerOff) false h) [
  | inl e ↦ off-seen m s (goes-on m WaitForPowerOff e).phase
  | inr e ↦ absurd (false≢true e)
]
seen m false s h = elim
    (or_cases (goes_on_in m WaitForPowerOff) (goes_on_in m CreateFinalSnapshot) h) [
      | inl e ↦ on-seen m s (goes-on m WaitForPowerOff e).phase
      | inr e ↦ on-seen-late m s (goes-on m CreateFinalSnapshot e).phase
    ]

final-taken : (m : Migration) (snap mark place : ℕ) → IsSound m
    → may_take_final m snap mark place ≡ true
    → IsSound (moved (record (with_snapshot snap mark m) { place = Some place }) Facts.Done)
final-taken m snap mark place s h =
    let parts = and_parts (goes_on_in m CreateFinalSnapshot) (nat_lt place mark && is_later m snap)
    h in
    let later = ltb-true (reached m) snap
    (and_parts (nat_lt place mark) (is_later m snap) parts.1).1 in
    by-phase m CreateFinalSnapshot
    (λ x. moved (record (with_snapshot snap mark x) { place = Some place }) Facts.Done) refl s
    (goes-on m CreateFinalSnapshot parts.0).phase (final-snapshot m snap mark place later)

-- ---- a cancel

cancelled-now : (how : Option How) (m : Migration) → is_none how ≡ true → StandsNow how m
    → StandsNow how (record m { cancel = true })
cancelled-now (Some how) m e h = absurd (false≢true e)
cancelled-now None m e f = record {
  live = f.live;
  current = f.current;
  named = f.named;
  copied = f.copied;
  volumes = f.volumes;
  added = f.added;
  paused = f.paused;
  power = f.power;
  placed = f.placed;
  final = f.final;
  unfinished = f.unfinished;
  stand = f.stand;
}

cancel-asked : (m : Migration) → IsSound m → may_cancel m ≡ true
    → IsSound (record m { cancel = true })
cancel-asked m s h = keeps m (record m { cancel = true }) s refl refl refl refl refl
    (cancelled-now m.how m (and_parts (is_live m) (not m.cancel) h).0 s.now)

-- ---- an end

pub live-fits : (how : Option How) (m : Migration) → is_none how ≡ true → StandsNow how m
    → FitsPhase m
live-fits (Some how) m e h = absurd (false≢true e)
live-fits None m e f = f

cancelled-phase : (p : Phase) → is_end p ≡ false
    → unwrap_or (next_of p Facts.Cancelled) p ≡ Cancelled
unfolding next_of
cancelled-phase Completed e = absurd (false≢true (sym e))
cancelled-phase Cancelled e = absurd (false≢true (sym e))
cancelled-phase Failed e = absurd (false≢true (sym e))
cancelled-phase _ e = refl

failed-phase : (p : Phase) → is_end p ≡ false → unwrap_or (next_of p Facts.Failed) p ≡ Failed
unfolding next_of
failed-phase Completed e = absurd (false≢true (sym e))
failed-phase Cancelled e = absurd (false≢true (sym e))
failed-phase Failed e = absurd (false≢true (sym e))
failed-phase _ e = refl

ends-with : (how : How) (m : Migration) → IsSound m
    → unwrap_or (next_of m.phase (fact_of_end how)) m.phase ≡ phase_of_end how
    → EndSays how (with_end how m) → IsSound (with_end how m)
ends-with how m s phase says =
    keeps m (with_end how m) s refl refl refl refl refl
    (record { phase = phase; no_snapshot = refl; says = says })

completes : (m : Migration) → m.cancel ≡ false → IsSound (at RemoveFinalSnapshot m)
    → IsSound (with_end Hows.Completed (at RemoveFinalSnapshot m))
unfolding next_of
completes m not_cancelled s =
    let f : FitsPhase (at RemoveFinalSnapshot m) = s.now in
    let shut : is_open m ≡ false = closed RemoveFinalSnapshot m refl f.copied f in
    ends-with Hows.Completed (at RemoveFinalSnapshot m) s refl (record {
      not_cancelled = not_cancelled;
      final = ap (λ (b : Bool). b && not (is_open m)) f.final ∙ ap not shut;
      copied = f.copied;
      stand = unmarked-stand m shut f.stand;
      placed = f.placed;
    })

end-is : (m : Migration) (how k : ℕ) → (how == k) ≡ true → IsSound (end_by k m)
    → IsSound (end_by how m)
end-is m how k e s = subst (λ (n : ℕ). IsSound (end_by n m)) (sym (eqb-true how k e)) s

abbrev other_end : (how : ℕ) (one : Bool) (m : Migration) → Bool
other_end how one m = cond one m.cancel (is_failure how && not m.cancel)

ends-otherwise : (m : Migration) (how : ℕ) (one : Bool) → (how == 1) ≡ one → is_live m ≡ true
    → other_end how one m ≡ true → IsSound m → IsSound (end_by how m)
ends-otherwise m how true e live h s =
    let f = live-fits m.how m live s.now in
    end-is m how 1 e (ends-with Hows.Cancelled m s (cancelled-phase m.phase f.live) h)
ends-otherwise m how false e live h s =
    let f = live-fits m.how m live s.now in
    let parts = and_parts (is_failure how) (not m.cancel) h in
    let not_cancelled = not-true m.cancel parts.1 in
    elim (or_cases (how == 2) (how == 3) parts.0) [
      | inl two ↦ end-is m how 2 two
          (ends-with Hows.FailedVolume m s (failed-phase m.phase f.live) not_cancelled)
      | inr three ↦ end-is m how 3 three
          (ends-with Hows.FailedSpent m s (failed-phase m.phase f.live) not_cancelled)
    ]

abbrev ends_by_test : (how place : ℕ) (zeroth : Bool) (m : Migration) → Bool
ends_by_test how place zeroth m =
    cond zeroth (goes_on_in m RemoveFinalSnapshot && place == stored_place m)
    (place == 0 && other_end how (how == 1) m)

ends-by : (m : Migration) (how place : ℕ) (zeroth : Bool) → (how == 0) ≡ zeroth → is_live m ≡ true
    → ends_by_test how place zeroth m ≡ true → IsSound m → IsSound (end_by how m)
ends-by m how place true e live h s =
    let on = goes-on m RemoveFinalSnapshot
    (and_parts (goes_on_in m RemoveFinalSnapshot) (place == stored_place m) h).0 in
    end-is m how 0 e (by-phase m RemoveFinalSnapshot (with_end Hows.Completed) refl s on.phase
    (completes m on.not_cancelled))
ends-by m how place false e live h s =
    ends-otherwise m how (how == 1) refl live
    (and_parts (place == 0) (other_end how (how == 1) m) h).1 s

ended : (m : Migration) (how place : ℕ) → IsSound m → may_end m how place ≡ true
    → IsSound (end_by how m)
ended m how place s h =
    let parts = and_parts (is_live m) (ends_by_test how place (how == 0) m) h in
    ends-by m how place (how == 0) refl parts.0 parts.1 s

-- ---- all of them

pub steps_keep_sound : StepsKeepSound
steps_keep_sound m (PlanMade plan name interval vms) s h = s
steps_keep_sound m (MigrationStarted mig plan vm disks) s h = s
steps_keep_sound m (Chosen mig way at) s h = chosen m way s h
steps_keep_sound m (SnapTaken mig snap mark) s h = taken m snap mark s h
steps_keep_sound m (IdsStored mig ids) s h = stored m ids s h
steps_keep_sound m (VolumesMade mig) s h = made m s h
steps_keep_sound m (CheckpointAdded mig previous current last) s h =
    added m previous current last s h
steps_keep_sound m (StageBegun mig disk) s h = begun-keeps m disk s h
steps_keep_sound m (StageDone mig disk written) s h = stage-keeps m disk written s h
steps_keep_sound m (Paused mig at) s h = pauses m (Some (record { 0 = at })) refl s h
steps_keep_sound m (SnapRemoved mig snap) s h = removed m snap s h
steps_keep_sound m (CutoverSet plan has at) s h = s
steps_keep_sound m (PowerStored mig on) s h = power m on s h
steps_keep_sound m (PoweredOff mig) s h = powered-off m s h
steps_keep_sound m (OffSeen mig off) s h = seen m off s h
steps_keep_sound m (FinalSnapTaken mig snap mark place) s h = final-taken m snap mark place s h
steps_keep_sound m (CancelAsked mig) s h = cancel-asked m s h
steps_keep_sound m (Ended mig how place) s h = ended m how place s h
