-- What each step of a migration keeps of it, and that an end ends it.
use Rattle.std.proofs.Common.{◌≡◌, ℕ, ◌==◌, Bool, true, false, cond, ◌&&◌, ◌||◌, not, List, [], ◌∷◌, ◌++◌, Option, Some, None, Result, Ok, Err, OnOk, OnErr, refl, ap, subst, sym, ◌∙◌}
use Rattle.std.specs.Option.{option_map_or}
use Rattle.std.proofs.lemmas.Bool.{and_parts}
use Rattle.record_codec.specs.declared.record.Record.{Record}
use Rattle.record_codec.specs.declared.record.Record.TheVariants.{PlanMade, MigrationStarted, Chosen, SnapTaken, IdsStored, VolumesMade, CheckpointAdded, StageBegun, StageDone, Paused, SnapRemoved, CutoverSet, PowerStored, PoweredOff, OffSeen, FinalSnapTaken, CancelAsked, Ended}
use Rattle.phase_table.specs.declared.phases.Phase.TheVariants as Phases
use Rattle.phase_table.specs.declared.table.Fact.TheVariants as Facts
use Rattle.ctl_state.specs.declared.migration.Migration.{Migration}
use Rattle.ctl_state.specs.declared.migration.How.{How}
use Rattle.ctl_state.specs.declared.migration.How.TheVariants as Hows
use Rattle.ctl_state.specs.Migration.{same_phase, is_live, moved, change_at, done_copy, all_done, sectors_written}
use Rattle.ctl_state.specs.Steps.{after_step, with_volume_done, with_checkpoint_done, with_stage_done, finished_volume, with_end, end_by, how_of}
use Rattle.ctl_state.specs.MayStand.{ends, may_end}

-- the same migration of the same machine, which has ended or not as before
pub record Keeps (old new : Migration) : Type 0 where
  pub how : new.how ≡ old.how
  pub machine : new.vm ≡ old.vm
  pub number : new.number ≡ old.number

one_of : (b : Bool) (old a c : Migration) → Keeps old a → Keeps old c → Keeps old (cond b a c)
one_of true old a c x y = x
one_of false old a c x y = y

kept : (m : Migration) → Keeps m m
kept m = record { how = refl; machine = refl; number = refl }

volume_done_keeps : (m : Migration) → Keeps m (with_volume_done m)
volume_done_keeps m =
    let finished = record m { dv = finished_volume m.dv } in
    one_of (same_phase m.phase Phases.CopyFinal) m (moved finished Facts.Done) finished
    (record { how = refl; machine = refl; number = refl })
    (record { how = refl; machine = refl; number = refl })

along : (a b c : Migration) → Keeps a b → Keeps b c → Keeps a c
along a b c x y = record {
  how = y.how ∙ x.how;
  machine = y.machine ∙ x.machine;
  number = y.number ∙ x.number;
}

checkpoint_done_keeps : (m : Migration) → Keeps m (with_checkpoint_done m)
checkpoint_done_keeps m =
    let counted = record m {
      marks = m.marks ++ m.mark ∷ [];
      written = m.written ++ sectors_written m.copies ∷ [];
    } in
    along m counted (with_volume_done counted)
    (record { how = refl; machine = refl; number = refl })
    (volume_done_keeps counted)

stage_done_keeps : (m : Migration) (disk written : ℕ) → Keeps m (with_stage_done disk written m)
stage_done_keeps m disk written =
    let copied = record m { copies = change_at m.copies disk (done_copy m.mark written) } in
    one_of (all_done copied.copies) m (with_checkpoint_done copied) copied
    (along m copied (with_checkpoint_done copied)
    (record { how = refl; machine = refl; number = refl }) (checkpoint_done_keeps copied))
    (record { how = refl; machine = refl; number = refl })

pub step_keeps : (m : Migration) (r : Record) → ends r ≡ false → Keeps m (after_step m r)
step_keeps m (PlanMade plan name interval vms) h = kept m
step_keeps m (MigrationStarted mig plan vm disks) h = kept m
step_keeps m (Chosen mig way at) h = record { how = refl; machine = refl; number = refl }
step_keeps m (SnapTaken mig snap mark) h = record { how = refl; machine = refl; number = refl }
step_keeps m (IdsStored mig ids) h = record { how = refl; machine = refl; number = refl }
step_keeps m (VolumesMade mig) h = record { how = refl; machine = refl; number = refl }
step_keeps m (CheckpointAdded mig previous current last) h =
    record { how = refl; machine = refl; number = refl }
step_keeps m (StageBegun mig disk) h = record { how = refl; machine = refl; number = refl }
step_keeps m (StageDone mig disk written) h = stage_done_keeps m disk written
step_keeps m (Paused mig at) h = record { how = refl; machine = refl; number = refl }
step_keeps m (SnapRemoved mig snap) h = record { how = refl; machine = refl; number = refl }
step_keeps m (CutoverSet plan has at) h = kept m
step_keeps m (PowerStored mig on) h = record { how = refl; machine = refl; number = refl }
step_keeps m (PoweredOff mig) h = record { how = refl; machine = refl; number = refl }
step_keeps m (OffSeen mig off) h = record { how = refl; machine = refl; number = refl }
step_keeps m (FinalSnapTaken mig snap mark place) h =
    record { how = refl; machine = refl; number = refl }
step_keeps m (CancelAsked mig) h = record { how = refl; machine = refl; number = refl }
step_keeps m (Ended mig how place) h = absurd (cc)

end_by_tests : (m : Migration) (b0 b1 b2 b3 live x y cancel : Bool)
    → (live && cond b0 x (y && cond b1 cancel ((b2 || b3) && not cancel))) ≡ true
    → is_live (option_map_or (λ end. with_end end m)
    (cond b0 (Some Hows.Completed) (cond b1 (Some Hows.Cancelled)
    (cond b2 (Some Hows.FailedVolume) (cond b3 (Some Hows.FailedSpent) None)))) m) ≡ false
end_by_tests m true b1 b2 b3 live x y cancel h = refl
end_by_tests m false true b2 b3 live x y cancel h = refl
end_by_tests m false false true b3 live x y cancel h = refl
end_by_tests m false false false true live x y cancel h = refl
end_by_tests m false false false false true x true cancel h = absurd (cc)
end_by_tests m false false false false true x false cancel h = absurd (cc)
end_by_tests m false false false false false x y cancel h = absurd (cc)

-- what may end is live, and has ended then
pub may_end_live : (m : Migration) (how place : ℕ) → may_end m how place ≡ true → is_live m ≡ true
may_end_live m how place h = (and_parts (is_live m) _ h).0

pub end_ends : (m : Migration) (how place : ℕ) → may_end m how place ≡ true
    → is_live (end_by how m) ≡ false
end_ends m how place h = end_by_tests m (how == 0) (how == 1) (how == 2) (how == 3)
    (is_live m) _ (place == 0) m.cancel h

-- what holds of both outcomes of a call holds of what it leaves
pub by_result : {T E X : Type 0} (r : Result T E) (P : X → Type 0) (new a b : X)
    → OnOk r (new ≡ a) → OnErr r (new ≡ b) → P a → P b → P new
by_result (Ok x) P new a b ok err pa pb = subst P (sym ok) pa
by_result (Err e) P new a b ok err pa pb = subst P (sym err) pb
