-- A list of records goes on from a front of it, and a record changes one migration alone.
use Rattle.std.proofs.Common.{◌≡◌, ◌≢◌, ℕ, zero, suc, ◌+◌, ◌-◌, ◌==◌, ◌<◌, Bool, true, false, cond, ◌&&◌, List, [], ◌∷◌, ◌++◌, length, Option, Some, None, Result, Ok, Err, refl, ap, subst, sym, ◌∙◌, arith, add-zero, zero-add, inl, inr}
use Rattle.std.specs.Prelude.{slice_get}
use Rattle.std.specs.Option.{option_map_or}
use Rattle.std.proofs.lemmas.Bool.{and_parts, eqb-true}
use Rattle.record_codec.specs.declared.record.Record.{Record}
use Rattle.record_codec.specs.declared.record.Record.TheVariants.{PlanMade, MigrationStarted, Chosen, SnapTaken, IdsStored, VolumesMade, CheckpointAdded, StageBegun, StageDone, Paused, SnapRemoved, CutoverSet, PowerStored, PoweredOff, OffSeen, FinalSnapTaken, CancelAsked, Ended}
use Rattle.record_codec.specs.Record.{migration_of}
use Rattle.ctl_state.specs.declared.migration.Migration.{Migration}
use Rattle.ctl_state.specs.Migration.{change_at}
use Rattle.ctl_state.specs.Steps.{new_migration, after_step}
use Rattle.ctl_state.specs.Value.{CtlValue, no_records, numbered, change_numbered, migration_in}
use Rattle.ctl_state.specs.MayStand.{record_may_stand, may_start, is_next}
use Rattle.ctl_state.specs.Fold.{after_record, after_from, after, after_step_in}
use Rattle.ctl_state.specs.Laws.{then_after}
use Rattle.ctl_state.proofs.ListFacts.{numbered-other, numbered-before}

join_from : (before : ℕ) (v : CtlValue) (front rest : List Record)
    → after_from before v (front ++ rest)
    ≡ then_after (before + length front) (after_from before v front) rest
join_from before v [] rest = ap (λ n. after_from n v rest) (sym (add-zero before))
join_from before v (r ∷ front) rest =
    let one_more : before + 1 + length front ≡ before + suc (length front) = omega arith in
    elim (record_may_stand v r) as
    (λ b. cond b (after_from (before + 1) (after_record v r) (front ++ rest)) (Err (before + 1))
    ≡ then_after (before + suc (length front))
    (cond b (after_from (before + 1) (after_record v r) front) (Err (before + 1))) rest) [
      | true ↦ join_from (before + 1) (after_record v r) front rest
          ∙ ap (λ n. then_after n (after_from (before + 1) (after_record v r) front) rest) one_more
      | false ↦ refl
    ]

pub lists_join : (front rest : List Record)
    → after (front ++ rest) ≡ then_after (length front) (after front) rest
lists_join front rest = join_from 0 no_records front rest
    ∙ ap (λ n. then_after n (after front) rest) (zero-add (length front))

-- behind a front that is strange no list comes to a value
pub strange_no : (front rest : List Record) (v : CtlValue) (number : ℕ)
    → after front ≡ Err number → after (front ++ rest) ≡ Ok v → ⊥
strange_no front rest v number bad good =
    let same : ◌≡◌ {A = Result CtlValue ℕ} (Ok v) (Err number) =
    sym good ∙ lists_join front rest
    ∙ ap (λ (a : Result CtlValue ℕ). then_after (length front) a rest) bad in
    cc

-- the others stay where one is changed, and where one is added behind them
step_other : (v : CtlValue) (mig q : ℕ) (r : Record) → Some mig ≢ Some q
    → migration_in (after_step_in v mig r) q ≡ migration_in v q
step_other v mig q r h =
    numbered-other v.migrations mig q (λ (m : Migration). after_step m r) (λ e. h (ap Some e))

pub others_stay : (v : CtlValue) (r : Record) (q : ℕ) → record_may_stand v r ≡ true
    → migration_of r ≢ Some q → migration_in (after_record v r) q ≡ migration_in v q
others_stay v (PlanMade plan name interval vms) q h ne = refl
others_stay v (MigrationStarted mig plan vm disks) q h ne =
    let last = eqb-true mig (length v.migrations + 1)
    (and_parts (mig == length v.migrations + 1) _ h).0 in
    numbered-before v.migrations (new_migration mig plan vm disks) q
    (λ e. ne (ap Some (last ∙ sym e)))
others_stay v (Chosen mig way at) q h ne = step_other v mig q (Chosen mig way at) ne
others_stay v (SnapTaken mig snap mark) q h ne = step_other v mig q (SnapTaken mig snap mark) ne
others_stay v (IdsStored mig ids) q h ne = step_other v mig q (IdsStored mig ids) ne
others_stay v (VolumesMade mig) q h ne = step_other v mig q (VolumesMade mig) ne
others_stay v (CheckpointAdded mig previous current last) q h ne =
    step_other v mig q (CheckpointAdded mig previous current last) ne
others_stay v (StageBegun mig disk) q h ne = step_other v mig q (StageBegun mig disk) ne
others_stay v (StageDone mig disk written) q h ne =
    step_other v mig q (StageDone mig disk written) ne
others_stay v (Paused mig at) q h ne = step_other v mig q (Paused mig at) ne
others_stay v (SnapRemoved mig snap) q h ne = step_other v mig q (SnapRemoved mig snap) ne
others_stay v (CutoverSet plan has at) q h ne = refl
others_stay v (PowerStored mig on) q h ne = step_other v mig q (PowerStored mig on) ne
others_stay v (PoweredOff mig) q h ne = step_other v mig q (PoweredOff mig) ne
others_stay v (OffSeen mig off) q h ne = step_other v mig q (OffSeen mig off) ne
others_stay v (FinalSnapTaken mig snap mark place) q h ne =
    step_other v mig q (FinalSnapTaken mig snap mark place) ne
others_stay v (CancelAsked mig) q h ne = step_other v mig q (CancelAsked mig) ne
others_stay v (Ended mig how place) q h ne = step_other v mig q (Ended mig how place) ne

one_more : (records : List Record) (v : CtlValue) (r : Record) → after records ≡ Ok v
    → after (records ++ r ∷ []) ≡ cond (record_may_stand v r) (Ok (after_record v r))
    (Err (length records + 1))
one_more records v r h = lists_join records (r ∷ [])
    ∙ ap (λ (a : Result CtlValue ℕ). then_after (length records) a (r ∷ [])) h

pub goes_on : (v : CtlValue) (records : List Record) (r : Record) → after records ≡ Ok v
    → record_may_stand v r ≡ true → after (records ++ r ∷ []) ≡ Ok (after_record v r)
goes_on v records r h stands = one_more records v r h
    ∙ ap (λ b. cond b (Ok (after_record v r)) (Err (length records + 1))) stands

pub stops : (v : CtlValue) (records : List Record) (r : Record) → after records ≡ Ok v
    → record_may_stand v r ≡ false → after (records ++ r ∷ []) ≡ Err (length records + 1)
stops v records r h stands = one_more records v r h
    ∙ ap (λ b. cond b (Ok (after_record v r)) (Err (length records + 1))) stands
