-- What stays of plans and of migrations whatever records come behind them: the machines of a plan,
-- and the machine of a migration with its number of disks.
use Rattle.std.proofs.Common.{◌≡◌, ℕ, ◌==◌, Bool, true, false, List, [], ◌∷◌, ◌++◌, Some, Ok, refl, ap, subst, sym, ◌∙◌, append_assoc, option_map}
use Rattle.std.proofs.lemmas.Bool.{eqb-true, eq-eqb, false≢true}
use Rattle.std.proofs.lemmas.List.{append-nil}
use Rattle.std.proofs.lemmas.Option.{none-some}
use Rattle.plan_model.specs.declared.plan.Plan.{Plan}
use Rattle.record_codec.specs.declared.record.Record.{Record}
use Rattle.record_codec.specs.declared.record.Record.TheVariants.{PlanMade, MigrationStarted, Chosen, SnapTaken, IdsStored, VolumesMade, CheckpointAdded, StageBegun, StageDone, Paused, SnapRemoved, CutoverSet, PowerStored, PoweredOff, OffSeen, FinalSnapTaken, CancelAsked, Ended}
use Rattle.ctl_state.specs.declared.migration.Migration.{Migration}
use Rattle.ctl_state.specs.Steps.{new_migration, after_step}
use Rattle.ctl_state.specs.Fold.{IsStateOf, after, after_record}
use Rattle.ctl_state.specs.Value.{CtlValue, numbered, change_numbered, migration_in, plan_in}
use Rattle.ctl_state.proofs.FoldFacts.{goes_on}
use Rattle.ctl_state.proofs.ListFacts.{numbered-changed, numbered-other, numbered-before}
use Rattle.ctl_state.proofs.SoundValues.{SameOne, same-one, same-further, step-same, numbered-past, plan-stays}
use Rattle.restart.proofs.Folding.{one_value}
use Rattle.restart.proofs.StrangeNumbers.{next_may}

-- ---- one record

-- a migration of this number stands in the list, of the same machine
pub record Lasts (migrations : List Migration) (mig : ℕ) (m : Migration) : Type 0 where
  pub now : Migration
  pub there : numbered migrations mig ≡ Some now
  pub same : SameOne m now

own_lasts : (migrations : List Migration) (k mig : ℕ) (r : Record) (m : Migration)
    → numbered migrations mig ≡ Some m
    → Lasts (change_numbered migrations k (λ n. after_step n r)) mig m
own_lasts migrations k mig r m at = by (k == mig) refl
  where
    by : (b : Bool) → (k == mig) ≡ b
        → Lasts (change_numbered migrations k (λ n. after_step n r)) mig m
    by true e = record {
      now = after_step m r;
      there = ap (λ (i : ℕ). numbered (change_numbered migrations i (λ n. after_step n r)) mig)
          (eqb-true k mig e)
          ∙ numbered-changed migrations mig (λ n. after_step n r)
          ∙ ap (option_map (λ n. after_step n r)) at;
      same = step-same m r;
    }
    by false e = record {
      now = m;
      there = numbered-other migrations k mig (λ n. after_step n r)
          (λ is. false≢true (sym e ∙ eq-eqb k mig is)) ∙ at;
      same = same-one m;
    }

added_lasts : (migrations : List Migration) (mig : ℕ) (m added : Migration)
    → numbered migrations mig ≡ Some m → Lasts (migrations ++ added ∷ []) mig m
added_lasts migrations mig m added at = record {
  now = m;
  there = numbered-before migrations added mig
      (λ is. none-some m (sym (numbered-past migrations) ∙ ap (numbered migrations) (sym is) ∙ at))
      ∙ at;
  same = same-one m;
}

pub record_lasts : (v : CtlValue) (r : Record) (mig : ℕ) (m : Migration)
    → migration_in v mig ≡ Some m → Lasts (after_record v r).migrations mig m
record_lasts v (PlanMade plan name interval vms) mig m at =
    record { now = m; there = at; same = same-one m }
record_lasts v (MigrationStarted k plan vm disks) mig m at =
    added_lasts v.migrations mig m (new_migration k plan vm disks) at
record_lasts v (Chosen k way moment) mig m at =
    own_lasts v.migrations k mig (Chosen k way moment) m at
record_lasts v (SnapTaken k snap mark) mig m at =
    own_lasts v.migrations k mig (SnapTaken k snap mark) m at
record_lasts v (IdsStored k ids) mig m at =
    own_lasts v.migrations k mig (IdsStored k ids) m at
record_lasts v (VolumesMade k) mig m at = own_lasts v.migrations k mig (VolumesMade k) m at
record_lasts v (CheckpointAdded k previous current last) mig m at =
    own_lasts v.migrations k mig (CheckpointAdded k previous current last) m at
record_lasts v (StageBegun k disk) mig m at =
    own_lasts v.migrations k mig (StageBegun k disk) m at
record_lasts v (StageDone k disk written) mig m at =
    own_lasts v.migrations k mig (StageDone k disk written) m at
record_lasts v (Paused k moment) mig m at =
    own_lasts v.migrations k mig (Paused k moment) m at
record_lasts v (SnapRemoved k snap) mig m at =
    own_lasts v.migrations k mig (SnapRemoved k snap) m at
record_lasts v (CutoverSet plan has moment) mig m at =
    record { now = m; there = at; same = same-one m }
record_lasts v (PowerStored k on) mig m at =
    own_lasts v.migrations k mig (PowerStored k on) m at
record_lasts v (PoweredOff k) mig m at = own_lasts v.migrations k mig (PoweredOff k) m at
record_lasts v (OffSeen k off) mig m at = own_lasts v.migrations k mig (OffSeen k off) m at
record_lasts v (FinalSnapTaken k snap mark place) mig m at =
    own_lasts v.migrations k mig (FinalSnapTaken k snap mark place) m at
record_lasts v (CancelAsked k) mig m at = own_lasts v.migrations k mig (CancelAsked k) m at
record_lasts v (Ended k how place) mig m at =
    own_lasts v.migrations k mig (Ended k how place) m at

-- ---- any records

-- the plans and migrations of a value stay in a later one
pub record GoesOn (old new : CtlValue) : Type 0 where
  pub plans : (number : ℕ) (plan : Plan) → plan_in old number ≡ Some plan
      → plan_in new number ≡ Some plan
  pub migrations : (mig : ℕ) (m : Migration) → migration_in old mig ≡ Some m
      → Lasts new.migrations mig m

goes_itself : (old new : CtlValue) → old ≡ new → GoesOn old new
goes_itself old new is = subst (GoesOn old) is (record {
  plans = λ number plan at. at;
  migrations = λ mig m at. record { now = m; there = at; same = same-one m };
})

one_more_first : (v w : CtlValue) (r : Record) → GoesOn (after_record v r) w → GoesOn v w
one_more_first v w r behind = record {
  plans = λ number plan at. behind.plans number plan (plan-stays v r number plan at);
  migrations = λ mig m at.
      let one = record_lasts v r mig m at in
      let more = behind.migrations mig one.now one.there in
      record {
        now = more.now;
        there = more.there;
        same = same-further m one.now more.now one.same more.same;
      };
}

pub values_go_on : (front rest : List Record) (v w : CtlValue) → IsStateOf v front
    → after (front ++ rest) ≡ Ok w → GoesOn v w
values_go_on front [] v w come good =
    goes_itself v w (one_value front v w come (sym (ap after (append-nil front)) ∙ good))
values_go_on front (r ∷ rest) v w come good =
    one_more_first v w r (values_go_on (front ++ r ∷ []) rest (after_record v r) w
    (goes_on v front r come (next_may front rest r v w come good))
    (ap after (append_assoc front (r ∷ []) rest) ∙ good))
