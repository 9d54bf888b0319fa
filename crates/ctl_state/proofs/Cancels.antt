-- A migration's cancel stands exactly where a record asks for it, and its end says so.
use Rattle.std.proofs.Common.{◌≡◌, ℕ, ◌+◌, ◌==◌, ◌↔◌, List, [], ◌∷◌, ◌++◌, Bool, true, false, cond, not, Option, Some, None, Ok, ◌⊎◌, inl, inr, refl, sym, ap, subst, ◌∙◌, length, arith}
use Rattle.std.specs.Prelude.{Contains, IsSome, option_map}
use Rattle.std.specs.Option.{option_map_or}
use Rattle.std.proofs.lemmas.Bool.{eqb-true, eq-eqb, false≢true}
use Rattle.std.proofs.lemmas.Option.{none-some}
use Rattle.std.proofs.lemmas.List.Elements.{Contains-append_left, Contains-push, Contains-push_cases}
use Rattle.phase_table.specs.declared.phases.Phase.TheVariants as Phases
use Rattle.phase_table.specs.declared.table.Fact.TheVariants as Facts
use Rattle.record_codec.specs.declared.record.Record.{Record}
use Rattle.record_codec.specs.declared.record.Record.TheVariants.{PlanMade, MigrationStarted, Chosen, SnapTaken, IdsStored, VolumesMade, CheckpointAdded, StageBegun, StageDone, Paused, SnapRemoved, CutoverSet, PowerStored, PoweredOff, OffSeen, FinalSnapTaken, CancelAsked, Ended}
use Rattle.ctl_state.specs.declared.migration.Migration.{Migration}
use Rattle.ctl_state.specs.declared.migration.How.{How}
use Rattle.ctl_state.specs.declared.migration.How.TheVariants as Hows
use Rattle.ctl_state.specs.Migration.{same_phase, moved, all_done, change_at, done_copy, sectors_written}
use Rattle.ctl_state.specs.Value.{CtlValue, no_records, numbered, change_numbered, migration_in}
use Rattle.ctl_state.specs.Steps.{new_migration, finished_volume, with_checkpoint_done, with_stage_done, with_end, end_by, how_of, after_step}
use Rattle.ctl_state.specs.MayStand.{may_step, may_step_in, record_may_stand}
use Rattle.ctl_state.specs.Fold.{after_record, after}
use Rattle.ctl_state.specs.Sound.{StandsNow, HasEnded, IsComplete, EndSays, IsSound}
use Rattle.ctl_state.specs.Completion.{CancelsAreAsked, IsWhole, CompletedIsWhole, CancelledWhereAsked}
use Rattle.ctl_state.proofs.ListFacts.{numbered-other, numbered-changed, numbered-before, numbered-added}
use Rattle.ctl_state.proofs.Came.{fronts}
use Rattle.ctl_state.proofs.SoundValues.{numbered-past, values_are_sound}

-- ---- a step leaves the cancel

one-of : (b : Bool) (m a c : Migration) → a.cancel ≡ m.cancel → c.cancel ≡ m.cancel
    → (cond b a c).cancel ≡ m.cancel
one-of true m a c h k = h
one-of false m a c h k = k

stage-leaves : (m : Migration) (disk written : ℕ)
    → (with_stage_done disk written m).cancel ≡ m.cancel
stage-leaves m disk written =
    let copied = record m { copies = change_at m.copies disk (done_copy m.mark written) } in
    let finished = record copied {
      dv = finished_volume m.dv;
      marks = m.marks ++ m.mark ∷ [];
      written = m.written ++
          sectors_written copied.copies ∷ [];
    } in
    one-of (all_done copied.copies) m (with_checkpoint_done copied) copied
    (one-of (same_phase m.phase Phases.CopyFinal) m (moved finished Facts.Done) finished refl
    refl) refl

end-leaves : (m : Migration) (how : Option How)
    → (option_map_or (λ end. with_end end m) how m).cancel ≡ m.cancel
end-leaves m None = refl
end-leaves m (Some how) = refl

-- ---- by number

abbrev flag : List Migration → (mig : ℕ) → Bool
flag migrations mig = option_map_or (λ m. m.cancel) (numbered migrations mig) false

mapped-flag : (f : Migration → Migration) → ((m : Migration) → (f m).cancel ≡ m.cancel)
    → (o : Option Migration)
    → option_map_or (λ m. m.cancel) (option_map f o) false ≡ option_map_or (λ m. m.cancel) o false
mapped-flag f same None = refl
mapped-flag f same (Some m) = same m

flag-same : (f : Migration → Migration) → ((m : Migration) → (f m).cancel ≡ m.cancel)
    → (migrations : List Migration) (n mig : ℕ)
    → flag (change_numbered migrations n f) mig ≡ flag migrations mig
flag-same f same migrations n mig = test (n == mig) refl
  where
    test : (b : Bool) → (n == mig) ≡ b
        → flag (change_numbered migrations n f) mig ≡ flag migrations mig
    test true e =
        let at = eqb-true n mig e in
        ap (λ (k : ℕ). flag (change_numbered migrations k f) mig) at
        ∙ ap (λ (o : Option Migration). option_map_or (λ m. m.cancel) o false)
        (numbered-changed migrations mig f) ∙ mapped-flag f same (numbered migrations mig)
    test false e = ap (λ (o : Option Migration). option_map_or (λ m. m.cancel) o false)
        (numbered-other migrations n mig f (λ at. false≢true (sym e ∙ eq-eqb n mig at)))

flag-added : (migrations : List Migration) (new : Migration) (mig : ℕ) → new.cancel ≡ false
    → flag (migrations ++ new ∷ []) mig ≡ flag migrations mig
flag-added migrations new mig none = test (mig == length migrations + 1) refl
  where
    test : (b : Bool) → (mig == length migrations + 1) ≡ b
        → flag (migrations ++ new ∷ []) mig ≡ flag migrations mig
    test true e =
        let at = eqb-true mig (length migrations + 1) e in
        ap (λ (k : ℕ). flag (migrations ++ new ∷ []) k) at
        ∙ ap (λ (o : Option Migration). option_map_or (λ m. m.cancel) o false)
        (numbered-added migrations new) ∙ none
        ∙ sym (ap (λ (k : ℕ). flag migrations k) at
        ∙ ap (λ (o : Option Migration). option_map_or (λ m. m.cancel) o false)
        (numbered-past migrations))
    test false e = ap (λ (o : Option Migration). option_map_or (λ m. m.cancel) o false)
        (numbered-before migrations new mig
        (λ at. false≢true (sym e ∙ eq-eqb mig (length migrations + 1) at)))

is_cancel : Record → Bool
is_cancel (CancelAsked mig) = true
is_cancel _ = false

others-leave : (v : CtlValue) (r : Record) (mig : ℕ) → is_cancel r ≡ false
    → flag (after_record v r).migrations mig ≡ flag v.migrations mig
unfolding is_cancel
others-leave v (PlanMade plan name interval vms) mig e = refl
others-leave v (MigrationStarted k plan vm disks) mig e =
    flag-added v.migrations (new_migration k plan vm disks) mig refl
others-leave v (CutoverSet plan has at) mig e = refl
others-leave v (Chosen k way at) mig e = flag-same _ (λ m. refl) v.migrations k mig
others-leave v (SnapTaken k snap mark) mig e = flag-same _ (λ m. refl) v.migrations k mig
others-leave v (IdsStored k ids) mig e = flag-same _ (λ m. refl) v.migrations k mig
others-leave v (VolumesMade k) mig e = flag-same _ (λ m. refl) v.migrations k mig
others-leave v (CheckpointAdded k previous current last) mig e =
    flag-same _ (λ m. refl) v.migrations k mig
others-leave v (StageBegun k disk) mig e = flag-same _ (λ m. refl) v.migrations k mig
others-leave v (StageDone k disk written) mig e =
    flag-same (λ m. after_step m (StageDone k disk written)) (λ m. stage-leaves m disk written)
    v.migrations k mig
others-leave v (Paused k at) mig e = flag-same _ (λ m. refl) v.migrations k mig
others-leave v (SnapRemoved k snap) mig e = flag-same _ (λ m. refl) v.migrations k mig
others-leave v (PowerStored k on) mig e = flag-same _ (λ m. refl) v.migrations k mig
others-leave v (PoweredOff k) mig e = flag-same _ (λ m. refl) v.migrations k mig
others-leave v (OffSeen k off) mig e = flag-same _ (λ m. refl) v.migrations k mig
others-leave v (FinalSnapTaken k snap mark place) mig e = flag-same _ (λ m. refl) v.migrations k mig
others-leave v (CancelAsked k) mig e = absurd (false≢true (sym e))
others-leave v (Ended k how place) mig e =
    flag-same (λ m. after_step m (Ended k how place)) (λ m. end-leaves m (how_of how)) v.migrations
    k mig

-- ---- the record that asks for it

abbrev asked_of : Migration → Migration
asked_of m = record m { cancel = true }

sets-it : (v : CtlValue) (mig : ℕ) (found : Option Migration)
    → option_map_or (λ m. may_step m (CancelAsked mig)) found false ≡ true
    → option_map_or (λ m. m.cancel) (option_map asked_of found) false ≡ true
sets-it v mig None may = absurd (false≢true may)
sets-it v mig (Some m) may = refl

asked-for : (v : CtlValue) (mig : ℕ) → may_step_in v mig (CancelAsked mig) ≡ true
    → flag (change_numbered v.migrations mig asked_of) mig ≡ true
asked-for v mig may =
    ap (λ (o : Option Migration). option_map_or (λ m. m.cancel) o false)
    (numbered-changed v.migrations mig asked_of) ∙ sets-it v mig (numbered v.migrations mig) may

abbrev Asked : List Record → CtlValue → Type 0
Asked records v = (mig : ℕ) → (flag v.migrations mig ≡ true) ↔ Contains records (CancelAsked mig)

other-record : (front : List Record) (v : CtlValue) (r : Record) → is_cancel r ≡ false
    → Asked front v → Asked (front ++ r ∷ []) (after_record v r)
unfolding is_cancel
other-record front v r none h mig =
    let same = others-leave v r mig none in (
      λ e. Contains-append_left front (r ∷ []) (CancelAsked mig) ((h mig).0 (sym same ∙ e)),
      λ c. elim (Contains-push_cases front r (CancelAsked mig) c) [
        | inl there ↦ same ∙ (h mig).1 there
        | inr is ↦ absurd (false≢true (sym none ∙ ap is_cancel is))
      ],
    )

number-in : Record → ℕ
number-in (CancelAsked mig) = mig
number-in _ = 0

cancel-record : (front : List Record) (v : CtlValue) (k : ℕ)
    → may_step_in v k (CancelAsked k) ≡ true → Asked front v
    → Asked (front ++ CancelAsked k ∷ []) (after_record v (CancelAsked k))
unfolding number-in
cancel-record front v k may h mig = test (k == mig) refl
  where
    test : (b : Bool) → (k == mig) ≡ b
        → (flag (change_numbered v.migrations k asked_of) mig ≡ true) ↔ Contains
        (front ++ CancelAsked k ∷ []) (CancelAsked mig)
    test true e =
        let at = eqb-true k mig e in (
          λ _. subst (λ (i : ℕ). Contains (front ++ CancelAsked i ∷ []) (CancelAsked mig)) (sym at)
              (Contains-push front (CancelAsked mig)),
          λ _. ap (λ (i : ℕ). flag (change_numbered v.migrations k asked_of) i) (sym at)
              ∙ asked-for v k may,
        )
    test false e =
        let other : k ≡ mig → ⊥ = λ at. false≢true (sym e ∙ eq-eqb k mig at) in
        let same : flag (change_numbered v.migrations k asked_of) mig ≡ flag v.migrations mig =
        ap (λ (o : Option Migration). option_map_or (λ m. m.cancel) o false)
        (numbered-other v.migrations k mig asked_of other) in (
          λ on. Contains-append_left front (CancelAsked k ∷ []) (CancelAsked mig)
              ((h mig).0 (sym same ∙ on)),
          λ c. elim (Contains-push_cases front (CancelAsked k) (CancelAsked mig) c) [
            | inl there ↦ same ∙ (h mig).1 there
            | inr is ↦ absurd (other (ap number-in is))
          ],
        )

one-record : (front : List Record) (v : CtlValue) (r : Record) → Asked front v
    → record_may_stand v r ≡ true → Asked (front ++ r ∷ []) (after_record v r)
unfolding is_cancel
one-record front v (CancelAsked k) h may = cancel-record front v k may h
one-record front v (PlanMade plan name interval vms) h may =
    other-record front v (PlanMade plan name interval vms) refl h
one-record front v (MigrationStarted k plan vm disks) h may =
    other-record front v (MigrationStarted k plan vm disks) refl h
one-record front v (CutoverSet plan has at) h may =
    other-record front v (CutoverSet plan has at) refl h
one-record front v (Chosen k way at) h may = other-record front v (Chosen k way at) refl h
one-record front v (SnapTaken k snap mark) h may =
    other-record front v (SnapTaken k snap mark) refl h
one-record front v (IdsStored k ids) h may = other-record front v (IdsStored k ids) refl h
one-record front v (VolumesMade k) h may = other-record front v (VolumesMade k) refl h
one-record front v (CheckpointAdded k previous current last) h may =
    other-record front v (CheckpointAdded k previous current last) refl h
one-record front v (StageBegun k disk) h may = other-record front v (StageBegun k disk) refl h
one-record front v (StageDone k disk written) h may =
    other-record front v (StageDone k disk written) refl h
one-record front v (Paused k at) h may = other-record front v (Paused k at) refl h
one-record front v (SnapRemoved k snap) h may = other-record front v (SnapRemoved k snap) refl h
one-record front v (PowerStored k on) h may = other-record front v (PowerStored k on) refl h
one-record front v (PoweredOff k) h may = other-record front v (PoweredOff k) refl h
one-record front v (OffSeen k off) h may = other-record front v (OffSeen k off) refl h
one-record front v (FinalSnapTaken k snap mark place) h may =
    other-record front v (FinalSnapTaken k snap mark place) refl h
one-record front v (Ended k how place) h may = other-record front v (Ended k how place) refl h

none-asked : Asked [] no_records
none-asked mig = (
  λ e. absurd (false≢true (sym (no-flag (mig == 0)) ∙ e)),
  λ c. absurd
      (omega (arith, c.1)),
)
  where
    no-flag : (b : Bool) → option_map_or (λ (m : Migration). m.cancel) (cond b None None) false
        ≡ false
    no-flag true = refl
    no-flag false = refl

pub cancels_are_asked : CancelsAreAsked
cancels_are_asked records v mig m e there =
    let asked = fronts Asked (λ front w r h may. one-record front w r h may) none-asked records v e
    mig in
    let same : flag v.migrations mig ≡ m.cancel =
    ap (λ (o : Option Migration). option_map_or (λ x. x.cancel) o false) there in
    (λ on. asked.0 (same ∙ on), λ c. sym same ∙ asked.1 c)

-- ---- ends

ended-so : (m : Migration) (how : How) → IsSound m → m.how ≡ Some how → EndSays how m
ended-so m how s e = (subst (λ (h : Option How). StandsNow h m) e s.now).says

pub completed_is_whole : CompletedIsWhole
completed_is_whole records v mig m e there how =
    let complete = ended-so m Hows.Completed
    ((values_are_sound records v e).migrations mig m there).sound how in
    record {
      complete = complete;
      not_cancelled = λ c. false≢true (sym complete.not_cancelled
          ∙ (cancels_are_asked records v mig m e there).1 c);
    }

by-end : (m : Migration) (how : Option How) → m.how ≡ how → IsSome how → IsSound m → m.cancel ≡ true
    → m.how ≡ Some Hows.Cancelled
by-end m None e some s on = absurd (false≢true some)
by-end m (Some Hows.Completed) e some s on =
    absurd (false≢true (sym (ended-so m Hows.Completed s e).not_cancelled ∙ on))
by-end m (Some Hows.Cancelled) e some s on = e
by-end m (Some Hows.FailedVolume) e some s on =
    absurd (false≢true (sym (ended-so m Hows.FailedVolume s e) ∙ on))
by-end m (Some Hows.FailedSpent) e some s on =
    absurd (false≢true (sym (ended-so m Hows.FailedSpent s e) ∙ on))

pub cancelled_where_asked : CancelledWhereAsked
cancelled_where_asked records v mig m e there some =
    let sound = ((values_are_sound records v e).migrations mig m there).sound in
    let asked = cancels_are_asked records v mig m e there in (
      λ how. asked.0 (ended-so m Hows.Cancelled sound how),
      λ c. by-end m m.how refl some sound
          (asked.1 c),
    )
