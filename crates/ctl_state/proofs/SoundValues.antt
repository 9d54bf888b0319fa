-- Each record that may stand for a sound value leaves it sound, so every value of records is.
use Rattle.std.proofs.Common.{◌≡◌, ℕ, zero, suc, ◌+◌, ◌-◌, ◌<◌, ◌≤◌, ◌==◌, List, [], ◌∷◌, ◌++◌, Bool, true, false, ◌&&◌, ◌||◌, cond, not, Option, Some, None, refl, sym, ap, subst, ◌∙◌, length, replicate, arith, length-append}
use Rattle.std.specs.Prelude.{slice_get, nat_lt, nat_le, is_some, Contains, IsSomeAnd, slice_index_or}
use Rattle.std.specs.List.{AllByRecursion}
use Rattle.std.specs.Option.{option_map_or}
use Rattle.std.proofs.lemmas.Bool.{and_parts, eqb-true, eq-eqb, ltb-true, leb-true, false≢true}
use Rattle.std.proofs.lemmas.List.{length-replicate}
use Rattle.std.proofs.lemmas.Option.{none-some, same_Some, slice_get_past}
use Rattle.basics.specs.declared.limits.TheConstants.{MAX_DISKS}
use Rattle.checkpoints.proofs.Order.{new_is_sound}
use Rattle.plan_model.specs.declared.plan.Plan.{Plan}
use Rattle.phase_table.specs.declared.phases.Phase.TheVariants as Phases
use Rattle.phase_table.specs.declared.table.Fact.TheVariants as Facts
use Rattle.record_codec.specs.declared.record.Record.{Record}
use Rattle.record_codec.specs.declared.record.Record.TheVariants.{PlanMade, MigrationStarted, Chosen, SnapTaken, IdsStored, VolumesMade, CheckpointAdded, StageBegun, StageDone, Paused, SnapRemoved, CutoverSet, PowerStored, PoweredOff, OffSeen, FinalSnapTaken, CancelAsked, Ended}
use Rattle.ctl_state.specs.declared.migration.Migration.{Migration}
use Rattle.ctl_state.specs.declared.migration.How.{How}
use Rattle.ctl_state.specs.declared.plans.PlanCourse.{PlanCourse}
use Rattle.ctl_state.specs.declared.copies.DiskCopy.{DiskCopy}
use Rattle.ctl_state.specs.Migration.{same_phase, moved, new_copy, all_done, change_at, done_copy, sectors_written}
use Rattle.ctl_state.specs.Value.{CtlValue, no_records, numbered, change_numbered, migration_in, plan_in, course_in}
use Rattle.ctl_state.specs.Steps.{new_migration, finished_volume, with_checkpoint_done, with_stage_done, with_end, end_by, how_of, after_step}
use Rattle.ctl_state.specs.MayStand.{is_next_of, is_next, may_start, is_new_plan, may_plan, record_may_stand}
use Rattle.ctl_state.specs.Fold.{after_record, plan_of}
use Rattle.ctl_state.specs.Sound.{StandsBy, FitsPhase, IsSound, IsMember, IsSoundValue}
use Rattle.ctl_state.specs.SoundLaws.{RecordsKeepSound, ValuesAreSound}
use Rattle.ctl_state.proofs.ListFacts.{length-change_at, none-numbered, numbered-before, numbered-added}
use Rattle.ctl_state.proofs.SoundSteps.{steps_keep_sound}
use Rattle.ctl_state.proofs.Came.{Came, made, stepped, stayed, came, fronts}

-- ---- a new one

each-new : (P : DiskCopy → Type 0) (n : ℕ) → P new_copy → AllByRecursion P (replicate n new_copy)
each-new P zero h = tt
each-new P (suc n) h = (h, each-new P n h)

new-sound : (mig plan vm disks : ℕ) → 0 < disks → disks ≤ MAX_DISKS
    → IsSound (new_migration mig plan vm disks)
new-sound mig plan vm disks some few = record {
  some_disks = omega (arith, some);
  few_disks = few;
  paired = length-replicate disks new_copy;
  volume = new_is_sound;
  marked = refl;
  counted = refl;
  now = record {
    live = refl;
    current = refl;
    named = each-new (λ c. is_some c.id ≡ false) disks refl;
    copied = each-new (λ c. c.done ≡ false) disks refl;
    volumes = refl;
    added = refl;
    paused = λ e. absurd (false≢true e);
    power = refl;
    placed = refl;
    final = refl;
    unfinished = refl;
    stand = each-new _ disks refl;
  };
}

get-contains : {X : Type 0} (xs : List X) (k : ℕ) (x : X) → slice_get xs k ≡ Some x → Contains xs x
get-contains xs k x e = let found = got xs k x e in (k, found.0, found.1)
  where
    got : {X : Type 0} (xs : List X) (k : ℕ) (x : X) → slice_get xs k ≡ Some x
        → (k < length xs) × (slice_index_or xs k x ≡ x)
    got [] k x e = absurd (none-some x e)
    got (y ∷ xs) zero x e = (omega arith, cc)
    got (y ∷ xs) (suc k) x e = let rest = got xs k x e in (omega (arith, rest.0), rest.1)

next-is : (vms : List ℕ) (vm k : ℕ) (found : Option ℕ) → slice_get vms k ≡ found
    → option_map_or (λ next. next == vm) found false ≡ true → Contains vms vm
next-is vms vm k None e h = absurd (false≢true h)
next-is vms vm k (Some x) e h = get-contains vms k vm (e ∙ ap (λ (i : ℕ). Some i) (eqb-true x vm h))

next-by : (vm : ℕ) (plan : Option Plan) (course : Option PlanCourse)
    → option_map_or (λ known. option_map_or (λ course. is_next_of vm known course) course false)
    plan false ≡ true
    → IsSomeAnd plan (λ known. Contains known.vms vm)
next-by vm None course h = absurd (false≢true h)
next-by vm (Some known) None h = absurd (false≢true h)
next-by vm (Some known) (Some course) h =
    next-is known.vms vm course.started (slice_get known.vms course.started) refl h

-- ---- a step leaves whose it is, and the count of its disks

pub record SameOne (old new : Migration) : Type 0 where
  pub number : new.number ≡ old.number
  pub plan : new.plan ≡ old.plan
  pub vm : new.vm ≡ old.vm
  pub disks : new.disks ≡ old.disks

pub same-one : (m : Migration) → SameOne m m
same-one m = record { number = refl; plan = refl; vm = refl; disks = refl }

pub same-further : (first second third : Migration) → SameOne first second
    → SameOne second third → SameOne first third
same-further first second third a b = record {
  number = b.number ∙ a.number;
  plan = b.plan ∙ a.plan;
  vm = b.vm ∙ a.vm;
  disks = b.disks ∙ a.disks;
}

one-of : (b : Bool) (m a c : Migration) → SameOne m a → SameOne m c → SameOne m (cond b a c)
one-of true m a c h k = h
one-of false m a c h k = k

ends-same : (m : Migration) (how : Option How)
    → SameOne m (option_map_or (λ end. with_end end m) how m)
ends-same m None = same-one m
ends-same m (Some how) = record { number = refl; plan = refl; vm = refl; disks = refl }

stage-same : (m : Migration) (disk written : ℕ) → SameOne m (with_stage_done disk written m)
stage-same m disk written =
    let copied = record m { copies = change_at m.copies disk (done_copy m.mark written) } in
    let finished = record copied {
      dv = finished_volume m.dv;
      marks = m.marks ++ m.mark ∷ [];
      written = m.written ++
          sectors_written copied.copies ∷ [];
    } in
    one-of (all_done copied.copies) m (with_checkpoint_done copied) copied
    (one-of (same_phase m.phase Phases.CopyFinal) m (moved finished Facts.Done) finished
    (record { number = refl; plan = refl; vm = refl; disks = refl })
    (record { number = refl; plan = refl; vm = refl; disks = refl }))
    (record { number = refl; plan = refl; vm = refl; disks = refl })

pub step-same : (m : Migration) (r : Record) → SameOne m (after_step m r)
step-same m (PlanMade plan name interval vms) = same-one m
step-same m (MigrationStarted mig plan vm disks) = same-one m
step-same m (Chosen mig way at) = record { number = refl; plan = refl; vm = refl; disks = refl }
step-same m (SnapTaken mig snap mark) =
    record { number = refl; plan = refl; vm = refl; disks = refl }
step-same m (IdsStored mig ids) = record { number = refl; plan = refl; vm = refl; disks = refl }
step-same m (VolumesMade mig) = record { number = refl; plan = refl; vm = refl; disks = refl }
step-same m (CheckpointAdded mig previous current last) =
    record { number = refl; plan = refl; vm = refl; disks = refl }
step-same m (StageBegun mig disk) = record { number = refl; plan = refl; vm = refl; disks = refl }
step-same m (StageDone mig disk written) = stage-same m disk written
step-same m (Paused mig at) = record { number = refl; plan = refl; vm = refl; disks = refl }
step-same m (SnapRemoved mig snap) = record { number = refl; plan = refl; vm = refl; disks = refl }
step-same m (CutoverSet plan has at) = same-one m
step-same m (PowerStored mig on) = record { number = refl; plan = refl; vm = refl; disks = refl }
step-same m (PoweredOff mig) = record { number = refl; plan = refl; vm = refl; disks = refl }
step-same m (OffSeen mig off) = record { number = refl; plan = refl; vm = refl; disks = refl }
step-same m (FinalSnapTaken mig snap mark place) =
    record { number = refl; plan = refl; vm = refl; disks = refl }
step-same m (CancelAsked mig) = record { number = refl; plan = refl; vm = refl; disks = refl }
step-same m (Ended mig how place) = ends-same m (how_of how)

-- ---- plans stay

pub numbered-past : {X : Type 0} (xs : List X) → numbered xs (length xs + 1) ≡ None
numbered-past {X} xs = test (length xs + 1 == 0)
  where
    test : (b : Bool) → cond b None (slice_get xs (length xs + 1 - 1)) ≡ None
    test true = refl
    test false = let at : length xs + 1 - 1 ≡ length xs = omega arith in
        ap (slice_get xs) at ∙ slice_get_past xs (length xs) (omega arith)

added-plan : (plans : List Plan) (p : ℕ) (plan added : Plan) → numbered plans p ≡ Some plan
    → numbered (plans ++ added ∷ []) p ≡ Some plan
added-plan plans p plan added e =
    numbered-before plans added p
    (λ at. none-some plan (sym (numbered-past plans) ∙ ap (numbered plans) (sym at) ∙ e)) ∙ e

pub plan-stays : (v : CtlValue) (r : Record) (p : ℕ) (plan : Plan) → plan_in v p ≡ Some plan
    → plan_in (after_record v r) p ≡ Some plan
plan-stays v (PlanMade number name interval vms) p plan e =
    added-plan v.plans p plan (plan_of number name interval vms) e
plan-stays v (MigrationStarted mig number vm disks) p plan e = e
plan-stays v (Chosen mig way at) p plan e = e
plan-stays v (SnapTaken mig snap mark) p plan e = e
plan-stays v (IdsStored mig ids) p plan e = e
plan-stays v (VolumesMade mig) p plan e = e
plan-stays v (CheckpointAdded mig previous current last) p plan e = e
plan-stays v (StageBegun mig disk) p plan e = e
plan-stays v (StageDone mig disk written) p plan e = e
plan-stays v (Paused mig at) p plan e = e
plan-stays v (SnapRemoved mig snap) p plan e = e
plan-stays v (CutoverSet number has at) p plan e = e
plan-stays v (PowerStored mig on) p plan e = e
plan-stays v (PoweredOff mig) p plan e = e
plan-stays v (OffSeen mig off) p plan e = e
plan-stays v (FinalSnapTaken mig snap mark place) p plan e = e
plan-stays v (CancelAsked mig) p plan e = e
plan-stays v (Ended mig how place) p plan e = e

abbrev Names : (vm : ℕ) → Option Plan → Type 0
Names vm plan = IsSomeAnd plan (λ known. Contains known.vms vm)

names-by : (v : CtlValue) (r : Record) (p vm : ℕ) (found : Option Plan) → plan_in v p ≡ found
    → Names vm found → Names vm (plan_in (after_record v r) p)
names-by v r p vm None e h = absurd h
names-by v r p vm (Some plan) e h = subst (Names vm) (sym (plan-stays v r p plan e)) h

names-stay : (v : CtlValue) (r : Record) (p vm : ℕ) → Names vm (plan_in v p)
    → Names vm (plan_in (after_record v r) p)
names-stay v r p vm h = names-by v r p vm (plan_in v p) refl h

-- ---- a migration behind one more record

member : (v : CtlValue) (r : Record) (mig : ℕ) (n : Migration) → IsSoundValue v → Came v r mig n
    → IsMember (after_record v r) mig n
member v r mig n s (made plan vm disks is may new) =
    let rest = and_parts (mig == length v.migrations + 1)
    (is_next v plan vm && (nat_lt 0 disks && nat_le disks MAX_DISKS)) may in
    let more = and_parts (is_next v plan vm) (nat_lt 0 disks && nat_le disks MAX_DISKS) rest.1 in
    let size = and_parts (nat_lt 0 disks) (nat_le disks MAX_DISKS) more.1 in
    subst (IsMember (after_record v r) mig) (sym new) (record {
      numbered = refl;
      planned = names-stay v r plan vm (next-by vm (plan_in v plan) (course_in v plan) more.0);
      sound = new-sound mig plan vm disks (ltb-true 0 disks size.0)
          (leb-true disks MAX_DISKS size.1);
    })
member v r mig n s (stepped m there may is of) =
    let old = s.migrations mig m there in
    let one = step-same m r in
    subst (IsMember (after_record v r) mig) (sym is) (record {
      numbered = one.number ∙ old.numbered;
      planned = subst (λ (p : ℕ). Names (after_step m r).vm (plan_in (after_record v r) p))
          (sym one.plan)
          (subst (λ (vm : ℕ). Names vm (plan_in (after_record v r) m.plan)) (sym one.vm)
          (names-stay v r m.plan m.vm old.planned));
      sound = steps_keep_sound m r old.sound may;
    })
member v r mig n s (stayed there other) =
    let old = s.migrations mig n there in
    record {
      numbered = old.numbered;
      planned = names-stay v r n.plan n.vm old.planned;
      sound =
          old.sound;
    }

-- ---- plans behind one more record

new-plan : (v : CtlValue) (number : ℕ) (name : List ℕ) (interval : ℕ) (vms : List ℕ) (p : ℕ)
    (plan : Plan) → IsSoundValue v → may_plan v number name vms ≡ true
    → numbered (v.plans ++ plan_of number name interval vms ∷ []) p ≡ Some plan → plan.number ≡ p
new-plan v number name interval vms p plan s may there = by_number (p == length v.plans + 1) refl
  where
    next : number ≡ length v.plans + 1
    next = eqb-true number (length v.plans + 1)
        (and_parts (number == length v.plans + 1) _
        (and_parts (is_new_plan v number name) _ may).0).0

    by_number : (b : Bool) → (p == length v.plans + 1) ≡ b → plan.number ≡ p
    by_number true e =
        let at = eqb-true p (length v.plans + 1) e in
        let new = sym (numbered-added v.plans (plan_of number name interval vms))
        ∙ ap (numbered (v.plans ++ plan_of number name interval vms ∷ [])) (sym at) ∙ there in
        ap (λ (q : Plan). q.number) (sym (same_Some (plan_of number name interval vms) plan new))
        ∙ next ∙ sym at
    by_number false e =
        s.plans p plan (sym (numbered-before v.plans (plan_of number name interval vms) p
        (λ at. false≢true (sym e ∙ eq-eqb p (length v.plans + 1) at))) ∙ there)

plans-keep : (v : CtlValue) (r : Record) (p : ℕ) (plan : Plan) → IsSoundValue v
    → record_may_stand v r ≡ true → plan_in (after_record v r) p ≡ Some plan → plan.number ≡ p
plans-keep v (PlanMade number name interval vms) p plan s may e =
    new-plan v number name interval vms p plan s may e
plans-keep v (MigrationStarted mig number vm disks) p plan s may e = s.plans p plan e
plans-keep v (Chosen mig way at) p plan s may e = s.plans p plan e
plans-keep v (SnapTaken mig snap mark) p plan s may e = s.plans p plan e
plans-keep v (IdsStored mig ids) p plan s may e = s.plans p plan e
plans-keep v (VolumesMade mig) p plan s may e = s.plans p plan e
plans-keep v (CheckpointAdded mig previous current last) p plan s may e = s.plans p plan e
plans-keep v (StageBegun mig disk) p plan s may e = s.plans p plan e
plans-keep v (StageDone mig disk written) p plan s may e = s.plans p plan e
plans-keep v (Paused mig at) p plan s may e = s.plans p plan e
plans-keep v (SnapRemoved mig snap) p plan s may e = s.plans p plan e
plans-keep v (CutoverSet number has at) p plan s may e = s.plans p plan e
plans-keep v (PowerStored mig on) p plan s may e = s.plans p plan e
plans-keep v (PoweredOff mig) p plan s may e = s.plans p plan e
plans-keep v (OffSeen mig off) p plan s may e = s.plans p plan e
plans-keep v (FinalSnapTaken mig snap mark place) p plan s may e = s.plans p plan e
plans-keep v (CancelAsked mig) p plan s may e = s.plans p plan e
plans-keep v (Ended mig how place) p plan s may e = s.plans p plan e

length-numbered : {X : Type 0} (xs : List X) (n : ℕ) (f : X → X)
    → length (change_numbered xs n f) ≡ length xs
length-numbered {X} xs n f = test (n == 0)
  where
    test : (b : Bool) → length (cond b xs (change_at xs (n - 1) f)) ≡ length xs
    test true = refl
    test false = length-change_at xs (n - 1) f

one-more : {X Y : Type 0} (xs : List X) (ys : List Y) (x : X) (y : Y) → length xs ≡ length ys
    → length (xs ++ x ∷ []) ≡ length (ys ++ y ∷ [])
one-more xs ys x y e = omega (arith, length-append xs (x ∷ []), length-append ys (y ∷ []), e)

paired-keeps : (v : CtlValue) (r : Record) → length v.courses ≡ length v.plans
    → length (after_record v r).courses ≡ length (after_record v r).plans
paired-keeps v (PlanMade number name interval vms) e = one-more v.courses v.plans _ _ e
paired-keeps v (MigrationStarted mig number vm disks) e = length-numbered v.courses number _ ∙ e
paired-keeps v (Chosen mig way at) e = e
paired-keeps v (SnapTaken mig snap mark) e = e
paired-keeps v (IdsStored mig ids) e = e
paired-keeps v (VolumesMade mig) e = e
paired-keeps v (CheckpointAdded mig previous current last) e = e
paired-keeps v (StageBegun mig disk) e = e
paired-keeps v (StageDone mig disk written) e = e
paired-keeps v (Paused mig at) e = e
paired-keeps v (SnapRemoved mig snap) e = e
paired-keeps v (CutoverSet number has at) e = length-numbered v.courses number _ ∙ e
paired-keeps v (PowerStored mig on) e = e
paired-keeps v (PoweredOff mig) e = e
paired-keeps v (OffSeen mig off) e = e
paired-keeps v (FinalSnapTaken mig snap mark place) e = e
paired-keeps v (CancelAsked mig) e = e
paired-keeps v (Ended mig how place) e = length-numbered v.courses _ _ ∙ e

-- ---- all of it

pub records_keep_sound : RecordsKeepSound
records_keep_sound v r s may = record {
  migrations = λ mig n there. member v r mig n s (came v r mig n may there);
  plans = λ p plan there. plans-keep v r p plan s may there;
  paired = paired-keeps v r s.paired;
}

nothing-sound : IsSoundValue no_records
nothing-sound = record {
  migrations = λ mig n there. absurd (none-numbered mig n there);
  plans = λ p plan there. absurd (none-numbered p plan there);
  paired = refl;
}

pub values_are_sound : ValuesAreSound
values_are_sound records v e =
    fronts (λ front w. IsSoundValue w) (λ front w r s may. records_keep_sound w r s may)
    nothing-sound records v e
