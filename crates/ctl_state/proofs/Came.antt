-- Where a migration behind one record more comes from: the record made it, or it is a step of its
-- own, or it is another migration's or no migration's. And what holds of each front of records
-- holds of all of them.
use Rattle.std.proofs.Common.{◌≡◌, ◌≢◌, ℕ, zero, suc, ◌+◌, ◌-◌, ◌<◌, ◌≤◌, ◌==◌, List, [], ◌∷◌, ◌++◌, Bool, true, false, ◌&&◌, ◌||◌, cond, not, Option, Some, None, Result, Ok, Err, refl, sym, ap, subst, ◌∙◌, length, map, set, arith, append_assoc}
use Rattle.std.specs.Prelude.{slice_get, slice_set, nat_le, nat_lt, option_map}
use Rattle.std.specs.Option.{option_map_or}
use Rattle.std.proofs.lemmas.Bool.{and_parts, eqb-true, eq-eqb, false≢true}
use Rattle.std.proofs.lemmas.List.{append-nil}
use Rattle.std.proofs.lemmas.Option.{none-some, same_Some}
use Rattle.record_codec.specs.declared.record.Record.{Record}
use Rattle.record_codec.specs.declared.record.Record.TheVariants.{PlanMade, MigrationStarted, Chosen, SnapTaken, IdsStored, VolumesMade, CheckpointAdded, StageBegun, StageDone, Paused, SnapRemoved, CutoverSet, PowerStored, PoweredOff, OffSeen, FinalSnapTaken, CancelAsked, Ended}
use Rattle.record_codec.specs.Record.{migration_of}
use Rattle.ctl_state.specs.declared.migration.Migration.{Migration}
use Rattle.ctl_state.specs.Migration.{change_at}
use Rattle.ctl_state.specs.Value.{CtlValue, no_records, numbered, change_numbered, migration_in}
use Rattle.ctl_state.specs.Steps.{new_migration, after_step}
use Rattle.ctl_state.specs.MayStand.{may_step, may_step_in, may_start, record_may_stand}
use Rattle.ctl_state.specs.Fold.{after_record, after_from, after}
use Rattle.ctl_state.proofs.ListFacts.{numbered-other, numbered-changed, numbered-before, numbered-added}

-- ---- a migration behind one more record

pub data Came (v : CtlValue) (r : Record) (mig : ℕ) (n : Migration) : Type 0 where
  made : (plan vm disks : ℕ) → r ≡ MigrationStarted mig plan vm disks
      → may_start v mig plan vm disks ≡ true → n ≡ new_migration mig plan vm disks → Came v r mig n
  stepped : (m : Migration) → migration_in v mig ≡ Some m → may_step m r ≡ true → n ≡ after_step m r
      → migration_of r ≡ Some mig → Came v r mig n
  stayed : migration_in v mig ≡ Some n → migration_of r ≢ Some mig → Came v r mig n

own-step : (v : CtlValue) (r : Record) (k mig : ℕ) (n : Migration) → migration_of r ≡ Some k
    → may_step_in v k r ≡ true
    → numbered (change_numbered v.migrations k (λ m. after_step m r)) mig ≡ Some n → Came v r mig n
own-step v r k mig n of may there = by_number (k == mig) refl
  where
    stands : (k : ℕ) (found : Option Migration) → numbered v.migrations k ≡ found
        → migration_of r ≡ Some k → option_map_or (λ m. may_step m r) found false ≡ true
        → option_map (λ m. after_step m r) found ≡ Some n → Came v r k n
    stands k None e of may there = absurd (false≢true may)
    stands k (Some m) e of may there = stepped m e may (sym (same_Some (after_step m r) n there)) of

    by_number : (b : Bool) → (k == mig) ≡ b → Came v r mig n
    by_number true e =
        let same = eqb-true k mig e in
        stands mig (numbered v.migrations mig) refl (of ∙ ap (λ (i : ℕ). Some i) same)
        (subst (λ (i : ℕ). may_step_in v i r ≡ true) same may)
        (sym (numbered-changed v.migrations mig (λ m. after_step m r))
        ∙ subst (λ (i : ℕ). numbered (change_numbered v.migrations i (λ m. after_step m r)) mig
        ≡ Some n) same there)
    by_number false e =
        let other : k ≡ mig → ⊥ = λ same. false≢true (sym e ∙ eq-eqb k mig same) in
        stayed (sym (numbered-other v.migrations k mig (λ m. after_step m r) other) ∙ there)
        (λ same. other (same_Some k mig (sym of ∙ same)))

newly-made : (v : CtlValue) (k plan vm disks mig : ℕ) (n : Migration)
    → may_start v k plan vm disks ≡ true
    → numbered (v.migrations ++ new_migration k plan vm disks ∷ []) mig ≡ Some n
    → Came v (MigrationStarted k plan vm disks) mig n
newly-made v k plan vm disks mig n may there = by_number (k == mig) refl
  where
    next : k ≡ length v.migrations + 1
    next = eqb-true k (length v.migrations + 1) (and_parts (k == length v.migrations + 1) _ may).0

    by_number : (b : Bool) → (k == mig) ≡ b → Came v (MigrationStarted k plan vm disks) mig n
    by_number true e =
        let same = eqb-true k mig e in
        let at = sym (numbered-added v.migrations (new_migration k plan vm disks))
        ∙ ap (numbered (v.migrations ++ new_migration k plan vm disks ∷ [])) (sym next ∙ same)
        ∙ there in
        made plan vm disks (ap (λ (i : ℕ). MigrationStarted i plan vm disks) same)
        (subst (λ (i : ℕ). may_start v i plan vm disks ≡ true) same may)
        (sym (same_Some (new_migration k plan vm disks) n at)
        ∙ ap (λ (i : ℕ). new_migration i plan vm disks) same)
    by_number false e =
        let other : k ≡ mig → ⊥ = λ same. false≢true (sym e ∙ eq-eqb k mig same) in
        stayed (sym (numbered-before v.migrations (new_migration k plan vm disks) mig
        (λ same. other (next ∙ sym same))) ∙ there) (λ same. other (same_Some k mig same))

pub came : (v : CtlValue) (r : Record) (mig : ℕ) (n : Migration) → record_may_stand v r ≡ true
    → migration_in (after_record v r) mig ≡ Some n → Came v r mig n
came v (PlanMade plan name interval vms) mig n may there = stayed there (λ same. none-some mig same)
came v (MigrationStarted k plan vm disks) mig n may there =
    newly-made v k plan vm disks mig n may there
came v (CutoverSet plan has at) mig n may there = stayed there (λ same. none-some mig same)
came v (Chosen k way at) mig n may there = own-step v (Chosen k way at) k mig n refl may there
came v (SnapTaken k snap mark) mig n may there =
    own-step v (SnapTaken k snap mark) k mig n refl may there
came v (IdsStored k ids) mig n may there = own-step v (IdsStored k ids) k mig n refl may there
came v (VolumesMade k) mig n may there = own-step v (VolumesMade k) k mig n refl may there
came v (CheckpointAdded k previous current last) mig n may there =
    own-step v (CheckpointAdded k previous current last) k mig n refl may there
came v (StageBegun k disk) mig n may there = own-step v (StageBegun k disk) k mig n refl may there
came v (StageDone k disk written) mig n may there =
    own-step v (StageDone k disk written) k mig n refl may there
came v (Paused k at) mig n may there = own-step v (Paused k at) k mig n refl may there
came v (SnapRemoved k snap) mig n may there = own-step v (SnapRemoved k snap) k mig n refl may there
came v (PowerStored k on) mig n may there = own-step v (PowerStored k on) k mig n refl may there
came v (PoweredOff k) mig n may there = own-step v (PoweredOff k) k mig n refl may there
came v (OffSeen k off) mig n may there = own-step v (OffSeen k off) k mig n refl may there
came v (FinalSnapTaken k snap mark place) mig n may there =
    own-step v (FinalSnapTaken k snap mark place) k mig n refl may there
came v (CancelAsked k) mig n may there = own-step v (CancelAsked k) k mig n refl may there
came v (Ended k how place) mig n may there = own-step v (Ended k how place) k mig n refl may there

-- ---- what holds of each front holds of all

abbrev Fronts : (List Record → CtlValue → Type 0) → Type 0
Fronts P = (front : List Record) (v : CtlValue) (r : Record) → P front v
    → record_may_stand v r ≡ true → P (front ++ r ∷ []) (after_record v r)

abbrev ok_of : CtlValue → Result CtlValue ℕ
ok_of v = Ok v

err-ok : (n : ℕ) (x : CtlValue) → Err n ≡ ok_of x → ⊥
err-ok n x e = cc

ok-same : (v w : CtlValue) → ok_of v ≡ ok_of w → v ≡ w
ok-same v w e = cc

fronts-go : (P : List Record → CtlValue → Type 0) → Fronts P
    → (records front : List Record) (n : ℕ) (v w : CtlValue) → P front v
    → after_from n v records ≡ Ok w → P (front ++ records) w
fronts-go P step [] front n v w h e =
    subst (λ (x : CtlValue). P (front ++ []) x) (ok-same v w e)
    (subst (λ (rs : List Record). P rs v) (sym (append-nil front)) h)
fronts-go P step (r ∷ records) front n v w h e =
    test (record_may_stand v r) refl e
    (λ may rest. fronts-go P step records (front ++ r ∷ []) (n + 1) (after_record v r) w
    (step front v r h may) rest)
  where
    test : (b : Bool) → record_may_stand v r ≡ b
        → cond b (after_from (n + 1) (after_record v r) records) (Err (n + 1)) ≡ Ok w
        → (record_may_stand v r ≡ true → after_from (n + 1) (after_record v r) records ≡ Ok w
        → P ((front ++ r ∷ []) ++ records) w) → P (front ++ r ∷ records) w
    test true may e go = subst (λ (rs : List Record). P rs w) (append_assoc front (r ∷ []) records)
        (go may e)
    test false may e go = absurd (err-ok (n + 1) w e)

pub fronts : (P : List Record → CtlValue → Type 0) → Fronts P → P [] no_records
    → (records : List Record) (v : CtlValue) → after records ≡ Ok v → P records v
fronts P step first records v e = fronts-go P step records [] 0 no_records v first e
