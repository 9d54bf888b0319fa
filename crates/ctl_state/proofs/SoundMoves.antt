-- What a step that finishes no checkpoint leaves of a sound migration. A live one in a known phase
-- is written out with that phase, so what its phase says of it computes.
use Rattle.std.proofs.Common.{◌≡◌, ℕ, zero, suc, ◌+◌, ◌-◌, ◌<◌, ◌≤◌, List, [], ◌∷◌, ◌++◌, length, Bool, true, false, ◌&&◌, cond, not, Option, Some, None, map, is_some, refl, sym, ap, subst, ◌∙◌, arith}
use Rattle.std.specs.Prelude.{IsSome, IsSomeAnd, slice_get, unwrap_or}
use Rattle.std.specs.List.{AllByRecursion}
use Rattle.std.proofs.lemmas.Bool.{eqb-true, false≢true}
use Rattle.std.proofs.lemmas.List.{length-map}
use Rattle.std.proofs.lemmas.Option.{none-some, same_Some}
use Rattle.basics.proofs.Each.{each}
use Rattle.change_id.specs.declared.ChangeId.{ChangeId}
use Rattle.phase_table.specs.declared.phases.Phase.{Phase}
use Rattle.phase_table.specs.declared.phases.Phase.TheVariants.{Started, CreateInitialSnapshot, StoreInitialIds, CreateVolumes, AddFirstCheckpoint, CopyDisks, CopyingPaused, RemovePreviousSnapshot, CreateSnapshot, StoreIds, AddCheckpoint, StorePowerState, PowerOffSource, WaitForPowerOff, RemovePenultimateSnapshot, CreateFinalSnapshot, AddFinalCheckpoint, CopyFinal, RemoveFinalSnapshot, Completed, Cancelled, Failed}
use Rattle.phase_table.specs.declared.table.Fact.TheVariants as Facts
use Rattle.phase_table.specs.Phases.{phase_number, is_end}
use Rattle.phase_table.proofs.Steps.{numbers_differ}
use Rattle.checkpoints.specs.DataVolume.{finished_count}
use Rattle.checkpoints.specs.DataVolume as volume
use Rattle.plan_model.specs.declared.moment.Moment.{Moment}
use Rattle.ctl_state.specs.declared.migration.Migration.{Migration}
use Rattle.ctl_state.specs.declared.migration.How.{How}
use Rattle.ctl_state.specs.declared.migration.How.TheVariants as Hows
use Rattle.ctl_state.specs.declared.copies.DiskCopy.{DiskCopy}
use Rattle.ctl_state.specs.declared.copies.CopyBase.{CopyBase}
use Rattle.ctl_state.specs.Migration.{same_phase, next_of, moved, reached, all_done, unnamed_copy, named_copies, named_copy}
use Rattle.ctl_state.specs.Steps.{with_snapshot, without_snapshot}
use Rattle.ctl_state.specs.Sound.{PhaseFacts, facts_in, HasCurrent, HaveCopied, is_from, GoesOnFrom, StandsBy, is_open, is_final_done, last_mark, FitsPhase, HasEnded, StandsNow, IsSound, phase_of_end}
use Rattle.ctl_state.proofs.CopyFacts.{length-named}
use Rattle.ctl_state.proofs.SoundCopies.{each-map, each-named, done-map, done-named}

-- ---- a live migration in a known phase

pub phase_is : (a b : Phase) → same_phase a b ≡ true → a ≡ b
unfolding same_phase
phase_is a b e = numbers_differ a b (eqb-true (phase_number a) (phase_number b) e)

abbrev pub at : Phase → Migration → Migration
at p m = record m { phase = p; how = None }

ends-in-end : (how : How) → is_end (phase_of_end how) ≡ true
ends-in-end Hows.Completed = refl
ends-in-end Hows.Cancelled = refl
ends-in-end Hows.FailedVolume = refl
ends-in-end Hows.FailedSpent = refl

lives-by : (how : Option How) (m : Migration) → StandsNow how m → is_end m.phase ≡ false
    → how ≡ None
lives-by None m h live = refl
lives-by (Some how) m h live = absurd (false≢true (sym live ∙ ap is_end h.phase ∙ ends-in-end how))

pub lives : (m : Migration) → IsSound m → is_end m.phase ≡ false → m.how ≡ None
lives m s live = lives-by m.how m s.now live

pub is-at : (m : Migration) (p : Phase) → is_end p ≡ false → IsSound m → m.phase ≡ p → m ≡ at p m
is-at m p live s e =
    ap (λ (q : Phase). record m { phase = q }) e
    ∙ ap (λ (how : Option How). record m { phase = p; how = how })
    (lives m s (ap is_end e ∙ live))

-- a step of one that is in the phase, by that of one written out
pub by-phase : (m : Migration) (p : Phase) (step : Migration → Migration) → is_end p ≡ false
    → IsSound m → m.phase ≡ p → (IsSound (at p m) → IsSound (step (at p m))) → IsSound (step m)
by-phase m p step live s e k =
    let same = is-at m p live s e in
    subst (λ (x : Migration). IsSound (step x)) (sym same) (k (subst IsSound same s))

-- ---- what stays

pub keeps : (m n : Migration) → IsSound m → n.disks ≡ m.disks → length n.copies ≡ length m.copies
    → n.dv ≡ m.dv → n.marks ≡ m.marks → n.written ≡ m.written → StandsNow n.how n → IsSound n
keeps m n s disks copies dv marks written now = record {
  some_disks = subst (λ (k : ℕ). 1 ≤ k) (sym disks) s.some_disks;
  few_disks = let few = s.few_disks in omega (arith, few, disks);
  paired = copies ∙ s.paired ∙ sym disks;
  volume = subst (λ v. volume.IsSound v) (sym dv) s.volume;
  marked = ap length marks ∙ s.marked ∙ ap (λ v. finished_count v.checkpoints) (sym dv);
  counted = ap length written ∙ s.counted ∙ ap (λ v. finished_count v.checkpoints) (sym dv);
  now = now;
}

-- a phase with the same row that stands on the same side of each border
pub move : (p q : Phase) (m : Migration) → facts_in q ≡ facts_in p → is_end q ≡ false
    → is_from AddFirstCheckpoint q ≡ is_from AddFirstCheckpoint p
    → is_from CopyDisks q ≡ is_from CopyDisks p
    → is_from CopyingPaused q ≡ is_from CopyingPaused p
    → is_from PowerOffSource q ≡ is_from PowerOffSource p
    → is_from AddFinalCheckpoint q ≡ is_from AddFinalCheckpoint p
    → is_from CopyFinal q ≡ is_from CopyFinal p
    → IsSound (at p m) → IsSound (at q m)
move p q m row live volumes added paused power placed final s =
    let f : FitsPhase (at p m) = s.now in
    keeps (at p m) (at q m) s refl refl refl refl refl (record {
      live = live;
      current = subst (λ (facts : PhaseFacts). HasCurrent facts.current (reached m) m.snap)
          (sym row) f.current;
      named = subst (λ (facts : PhaseFacts). AllByRecursion (λ copy. is_some copy.id ≡ facts.named)
          m.copies) (sym row) f.named;
      copied = subst (λ (facts : PhaseFacts). HaveCopied facts.copied m.copies) (sym row) f.copied;
      volumes = f.volumes ∙ sym volumes;
      added = f.added ∙ sym added;
      paused = λ e. f.paused (sym paused ∙ e);
      power = f.power ∙ sym power;
      placed = f.placed ∙ sym placed;
      final = f.final ∙ sym final;
      unfinished = f.unfinished ∙ ap (λ (b : Bool). b && not (all_done m.copies)) (sym added);
      stand = f.stand;
    })

-- ---- what copies stand on, while no checkpoint is open

abbrev pub Based : (ended : Bool) (last : Option ℕ) → List DiskCopy → Type 0
Based ended last copies = AllByRecursion (λ copy. StandsBy false ended 0 last copy) copies

any-mark : (ended : Bool) (mark other : ℕ) (last : Option ℕ) (c d : DiskCopy) → d.base ≡ c.base
    → StandsBy false ended mark last c → StandsBy false ended other last d
any-mark true mark other last c d same h =
    subst (λ (base : Option CopyBase). IsSomeAnd base (λ b. last ≡ Some b.mark)) (sym same) h
any-mark false mark other last c d same h =
    subst (λ (base : Option CopyBase). GoesOnFrom last base) (sym same) h

pub based : (unfinished ended : Bool) (mark : ℕ) (last : Option ℕ) (copies : List DiskCopy)
    → unfinished ≡ false → AllByRecursion
    (λ copy. StandsBy (unfinished && copy.done) ended mark last copy) copies
    → Based ended last copies
based true ended mark last copies e h = absurd (false≢true (sym e))
based false ended mark last copies e h =
    each (λ c stands. any-mark ended mark 0 last c c refl stands) copies h

pub unbased : (unfinished ended : Bool) (mark : ℕ) (last : Option ℕ) (copies : List DiskCopy)
    → unfinished ≡ false → Based ended last copies
    → AllByRecursion (λ copy. StandsBy (unfinished && copy.done) ended mark last copy) copies
unbased true ended mark last copies e h = absurd (false≢true (sym e))
unbased false ended mark last copies e h =
    each (λ c stands. any-mark ended 0 mark last c c refl stands) copies h

based-map : (f : DiskCopy → DiskCopy) → ((c : DiskCopy) → (f c).base ≡ c.base)
    → (ended : Bool) (last : Option ℕ) (copies : List DiskCopy) → Based ended last copies
    → Based ended last (map f copies)
based-map f same ended last copies h =
    each-map _ _ f (λ c stands. any-mark ended 0 0 last c (f c) (same c) stands) copies h

based-named : (ids : List ChangeId) (ended : Bool) (last : Option ℕ) (copies : List DiskCopy)
    → length ids ≡ length copies → Based ended last copies
    → Based ended last (named_copies copies ids)
based-named ids ended last copies e h =
    each-named _ _ (λ c id stands. any-mark ended 0 0 last c (named_copy id c) refl stands) copies
    ids e h

-- where no disk is left, no checkpoint is open
pub closed : (p : Phase) (m : Migration) → is_from CopyDisks p ≡ true → all_done m.copies ≡ true
    → FitsPhase (at p m) → is_open m ≡ false
closed p m from done f = f.unfinished ∙ ap (λ (b : Bool). b && not (all_done m.copies)) from
    ∙ ap not done

-- ---- a snapshot is taken

unnamed-stand : (m : Migration) (snap mark : ℕ) → is_open m ≡ false
    → AllByRecursion (λ copy. StandsBy (is_open m && copy.done) (is_final_done m) m.mark
    (last_mark m.marks) copy) m.copies
    → AllByRecursion (λ copy. StandsBy (is_open m && copy.done) (is_final_done m) mark
    (last_mark m.marks) copy) (map unnamed_copy m.copies)
unnamed-stand m snap mark shut stand =
    unbased (is_open m) (is_final_done m) mark (last_mark m.marks) (map unnamed_copy m.copies) shut
    (based-map unnamed_copy (λ c. refl) (is_final_done m) (last_mark m.marks) m.copies
    (based (is_open m) (is_final_done m) m.mark (last_mark m.marks) m.copies shut stand))

pub first-snapshot : (m : Migration) (snap mark : ℕ) → reached m < snap
    → IsSound (at CreateInitialSnapshot m)
    → IsSound (moved (with_snapshot snap mark (at CreateInitialSnapshot m)) Facts.Done)
unfolding next_of
first-snapshot m snap mark later s =
    let f : FitsPhase (at CreateInitialSnapshot m) = s.now in
    keeps (at CreateInitialSnapshot m) (at StoreInitialIds (with_snapshot snap mark m)) s refl
    (length-map m.copies unnamed_copy) refl refl refl (record {
      live = refl;
      current = later;
      named = each-map _ _ unnamed_copy (λ c h. refl) m.copies f.named;
      copied = each-map _ _ unnamed_copy (λ c h. h) m.copies f.copied;
      volumes = f.volumes;
      added = f.added;
      paused = f.paused;
      power = f.power;
      placed = f.placed;
      final = f.final;
      unfinished = f.unfinished;
      stand = unnamed-stand m snap mark f.unfinished f.stand;
    })

pub next-snapshot : (m : Migration) (snap mark : ℕ) → reached m < snap
    → IsSound (at CreateSnapshot m)
    → IsSound (moved (with_snapshot snap mark (at CreateSnapshot m)) Facts.Done)
unfolding next_of
next-snapshot m snap mark later s =
    let f : FitsPhase (at CreateSnapshot m) = s.now in
    keeps (at CreateSnapshot m) (at StoreIds (with_snapshot snap mark m)) s refl
    (length-map m.copies unnamed_copy) refl refl refl (record {
      live = refl;
      current = later;
      named = each-map _ _ unnamed_copy (λ c h. refl) m.copies f.named;
      copied = done-map unnamed_copy (λ c. refl) m.copies ∙ f.copied;
      volumes = f.volumes;
      added = f.added;
      paused = f.paused;
      power = f.power;
      placed = f.placed;
      final = f.final;
      unfinished = f.unfinished ∙ ap not (sym (done-map unnamed_copy (λ c. refl) m.copies));
      stand = unnamed-stand m snap mark (closed CreateSnapshot m refl f.copied f) f.stand;
    })

pub final-snapshot : (m : Migration) (snap mark place : ℕ) → reached m < snap
    → IsSound (at CreateFinalSnapshot m)
    → IsSound (moved (record (with_snapshot snap mark (at CreateFinalSnapshot m))
    { place = Some place }) Facts.Done)
unfolding next_of
final-snapshot m snap mark place later s =
    let f : FitsPhase (at CreateFinalSnapshot m) = s.now in
    keeps (at CreateFinalSnapshot m)
    (at AddFinalCheckpoint (record (with_snapshot snap mark m) { place = Some place })) s refl
    (length-map m.copies unnamed_copy) refl refl refl (record {
      live = refl;
      current = later;
      named = each-map _ _ unnamed_copy (λ c h. refl) m.copies f.named;
      copied = done-map unnamed_copy (λ c. refl) m.copies ∙ f.copied;
      volumes = f.volumes;
      added = f.added;
      paused = f.paused;
      power = f.power;
      placed = refl;
      final = f.final;
      unfinished = f.unfinished ∙ ap not (sym (done-map unnamed_copy (λ c. refl) m.copies));
      stand = unnamed-stand m snap mark (closed CreateFinalSnapshot m refl f.copied f) f.stand;
    })

-- ---- its identifiers are stored

named-stand : (m : Migration) (ids : List ChangeId) → length ids ≡ length m.copies
    → is_open m ≡ false → AllByRecursion
    (λ copy. StandsBy (is_open m && copy.done) (is_final_done m) m.mark (last_mark m.marks) copy)
    m.copies
    → AllByRecursion (λ copy. StandsBy (is_open m && copy.done) (is_final_done m) m.mark
    (last_mark m.marks) copy) (named_copies m.copies ids)
named-stand m ids e shut stand =
    unbased (is_open m) (is_final_done m) m.mark (last_mark m.marks) (named_copies m.copies ids)
    shut
    (based-named ids (is_final_done m) (last_mark m.marks) m.copies e
    (based (is_open m) (is_final_done m) m.mark (last_mark m.marks) m.copies shut stand))

pub first-ids : (m : Migration) (ids : List ChangeId) → length ids ≡ m.disks
    → IsSound (at StoreInitialIds m)
    → IsSound (moved (record (at StoreInitialIds m) { copies = named_copies m.copies ids })
    Facts.Done)
unfolding next_of
first-ids m ids e s =
    let f : FitsPhase (at StoreInitialIds m) = s.now in
    let same : length ids ≡ length m.copies = e ∙ sym s.paired in
    keeps (at StoreInitialIds m)
    (at CreateVolumes (record m { copies = named_copies m.copies ids })) s refl
    (length-named m.copies ids) refl refl refl (record {
      live = refl;
      current = f.current;
      named = each-named _ _ (λ c id h. refl) m.copies ids same f.named;
      copied = each-named _ _ (λ c id h. h) m.copies ids same f.copied;
      volumes = f.volumes;
      added = f.added;
      paused = f.paused;
      power = f.power;
      placed = f.placed;
      final = f.final;
      unfinished = f.unfinished;
      stand = named-stand m ids same f.unfinished f.stand;
    })

pub next-ids : (m : Migration) (ids : List ChangeId) → length ids ≡ m.disks
    → IsSound (at StoreIds m)
    → IsSound (moved (record (at StoreIds m) { copies = named_copies m.copies ids }) Facts.Done)
unfolding next_of
next-ids m ids e s =
    let f : FitsPhase (at StoreIds m) = s.now in
    let same : length ids ≡ length m.copies = e ∙ sym s.paired in
    keeps (at StoreIds m) (at AddCheckpoint (record m { copies = named_copies m.copies ids })) s
    refl (length-named m.copies ids) refl refl refl (record {
      live = refl;
      current = f.current;
      named = each-named _ _ (λ c id h. refl) m.copies ids same f.named;
      copied = done-named m.copies ids ∙ f.copied;
      volumes = f.volumes;
      added = f.added;
      paused = f.paused;
      power = f.power;
      placed = f.placed;
      final = f.final;
      unfinished = f.unfinished ∙ ap not (sym (done-named m.copies ids));
      stand = named-stand m ids same (closed StoreIds m refl f.copied f) f.stand;
    })

-- ---- volumes, a pause, the power state

pub volumes-made : (m : Migration) → IsSound (at CreateVolumes m)
    → IsSound (moved (record (at CreateVolumes m) { volumes = true }) Facts.Done)
unfolding next_of
volumes-made m s =
    let f : FitsPhase (at CreateVolumes m) = s.now in
    keeps (at CreateVolumes m) (at AddFirstCheckpoint (record m { volumes = true })) s refl refl
    refl refl refl (record {
      live = refl;
      current = f.current;
      named = f.named;
      copied = f.copied;
      volumes = refl;
      added = f.added;
      paused = f.paused;
      power = f.power;
      placed = f.placed;
      final = f.final;
      unfinished = f.unfinished;
      stand = f.stand;
    })

pub paused : (m : Migration) (last : Option Moment) → IsSome last → all_done m.copies ≡ true
    → IsSound (at CopyDisks m)
    → IsSound (moved (record (at CopyDisks m) { last = last }) Facts.Done)
unfolding next_of
paused m last there done s =
    let f : FitsPhase (at CopyDisks m) = s.now in
    keeps (at CopyDisks m) (at CopyingPaused (record m { last = last })) s refl refl refl refl refl
    (record {
      live = refl;
      current = f.current;
      named = f.named;
      copied = done;
      volumes = f.volumes;
      added = f.added;
      paused = λ _. there;
      power = f.power;
      placed = f.placed;
      final = f.final;
      unfinished = f.unfinished;
      stand = f.stand;
    })

pub power-stored : (m : Migration) (on : Bool) → IsSound (at StorePowerState m)
    → IsSound (moved (record (at StorePowerState m) { power = Some on }) Facts.Done)
unfolding next_of
power-stored m on s =
    let f : FitsPhase (at StorePowerState m) = s.now in
    keeps (at StorePowerState m) (at PowerOffSource (record m { power = Some on })) s refl refl refl
    refl refl (record {
      live = refl;
      current = λ x e. same_Some x (reached m) (sym e ∙ f.current);
      named = f.named;
      copied = f.copied;
      volumes = f.volumes;
      added = f.added;
      paused = f.paused;
      power = refl;
      placed = f.placed;
      final = f.final;
      unfinished = f.unfinished;
      stand = f.stand;
    })

-- ---- a snapshot goes

pub unmarked-stand : (m : Migration) → is_open m ≡ false
    → AllByRecursion (λ copy. StandsBy (is_open m && copy.done) (is_final_done m) m.mark
    (last_mark m.marks) copy) m.copies
    → AllByRecursion (λ copy. StandsBy (is_open m && copy.done) (is_final_done m) 0
    (last_mark m.marks) copy) m.copies
unmarked-stand m shut stand =
    unbased (is_open m) (is_final_done m) 0 (last_mark m.marks) m.copies shut
    (based (is_open m) (is_final_done m) m.mark (last_mark m.marks) m.copies shut stand)

pub previous-removed : (m : Migration) → IsSound (at RemovePreviousSnapshot m)
    → IsSound (moved (without_snapshot (at RemovePreviousSnapshot m)) Facts.Done)
unfolding next_of
previous-removed m s =
    let f : FitsPhase (at RemovePreviousSnapshot m) = s.now in
    keeps (at RemovePreviousSnapshot m) (at CreateSnapshot (without_snapshot m)) s refl refl refl
    refl refl (record {
      live = refl;
      current = refl;
      named = f.named;
      copied = f.copied;
      volumes = f.volumes;
      added = f.added;
      paused = f.paused;
      power = f.power;
      placed = f.placed;
      final = f.final;
      unfinished = f.unfinished;
      stand = unmarked-stand m (closed RemovePreviousSnapshot m refl f.copied f) f.stand;
    })

pub penultimate-removed : (m : Migration) → IsSound (at RemovePenultimateSnapshot m)
    → IsSound (moved (without_snapshot (at RemovePenultimateSnapshot m)) Facts.Done)
unfolding next_of
penultimate-removed m s =
    let f : FitsPhase (at RemovePenultimateSnapshot m) = s.now in
    keeps (at RemovePenultimateSnapshot m) (at CreateFinalSnapshot (without_snapshot m)) s refl refl
    refl refl refl (record {
      live = refl;
      current = refl;
      named = f.named;
      copied = f.copied;
      volumes = f.volumes;
      added = f.added;
      paused = f.paused;
      power = f.power;
      placed = f.placed;
      final = f.final;
      unfinished = f.unfinished;
      stand = unmarked-stand m (closed RemovePenultimateSnapshot m refl f.copied f) f.stand;
    })

-- the final snapshot found the machine on
pub goes-back : (m : Migration) → IsSound (at CreateFinalSnapshot m) → IsSound (at PowerOffSource m)
goes-back m s =
    let f : FitsPhase (at CreateFinalSnapshot m) = s.now in
    keeps (at CreateFinalSnapshot m) (at PowerOffSource m) s refl refl refl refl refl (record {
      live = refl;
      current = λ x e. absurd (none-some x (sym f.current ∙ e));
      named = f.named;
      copied = f.copied;
      volumes = f.volumes;
      added = f.added;
      paused = f.paused;
      power = f.power;
      placed = f.placed;
      final = f.final;
      unfinished = f.unfinished;
      stand = f.stand;
    })
