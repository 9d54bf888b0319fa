-- Runs one after another: what a crash may leave of the journal's disk behind a run is what the
-- next run may find.
use Rattle.std.proofs.Common.{◌≡◌, ℕ, ◌≤◌, true, List, [], ◌∷◌, length, Option, Some, None, inl, inr, refl, sym, ap, subst, ◌∙◌}
use Rattle.std.specs.Prelude.{IfSome, IsSome, IsTrue}
use Rattle.std.specs.List.{AllByRecursion}
use Rattle.std.proofs.lemmas.Bool.{false≢true}
use Rattle.basics.specs.Prefix.{IsPrefix}
use Rattle.basics.proofs.Prefix.{prefix-append}
use Rattle.edge_traits.specs.Disk.{DiskContents, DiskState, IsImage, WhereTold, settled}
use Rattle.edge_traits.proofs.Images.{settled_image}
use Rattle.fleet.specs.Fleet.{FleetState}
use Rattle.fleet.specs.Sound.{IsFleet}
use Rattle.journal.specs.Format.{StandsFor, Short}
use Rattle.journal.specs.Journal.{Failure, LeavesOneOf, StandsForOneOf, outcomes, with_refused}
use Rattle.journal.specs.Laws.{IsOneOf}
use Rattle.journal.specs.Opening.{KeepsStanding}
use Rattle.journal.specs.declared.format.TheConstants.{EMPTY_BYTES}
use Rattle.journal.specs.declared.refusal.JournalRefused.TheVariants.{DiskFault, NotAJournal, BadRecord, Full, NoMemory as Wanting}
use Rattle.journal.proofs.Crashes.{crashes_keep, never_strange, opens_one_of, reads_keep_them, reads_one_of, refuses_keep}
use Rattle.record_codec.specs.declared.record.Record.{Record}
use Rattle.ctl_state.specs.Value.{no_records}
use Rattle.ctl_state.proofs.ListFacts.{none-numbered}
use Rattle.restart.proofs.Folding.{none_stand}
use Rattle.restart.specs.Agrees.{Agrees}
use Rattle.restart.specs.Laws.{TakenAgree, TakenAreNotStrange}
use Rattle.restart.specs.Reopening.{SaysWhy, IsFoundStrange}
use Rattle.restart.specs.Standing.{AreTaken}
use Rattle.restart.specs.declared.refusal.ReopenRefused.{ReopenRefused}
use Rattle.restart.specs.declared.refusal.ReopenRefused.TheVariants.{Journal, Strange, NoMemory}
use Rattle.migrate_server.specs.Runs.{HoldsTogether, BeginsWithOne, ServesTogether, IsUnopened, Runs, FreshHoldsTogether, UnopenedHoldTogether, ServedHoldTogether, RunsFindOne, CrashesHoldTogether, NoneIsStrange, FleetAgrees, status_unopened}
use Rattle.migrate_server.specs.Serve.{WouldBeTaken}
use Rattle.migrate_server.specs.World.{World, with_journal}
use Rattle.migrate_server.specs.declared.status.Status.{Status}
use Rattle.migrate_server.specs.declared.status.Status.TheVariants.{StrangeJournal}
use Rattle.migrate_server.proofs.Serving.{serves_sound}

-- ---- what is left of a disk whose controller wasn't opened

images_keep : (lists : List (List Record)) (fleet : FleetState) (why : ReopenRefused)
    (old new : DiskState) → LeavesOneOf lists old
    → WhereTold KeepsStanding old.contents new.contents → SaysWhy fleet why old new
    → LeavesOneOf lists new
images_keep lists fleet (Journal (DiskFault at)) old new leaves images cause =
    refuses_keep lists old new (DiskFault at) leaves (record { cause = cause; images = images })
images_keep lists fleet (Journal NotAJournal) old new leaves images cause =
    refuses_keep lists old new NotAJournal leaves (record { cause = cause; images = images })
images_keep lists fleet (Journal (BadRecord number)) old new leaves images cause =
    refuses_keep lists old new (BadRecord number) leaves
    (record { cause = cause; images = images })
images_keep lists fleet (Journal (Full len)) old new leaves images cause = absurd cause
images_keep lists fleet (Journal Wanting) old new leaves images cause = absurd cause
images_keep lists fleet (Strange number) old new leaves images cause =
    reads_keep_them lists old new cause.records leaves cause.reads
images_keep lists fleet NoMemory old new leaves images cause =
    refuses_keep lists old new Wanting leaves (record { cause = cause; images = images })

abbrev AllTaken : FleetState → List (List Record) → Type 0
AllTaken fleet lists = AllByRecursion (WouldBeTaken fleet) lists

told : {X : Type 0} (o : Option X) (P : X → Type 0) (Q : Type 0) → IsSome o → IfSome o P
    → ((x : X) → P x → Q) → Q
told None P Q is h then = absurd (false≢true is)
told (Some x) P Q is h then = then x h

-- ---- what was found goes on

all_go_on : (lists : List (List Record)) (found records : List Record) (failure : Option Failure)
    → IsOneOf found lists → IsPrefix found records
    → AllByRecursion (BeginsWithOne lists) (records ∷ with_refused records failure)
all_go_on lists found records None its is = ((found, its, is), tt)
all_go_on lists found records (Some failure) its is =
    ((found, its, is), ((found, its, prefix-append found records (failure.refused ∷ []) is), tt))

pub runs_find_one : RunsFindOne
runs_find_one lists old new status h tells s = told old.disk.contents
    (λ c. IsOneOf s.opened.records lists) (IsOneOf s.opened.records lists) tells
    (opens_one_of lists old.disk s.opened.disk s.opened.records h.leaves s.reopens.opened)
    (λ c its. its)

pub unopened_hold_together : UnopenedHoldTogether
unopened_hold_together lists old new status h u = record {
  leaves = images_keep lists old.fleet u.refused old.disk new.disk h.leaves u.left.images u.cause;
  taken = subst (λ (fleet : FleetState). AllTaken fleet lists)
      (sym (ap (λ (w : World). w.fleet) u.kept)) h.taken;
}

pub served_hold_together : ServedHoldTogether
served_hold_together lists old new status h s = record {
  together = record {
    leaves = s.closes.leaves;
    taken = s.closes.taken;
  };
  go_on = λ tells. all_go_on lists s.opened.records s.closes.closed.records
      s.closes.closed.failure (runs_find_one lists old new status h tells s) s.closes.serves.kept;
}

pub crashes_hold_together : CrashesHoldTogether
crashes_hold_together lists old new h crash same = record {
  leaves = crashes_keep lists old.disk new.disk h.leaves crash;
  taken = subst (λ (fleet : FleetState). AllTaken fleet lists) (sym same) h.taken;
}

-- ---- before the first run

nothing_taken : (fleet : FleetState) → AreTaken fleet [] no_records
nothing_taken fleet = record {
  stand = none_stand fleet;
  snapshots = λ mig m there. absurd (none-numbered mig m there);
}

few_stand : (bytes image : List ℕ) → length bytes ≤ EMPTY_BYTES → image ≡ bytes
    → StandsForOneOf ([] ∷ []) image
few_stand bytes image few is = inl (Short (rw is few) refl)

pub fresh_holds_together : FreshHoldsTogether
fresh_holds_together world few = record {
  leaves = by world.disk.contents few;
  taken = ((no_records, nothing_taken world.fleet), tt);
}
  where
    by : (o : Option DiskContents) → IfSome o (λ c. (bytes : List ℕ)
        × (c ≡ settled bytes) × (length bytes ≤ EMPTY_BYTES))
        → IfSome o (λ c. (image : List ℕ) → IsImage c image → StandsForOneOf ([] ∷ []) image)
    by None h = tt
    by (Some c) (bytes, is, few) = λ image its. few_stand bytes image few
        (settled_image bytes image (subst (λ (x : DiskContents). IsImage x image) is its))

-- ---- no journal is strange

taken_with_one : (fleet : FleetState) (records : List Record) (lists : List (List Record))
    → AllTaken fleet lists → IsOneOf records lists → WouldBeTaken fleet records
taken_with_one fleet records [] all its = absurd its
taken_with_one fleet records (first ∷ lists) all (inl is) =
    subst (WouldBeTaken fleet) (sym is) all.0
taken_with_one fleet records (first ∷ lists) all (inr later) =
    taken_with_one fleet records lists all.1 later

module _ (not_strange : TakenAreNotStrange) where
  none_found : (lists : List (List Record)) (old new : World) (number : ℕ)
      → HoldsTogether lists old → IsSome old.disk.contents
      → IsFoundStrange old.fleet number old.disk new.disk → ⊥
  none_found lists old new number h tells found = told old.disk.contents
      (λ c. IsOneOf found.records lists) ⊥ tells
      (reads_one_of lists old.disk new.disk found.records h.leaves found.reads)
      (λ c its.
      let taken = taken_with_one old.fleet found.records lists h.taken its in
      not_strange old.fleet found.records taken.0 number taken.1 found.strange)

  none_unopened : (lists : List (List Record)) (old new : World) (number : ℕ)
      → HoldsTogether lists old → IsSome old.disk.contents
      → (why : ReopenRefused) → StrangeJournal number ≡ status_unopened why
      → WhereTold KeepsStanding old.disk.contents new.disk.contents
      → SaysWhy old.fleet why old.disk new.disk → ⊥
  none_unopened lists old new number h tells (Journal (DiskFault at)) is images cause = cc
  none_unopened lists old new number h tells (Journal NotAJournal) is images cause =
      told old.disk.contents (λ c. ⊥) ⊥ tells
      ((never_strange lists old.disk new.disk 0 h.leaves).0
      (record { cause = cause; images = images })) (λ c isnt. isnt)
  none_unopened lists old new number h tells (Journal (BadRecord at)) is images cause =
      told old.disk.contents (λ c. ⊥) ⊥ tells
      ((never_strange lists old.disk new.disk at h.leaves).1
      (record { cause = cause; images = images })) (λ c isnt. isnt)
  none_unopened lists old new number h tells (Journal (Full len)) is images cause = absurd cause
  none_unopened lists old new number h tells (Journal Wanting) is images cause = absurd cause
  none_unopened lists old new number h tells (Strange at) is images cause =
      none_found lists old new at h tells cause
  none_unopened lists old new number h tells NoMemory is images cause = cc

  pub none_is_strange : NoneIsStrange
  none_is_strange lists old new number h tells (inl u) =
      none_unopened lists old new number h tells u.refused u.told u.left.images u.cause
  none_is_strange lists old new number h tells (inr s) = absurd s.closes.ends.serving

-- ---- the fleet agrees

all_agree : TakenAgree → (fleet : FleetState) (lists : List (List Record)) → IsFleet fleet
    → AllTaken fleet lists → AllByRecursion (λ records. Agrees fleet records None) lists
all_agree agree fleet [] is all = tt
all_agree agree fleet (records ∷ lists) is all = (
  agree fleet records (all.0).0 is (all.0).1,
  all_agree agree fleet lists is all.1,
)

pub fleet_agrees : TakenAgree → FleetAgrees
fleet_agrees agree lists world is h = all_agree agree world.fleet lists is h.taken

-- ---- a sound store

pub runs_sound : (old new : World) (status : Status) → Runs old new status
    → IsTrue old.store.sound
    → (new.store.sound ≡ true) × (new.store.faults ≡ old.store.faults)
runs_sound old new status (inl u) sound = (
  ap (λ (w : World). w.store.sound) u.kept ∙ sound,
  ap (λ (w : World). w.store.faults) u.kept,
)
runs_sound old new status (inr s) sound =
    let desk = with_journal s.opened old in
    serves_sound desk (with_journal s.closes.closed new) status s.closes.serves sound
