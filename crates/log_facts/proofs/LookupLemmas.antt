-- What a legal log says of a snapshot, as it stands at the snapshot's place or number.
use Rattle.std.proofs.Common.{◌≡◌, ℕ, ◌-◌, ◌<◌, ◌≤◌, List, [], ◌∷◌, ◌++◌, length, take, true, false, eqb, ◌||◌, Option, Some, None, IsSomeAnd, sym, ap, refl, ◌∙◌, arith, inl, inr}
use Rattle.std.specs.List.{slice_get}
use Rattle.std.specs.Option.{option_eq}
use Rattle.std.proofs.Math.Bool.{or-false}
use Rattle.std.proofs.lemmas.Bool.{eq-eqb, eqb-true, false≢true, false_from_ne_true, or_cases}
use Rattle.std.proofs.lemmas.Option.{slice_get_within, same_Some, none-some}
use Rattle.std.proofs.lemmas.List.Folds.{list_any-append}
use Rattle.change_id.proofs.Ends.{by_last, at_place}
use Rattle.change_id.proofs.IdMarks.{takes-at_mark}
use Rattle.log_model.specs.declared.entry.Owner.{Owner}
use Rattle.log_model.specs.declared.entry.Owner.TheVariants.{Migration as OfMigration}
use Rattle.log_model.specs.declared.entry.Act.{Act}
use Rattle.log_model.specs.declared.entry.Act.TheVariants.{Write, Snap, Remove, Reset, Enable, Off, On}
use Rattle.log_model.specs.declared.entry.Entry.{Entry}
use Rattle.log_model.specs.Entry.{takes, removes}
use Rattle.log_model.specs.Legal.{Disks, Legal, ActMayStand, OwnerLets, taken, owner_of}
use Rattle.log_model.specs.Marks.{takes_in, mark, through}
use Rattle.log_model.specs.Frozen.{last_off, off_place}
use Rattle.log_model.proofs.LegalLogs.{legal_front, legal_last}
use Rattle.log_model.proofs.OwnedLaws.{owned_taken, taken-append}
use Rattle.log_model.proofs.Readings.{snap-takes}
use Rattle.log_model.proofs.SnapMarks.{snaps_have_their_marks, each_was_taken}
use Rattle.ctl_state.specs.Asks.{IsItsSnapshot, is_removed}
use Rattle.log_facts.specs.declared.disks.IdCount.{IdCount}
use Rattle.log_facts.specs.Disks.{AreCounts, id_count_of}

-- what stands at a snapshot's number
pub count_is : (disks : Disks) (d snap : ℕ) (log : List Entry) (counts : List IdCount)
    (count : IdCount) → Legal disks log → AreCounts d log counts
    → 1 ≤ snap → slice_get counts (snap - 1) ≡ Some count → count ≡ id_count_of d (through snap log)
count_is disks d snap log counts count legal are from at =
    let upto : snap ≤ taken log =
    omega (arith, from, slice_get_within counts (snap - 1) count at, are.one_each) in
    let here = at_place log (mark snap log) (each_was_taken disks log snap legal from upto) in
    let takes_it : takes snap here.0.act ≡ true = takes-at_mark takes_in snap log here.0 here.1 in
    let its = snaps_have_their_marks disks log snap (mark snap log) here.0 legal here.1 takes_it in
    let number : snap - 1 ≡ taken (take (mark snap log) log) = omega (arith, its.next) in
    same_Some count (id_count_of d (through snap log)) (sym at ∙ ap (slice_get counts) number
    ∙ are.each (mark snap log) here.0 here.1 (snap-takes snap here.0.act takes_it))

-- the power-off place of a snapshot is that of the entries before its mark
taken_there : (mig snap place : ℕ) (log : List Entry) (o : Option Entry) → slice_get log place ≡ o
    → IsSomeAnd o (λ e. e.act ≡ Snap snap (OfMigration mig))
    → (e : Entry) × (slice_get log place ≡ Some e) × (takes snap e.act ≡ true)
taken_there mig snap place log None at is = absurd is
taken_there mig snap place log (Some e) at is = (e, at, ap (takes snap) is ∙ eq-eqb snap snap refl)

pub off_place_is : (disks : Disks) (mig snap place : ℕ) (log : List Entry) → Legal disks log
    → IsItsSnapshot mig snap place log → off_place snap log ≡ last_off (take place log)
off_place_is disks mig snap place log legal its =
    let there = taken_there mig snap place log (slice_get log place) refl its.taken in
    let mark_is = (snaps_have_their_marks disks log snap place there.0 legal there.1
    there.2).mark_is in
    ap (λ k. last_off (take k log)) mark_is

-- ---- a snapshot that wasn't taken has no owner, and wasn't removed

pub no_owner : (disks : Disks) (snap : ℕ) (owner : Owner) (log : List Entry) → Legal disks log
    → taken log < snap → owner_of snap log ≡ Some owner → ⊥
no_owner disks snap owner log legal past owns =
    absurd (omega (arith, past, owned_taken disks log legal snap owner owns))

had_owner : (disks : Disks) (log : List Entry) (who s : ℕ) (o : Option Owner) → Legal disks log
    → owner_of s log ≡ o → OwnerLets who o → s ≤ taken log
had_owner disks log who s None legal is lets = absurd lets
had_owner disks log who s (Some owner) legal is lets = owned_taken disks log legal s owner is

removes_taken : (disks : Disks) (log : List Entry) (who s : ℕ) (act : Act) → Legal disks log
    → ActMayStand disks log who act → removes s act ≡ true → s ≤ taken log
removes_taken disks log who s (Remove id) legal stands is =
    let same = eqb-true id s is in
    omega (arith, same, had_owner disks log who id (owner_of id log) legal refl stands)
removes_taken disks log who s (Write d first sectors) legal stands is = absurd (false≢true is)
removes_taken disks log who s (Snap id owner) legal stands is = absurd (false≢true is)
removes_taken disks log who s (Reset d) legal stands is = absurd (false≢true is)
removes_taken disks log who s Enable legal stands is = absurd (false≢true is)
removes_taken disks log who s Off legal stands is = absurd (false≢true is)
removes_taken disks log who s On legal stands is = absurd (false≢true is)

abbrev RemovedTaken : Disks → (s : ℕ) → List Entry → Type 0
RemovedTaken disks s log = Legal disks log → is_removed s log ≡ true → s ≤ taken log

removed_more : (disks : Disks) (s : ℕ) (log : List Entry) (e : Entry) → RemovedTaken disks s log
    → RemovedTaken disks s (log ++ e ∷ [])
removed_more disks s log e rest legal is =
    let before = legal_front disks log (e ∷ []) legal in
    let grows = taken-append log (e ∷ []) in
    elim (or_cases (is_removed s log) (removes s e.act || false)
    (sym (list_any-append (λ (x : Entry). removes s x.act) log (e ∷ [])) ∙ is)) [
      | inl early ↦ omega (arith, rest before early, grows)
      | inr late ↦ omega (
        arith,
        removes_taken disks log e.who s e.act before
            (legal_last disks log e legal) (sym (or-false (removes s e.act)) ∙ late),
        grows,
      )
    ]

pub never_removed : (disks : Disks) (snap : ℕ) (log : List Entry) → Legal disks log
    → taken log < snap → is_removed snap log ≡ false
never_removed disks snap log legal past =
    false_from_ne_true (is_removed snap log)
    (λ is. absurd (omega (
      arith,
      past,
      by_last (RemovedTaken disks snap)
          (λ _ is. absurd (false≢true is)) (λ l e rest. removed_more disks snap l e rest) log legal
          is,
    )))

pub taken_within : (mig snap place : ℕ) (log : List Entry) → IsItsSnapshot mig snap place log
    → place < length log
taken_within mig snap place log its =
    let there = taken_there mig snap place log (slice_get log place) refl its.taken in
    slice_get_within log place there.0 there.1

-- ---- a place is the one that was asked for

pub is_that : (found : Option ℕ) (place : ℕ) → option_eq eqb found (Some place) ≡ true
    → found ≡ Some place
is_that None place is = absurd (false≢true is)
is_that (Some n) place is = ap Some (eqb-true n place is)

pub are_same : (found : Option ℕ) (place : ℕ) → found ≡ Some place
    → option_eq eqb found (Some place) ≡ true
are_same None place is = absurd (none-some place is)
are_same (Some n) place is = eq-eqb n place (same_Some n place is)
