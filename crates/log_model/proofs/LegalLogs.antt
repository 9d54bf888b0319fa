-- Legal logs and their prefixes.
use Rattle.std.proofs.Common.{◌≡◌, ℕ, ◌+◌, ◌<◌, ◌≤◌, List, [], ◌∷◌, ◌++◌, length, take, Some, subst, sym, ap, ◌∙◌, arith, inl, inr, length-append, length-take}
use Rattle.std.specs.List.{slice_get}
use Rattle.std.proofs.lemmas.List.{take-take, take-append-le}
use Rattle.std.proofs.lemmas.Option.{slice_get_within}
use Rattle.std.proofs.Math.Seq.{take-append_seam}
use Rattle.log_model.specs.declared.entry.Act.{Act}
use Rattle.log_model.specs.declared.entry.Act.TheVariants.{Write, Snap, Remove, Reset, Enable, Off, On}
use Rattle.log_model.specs.declared.entry.Entry.{Entry}
use Rattle.log_model.specs.Legal.{Disks, all_of, only, HasDisk, Legal, MayStand, ActMayStand, capacity_of}
use Rattle.log_model.specs.Laws.{PrefixesAreLegal, LegalGrows, LegalGrew, LegalForEachDisk}
use Rattle.basics.proofs.ItemAt.{slice_get-take, slice_get-last, slice_get-pushed}

pub length-take-le : {X : Type 0} (n : ℕ) (xs : List X) → length (take n xs) ≤ length xs
length-take-le n xs = omega (arith, length-take n xs)

pub within_take : {X : Type 0} (n k : ℕ) (xs : List X) → k < length (take n xs) → k < n
within_take n k xs h = omega (arith, length-take n xs)

pub prefixes_are_legal : PrefixesAreLegal
prefixes_are_legal disks log n legal = record {
  short = omega (arith, legal.short, length-take-le n log);
  each = λ place e read.
      let inside : place < n =
      within_take n place log (slice_get_within (take n log) place e read) in
      let whole : slice_get log place ≡ Some e = sym (slice_get-take log n place inside) ∙ read in
      let le : place ≤ n = omega arith in
      subst (λ (front : List Entry). MayStand disks front e) (sym (take-take place n log le))
      (legal.each place e whole);
}

pub legal_grows : LegalGrows
legal_grows disks log e legal room stands = record {
  short = omega (arith, length-append log (e ∷ []));
  each = λ place x read.
      elim (slice_get-pushed log e place x read) [
        | inl old ↦
            let le : place ≤ length log = omega (arith, old.0) in
            subst (λ (front : List Entry). MayStand disks front x)
            (sym (take-append-le place log (e ∷ []) le)) (legal.each place x old.1)
        | inr new ↦
            subst (λ (y : Entry). MayStand disks (take place (log ++ e ∷ [])) y) new.1
            (subst (λ (front : List Entry). MayStand disks front e)
            (sym (ap (λ n. take n (log ++ e ∷ [])) new.0 ∙ take-append_seam log (e ∷ [])))
            stands)
      ];
}

-- what a legal log with one entry more says of that entry
pub legal_last : (disks : Disks) (log : List Entry) (e : Entry) → Legal disks (log ++ e ∷ [])
    → MayStand disks log e
legal_last disks log e legal =
    subst (λ (front : List Entry). MayStand disks front e) (take-append_seam log (e ∷ []))
    (legal.each (length log) e (slice_get-last log e))

pub legal_front : (disks : Disks) (log more : List Entry) → Legal disks (log ++ more)
    → Legal disks log
legal_front disks log more legal =
    subst (Legal disks) (take-append_seam log more)
    (prefixes_are_legal disks (log ++ more) (length log) legal)

-- ---- one disk of a machine

act_for_disk : (capacities : List ℕ) (disk capacity : ℕ) (log : List Entry) (who : ℕ) (act : Act)
    → HasDisk (all_of capacities) disk capacity
    → ActMayStand (all_of capacities) log who act → ActMayStand (only disk capacity) log who act
act_for_disk capacities disk capacity log who (Write other first sectors) has stands = record {
  running = stands.running;
  some_sectors = stands.some_sectors;
  few_sectors = stands.few_sectors;
  within = λ same. subst (λ n. first + length sectors ≤ n) (ap (capacity_of capacities) same
      ∙ has.1) stands.within.1;
  room = stands.room;
}
act_for_disk capacities disk capacity log who (Snap id owner) has stands = stands
act_for_disk capacities disk capacity log who (Remove id) has stands = stands
act_for_disk capacities disk capacity log who (Reset other) has stands = tt
act_for_disk capacities disk capacity log who Enable has stands = stands
act_for_disk capacities disk capacity log who Off has stands = stands
act_for_disk capacities disk capacity log who On has stands = stands

pub legal_for_each_disk : LegalForEachDisk
legal_for_each_disk capacities disk capacity log has legal = record {
  short = legal.short;
  each = λ place e read. act_for_disk capacities disk capacity (take place log) e.who e.act has
      (legal.each place e read);
}

pub legal_grew : LegalGrew
legal_grew disks log e legal = let short = legal.short in
    (legal_last disks log e legal, omega (arith, short, length-append log (e ∷ [])))
