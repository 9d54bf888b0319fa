-- The place of a Snap entry is its snapshot's mark, and marks ascend.
use Rattle.std.proofs.Common.{◌≡◌, ℕ, suc, ◌+◌, ◌<◌, ◌≤◌, List, [], ◌∷◌, ◌++◌, length, take, get_or, Bool, true, false, cond, Some, refl, sym, ap, ◌∙◌, arith, inl, inr}
use Rattle.std.specs.List.{slice_get}
use Rattle.std.proofs.lemmas.Bool.{eqb-true, eq-eqb, cases_lt, false≢true}
use Rattle.std.proofs.lemmas.Option.{same_Some, slice_get_within, slice_get-get_or, get_or_from_slice_get}
use Rattle.std.proofs.lemmas.List.{take-take}
use Rattle.std.proofs.lemmas.List.Sums.{sum_by-take-le, position_or_len_is}
use Rattle.log_model.specs.declared.entry.Act.{Act}
use Rattle.log_model.specs.declared.entry.Act.TheVariants.{Write, Snap, Remove, Reset, Enable, Off, On}
use Rattle.log_model.specs.declared.entry.Entry.{Entry}
use Rattle.log_model.specs.Entry.{is_snap, takes}
use Rattle.log_model.specs.Legal.{Disks, Legal, ActMayStand, taken}
use Rattle.log_model.specs.Marks.{takes_in, mark}
use Rattle.log_model.specs.Laws.{SnapsHaveTheirMarks, EachWasTaken, MarksAscend, LiveWasTaken}
use Rattle.change_id.proofs.Ends.{by_last, at_place}
use Rattle.log_model.proofs.LegalLogs.{legal_last, legal_front}
use Rattle.log_model.proofs.OwnedLaws.{taken-append, owned_taken}
use Rattle.change_id.proofs.IdMarks.{takes-at_mark}
use Rattle.log_model.proofs.Readings.{snap-takes}
use Rattle.log_model.proofs.Live.{mark-pushed, mark-kept, live_taken}

taken-take-le : (m k : ℕ) (log : List Entry) → m ≤ k → taken (take m log) ≤ taken (take k log)
taken-take-le m k log le =
    let e : taken (take m (take k log)) ≡ taken (take m log) = ap taken (take-take m k log le) in
    let h = sum_by-take-le (λ x. cond (is_snap x.act) 1 0) (take k log) m in
    omega (arith, e, h)

-- the number that a Snap entry gives its snapshot
number-given : (disks : Disks) (log : List Entry) (who s : ℕ) (act : Act) → takes s act ≡ true
    → ActMayStand disks log who act → s ≡ taken log + 1
number-given disks log who s (Write disk first sectors) h stands = absurd (false≢true h)
number-given disks log who s (Snap id owner) h stands = sym (eqb-true id s h) ∙ stands.0
number-given disks log who s (Remove id) h stands = absurd (false≢true h)
number-given disks log who s (Reset disk) h stands = absurd (false≢true h)
number-given disks log who s Enable h stands = absurd (false≢true h)
number-given disks log who s Off h stands = absurd (false≢true h)
number-given disks log who s On h stands = absurd (false≢true h)

number-at : (disks : Disks) (log : List Entry) (s k : ℕ) (e : Entry) → Legal disks log
    → slice_get log k ≡ Some e → takes s e.act ≡ true → s ≡ taken (take k log) + 1
number-at disks log s k e legal read here =
    number-given disks (take k log) e.who s e.act here (legal.each k e read)

-- behind a Snap entry one more is taken
taken-next : (log : List Entry) (k : ℕ) (e : Entry) → k < length log → slice_get log k ≡ Some e
    → is_snap e.act ≡ true → taken (take (suc k) log) ≡ taken (take k log) + 1
taken-next log k e within read snap =
    let here = at_place log k within in
    let same : here.0 ≡ e = same_Some here.0 e (sym here.1 ∙ read) in
    let one : taken (here.0 ∷ []) ≡ 1 =
    ap (λ (x : Entry). taken (x ∷ [])) same ∙ ap (λ b. 0 + cond b 1 0) snap in
    let sums = taken-append (take k log) (here.0 ∷ []) in
    let upto : taken (take (suc k) log) ≡ taken (take k log ++ here.0 ∷ []) = ap taken here.2 in
    omega (arith, one, sums, upto)

-- an earlier entry doesn't take the snapshot
earlier : (disks : Disks) (log : List Entry) (s place k : ℕ) (d : Entry) (b : Bool)
    → Legal disks log → s ≡ taken (take place log) + 1 → k < place → k < length log
    → takes s (get_or log k d).act ≡ b → b ≡ false
earlier disks log s place k d false legal next less within is = refl
earlier disks log s place k d true legal next less within is =
    let x : Entry = get_or log k d in
    let read : slice_get log k ≡ Some x = slice_get-get_or log k d within in
    let number = number-at disks log s k x legal read is in
    let step = taken-next log k x within read (snap-takes s x.act is) in
    let more = taken-take-le (suc k) place log (omega arith) in
    absurd (omega (arith, number, step, more, next))

pub snaps_have_their_marks : SnapsHaveTheirMarks
snaps_have_their_marks disks log s place e legal read here =
    let within : place < length log = slice_get_within log place e read in
    let next = number-at disks log s place e legal read here in
    record {
      mark_is = position_or_len_is (λ x. takes s x.act) log place e (omega (arith, within))
          (λ k less. earlier disks log s place k e (takes s (get_or log k e).act) legal next less
          (omega (arith, within)) refl)
          (λ _. ap (λ (x : Entry). takes s x.act) (get_or_from_slice_get log place e e read)
          ∙ here);
      next = next;
    }

-- ---- each number was given

last-taken : (disks : Disks) (log : List Entry) (who s : ℕ) (act : Act)
    → ActMayStand disks log who act → taken log < s
    → s ≤ taken log + taken (record { who = who; act = act } ∷ [])
    → takes s act ≡ true
last-taken disks log who s (Write disk first sectors) stands low high = absurd (omega arith)
last-taken disks log who s (Snap id owner) stands low high = let next = stands.0 in
    eq-eqb id s (omega (arith, next))
last-taken disks log who s (Remove id) stands low high = absurd (omega arith)
last-taken disks log who s (Reset disk) stands low high = absurd (omega arith)
last-taken disks log who s Enable stands low high = absurd (omega arith)
last-taken disks log who s Off stands low high = absurd (omega arith)
last-taken disks log who s On stands low high = absurd (omega arith)

abbrev AllTaken : Disks → List Entry → Type 0
AllTaken disks log = (s : ℕ) → Legal disks log → 1 ≤ s → s ≤ taken log → mark s log < length log

taken-more : (disks : Disks) (log : List Entry) (e : Entry) → AllTaken disks log
    → AllTaken disks (log ++ e ∷ [])
taken-more disks log e rest s legal low high =
    elim (cases_lt (taken log) s) [
      | inr old ↦ mark-kept s log e (rest s (legal_front disks log (e ∷ []) legal) low old)
      | inl new ↦ let sums = taken-append log (e ∷ []) in
          mark-pushed s log e (last-taken disks log e.who s e.act (legal_last disks log e legal) new
          (omega (arith, sums, high)))
    ]

pub each_was_taken : EachWasTaken
each_was_taken disks log s legal low high =
    by_last (AllTaken disks) (λ s _ low high. absurd (omega arith))
    (λ log e rest. taken-more disks log e rest) log s legal low high

number-of_mark : (disks : Disks) (log : List Entry) (s : ℕ) → Legal disks log
    → mark s log < length log → s ≡ taken (take (mark s log) log) + 1
number-of_mark disks log s legal within =
    let here = at_place log (mark s log) within in
    number-at disks log s (mark s log) here.0 legal here.1
    (takes-at_mark takes_in s log here.0 here.1)

pub marks_ascend : MarksAscend
marks_ascend disks log s t legal low less high =
    let first = number-of_mark disks log s legal
    (each_was_taken disks log s legal low (omega arith)) in
    let second = number-of_mark disks log t legal
    (each_was_taken disks log t legal (omega arith) high) in
    elim (cases_lt (mark s log) (mark t log)) [
      | inl before ↦ before
      | inr behind ↦ let fewer = taken-take-le (mark t log) (mark s log) log behind in
          absurd (omega (arith, first, second, fewer, less))
    ]

pub live_was_taken : LiveWasTaken
live_was_taken disks log s owner legal live =
    let within = live_taken log s owner live in
    let number = number-of_mark disks log s legal within in
    record {
      from = omega (arith, number);
      upto = owned_taken disks log legal s owner live;
      within =
          within;
    }
