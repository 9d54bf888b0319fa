-- Records are strange at one number at most, and at none where they are taken: none of those that
-- stand is rejected.
use Rattle.std.proofs.Common.{◌≡◌, ℕ, ◌+◌, ◌≤◌, true, false, List, [], ◌∷◌, ◌++◌, length, Ok, refl, ap, subst, sym, ◌∙◌, inl, inr, append_assoc, length-append, arith}
use Rattle.std.specs.Prelude.{Bool}
use Rattle.fleet.specs.Fleet.{FleetState}
use Rattle.record_codec.specs.declared.record.Record.{Record}
use Rattle.ctl_state.specs.Fold.{IsStateOf, after}
use Rattle.ctl_state.specs.MayStand.{record_may_stand}
use Rattle.ctl_state.specs.Value.{CtlValue, no_records, migration_in}
use Rattle.ctl_state.proofs.FoldFacts.{stops, strange_no}
use Rattle.ctl_state.proofs.ListFacts.{none-numbered}
use Rattle.restart.specs.Standing.{StandOver, IsRejected, IsFirstStrange, LackASnapshot, HaveSnapshots}
use Rattle.restart.specs.Laws.{StrangeAtOne, StrangeAmongThem, TakenAreNotStrange}
use Rattle.restart.proofs.Splits.{same, earlier, later, two_splits}
use Rattle.restart.proofs.Folding.{one_value}

-- each record of a list that comes to a value may stand behind those before it
pub next_may : (front rest : List Record) (r : Record) (v w : CtlValue) → IsStateOf v front
    → after (front ++ r ∷ rest) ≡ Ok w → record_may_stand v r ≡ true
next_may front rest r v w come good = by (record_may_stand v r) refl
  where
    by : (b : Bool) → record_may_stand v r ≡ b → b ≡ true
    by true is = refl
    by false is = absurd (strange_no (front ++ r ∷ []) rest w (length front + 1)
        (stops v front r come is) (ap after (append_assoc front (r ∷ []) rest) ∙ good))

-- none of those that stand is rejected
pub not_rejected : (fleet : FleetState) (records front rest : List Record) (r : Record)
    (v w : CtlValue) → StandOver fleet records w → records ≡ front ++ r ∷ rest → IsStateOf v front
    → IsRejected fleet v r → ⊥
not_rejected fleet records front rest r v w stand split come (inl not_may) =
    let yes = next_may front rest r v w come (sym (ap after split) ∙ stand.come_to) in
    let e : ◌≡◌ {A = Bool} true false = sym yes ∙ not_may in
    cc
not_rejected fleet records front rest r v w stand split come (inr unborne) =
    unborne (stand.borne_out front rest r v split come)

first_not : (fleet : FleetState) (records : List Record) (w : CtlValue) (number : ℕ)
    → StandOver fleet records w → IsFirstStrange fleet records number → ⊥
first_not fleet records w number stand first = not_rejected fleet records first.front first.rest
    first.strange first.value w stand first.split first.before.come_to first.rejected

lack_not : (fleet : FleetState) (v : CtlValue) → HaveSnapshots fleet v → LackASnapshot fleet v
    → ⊥
lack_not fleet v have lack = lack.lacks (have lack.mig lack.migration lack.known)

pub taken_not : TakenAreNotStrange
taken_not fleet records v number taken (inl first) =
    first_not fleet records v number taken.stand first
taken_not fleet records v number taken (inr last) =
    let value = one_value records last.value v last.stand.come_to taken.stand.come_to in
    lack_not fleet v taken.snapshots (subst (LackASnapshot fleet) value last.lack)

two_first : (fleet : FleetState) (records : List Record) (one other : ℕ)
    → IsFirstStrange fleet records one → IsFirstStrange fleet records other → one ≡ other
two_first fleet records one other a b =
    elim (two_splits a.front a.rest b.front b.rest a.strange b.strange (sym a.split ∙ b.split)) [
      | same is x ↦ a.counted ∙ ap (λ (xs : List Record). length xs + 1) is ∙ sym b.counted
      | earlier between is ↦ absurd (not_rejected fleet b.front a.front between a.strange a.value
          b.value b.before is a.before.come_to a.rejected)
      | later between is ↦ absurd (not_rejected fleet a.front b.front between b.strange b.value
          a.value a.before is b.before.come_to b.rejected)
    ]

pub strange_at_one : StrangeAtOne
strange_at_one fleet records one other (inl a) (inl b) = two_first fleet records one other a b
strange_at_one fleet records one other (inl a) (inr b) =
    absurd (first_not fleet records b.value one b.stand a)
strange_at_one fleet records one other (inr a) (inl b) =
    absurd (first_not fleet records a.value other a.stand b)
strange_at_one fleet records one other (inr a) (inr b) = a.counted ∙ sym b.counted

-- ---- the number is that of one of them

none_lack : (fleet : FleetState) (v : CtlValue) → IsStateOf v [] → LackASnapshot fleet v → ⊥
none_lack fleet v come lack =
    let e : no_records ≡ v = one_value [] no_records v refl come in
    none-numbered lack.mig lack.migration
    (ap (λ (x : CtlValue). migration_in x lack.mig) e ∙ lack.known)

some_records : (fleet : FleetState) (records : List Record) (v : CtlValue) → IsStateOf v records
    → LackASnapshot fleet v → 1 ≤ length records
some_records fleet [] v come lack = absurd (none_lack fleet v come lack)
some_records fleet (r ∷ records) v come lack = omega arith

pub strange_among : StrangeAmongThem
strange_among fleet records number (inl first) =
    let long = ap length first.split ∙ length-append first.front (first.strange ∷ first.rest) in
    (omega (arith, first.counted), omega (arith, long, first.counted))
strange_among fleet records number (inr last) =
    let some = some_records fleet records last.value last.stand.come_to last.lack in
    (omega (arith, some, last.counted), omega (arith, last.counted))
