-- Records that stand, one more of them at a time, and the migrations that have their snapshots, one
-- more at a time.
use Rattle.std.proofs.Common.{◌≡◌, ℕ, ◌+◌, ◌-◌, ◌==◌, ◌<◌, ◌≤◌, Bool, true, false, cond, List, [], ◌∷◌, ◌++◌, length, take, drop, get_or, Some, None, Result, Ok, refl, ap, subst, sym, ◌∙◌, arith, below_more}
use Rattle.std.specs.Prelude.{slice_get, IsTrue, ◌↔◌}
use Rattle.std.proofs.lemmas.Bool.{eqb-true, false≢true}
use Rattle.std.proofs.lemmas.List.{take_all, length-take-le}
use Rattle.std.proofs.lemmas.Option.{same_Some, slice_get_within, slice_get_read}
use Rattle.basics.proofs.ItemAt.{take-next_read, split_around}
use Rattle.fleet.specs.Fleet.{FleetState}
use Rattle.record_codec.specs.declared.record.Record.{Record}
use Rattle.ctl_state.specs.declared.migration.Migration.{Migration}
use Rattle.ctl_state.specs.Fold.{IsStateOf}
use Rattle.ctl_state.specs.Value.{CtlValue, no_records, numbered}
use Rattle.ctl_state.proofs.FoldFacts.{goes_on}
use Rattle.ctl_state.proofs.ListFacts.{numbered_at}
use Rattle.restart.specs.BorneOut.{IsBorneOut, HasItsSnapshot}
use Rattle.restart.specs.Standing.{AreBorneOut, StandOver, Accepts, IsRejected, IsFirstStrange, HaveSnapshots, LackASnapshot}
use Rattle.restart.proofs.Splits.{same, earlier, later, two_splits, nothing_splits, none_behind}

-- ---- records that stand

pub one_value : (records : List Record) (v w : CtlValue) → IsStateOf v records
    → IsStateOf w records → v ≡ w
one_value records v w a b = let e : ◌≡◌ {A = Result CtlValue ℕ} (Ok v) (Ok w) = sym a ∙ b in cc

pub none_stand : (fleet : FleetState) → StandOver fleet [] no_records
none_stand fleet = record {
  come_to = refl;
  borne_out = λ front rest r v split come. absurd (nothing_splits front rest r split);
}

bears_more : (fleet : FleetState) (records : List Record) (v next : CtlValue) (r : Record)
    → StandOver fleet records v → Accepts fleet r v next → AreBorneOut fleet (records ++ r ∷ [])
bears_more fleet records v next r stand new front rest other w split come =
    elim (two_splits records [] front rest r other split) [
      | same is one ↦ (
          let value : v ≡ w = one_value front v w (subst (IsStateOf v) is stand.come_to) come in
          subst (λ (x : CtlValue). IsBorneOut fleet x other) value
          (subst (λ (x : Record). IsBorneOut fleet v x) one new.borne_out))
      | earlier between is ↦ absurd (none_behind records rest between front r other split is)
      | later between is ↦ stand.borne_out front between other w is come
    ]

pub stand_more : (fleet : FleetState) (records : List Record) (v next : CtlValue) (r : Record)
    → StandOver fleet records v → Accepts fleet r v next → StandOver fleet (records ++ r ∷ []) next
stand_more fleet records v next r stand new = record {
  come_to = goes_on v records r stand.come_to new.may_stand ∙ ap Ok (sym new.after_it);
  borne_out = bears_more fleet records v next r stand new;
}

-- ---- up to a place

pub record StandTo (fleet : FleetState) (records : List Record) (place : ℕ) (v : CtlValue)
    : Type 0 where
  pub stand : StandOver fleet (take place records) v

pub stand_to_none : (fleet : FleetState) (records : List Record) (v : CtlValue)
    → v ≡ no_records → StandTo fleet records 0 v
stand_to_none fleet records v is = record {
  stand = subst (StandOver fleet []) (sym is) (none_stand fleet);
}

pub stand_to_more : (fleet : FleetState) (records : List Record) (place : ℕ) (v next : CtlValue)
    (r : Record) → place < length records → r ≡ get_or records place r
    → StandTo fleet records place v → Accepts fleet r v next
    → StandTo fleet records (place + 1) next
stand_to_more fleet records place v next r within is to new =
    let longer : take (place + 1) records ≡ take place records ++ r ∷ [] =
    take-next_read records place r within is in
    record {
      stand = subst (λ (xs : List Record). StandOver fleet xs next) (sym longer)
          (stand_more fleet (take place records) v next r to.stand new);
    }

pub stand_to_all : (fleet : FleetState) (records : List Record) (place : ℕ) (v : CtlValue)
    → length records ≤ place → StandTo fleet records place v → StandOver fleet records v
stand_to_all fleet records place v end to =
    subst (λ (xs : List Record). StandOver fleet xs v) (take_all place records end) to.stand

pub strange_at : (fleet : FleetState) (records : List Record) (place : ℕ) (v : CtlValue)
    (r : Record) → place < length records → r ≡ get_or records place r
    → StandTo fleet records place v → IsRejected fleet v r
    → IsFirstStrange fleet records (place + 1)
strange_at fleet records place v r within is to denied =
    let long : length (take place records) ≡ place =
    length-take-le place records (omega (arith, within)) in
    record {
      front = take place records;
      strange = r;
      rest = drop (place + 1) records;
      value = v;
      split = split_around records place r within is;
      counted = ap (λ n. n + 1) (sym long);
      before = to.stand;
      rejected = denied;
    }

-- ---- snapshots

-- the migrations before a place have theirs
abbrev pub HaveTo : FleetState → (place : ℕ) → List Migration → Type 0
HaveTo fleet place migrations = (k : ℕ) → k < place → (m : Migration)
    → slice_get migrations k ≡ Some m → HasItsSnapshot fleet m

pub have_more : (fleet : FleetState) (migrations : List Migration) (place : ℕ) (m : Migration)
    → place < length migrations → m ≡ get_or migrations place m → HaveTo fleet place migrations
    → HasItsSnapshot fleet m → HaveTo fleet (place + 1) migrations
have_more fleet migrations place m within is to has =
    below_more (λ k. (n : Migration) → slice_get migrations k ≡ Some n → HasItsSnapshot fleet n)
    place to (λ n at. subst (HasItsSnapshot fleet) (same_Some m n
    (sym (slice_get_read migrations (length migrations) place m refl within is) ∙ at)) has)

pub have_all : (fleet : FleetState) (v : CtlValue) (migrations : List Migration) (place : ℕ)
    → migrations ≡ v.migrations → length migrations ≤ place → HaveTo fleet place migrations
    → HaveSnapshots fleet v
have_all fleet v migrations place all end to mig m there =
    let at : slice_get migrations (mig - 1) ≡ Some m =
    ap (λ (xs : List Migration). slice_get xs (mig - 1)) all
    ∙ (numbered_at v.migrations mig m there).1 in
    let within = slice_get_within migrations (mig - 1) m at in
    to (mig - 1) (omega (arith, within, end)) m at

numbered_next : {X : Type 0} (xs : List X) (place : ℕ)
    → numbered xs (place + 1) ≡ slice_get xs place
numbered_next {X} xs place = test (place + 1 == 0) refl
  where
    test : (b : Bool) → (place + 1 == 0) ≡ b
        → cond b None (slice_get xs (place + 1 - 1)) ≡ slice_get xs place
    test true e = absurd (omega (arith, eqb-true (place + 1) 0 e))
    test false e = let back : place + 1 - 1 ≡ place = omega arith in ap (slice_get xs) back

pub one_lacks : (fleet : FleetState) (v : CtlValue) (migrations : List Migration) (place : ℕ)
    (m : Migration) → migrations ≡ v.migrations → place < length migrations
    → m ≡ get_or migrations place m → ¬ HasItsSnapshot fleet m → LackASnapshot fleet v
one_lacks fleet v migrations place m all within is lacking = record {
  mig = place + 1;
  migration = m;
  known = numbered_next v.migrations place
      ∙ ap (λ (xs : List Migration). slice_get xs place) (sym all)
      ∙ slice_get_read migrations (length migrations) place m refl within is;
  lacks = lacking;
}

-- ---- what a test told

pub told_false : {P : Type 0} (said : Bool) → (IsTrue said ↔ P) → said ≡ false → ¬ P
told_false said tells is holds = false≢true (sym is ∙ tells.1 holds)
