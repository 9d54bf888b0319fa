use Rattle.std.proofs.Common.{◌≡◌, ◌≢◌, ℕ, ◌+◌, ◌-◌, ◌⊎◌, inl, inr, List, length, take, drop, get_or, Some, subst, sym, ap, ◌∙◌, arith, rules}
use Rattle.std.proofs.lemmas.Bool.{cases_eq}
use Rattle.std.proofs.lemmas.Option.{same_Some, slice_get-get_or}
use Rattle.std.specs.List.{slice_get}
use Rattle.basics.proofs.ItemAt.{take-drop_rest}
use Rattle.log_model.specs.declared.entry.Owner.{Owner}
use Rattle.source_vm.specs.declared.live.LiveSnap.{LiveSnap}
use Rattle.source_vm.proofs.LiveLemmas.{NoneOf, none_owned, least_owned, snap}
use Rattle.source_vm.proofs.live.least_owned_in.Goals as goal

-- one place more has another owner
none_more : (by : Owner) (later : List LiveSnap) (i : ℕ) (x : LiveSnap) → NoneOf by later i
    → slice_get later i ≡ Some x → x.owner ≢ by → NoneOf by later (i + 1)
none_more by later i x none at other k y less read = by_place (cases_eq k i)
  where
    by_place : (k ≡ i) ⊎ (k ≢ i) → y.owner ≢ by
    by_place (inl same) has =
        other (ap (λ (z : LiveSnap). z.owner)
        (same_Some x y (sym at ∙ ap (slice_get later) (sym same) ∙ read)) ∙ has)
    by_place (inr before) has = none k y (omega arith) read has

pub returns-then-eq : goal.returns-then-eq
returns-then-eq c =
    let xs : List LiveSnap = c.args.live.now in
    let place : ℕ = c.place_from.result in
    let i : ℕ = c.loop-snap.snap-index in
    let later : List LiveSnap = take (length xs - place) (drop place xs) in
    let x : LiveSnap = get_or later i (snap 0 Owner.Operator) in
    let has : x.owner ≡ c.args.owner = search rules in
    let at : slice_get later i ≡ Some x =
    slice_get-get_or later i (snap 0 Owner.Operator) c.loop-snap-test.true in
    least_owned c.args.owner c.args.from place i xs x c.requires c.place_from.ensures.point
    (subst (λ (ys : List LiveSnap). NoneOf c.args.owner ys i) (take-drop_rest xs place)
    c.loop-snap.invariant)
    (subst (λ (ys : List LiveSnap). slice_get ys i ≡ Some x) (take-drop_rest xs place) at) has

pub loop-snap-preserved : goal.loop-snap-preserved
loop-snap-preserved c =
    let xs : List LiveSnap = c.args.live.now in
    let place : ℕ = c.place_from.result in
    let i : ℕ = c.loop-snap.snap-index in
    let later : List LiveSnap = take (length xs - place) (drop place xs) in
    let x : LiveSnap = get_or later i (snap 0 Owner.Operator) in
    let other : x.owner ≢ c.args.owner = search rules in
    none_more c.args.owner later i x c.loop-snap.invariant
    (slice_get-get_or later i (snap 0 Owner.Operator) c.loop-snap-test.true) other

pub returns : goal.returns
returns c =
    let xs : List LiveSnap = c.args.live.now in
    let place : ℕ = c.place_from.result in
    let later : List LiveSnap = take (length xs - place) (drop place xs) in
    none_owned c.args.owner c.args.from place xs c.place_from.ensures.point
    (subst (λ (ys : List LiveSnap). NoneOf c.args.owner ys (length ys)) (take-drop_rest xs place)
    (λ k x less. c.loop-snap.invariant k x (omega (arith, c.loop-snap-test.false))))
