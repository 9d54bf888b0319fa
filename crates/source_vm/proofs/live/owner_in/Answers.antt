use Rattle.std.proofs.Common.{◌≡◌, ◌≢◌, ℕ, List, length, Option, Some, None, Bor, subst, ap, sym, ◌∙◌, arith}
use Rattle.std.proofs.lemmas.Option.{slice_get_within, slice_get_read, same_Some, none-some}
use Rattle.std.specs.List.{slice_get}
use Rattle.std.specs.Slice.{IsItemAt}
use Rattle.source_vm.specs.declared.live.LiveSnap.{LiveSnap}
use Rattle.source_vm.specs.Live.{owner_in}
use Rattle.source_vm.proofs.LiveLemmas.{owner_in-at, none_of_id}
use Rattle.source_vm.proofs.live.owner_in.Goals as goal

-- the item that was found stands at the place
item_at : (xs : List LiveSnap) (place : ℕ) (r : Option (Bor LiveSnap)) (x : Bor LiveSnap)
    → IsItemAt xs place r → r ≡ Some x → slice_get xs place ≡ Some x.now
item_at xs place r x is found =
    let at = subst (IsItemAt xs place) found is in
    slice_get_read xs (length xs) place x.now (omega arith) at.3.0 at.1

other_there : (s : ℕ) (xs : List LiveSnap) (place : ℕ) (r : Option (Bor LiveSnap))
    (x : Bor LiveSnap) → IsItemAt xs place r → r ≡ Some x → x.now.id ≢ s → (y : LiveSnap)
    → slice_get xs place ≡ Some y → y.id ≢ s
other_there s xs place r x is found other y at same =
    let is_x : ◌≡◌ {A = Option LiveSnap} (Some x.now) (Some y) =
    sym (item_at xs place r x is found) ∙ at in
    other (ap (λ (z : LiveSnap). z.id) (same_Some x.now y is_x) ∙ same)

none_there : (s : ℕ) (xs : List LiveSnap) (place : ℕ) (r : Option (Bor LiveSnap))
    → IsItemAt xs place r → r ≡ None → (y : LiveSnap) → slice_get xs place ≡ Some y → y.id ≢ s
none_there s xs place None is none y at same =
    absurd (omega (arith, is.3, slice_get_within xs place y at))
none_there s xs place (Some x) is none y at same = absurd (none-some x (sym none))

pub returns-in-Some : goal.returns-in-Some
returns-in-Some c =
    let xs : List LiveSnap = c.args.live.now in
    let x : LiveSnap = c.in-Some.snap.now in
    let at : slice_get xs c.place_from.result ≡ Some x =
    item_at xs c.place_from.result c.get.result c.in-Some.snap c.get.ensures.lookup c.in-Some.is
    in
    sym (owner_in-at xs c.place_from.result x c.requires at)
    ∙ ap (λ s. owner_in s xs) c.if-snap-id.true

pub returns-in_default : goal.returns-in_default
returns-in_default c =
    let xs : List LiveSnap = c.args.live.now in
    sym (none_of_id c.args.id xs c.place_from.result c.requires c.place_from.ensures.point
    (other_there c.args.id xs c.place_from.result c.get.result c.in-Some.snap c.get.ensures.lookup
    c.in-Some.is c.if-snap-id.false))

pub returns-in_default-2 : goal.returns-in_default-2
returns-in_default-2 c =
    let xs : List LiveSnap = c.args.live.now in
    sym (none_of_id c.args.id xs c.place_from.result c.requires c.place_from.ensures.point
    (none_there c.args.id xs c.place_from.result c.get.result c.get.ensures.lookup c.in_default.is))
