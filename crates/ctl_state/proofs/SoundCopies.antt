-- What each change of a migration's copies leaves of what is known of them.
use Rattle.std.proofs.Common.{◌≡◌, ℕ, zero, suc, ◌+◌, ◌<◌, ◌≤◌, List, [], ◌∷◌, ◌++◌, length, set, Bool, true, false, ◌&&◌, cond, not, Option, Some, None, map, is_some, refl, sym, ap, subst, ◌∙◌, arith}
use Rattle.std.specs.Prelude.{IsSome, IsSomeAnd, slice_get, slice_set}
use Rattle.std.specs.List.{AllByRecursion}
use Rattle.std.specs.Option.{option_map_or}
use Rattle.std.proofs.lemmas.Bool.{and_parts}
use Rattle.basics.proofs.Each.{each}
use Rattle.change_id.specs.declared.ChangeId.{ChangeId}
use Rattle.ctl_state.specs.declared.copies.DiskCopy.{DiskCopy}
use Rattle.ctl_state.specs.Migration.{all_done, named_copies, named_copy, change_at}

-- a fact of each is one of each that is changed
pub each-map : (P Q : DiskCopy → Type 0) (f : DiskCopy → DiskCopy)
    → ((c : DiskCopy) → P c → Q (f c)) → (copies : List DiskCopy) → AllByRecursion P copies
    → AllByRecursion Q (map f copies)
each-map P Q f step [] h = tt
each-map P Q f step (c ∷ copies) h = (step c h.0, each-map P Q f step copies h.1)

pub each-named : (P Q : DiskCopy → Type 0)
    → ((c : DiskCopy) (id : ChangeId) → P c → Q (named_copy id c))
    → (copies : List DiskCopy) (ids : List ChangeId) → length ids ≡ length copies
    → AllByRecursion P copies
    → AllByRecursion Q (named_copies copies ids)
each-named P Q step [] ids e h = tt
each-named P Q step (c ∷ copies) [] e h = absurd (omega (arith, e))
each-named P Q step (c ∷ copies) (id ∷ ids) e h =
    (step c id h.0, each-named P Q step copies ids (omega (arith, e)) h.1)

-- whether all are done depends on that alone
pub done-map : (f : DiskCopy → DiskCopy) → ((c : DiskCopy) → (f c).done ≡ c.done)
    → (copies : List DiskCopy) → all_done (map f copies) ≡ all_done copies
done-map f same [] = refl
done-map f same (c ∷ copies) = ap (λ (b : Bool). b && all_done (map f copies)) (same c)
    ∙ ap (λ (b : Bool). c.done && b) (done-map f same copies)

pub done-named : (copies : List DiskCopy) (ids : List ChangeId)
    → all_done (named_copies copies ids) ≡ all_done copies
done-named [] ids = refl
done-named (c ∷ copies) [] = refl
done-named (c ∷ copies) (id ∷ ids) = ap (λ (b : Bool). c.done && b) (done-named copies ids)

-- a list that isn't empty of copies that aren't done
pub none-done : (copies : List DiskCopy) → 1 ≤ length copies
    → AllByRecursion (λ c. c.done ≡ false) copies → all_done copies ≡ false
none-done [] few h = absurd (omega (arith, few))
none-done (c ∷ copies) few h = ap (λ (b : Bool). b && all_done copies) h.0

pub each-done : (copies : List DiskCopy) → all_done copies ≡ true
    → AllByRecursion (λ c. c.done ≡ true) copies
each-done [] h = tt
each-done (c ∷ copies) h = let parts = and_parts c.done (all_done copies) h in
    (parts.0, each-done copies parts.1)

-- ---- one of them

change-rest : (P Q : DiskCopy → Type 0) (f : DiskCopy → DiskCopy) → ((c : DiskCopy) → P c → Q c)
    → (copies : List DiskCopy) (i : ℕ) (c : DiskCopy) (found : Option DiskCopy) → P c
    → AllByRecursion Q (option_map_or (λ x. slice_set copies i (f x)) found copies)
    → AllByRecursion Q (option_map_or (λ x. slice_set (c ∷ copies) (suc i) (f x)) found
    (c ∷ copies))
change-rest P Q f stay copies i c None p k = (stay c p, k)
change-rest P Q f stay copies i c (Some x) p k = (stay c p, k)

pub each-change : (P Q : DiskCopy → Type 0) (f : DiskCopy → DiskCopy) → ((c : DiskCopy) → P c → Q c)
    → ((c : DiskCopy) → P c → Q (f c)) → (copies : List DiskCopy) (i : ℕ) → AllByRecursion P copies
    → AllByRecursion Q (change_at copies i f)
each-change P Q f stay step [] i h = tt
each-change P Q f stay step (c ∷ copies) zero h = (step c h.0, each stay copies h.1)
each-change P Q f stay step (c ∷ copies) (suc i) h =
    change-rest P Q f stay copies i c (slice_get copies i) h.0
    (each-change P Q f stay step copies i h.1)

part-rest : {X : Type 0} (part : List DiskCopy → X) → (f : DiskCopy → DiskCopy)
    → ((c : DiskCopy) (one other : List DiskCopy) → part one ≡ part other
    → part (c ∷ one) ≡ part (c ∷ other)) → (copies : List DiskCopy) (i : ℕ) (c : DiskCopy)
    → (found : Option DiskCopy)
    → part (option_map_or (λ x. slice_set copies i (f x)) found copies) ≡ part copies
    → part (option_map_or (λ x. slice_set (c ∷ copies) (suc i) (f x)) found (c ∷ copies))
    ≡ part (c ∷ copies)
part-rest part f goes copies i c None k = refl
part-rest part f goes copies i c (Some x) k = goes c (slice_set copies i (f x)) copies k

-- a change that leaves a part of each copy leaves that part of the list
pub part-change : {X : Type 0} (part : List DiskCopy → X) → (f : DiskCopy → DiskCopy)
    → ((c : DiskCopy) (copies : List DiskCopy) → part (f c ∷ copies) ≡ part (c ∷ copies))
    → ((c : DiskCopy) (one other : List DiskCopy) → part one ≡ part other
    → part (c ∷ one) ≡ part (c ∷ other)) → (copies : List DiskCopy) (i : ℕ)
    → part (change_at copies i f) ≡ part copies
part-change part f same goes [] i = refl
part-change part f same goes (c ∷ copies) zero = same c copies
part-change part f same goes (c ∷ copies) (suc i) =
    part-rest part f goes copies i c (slice_get copies i) (part-change part f same goes copies i)

pub length-change : (f : DiskCopy → DiskCopy) (copies : List DiskCopy) (i : ℕ)
    → length (change_at copies i f) ≡ length copies
length-change f copies i =
    part-change length f (λ c copies. refl) (λ c one other e. ap suc e) copies i

pub done-change : (f : DiskCopy → DiskCopy) → ((c : DiskCopy) → (f c).done ≡ c.done)
    → (copies : List DiskCopy) (i : ℕ) → all_done (change_at copies i f) ≡ all_done copies
done-change f same copies i =
    part-change all_done f (λ c copies. ap (λ (b : Bool). b && all_done copies) (same c))
    (λ c one other e. ap (λ (b : Bool). c.done && b) e) copies i
