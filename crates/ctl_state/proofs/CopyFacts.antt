-- Lists of copies of disks, as they are changed one by one.
use Rattle.std.proofs.Common.{◌≡◌, ℕ, zero, suc, ◌+◌, ◌*◌, ◌^◌, ◌<◌, ◌≤◌, List, [], ◌∷◌, ◌++◌, length, take, drop, set, get_or, refl, ap, sym, ◌∙◌, add-one, arith, All}
use Rattle.std.proofs.Common.{map, min, lit≤, lit<}
use Rattle.std.proofs.lemmas.List.{length-map}
use Rattle.std.proofs.Math.Seq.{drop-nil}
use Rattle.std.proofs.Math.Nat.{mul-le-mul_right}
use Rattle.std.specs.List.{sum_by, AllByRecursion}
use Rattle.std.proofs.lemmas.List.Sums.{sum_by-le}
use Rattle.std.proofs.lemmas.List.Elements.{All-from_recursion}
use Rattle.basics.specs.declared.limits.TheConstants.{MAX_DISKS}
use Rattle.ctl_state.specs.declared.copies.TheConstants.{MAX_STAGE_SECTORS}
use Rattle.change_id.specs.declared.ChangeId.{ChangeId}
use Rattle.ctl_state.specs.declared.copies.DiskCopy.{DiskCopy}
use Rattle.ctl_state.specs.Migration.{named_copy, named_copies, fresh_copy, unnamed_copy, sectors_written}

-- one more is named
pub name_next : (copies : List DiskCopy) (ids : List ChangeId) (i : ℕ) (c : DiskCopy)
    (id : ChangeId)
    → i < length copies → i < length ids
    → take (suc i) (set copies i (named_copy (get_or ids i id) (get_or copies i c)))
    ++ named_copies (drop (suc i) (set copies i (named_copy (get_or ids i id) (get_or copies i c))))
    (drop (suc i) ids)
    ≡ take i copies ++ named_copies (drop i copies) (drop i ids)
name_next [] ids i c id h k = absurd (omega (arith, h))
name_next (x ∷ copies) [] i c id h k = absurd (omega (arith, k))
name_next (x ∷ copies) (y ∷ ids) zero c id h k = refl
name_next (x ∷ copies) (y ∷ ids) (suc i) c id h k =
    ap (λ rest. x ∷ rest) (name_next copies ids i c id (omega (arith, h)) (omega (arith, k)))

-- without identifiers nothing is named
pub named-none : (copies : List DiskCopy) → named_copies copies [] ≡ copies
named-none [] = refl
named-none (x ∷ copies) = refl

-- what is true of every list of copies that is kept
abbrev pub Holds : List DiskCopy → Type 0
Holds copies = (length copies ≤ MAX_DISKS)
    × AllByRecursion (λ copy. copy.written ≤ MAX_STAGE_SECTORS) copies

renewed_small : (copies : List DiskCopy)
    → AllByRecursion (λ copy. copy.written ≤ MAX_STAGE_SECTORS) (map fresh_copy copies)
renewed_small [] = tt
renewed_small (x ∷ copies) = (lit≤ tt, renewed_small copies)

pub renewed_holds : (copies : List DiskCopy) → Holds copies → Holds (map fresh_copy copies)
renewed_holds copies h = (rw length-map h.0, renewed_small copies)

unnamed_small : (copies : List DiskCopy)
    → AllByRecursion (λ copy. copy.written ≤ MAX_STAGE_SECTORS) copies
    → AllByRecursion (λ copy. copy.written ≤ MAX_STAGE_SECTORS) (map unnamed_copy copies)
unnamed_small [] h = tt
unnamed_small (x ∷ copies) h = (h.0, unnamed_small copies h.1)

pub unnamed_holds : (copies : List DiskCopy) → Holds copies → Holds (map unnamed_copy copies)
unnamed_holds copies h = (rw length-map h.0, unnamed_small copies h.1)

pub length-named : (copies : List DiskCopy) (ids : List ChangeId)
    → length (named_copies copies ids) ≡ length copies
length-named [] ids = refl
length-named (x ∷ copies) [] = refl
length-named (x ∷ copies) (id ∷ ids) = ap (λ n. suc n) (length-named copies ids)

named_small : (copies : List DiskCopy) (ids : List ChangeId)
    → AllByRecursion (λ copy. copy.written ≤ MAX_STAGE_SECTORS) copies
    → AllByRecursion (λ copy. copy.written ≤ MAX_STAGE_SECTORS) (named_copies copies ids)
named_small [] ids h = tt
named_small (x ∷ copies) [] h = h
named_small (x ∷ copies) (id ∷ ids) h = (h.0, named_small copies ids h.1)

pub named_holds : (copies : List DiskCopy) (ids : List ChangeId)
    → Holds copies → Holds (named_copies copies ids)
named_holds copies ids h = (rw length-named h.0, named_small copies ids h.1)

-- so their sum has 64 bits
pub sum_fits : (copies : List DiskCopy) → Holds copies → sectors_written copies < 2 ^ 64
sum_fits copies h =
    let each = sum_by-le (λ (copy : DiskCopy). copy.written) MAX_STAGE_SECTORS copies
    (All-from_recursion (λ (copy : DiskCopy). copy.written ≤ MAX_STAGE_SECTORS) copies h.1) in
    let few : length copies * MAX_STAGE_SECTORS ≤ MAX_DISKS * MAX_STAGE_SECTORS =
    mul-le-mul_right MAX_STAGE_SECTORS h.0 in
    let most : MAX_DISKS * MAX_STAGE_SECTORS < 2 ^ 64 = lit< tt in
    omega (arith, each, few, most)

-- all are named once the index is past one of the ends
pub named_all : (copies now : List DiskCopy) (ids : List ChangeId) (i : ℕ)
    → take i now ++ named_copies (drop i now) (drop i ids) ≡ named_copies copies ids
    → min (length now) (length ids) ≤ i
    → now ≡ named_copies copies ids
named_all copies now ids i h past = first_end now ids i past ∙ h
  where
    first_end : (now : List DiskCopy) (ids : List ChangeId) (i : ℕ)
        → min (length now) (length ids) ≤ i
        → now ≡ take i now ++ named_copies (drop i now) (drop i ids)
    first_end [] ids zero past = refl
    first_end [] ids (suc i) past = refl
    first_end (x ∷ now) [] zero past = refl
    first_end (x ∷ now) [] (suc i) past =
        ap (λ rest. x ∷ rest) (first_end now [] i (omega arith)
        ∙ ap (λ empty. take i now ++ named_copies (drop i now) empty) (drop-nil i))
    first_end (x ∷ now) (y ∷ ids) zero past = absurd (omega (arith, past))
    first_end (x ∷ now) (y ∷ ids) (suc i) past =
        ap (λ rest. x ∷ rest) (first_end now ids i (omega (arith, past)))
