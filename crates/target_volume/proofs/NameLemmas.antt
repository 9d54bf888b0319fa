-- Names that compare alike are one, and what is found under a name after another step.
use Rattle.std.proofs.Common.{◌≡◌, ◌≢◌, ℕ, false, List, Some, None, Ordering, Less, Equal, Greater, ap, sym, refl}
use Rattle.std.specs.BTreeMap.{is_at}
use Rattle.std.proofs.lemmas.Bool.{false_from_ne_true}
use Rattle.std.proofs.lemmas.Map.Lookups.{CmpEqualImpliesEq, exact_bytes, exact_pairs, exact_unsigned}
use Rattle.std.proofs.lemmas.Map.Views.{tells_apart}
use Rattle.std.specs.Cmp.Lexicographic.{slice_cmp}
use Rattle.std.specs.Ordering.{nat_cmp, ordering_then}
use Rattle.target_volume.proofs.PairLemmas.{lookup-insert_entry_same, lookup-insert_entry_other, insert_entry-insert_entry, lookup-without_same, lookup-without_other, without-insert_entry, insert_entry-found, sorted-insert_entry, sorted-without}
use Rattle.target_volume.specs.VolumeName.{volume_cmp, volumes_total, find_volume, with_volume, without_volume, AreAscending}
use Rattle.target_volume.specs.declared.volume_name.VolumeName.{VolumeName}
use Rattle.target_volume.specs.declared.volume_name.VolumeName.TheVariants.{Given, Disk}

equal_first : (o p : Ordering) → ordering_then o p ≡ Equal → (o ≡ Equal) × (p ≡ Equal)
equal_first Less p h = cc
equal_first Equal p h = (refl, h)
equal_first Greater p h = cc

pub then_equal : (o : Ordering) → o ≡ ordering_then o Equal
then_equal Less = refl
then_equal Equal = refl
then_equal Greater = refl

pub exact_volumes : CmpEqualImpliesEq volume_cmp
exact_volumes (Given a) (Given b) h =
    ap Given (exact_bytes a b (equal_first (slice_cmp nat_cmp a b) Equal h).0)
exact_volumes (Given a) (Disk m d) h = cc
exact_volumes (Disk m d) (Given b) h = cc
exact_volumes (Disk m d) (Disk n e) h =
    ap (λ (p : ℕ × ℕ). Disk p.0 p.1)
    (exact_pairs nat_cmp nat_cmp exact_unsigned exact_unsigned (m, d) (n, e) h)

-- no other name is at a name
pub apart : (name other : VolumeName) → other ≢ name → is_at (volume_cmp name) other ≡ false
apart name other differ =
    false_from_ne_true (is_at (volume_cmp name) other)
    (λ h. differ (sym (tells_apart exact_volumes name other h)))

module _ {X : Type 0} where
  -- what was put in under a name is found there
  pub find-with_same : (name : VolumeName) (x : X) (pairs : List (VolumeName × X))
      → find_volume name (with_volume name x pairs) ≡ Some x
  find-with_same name x pairs = lookup-insert_entry_same volumes_total name x pairs

  -- and under another name what was found before
  pub find-with_other : (name other : VolumeName) (x : X) (pairs : List (VolumeName × X))
      → other ≢ name → find_volume other (with_volume name x pairs) ≡ find_volume other pairs
  find-with_other name other x pairs differ =
      lookup-insert_entry_other volumes_total name other x pairs
      (apart other name (λ h. differ (sym h)))

  -- of two values under one name the second stands
  pub with-with : (name : VolumeName) (x y : X) (pairs : List (VolumeName × X))
      → with_volume name y (with_volume name x pairs) ≡ with_volume name y pairs
  with-with name x y pairs = insert_entry-insert_entry volumes_total name x y pairs

  -- what was taken out is missing
  pub find-without_same : (name : VolumeName) (pairs : List (VolumeName × X))
      → find_volume name (without_volume name pairs) ≡ None
  find-without_same name pairs = lookup-without_same volumes_total name pairs

  -- and under another name there is what was found before
  pub find-without_other : (name other : VolumeName) (pairs : List (VolumeName × X))
      → other ≢ name → find_volume other (without_volume name pairs) ≡ find_volume other pairs
  find-without_other name other pairs differ =
      lookup-without_other volumes_total name other pairs (apart other name (λ h. differ (sym h)))

  -- what was put in under a name that was missing, and taken out again, leaves the list
  pub without-with : (name : VolumeName) (x : X) (pairs : List (VolumeName × X))
      → find_volume name pairs ≡ None
      → without_volume name (with_volume name x pairs) ≡ pairs
  without-with name x pairs none = without-insert_entry volumes_total name x pairs none

  -- lists stay in order
  pub ascending-with : (name : VolumeName) (x : X) (pairs : List (VolumeName × X))
      → AreAscending pairs → AreAscending (with_volume name x pairs)
  ascending-with name x pairs ordered = sorted-insert_entry volumes_total name x pairs ordered

  pub ascending-without : (name : VolumeName) (pairs : List (VolumeName × X))
      → AreAscending pairs → AreAscending (without_volume name pairs)
  ascending-without name pairs ordered = sorted-without volume_cmp name pairs ordered

  -- what stands under a name already, put in again, leaves the list
  pub with-found : (name : VolumeName) (x : X) (pairs : List (VolumeName × X))
      → AreAscending pairs → find_volume name pairs ≡ Some x → with_volume name x pairs ≡ pairs
  with-found name x pairs ordered found =
      insert_entry-found volumes_total name x pairs ordered found
