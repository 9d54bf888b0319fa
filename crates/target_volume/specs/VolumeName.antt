-- The order of the names of volumes, and lists of pairs of a name and a value in that order,
-- which is how a store tells its volumes and what it has lent out: plain data, read by the words
-- below alone.
use Rattle.std.specs.Prelude.{ℕ, List, [], Option, not}
use Rattle.std.specs.List.{filter}
use Rattle.std.specs.List.Sorted.{IsStrictlySortedBy}
use Rattle.std.specs.Map.{keys_of, lookup}
use Rattle.std.specs.BTreeMap.{is_at, insert_entry}
use Rattle.std.specs.Cmp.{IsTotalOrder, IsEquivalence, IsPartialEquivalence, partial_equiv_from_equiv, eq_by_cmp_equiv, then_total, on_total, nat_cmp_total}
use Rattle.std.specs.Cmp.Lexicographic.{slice_cmp, nat_list_cmp_total}
use Rattle.std.specs.Ordering.{nat_cmp, then_cmp, on, eq_by_cmp}
use Rattle.std.specs.declared.cmp.Ordering.{Ordering}
use Rattle.target_volume.specs.declared.volume_name.VolumeName.{VolumeName}
use Rattle.target_volume.specs.declared.volume_name.VolumeName.TheVariants.{Given, Disk}

-- those of single moves come first
abbrev pub kind_of : VolumeName → ℕ
kind_of (Given text) = 0
kind_of (Disk m d) = 1

abbrev pub text_of : VolumeName → List ℕ
text_of (Given text) = text
text_of (Disk m d) = []

abbrev pub mig_of : VolumeName → ℕ
mig_of (Given text) = 0
mig_of (Disk m d) = m

abbrev pub disk_of : VolumeName → ℕ
disk_of (Given text) = 0
disk_of (Disk m d) = d

-- by kind, then by text, by migration and by disk
abbrev pub volume_cmp : VolumeName → VolumeName → Ordering
volume_cmp = then_cmp (on kind_of nat_cmp)
    (then_cmp (on text_of (slice_cmp nat_cmp))
    (then_cmp (on mig_of nat_cmp) (on disk_of nat_cmp)))

pub volumes_total : IsTotalOrder volume_cmp
volumes_total = then_total (on_total kind_of nat_cmp_total)
    (then_total (on_total text_of nat_list_cmp_total)
    (then_total (on_total mig_of nat_cmp_total) (on_total disk_of nat_cmp_total)))

pub volumes_equivalent : IsEquivalence (eq_by_cmp volume_cmp)
volumes_equivalent = eq_by_cmp_equiv volumes_total

pub volumes_partial : IsPartialEquivalence (eq_by_cmp volume_cmp)
volumes_partial = partial_equiv_from_equiv volumes_equivalent

-- what stands under a name
abbrev pub find_volume : {X : Type 0} → VolumeName → List (VolumeName × X) → Option X
find_volume name pairs = lookup (is_at (volume_cmp name)) pairs

-- with a value under a name, in place of what stood there, or else where the order puts the name
abbrev pub with_volume : {X : Type 0} → VolumeName → X → List (VolumeName × X)
    → List (VolumeName × X)
with_volume name x pairs = insert_entry volume_cmp pairs name x

-- without what stands under a name
abbrev pub without_volume : {X : Type 0} → VolumeName → List (VolumeName × X)
    → List (VolumeName × X)
without_volume name pairs = filter (λ pair. not (is_at (volume_cmp name) pair.0)) pairs

-- in ascending order of names, each of them once
abbrev pub AreAscending : {X : Type 0} → List (VolumeName × X) → Type 0
AreAscending pairs = IsStrictlySortedBy volume_cmp (keys_of pairs)
