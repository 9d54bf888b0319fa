-- A volume that is lent out and taken back: what that leaves of its store.
use Rattle.std.proofs.Common.{◌≡◌, ℕ, ◌-◌, ◌≤◌, Bool, true, false, ◌&&◌, List, Option, Some, None, option_map, IsTrue, ap, ◌∙◌, refl, arith}
use Rattle.std.specs.Prelude.{IfSome}
use Rattle.basics.specs.Faults.{counted_by, last_count}
use Rattle.target_volume.proofs.NameLemmas.{with-with, with-found, without-with}
use Rattle.target_volume.specs.Volume.{VolumeState}
use Rattle.target_volume.specs.VolumeName.{find_volume, with_volume, AreAscending}
use Rattle.target_volume.specs.VolumeStore.{StoreState, StoredVolume, IsOrderly, at_home, lent_out, after_lending, after_taking_back}
use Rattle.target_volume.specs.declared.volume_name.VolumeName.{VolumeName}

-- a volume under a name, and another one in its place
pub told_back : (name : VolumeName) (x y : StoredVolume)
    (volumes : Option (List (VolumeName × StoredVolume)))
    → option_map (with_volume name y) (option_map (with_volume name x) volumes)
    ≡ option_map (with_volume name y) volumes
told_back name x y None = refl
told_back name x y (Some pairs) = ap Some (with-with name x y pairs)

-- a name that was lent to nobody is lent to nobody again, and has the volume as it came back
pub taken_after_lending : (s : StoreState) (name : VolumeName) (capacity lent : ℕ)
    (v : VolumeState) → find_volume name s.loans ≡ None
    → after_taking_back name lent v (after_lending name capacity lent s) ≡ record s {
      volumes = option_map (with_volume name (at_home v)) s.volumes;
      faults = counted_by (v.faults - lent) s.faults;
      sound = s.sound && v.sound;
    }
taken_after_lending s name capacity lent v free =
    let volumes = told_back name (lent_out capacity) (at_home v) s.volumes in
    let loans = without-with name (record { capacity = capacity; faults = lent }) s.loans free in
    cc

told_same : (name : VolumeName) (x : StoredVolume)
    (volumes : Option (List (VolumeName × StoredVolume))) → IfSome volumes AreAscending
    → IfSome volumes (λ pairs. find_volume name pairs ≡ Some x)
    → option_map (with_volume name x) volumes ≡ volumes
told_same name x None ordered found = refl
told_same name x (Some pairs) ordered found = ap Some (with-found name x pairs ordered found)

-- a truth value that implies another is the same as both
pub and_implied : (a b : Bool) → (IsTrue a → IsTrue b) → (a && b) ≡ a
and_implied true b both = both refl
and_implied false b both = refl

rebuilt : (s : StoreState) (volumes : Option (List (VolumeName × StoredVolume))) (faults : ℕ)
    (sound : Bool) → volumes ≡ s.volumes → faults ≡ s.faults → sound ≡ s.sound
    → record s { volumes = volumes; faults = faults; sound = sound } ≡ s
rebuilt s volumes faults sound told counted same =
    ap (λ (l : Option (List (VolumeName × StoredVolume))). record s {
      volumes = l;
      faults = faults;
      sound = sound;
    }) told
    ∙ ap (λ (n : ℕ). record s { faults = n; sound = sound }) counted
    ∙ ap (λ (b : Bool). record s { sound = b }) same

-- a volume that was opened, and comes back as it went out, leaves its store
pub lent_and_back : (s : StoreState) (name : VolumeName) (v : VolumeState) → IsOrderly s
    → s.faults ≤ last_count → find_volume name s.loans ≡ None
    → IfSome s.volumes (λ pairs. find_volume name pairs ≡ Some (at_home v))
    → (IsTrue s.sound → IsTrue v.sound)
    → after_taking_back name v.faults v (after_lending name v.capacity v.faults s) ≡ s
lent_and_back s name v orderly small free found sound =
    let step = taken_after_lending s name v.capacity v.faults v free in
    let volumes = told_same name (at_home v) s.volumes orderly.volumes found in
    let faults : counted_by (v.faults - v.faults) s.faults ≡ s.faults = omega arith in
    step ∙ rebuilt s _ _ _ volumes faults (and_implied s.sound v.sound sound)
