-- A volume that was made, copied to, and taken back.
use Rattle.std.proofs.Common.{◌≡◌, ◌⊎◌, ℕ, ◌-◌, ◌≤◌, Bool, true, false, ◌&&◌, List, length, Option, Some, None, Result, Ok, Err, option_map, inl, inr, refl, sym, ap, subst, ◌∙◌, arith}
use Rattle.std.specs.Prelude.{IfSome, IsSome, IsSomeAnd, IsTrue, OnOk, OnErr}
use Rattle.std.proofs.lemmas.Bool.{true≢false}
use Rattle.basics.specs.Faults.{counted_by, Rose}
use Rattle.basics.proofs.FaultLemmas.{rose_with}
use Rattle.sector_model.specs.VolumeContents.{VolumeContents, IsSized}
use Rattle.sector_model.specs.declared.sector.Sector.{Sector}
use Rattle.target_volume.specs.Volume.{VolumeState}
use Rattle.target_volume.specs.VolumeName.{find_volume, with_volume}
use Rattle.target_volume.specs.declared.store_refused.StoreRefused.{StoreRefused}
use Rattle.target_volume.specs.declared.store_refused.StoreRefused.TheVariants.{Failed}
use Rattle.target_volume.specs.VolumeStore.{StoreState, StoreFails, StoredVolume, Loan, Lends, IsFresh, IsLentOut, find_loan, lent_out, at_home, after_taking_back}
use Rattle.target_volume.specs.declared.volume_name.VolumeName.{VolumeName}
use Rattle.target_volume.proofs.NameLemmas.{find-with_same, without-with}
use Rattle.migrate_server.specs.Copy.{after_copy, copied_contents, CopyFails}
use Rattle.migrate_server.specs.NewVolume.{IsFree, FailsInCopy, with_new_volume, copied_volume}
use Rattle.target_volume.proofs.StoreLemmas.{and_implied, told_back}

abbrev pub Volumes : Type 0
Volumes = List (VolumeName × StoredVolume)

-- ---- what is lent out

pub record Keeps (old new : VolumeState) : Type 0 where
  pub name : new.name ≡ old.name
  pub capacity : new.capacity ≡ old.capacity

pub copy_keeps : {E : Type 0} (disk : List Sector) (result : Result (Unit {0}) E)
    (old new : VolumeState) → OnOk result (new ≡ after_copy disk old)
    → OnErr result (CopyFails old new) → Keeps old new
copy_keeps disk (Ok v) old new copied failed =
    record {
      name = ap (λ (v : VolumeState). v.name) copied;
      capacity = ap
          (λ (v : VolumeState). v.capacity) copied;
    }
copy_keeps disk (Err e) old new copied failed =
    record {
      name = ap (λ (v : VolumeState). v.name) failed.kept;
      capacity = ap
          (λ (v : VolumeState). v.capacity) failed.kept;
    }

abbrev loan_of : (capacity faults : ℕ) → Loan
loan_of capacity faults = record { capacity = capacity; faults = faults }

pub loan_found : (name : VolumeName) (capacity : ℕ) (volume : VolumeState) (old mid : StoreState)
    → Lends name capacity volume old mid
    → find_volume name mid.loans ≡ Some (loan_of capacity volume.faults)
loan_found name capacity volume old mid lends =
    ap (λ (s : StoreState). find_volume name s.loans) lends.lent
    ∙ find-with_same name (loan_of capacity volume.faults) old.loans

pub lent_still : (name : VolumeName) (capacity : ℕ) (volume after : VolumeState)
    (old mid : StoreState) → Lends name capacity volume old mid → Keeps volume after
    → IsLentOut after mid
lent_still name capacity volume after old mid lends keeps =
    let found = ap (λ (n : Option VolumeName). find_loan n mid.loans) (keeps.name ∙ lends.named)
    ∙ loan_found name capacity volume old mid lends in
    subst (λ (o : Option Loan). IsSomeAnd o (λ loan. loan.capacity ≡ after.capacity)) (sym found)
    (sym (keeps.capacity ∙ lends.sized))

-- ---- the name was free

none_there : {T E : Type 0} (v : T) (d e : E) (found : Option StoredVolume)
    → (IsSome found → (Ok v ≡ Err d) ⊎ (Ok v ≡ Err e)) → found ≡ None
none_there v d e None h = refl
none_there v d e (Some volume) h = elim (h refl) [ inl same ↦ cc | inr same ↦ cc ]

pub was_free : {T E : Type 0} (v : T) (d e : E) (name : VolumeName) (volumes : Option Volumes)
    → IfSome volumes (λ vs. IsSome (find_volume name vs) → (Ok v ≡ Err d) ⊎ (Ok v ≡ Err e))
    → IfSome volumes (λ vs. find_volume name vs ≡ None)
was_free v d e name None h = tt
was_free v d e name (Some volumes) h = none_there v d e (find_volume name volumes) h

-- ---- the store after the volume was taken back

abbrev store_with : (volumes : Option Volumes) (loans : List (VolumeName × Loan)) (faults : ℕ)
    (sound : Bool) → StoreState
store_with volumes loans faults sound =
    record { volumes = volumes; loans = loans; faults = faults; sound = sound }

same_store : (a b : Option Volumes) (l m : List (VolumeName × Loan)) (f g : ℕ) (s t : Bool) → a ≡ b
    → l ≡ m → f ≡ g → s ≡ t → store_with a l f s ≡ store_with b m g t
same_store a b l m f g s t p q r u =
    ap (λ x. store_with x l f s) p ∙ ap (λ x. store_with b x f s) q ∙ ap (λ x. store_with b m x s) r
    ∙ ap (λ x. store_with b m g x) u

home_of : (a b : ℕ) (c d : Option VolumeContents) (m n : ℕ) → a ≡ b → c ≡ d → m ≡ n
    → ◌≡◌ {A = StoredVolume} (record { capacity = a; contents = c; written = m })
    (record { capacity = b; contents = d; written = n })
home_of a b c d m n p q r =
    ap (λ x. record { capacity = x; contents = c; written = m }) p
    ∙ ap (λ x. record { capacity = b; contents = x; written = m }) q
    ∙ ap (λ x. record { capacity = b; contents = d; written = x }) r

-- what came back is a whole copy
home_is : (disk : List Sector) (sectors : ℕ) (volume after : VolumeState) → length disk ≡ sectors
    → volume.capacity ≡ sectors → after ≡ after_copy disk volume
    → (contents : Option VolumeContents)
    → volume.contents ≡ contents → IsSomeAnd contents (IsSized volume.capacity)
    → at_home after ≡ copied_volume disk sectors
home_is disk sectors volume after long sized copied None is told = absurd told
home_is disk sectors volume after long sized copied (Some c) is told =
    ap at_home copied ∙ home_of (volume.capacity) sectors
    (option_map (λ _. copied_contents disk) volume.contents) (Some (copied_contents disk))
    (length disk) sectors sized (ap (option_map (λ _. copied_contents disk)) is) long

volumes_are : (name : VolumeName) (disk : List Sector) (sectors : ℕ) (volume after : VolumeState)
    (lent : StoredVolume) (volumes : Option Volumes) → length disk ≡ sectors
    → volume.capacity ≡ sectors
    → after ≡ after_copy disk volume
    → (IsSome volumes → IsSomeAnd volume.contents (IsSized volume.capacity))
    → option_map (with_volume name (at_home after)) (option_map (with_volume name lent) volumes)
    ≡ option_map (with_volume name (copied_volume disk sectors)) volumes
volumes_are name disk sectors volume after lent None long sized copied fresh = refl
volumes_are name disk sectors volume after lent (Some volumes) long sized copied fresh =
    told_back name lent (at_home after) (Some volumes)
    ∙ ap (λ x. Some (with_volume name x volumes))
    (home_is disk sectors volume after long sized copied volume.contents refl (fresh refl))

pub copied_home : (name : VolumeName) (disk : List Sector) (sectors : ℕ)
    (volume after : VolumeState) (old mid new : StoreState) → length disk ≡ sectors
    → Lends name sectors volume old mid → IsFresh volume old
    → after ≡ after_copy disk volume → new ≡ after_taking_back name volume.faults after mid
    → mid.faults ≤ new.faults
    → new ≡ with_new_volume name (copied_volume disk sectors) old
copied_home name disk sectors volume after old mid new long lends fresh copied back later =
    let loan = loan_of sectors volume.faults in
    let faults : after.faults ≡ volume.faults = ap (λ (v : VolumeState). v.faults) copied in
    let was : mid.faults ≡ old.faults = ap (λ (s : StoreState). s.faults) lends.lent in
    let now : new.faults ≡ counted_by (after.faults - volume.faults) mid.faults =
    ap (λ (s : StoreState). s.faults) back in
    let steady : counted_by (after.faults - volume.faults) old.faults ≡ old.faults =
    omega (arith, faults, was, now, later) in
    let sound : (old.sound && after.sound) ≡ old.sound =
    ap (λ b. old.sound && b) (ap (λ (v : VolumeState). v.sound) copied)
    ∙ and_implied old.sound volume.sound lends.sound in
    back ∙ ap (after_taking_back name volume.faults after) lends.lent
    ∙ same_store _ _ _ _ _ _ _ _
    (volumes_are name disk sectors volume after (lent_out sectors) old.volumes long lends.sized
    copied fresh.contents) (without-with name loan old.loans lends.free) steady sound

not_sound : (a b : Bool) → (IsTrue a → IsTrue b) → b ≡ false → a ≡ false
not_sound false b h is = refl
not_sound true b h is = absurd (true≢false (sym (h refl) ∙ is))

pub failed_home : (name : VolumeName) (sectors : ℕ) (volume after : VolumeState)
    (old mid new : StoreState) → Lends name sectors volume old mid → IsFree name old
    → CopyFails volume after
    → new ≡ after_taking_back name volume.faults after mid → mid.faults ≤ new.faults
    → FailsInCopy name sectors old new
failed_home name sectors volume after old mid new lends free fails back later =
    let whole = back ∙ ap (after_taking_back name volume.faults after) lends.lent in
    let keeps = ap (λ (v : VolumeState). v.capacity) fails.kept in
    let volumes = ap (λ (s : StoreState). s.volumes) whole in
    let faults = ap (λ (s : StoreState). s.faults) whole in
    let sound : (old.sound && after.sound) ≡ old.sound =
    ap (λ b. old.sound && b) (ap (λ (v : VolumeState). v.sound) fails.kept)
    ∙ and_implied old.sound volume.sound lends.sound in
    record {
      unsound = not_sound old.sound volume.sound lends.sound fails.unsound;
      rises = (
        subst (λ (n : ℕ). n ≤ new.faults) (ap (λ (s : StoreState). s.faults) lends.lent) later,
        subst (Rose old.faults) (sym faults)
            (rose_with 1 volume.faults after.faults old.faults lends.counted fails.rises.1),
      );
      volumes = inr (
        free,
        (
          at_home after,
          keeps ∙ lends.sized,
          volumes
              ∙ told_back name (lent_out sectors) (at_home after) old.volumes,
        ),
      );
      kept = whole ∙ same_store _ _ _ _ _ _ _ _ (sym volumes)
          (without-with name (loan_of sectors volume.faults) old.loans lends.free) (sym faults)
          sound;
    }

store_kept : (old new : StoreState) → new ≡ record old { faults = new.faults }
    → new ≡ record old { volumes = new.volumes; faults = new.faults }
store_kept old new kept =
    kept ∙ ap (λ (x : Option Volumes). record
    { volumes = x; loans = old.loans; faults = new.faults; sound = old.sound })
    (sym (ap (λ (s : StoreState). s.volumes) kept))

unsound_by : {T : Type 0} (sound : Bool) (result : Result T StoreRefused) → result ≡ Err Failed
    → (IsTrue sound → result ≡ Err Failed → ⊥) → sound ≡ false
unsound_by true result is h = absurd (h refl is)
unsound_by false result is h = refl

-- the store itself failed
pub failed_at_once : {T : Type 0} (name : VolumeName) (sectors : ℕ) (result : Result T StoreRefused)
    (old new : StoreState) → result ≡ Err Failed → (IsTrue old.sound → result ≡ Err Failed → ⊥)
    → StoreFails old new
    → FailsInCopy name sectors old new
failed_at_once name sectors result old new is ok fails = record {
  unsound = unsound_by old.sound result is ok;
  rises = fails.rises;
  volumes = inl (ap (λ (s : StoreState). s.volumes) fails.kept);
  kept = store_kept old new fails.kept;
}
