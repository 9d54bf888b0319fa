-- What a store of volumes is to whoever has volumes made and lent out, and what each call leaves
-- of that. It lends a volume out and takes it back, and what it holds of one is told only while
-- that is at home: so a store and its loans together tell of each volume once.
use Rattle.std.specs.Prelude.{◌≡◌, ℕ, ◌-◌, ◌≤◌, ◌⊎◌, Bool, ◌&&◌, Option, Some, None, option_map, IsTrue, IfSome, IsSome, IsSomeAnd, List}
use Rattle.basics.specs.Faults.{HasRisen, counted_by}
use Rattle.sector_model.specs.VolumeContents.{VolumeContents, IsSized}
use Rattle.target_volume.specs.Volume.{VolumeState}
use Rattle.target_volume.specs.VolumeName.{find_volume, with_volume, without_volume, AreAscending}
use Rattle.target_volume.specs.declared.volume_name.VolumeName.{VolumeName}
use Rattle.target_volume.specs.declared.store_refused.StoreRefused.{StoreRefused}
use Rattle.target_volume.specs.declared.store_refused.StoreRefused.TheVariants.{Exists, Failed, NoMemory}

-- a volume as its store has it
pub record StoredVolume : Type 0 where
  pub capacity : ℕ
  -- what it holds, and how many sectors were written to it; none and 0 while it is lent out
  pub contents : Option VolumeContents
  pub written : ℕ

-- a volume that is lent out: its capacity, and its count of faults as it went out
pub record Loan : Type 0 where
  pub capacity : ℕ
  pub faults : ℕ

pub record StoreState : Type 0 where
  -- what it has under each name, in ascending order of names, where it tells that
  pub volumes : Option (List (VolumeName × StoredVolume))
  -- what it has lent out, in the same order
  pub loans : List (VolumeName × Loan)
  -- how often it and the volumes that it took back have failed; it ends at 2^64 - 1
  pub faults : ℕ
  -- it tells what it has, and no call of it or of its volumes fails, but for opening one that is
  -- missing, lent out or of another capacity
  pub sound : Bool

-- a volume that is lent out, as its store has it
abbrev pub lent_out : (capacity : ℕ) → StoredVolume
lent_out capacity = record { capacity = capacity; contents = None; written = 0 }

-- a volume that is at home, as its store has it
abbrev pub at_home : VolumeState → StoredVolume
at_home v = record { capacity = v.capacity; contents = v.contents; written = v.written }

-- after a volume of that name and capacity was lent out with this count of faults
abbrev pub after_lending : VolumeName → (capacity faults : ℕ) → StoreState → StoreState
after_lending name capacity faults s = record s {
  volumes = option_map (with_volume name (lent_out capacity)) s.volumes;
  loans = with_volume name (record { capacity = capacity; faults = faults }) s.loans;
}

-- what a call that lends a volume out gives, and what it leaves of the store. The store's count
-- has in it that of the volume, and no volume is lent out twice.
pub record Lends (name : VolumeName) (capacity : ℕ) (volume : VolumeState) (old new : StoreState)
    : Type 0 where
  pub named : volume.name ≡ Some name
  pub sized : volume.capacity ≡ capacity
  pub free : find_volume name old.loans ≡ None
  pub lent : new ≡ after_lending name capacity volume.faults old
  pub counted : volume.faults ≤ old.faults
  pub sound : IsTrue old.sound → IsTrue volume.sound

-- a volume that was just made: its contents are open, but told where the store tells its volumes,
-- and nothing was written to it
pub record IsFresh (volume : VolumeState) (store : StoreState) : Type 0 where
  pub contents : IsSome store.volumes → IsSomeAnd volume.contents (IsSized volume.capacity)
  pub written : volume.written ≡ 0

-- the store has a volume of that name and capacity at home
abbrev pub IsThere : VolumeName → (capacity : ℕ) → List (VolumeName × StoredVolume) → Type 0
IsThere name capacity volumes = IsSomeAnd (find_volume name volumes)
    (λ stored. (stored.capacity ≡ capacity) × IsSome stored.contents)

-- the store failed: it has what it had, and its count of faults rose
pub record StoreFails (old new : StoreState) : Type 0 where
  pub kept : new ≡ record old { faults = new.faults }
  pub rises : HasRisen old.faults new.faults

-- what a refusal leaves: all as it was, but for the count where the store failed
abbrev pub Refuses : StoreRefused → (old new : StoreState) → Type 0
Refuses Exists old new = new ≡ old
Refuses Failed old new = StoreFails old new
Refuses NoMemory old new = new ≡ old

-- what is lent out under a volume's name, where it has one
abbrev pub find_loan : Option VolumeName → List (VolumeName × Loan) → Option Loan
find_loan None loans = None
find_loan (Some name) loans = find_volume name loans

-- the volume is one that the store has lent out
abbrev pub IsLentOut : VolumeState → StoreState → Type 0
IsLentOut v s = IsSomeAnd (find_loan v.name s.loans) (λ loan. loan.capacity ≡ v.capacity)

-- after a volume was taken back: it is at home as it is now, and no longer lent out, and the
-- store's count went up by as much as the volume's did since it was lent out with `lent` faults
abbrev pub after_taking_back : VolumeName → (lent : ℕ) → VolumeState → StoreState → StoreState
after_taking_back name lent v s = record {
  volumes = option_map (with_volume name (at_home v)) s.volumes;
  loans = without_volume name s.loans;
  faults = counted_by (v.faults - lent) s.faults;
  sound = s.sound && v.sound;
}

-- what a store tells is in order and fits together: what is lent out is told without contents and
-- counted, each other volume is at home, and what is at home has its capacity
pub record IsOrderly (s : StoreState) : Type 0 where
  pub volumes : IfSome s.volumes AreAscending
  pub loans : AreAscending s.loans
  pub lent : (name : VolumeName) (loan : Loan) → find_volume name s.loans ≡ Some loan
      → IfSome s.volumes (λ volumes. find_volume name volumes ≡ Some (lent_out loan.capacity))
  pub counted : (name : VolumeName)
      → IfSome (find_volume name s.loans) (λ loan. loan.faults ≤ s.faults)
  pub home : (name : VolumeName) → IfSome s.volumes
      (λ volumes. IfSome (find_volume name volumes)
      (λ v. IsSome v.contents ⊎ IsSome (find_volume name s.loans)))
  pub sized : (name : VolumeName) → IfSome s.volumes
      (λ volumes. IfSome (find_volume name volumes) (λ v. IfSome v.contents (IsSized v.capacity)))
