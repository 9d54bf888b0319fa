-- A store in memory: its volumes by name, the junk byte of new ones, and the calls that are to
-- fail.
use Rattle.std.specs.Prelude.{◌≡◌, ℕ, ◌/◌, ◌%◌, ◌-◌, ◌≤◌, Bool, ◌&&◌, true, false, ◌==◌, List, [], length, map, Option, Some, None, option_map, nat_lt, All, IsTrue}
use Rattle.std.specs.List.{filter, filter_map}
use Rattle.basics.specs.Calls.{CallLog, no_calls, never_fails, after_call}
use Rattle.basics.specs.Faults.{counted_by}
use Rattle.sector_model.specs.VolumeContents.{IsSized}
use Rattle.target_volume.specs.MemVolume.{HeldState, MemVolumeState, held_state, fresh_held}
use Rattle.target_volume.specs.VolumeName.{with_volume, AreAscending}
use Rattle.target_volume.specs.VolumeStore.{StoredVolume, Loan, StoreState, lent_out}
use Rattle.target_volume.specs.declared.mem_volumes.TheConstants.{VOLUME_CALLS}
use Rattle.target_volume.specs.declared.mem_volumes.Slot.{Slot}
use Rattle.target_volume.specs.declared.mem_volumes.Slot.TheVariants.{Home as SlotHome, Lent as SlotLent}
use Rattle.target_volume.specs.declared.volume_name.VolumeName.{VolumeName}
use Rattle.target_volume.specs.declared.store_refused.StoreRefused.{StoreRefused}
use Rattle.target_volume.specs.declared.store_refused.StoreRefused.TheVariants.{Exists, Failed, NoMemory}

-- a volume of the store: at home, or lent out
pub data SlotState : Type 0 where
  Home : HeldState → SlotState
  Lent : Loan → SlotState

abbrev pub slot_state : Slot → SlotState
slot_state (SlotHome held) = Home (held_state held)
slot_state (SlotLent capacity faults) = Lent (record { capacity = capacity; faults = faults })

pub record MemVolumesState : Type 0 where
  pub junk : ℕ
  -- the numbers of all calls that are to fail, as they were given
  pub failing : List ℕ
  -- the store's own calls
  pub calls : CallLog
  -- how many volumes were created, a count that ends at 2^64 - 1
  pub created : ℕ
  -- it was told of no failing call, and neither was any volume that it took back
  pub sound : Bool
  pub slots : List (VolumeName × SlotState)

-- the volume as its store tells it
abbrev pub stored_of : SlotState → StoredVolume
stored_of (Home h) = record {
  capacity = length h.contents.sectors;
  contents = Some h.contents;
  written = h.written;
}
stored_of (Lent loan) = lent_out loan.capacity

-- the loan of a volume that is lent out
abbrev pub loan_in : SlotState → Option Loan
loan_in (Home h) = None
loan_in (Lent loan) = Some loan

abbrev pub named_loan : VolumeName × SlotState → Option (VolumeName × Loan)
named_loan slot = option_map (λ loan. (slot.0, loan)) (loan_in slot.1)

-- what it is as a store
abbrev pub store_state : MemVolumesState → StoreState
store_state s = record {
  volumes = Some (map (λ slot. (slot.0, stored_of slot.1)) s.slots);
  loans = filter_map named_loan s.slots;
  faults = s.calls.faults;
  sound = s.sound;
}

-- of the numbers of failing calls, those of the store itself
abbrev pub store_calls : List ℕ → List ℕ
store_calls failing = filter (λ n. nat_lt n VOLUME_CALLS) failing

-- those of the i-th volume, from 1, whose k-th call has the number i * VOLUME_CALLS + k
abbrev pub volume_calls : (i : ℕ) → List ℕ → List ℕ
volume_calls i failing =
    map (λ n. n % VOLUME_CALLS) (filter (λ n. n / VOLUME_CALLS == i) failing)

-- a store that was not called yet
abbrev pub new_store : (junk : ℕ) (failing : List ℕ) → MemVolumesState
new_store junk failing = record {
  junk = junk;
  failing = failing;
  calls = no_calls (store_calls failing);
  created = 0;
  sound = length failing == 0;
  slots = [];
}

-- after one more call of the store's own that changed nothing else
abbrev pub called : (succeeded : Bool) → MemVolumesState → MemVolumesState
called succeeded s = record s { calls = after_call s.calls succeeded }

-- the volume that is created next
abbrev pub next_volume : VolumeName → (capacity : ℕ) → MemVolumesState → MemVolumeState
next_volume name capacity s = record {
  name = name;
  held = fresh_held capacity s.junk (volume_calls (counted_by 1 s.created) s.failing);
}

-- after that volume was made and lent out
abbrev pub after_creating : VolumeName → (capacity : ℕ) → MemVolumesState → MemVolumesState
after_creating name capacity s = record s {
  calls = after_call s.calls true;
  created = counted_by 1 s.created;
  slots = with_volume name (Lent (record { capacity = capacity; faults = 0 })) s.slots;
}

-- after a volume that was at home was lent out
abbrev pub after_opening : MemVolumeState → MemVolumesState → MemVolumesState
after_opening v s = record s {
  calls = after_call s.calls true;
  slots = with_volume v.name (Lent (record {
    capacity = length v.held.contents.sectors;
    faults = v.held.calls.faults;
  })) s.slots;
}

-- a volume of this capacity is at home there
abbrev pub IsHome : (capacity : ℕ) → Option SlotState → Type 0
IsHome capacity None = ⊥
IsHome capacity (Some (Home h)) = length h.contents.sectors ≡ capacity
IsHome capacity (Some (Lent loan)) = ⊥

-- the same, with this count of faults
abbrev pub IsHomeWith : (capacity faults : ℕ) → Option SlotState → Type 0
IsHomeWith capacity faults None = ⊥
IsHomeWith capacity faults (Some (Home h)) = (length h.contents.sectors ≡ capacity)
    × (h.calls.faults ≡ faults)
IsHomeWith capacity faults (Some (Lent loan)) = ⊥

-- a volume is lent out there, and with which count of faults
abbrev pub IsLent : Option SlotState → Type 0
IsLent None = ⊥
IsLent (Some (Home h)) = ⊥
IsLent (Some (Lent loan)) = Unit {0}

abbrev pub IsLentWith : (faults : ℕ) → Option SlotState → Type 0
IsLentWith faults None = ⊥
IsLentWith faults (Some (Home h)) = ⊥
IsLentWith faults (Some (Lent loan)) = loan.faults ≡ faults

-- after a volume was taken back that had been lent out with `lent` faults
abbrev pub after_keeping : (lent : ℕ) → MemVolumeState → MemVolumesState → MemVolumesState
after_keeping lent v s = record s {
  calls = record s.calls { faults = counted_by (v.held.calls.faults - lent) s.calls.faults };
  sound = s.sound && never_fails v.held.calls;
  slots = with_volume v.name (Home v.held) s.slots;
}

-- whether a refusal is a failure of the store
abbrev pub is_failure : StoreRefused → Bool
is_failure Exists = false
is_failure Failed = true
is_failure NoMemory = false

-- of a slot, where its store has this soundness and count of faults: its own count is in the
-- store's, and it doesn't fail where the store is sound
abbrev pub IsCountedIn : (sound : Bool) (faults : ℕ) → SlotState → Type 0
IsCountedIn sound faults (Home h) = IsSized (length h.contents.sectors) h.contents
    × (h.calls.faults ≤ faults) × (IsTrue sound → IsTrue (never_fails h.calls))
IsCountedIn sound faults (Lent loan) = loan.faults ≤ faults

abbrev pub AreCountedIn : (sound : Bool) (faults : ℕ) → List (VolumeName × Slot) → Type 0
AreCountedIn sound faults slots = All (λ slot. IsCountedIn sound faults (slot_state slot.1)) slots

-- what holds of a store's fields: where it is sound nothing was told to fail, its slots are kept,
-- and they are in order
pub record IsWhole (sound : Bool) (failing : List ℕ) (calls : CallLog)
    (slots : List (VolumeName × Slot)) : Type 0 where
  pub own : IsTrue sound → IsTrue (never_fails calls)
  pub given : IsTrue sound → length failing ≡ 0
  pub kept : AreCountedIn sound calls.faults slots
  pub ordered : AreAscending slots
