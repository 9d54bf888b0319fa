-- A run that is added to the page of its block in place is written.
use Rattle.std.proofs.Common.{◌≡◌, ◌≢◌, ℕ, ◌+◌, ◌-◌, ◌*◌, ◌<◌, ◌≤◌, List, length, Bool, true, false, Option, Some, None, Result, Ok, Err, sym, ap, refl, ◌∙◌, arith, inl, inr}
use Rattle.std.specs.Prelude.{OnErr}
use Rattle.std.specs.List.{slice_get}
use Rattle.std.specs.Option.{option_or}
use Rattle.std.proofs.lemmas.Bool.{cases_eq, cases_lt, false≢true}
use Rattle.sector_model.specs.declared.sector.Sector.{Sector}
use Rattle.snapshot_chain.specs.Page128.{PageState, run_at}
use Rattle.snapshot_chain.specs.Layer.{LayerState, slot_of, sector_in, HasSame, IsWrittenIf, IsPutAt}
use Rattle.snapshot_chain.proofs.Slots.{run_behind}
use Rattle.snapshot_chain.proofs.Writes.{run_before, run_from}

-- the offsets of a block begin anew
run_shifted : (base first k : ℕ) (xs : List Sector)
    → run_at (base + first) xs (base + k) ≡ run_at first xs k
run_shifted base first k xs = elim (cases_lt k first) [
  | inl less ↦ run_before (base + first) xs (base + k) (omega (arith, less))
      ∙ sym (run_before first xs k less)
  | inr from ↦ run_from (base + first) xs (base + k) (omega (arith, from))
      ∙ (let same : base + k - (base + first) ≡ k - first = omega arith in ap (slice_get xs) same)
      ∙ sym (run_from first xs k from)
]

or_nothing : (o : Option Sector) (a : Option Sector) → a ≡ None → o ≡ option_or a o
or_nothing o a none = rw none refl

pub written_if : (added : Bool) (old new : LayerState) (block first offset : ℕ) (xs : List Sector)
    → first ≡ 128 * block + offset → offset < 128
    → ((b : ℕ) → b ≢ block → slot_of new b ≡ slot_of old b)
    → IsPutAt added offset xs (slot_of old block) (slot_of new block)
    → IsWrittenIf added old new first xs
written_if added old new block first offset xs at inside others is =
    by added (slot_of old block) (slot_of new block) refl refl is
  where
    same : slot_of new block ≡ slot_of old block → HasSame old new
    same here b k within = elim (cases_eq b block) [
      | inl this ↦ rw (this, here) refl
      | inr apart ↦ rw (others b apart) refl
    ]

    elsewhere : offset + length xs ≤ 128 → (b k : ℕ) → k < 128 → b ≢ block
        → run_at first xs (128 * b + k) ≡ None
    elsewhere fits b k within apart = elim (cases_lt b block) [
      | inl less ↦ run_before first xs (128 * b + k) (omega (arith, less, within, at))
      | inr from ↦ run_behind first xs (128 * b + k)
          (let above : block < b = omega (arith, from, apart) in omega (arith, above, at, fits))
    ]

    begins : (k : ℕ) → run_at first xs (128 * block + k) ≡ run_at offset xs (128 * 0 + k)
    begins k = let none : 128 * 0 + k ≡ k = omega arith in
        rw (at, none) (run_shifted (128 * block) offset k xs)

    by : (added : Bool) (was grown : Option PageState) → slot_of old block ≡ was
        → slot_of new block ≡ grown → IsPutAt added offset xs was grown
        → IsWrittenIf added old new first xs
    by false None grown was is (kept, none) = same (is ∙ none ∙ sym was)
    by true None grown was is (kept, none) = absurd (false≢true (sym kept))
    by added (Some page) None was is never = absurd never
    by false (Some page) (Some grown) was is kept = same (is ∙ ap Some kept ∙ sym was)
    by true (Some page) (Some grown) was is (made, fits) = λ b k within. elim (cases_eq b block) [
      | inl here ↦ rw (here, was, is, begins k) (made k within)
      | inr apart ↦ rw (others b apart)
          (or_nothing (sector_in old b k) (run_at first xs (128 * b + k))
          (elsewhere fits b k within apart))
    ]

-- an error left what the layer holds
pub same_if : {T E : Type 0} (result : Result T E) (old new : LayerState) (block : ℕ)
    → ((b : ℕ) → b ≢ block → slot_of new b ≡ slot_of old b)
    → OnErr result (slot_of new block ≡ slot_of old block) → OnErr result (HasSame old new)
same_if (Ok answer) old new block others is = tt
same_if (Err why) old new block others is = λ b k within. elim (cases_eq b block) [
  | inl this ↦ rw (this, is) refl
  | inr apart ↦ rw (others b apart) refl
]
