-- What a count of faults tells of a call. Such a count never falls and ends at 2^64 - 1. One that
-- stands there says no more of how often its object failed, so any rise is granted to it.
use Rattle.std.specs.Prelude.{◌≡◌, ℕ, ◌+◌, ◌-◌, ◌^◌, ◌≤◌, min, Result, OnOk, OnErr}

-- where a count ends
abbrev pub last_count : ℕ
last_count = 2 ^ 64 - 1

-- a count, n later
abbrev pub counted_by : (n before : ℕ) → ℕ
counted_by n before = min (before + n) last_count

-- the count went up by n or more, as far as it can show that
abbrev pub RoseBy : (n before now : ℕ) → Type 0
RoseBy n before now = counted_by n before ≤ now

-- the object failed
abbrev pub Rose : (before now : ℕ) → Type 0
Rose before now = RoseBy 1 before now

-- the count rose, and never falls: what a failure leaves of it
abbrev pub HasRisen : (before now : ℕ) → Type 0
HasRisen before now = (before ≤ now) × Rose before now

-- the count stays where the call did what it was asked, and rose where it failed
pub record HasCause {T E : Type 0} (before now : ℕ) (result : Result T E) : Type 0 where
  pub later : before ≤ now
  pub stays : OnOk result (now ≡ before)
  pub failed : OnErr result (Rose before now)
