-- The calls of an object in memory, some of which are to fail.
use Rattle.std.specs.Prelude.{ℕ, Bool, ◌==◌, if◌then◌else◌, List, length, Contains}
use Rattle.basics.specs.Faults.{counted_by}

pub record CallLog : Type 0 where
  -- the numbers, from 1, of the calls that are to fail
  pub failing : List ℕ
  -- how many calls there were, and how many of them failed; both end at 2^64 - 1
  pub made : ℕ
  pub faults : ℕ

-- no calls yet
abbrev pub no_calls : List ℕ → CallLog
no_calls failing = record { failing = failing; made = 0; faults = 0 }

-- the next call is one of those that are to fail
abbrev pub FailsNext : CallLog → Type 0
FailsNext calls = Contains calls.failing (counted_by 1 calls.made)

-- it was told of no failing call
abbrev pub never_fails : CallLog → Bool
never_fails calls = length calls.failing == 0

-- after one more call, which did what it was asked or failed
abbrev pub after_call : CallLog → (succeeded : Bool) → CallLog
after_call calls succeeded = record {
  failing = calls.failing;
  made = counted_by 1 calls.made;
  faults = (if succeeded then calls.faults else counted_by 1 calls.faults);
}
