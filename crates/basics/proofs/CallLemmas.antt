-- An object that was told of no failing call never fails.
use Rattle.std.proofs.Common.{◌≡◌, true, arith, Bool, refl}
use Rattle.std.proofs.lemmas.Bool.Decides.{nat_tests}
use Rattle.basics.specs.Calls.{CallLog, FailsNext, never_fails, after_call}

pub never_fails_next : (calls : CallLog) → never_fails calls ≡ true → FailsNext calls → ⊥
never_fails_next calls sound fails =
    let some = fails.1 in
    grind (arith, nat_tests)

-- and goes on so
pub never_fails_after : (calls : CallLog) (succeeded : Bool)
    → never_fails (after_call calls succeeded) ≡ never_fails calls
never_fails_after calls succeeded = refl
