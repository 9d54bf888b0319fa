-- Facts of what calls answer: a fact of an Ok or of an Err where it is known which of them stands,
-- and which refusal may stand.
use Rattle.std.proofs.Common.{◌≡◌, Bool, true, false, cond, None, Some, sym}
use Rattle.std.specs.Prelude.{Result, Ok, Err, OnOk, OnErr}
use Rattle.std.specs.Result.{IfErr, IsErrAnd, is_ok, is_err}
use Rattle.std.proofs.lemmas.Bool.{false≢true}
use Rattle.basics.specs.Refusal.{IsRefusedOr}

pub on_err : {T E P : Type 0} (r : Result T E) → P → OnErr r P
on_err (Ok answer) fact = tt
on_err (Err refusal) fact = fact

pub when_ok : {T E P : Type 0} (r : Result T E) → is_ok r ≡ true → OnOk r P → P
when_ok (Ok answer) is fact = fact
when_ok (Err refusal) is fact = absurd (false≢true is)

-- the same, by the other test
pub where_ok : {T E P : Type 0} (r : Result T E) → is_err r ≡ false → OnOk r P → P
where_ok (Ok answer) is fact = fact
where_ok (Err refusal) is fact = absurd (false≢true (sym is))

pub where_err : {T E P : Type 0} (r : Result T E) → is_err r ≡ true → OnErr r P → P
where_err (Ok answer) is fact = absurd (false≢true is)
where_err (Err refusal) is fact = fact

pub if_err : {T E : Type 0} (P : E → Type 0) (r : Result T E) → IsErrAnd r P → IfErr r P
if_err P (Ok answer) is = tt
if_err P (Err refusal) is = is

-- where the test is passed at which a refusal stands, the free one alone may come
pub free_alone : {T E : Type 0} (refusal free : E) (passed : Bool) (r : Result T E)
    → passed ≡ true → IfErr r (λ why. why ≡ free)
    → IsRefusedOr (cond passed None (Some refusal)) free r
free_alone refusal free true r is fact = fact
free_alone refusal free false r is fact = absurd (false≢true is)
