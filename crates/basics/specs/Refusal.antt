-- How the result of a call tells its refusal. A crate has one function a call that gives the
-- refusal which stands, its reasons in order, or none; these words tie it to the result.
use Rattle.std.specs.Prelude.{◌≡◌, ◌⊎◌, Bool, true, Option, Some, None, Result, Err, IsOk, IfErr, IsErrAnd}

-- the call answers the refusal that stands, and is accepted where none does
abbrev pub IsRefusedBy : {T E : Type 0} → (refusal : Option E) (result : Result T E) → Type 0
IsRefusedBy None result = IsOk result
IsRefusedBy (Some refusal) result = result ≡ Err refusal

-- the same, but that one refusal, which is free, may come where none stands: want of memory
abbrev pub IsRefusedOr : {T E : Type 0} → (refusal : Option E) (free : E) (result : Result T E)
    → Type 0
IsRefusedOr None free result = IfErr result (λ answer. answer ≡ free)
IsRefusedOr (Some refusal) free result = result ≡ Err refusal

-- the same, but that the free one may stand in place of a refusal as well, where telling that one
-- takes memory: `copies` tells which those are
abbrev pub IsRefusedWhere : {T E : Type 0} → (refusal : Option E) (free : E) (copies : E → Bool)
    → (result : Result T E) → Type 0
IsRefusedWhere None free copies result = IfErr result (λ answer. answer ≡ free)
IsRefusedWhere (Some refusal) free copies result =
    IsErrAnd result (λ answer.
    (answer ≡ refusal) ⊎ ((answer ≡ free) × (copies refusal ≡ true)))
