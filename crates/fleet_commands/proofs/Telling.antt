-- What a command is answered, by the refusal that stands below.
use Rattle.std.proofs.Common.{◌≡◌, Option, Some, None, Result, Ok, Err, IfErr, option_and_then, refl, ap, ◌∙◌, sym, subst}
use Rattle.std.proofs.lemmas.Option.{none-some}
use Rattle.basics.specs.Refusal.{IsRefusedOr}
use Rattle.answers.specs.declared.refusal.Refusal.{Refusal}

-- what was accepted had no refusal
pub told_none : {T E : Type 0} (tell : E → Option Refusal) (refusal : Option E) (free : E)
    (result : Result T E) (answer : T) → IsRefusedOr refusal free result → result ≡ Ok answer
    → option_and_then tell refusal ≡ None
told_none {T} {E} tell None free result answer refused is = refl
told_none {T} {E} tell (Some why) free result answer refused is = cc

-- what was refused, and is told, had that refusal: the free one is told by nothing
pub told_some : {T E : Type 0} (tell : E → Option Refusal) (refusal : Option E) (free : E)
    (result : Result T E) (why : E) (said : Refusal) → IsRefusedOr refusal free result
    → result ≡ Err why → tell free ≡ None → tell why ≡ Some said
    → option_and_then tell refusal ≡ Some said
told_some {T} {E} tell None free result why said refused is silent told =
    let same : why ≡ free =
    subst (λ (r : Result T E). IfErr r (λ answer. answer ≡ free)) is refused in
    absurd (none-some said (sym silent ∙ ap tell (sym same) ∙ told))
told_some {T} {E} tell (Some stands) free result why said refused is silent told = cc
