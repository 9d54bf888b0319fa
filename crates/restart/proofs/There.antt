-- What is known of what may be found.
use Rattle.std.proofs.Common.{◌≡◌, Option, Some, None, subst, sym}
use Rattle.std.specs.Prelude.{IsSomeAnd}
use Rattle.std.proofs.lemmas.Option.{same_Some}

-- of what is found, what was known of what may be there
pub told_some : {X : Type 0} (o : Option X) (P : X → Type 0) (x : X) → IsSomeAnd o P
    → o ≡ Some x → P x
told_some None P x h e = absurd h
told_some (Some y) P x h e = subst P (same_Some y x e) h

pub some_told : {X : Type 0} (o : Option X) (P : X → Type 0) (x : X) → o ≡ Some x → P x
    → IsSomeAnd o P
some_told {X} o P x e p = subst (λ (q : Option X). IsSomeAnd q P) (sym e) p
