-- What stands where one of two values may be missing.
use Rattle.std.proofs.Common.{◌≡◌, Option, Some, None, IsSome, refl}
use Rattle.std.proofs.lemmas.Bool.{false≢true}
use Rattle.std.specs.Option.{option_or, option_map, unwrap_or}

pub or_assoc : {X : Type 0} (a b c : Option X)
    → option_or (option_or a b) c ≡ option_or a (option_or b c)
or_assoc None b c = refl
or_assoc (Some x) b c = refl

-- what stands is written over, and stands where something was written
pub over_both : {X : Type 0} (a b : Option X)
    → option_map (unwrap_or a) (option_or a b) ≡ option_or a b
over_both None None = refl
over_both None (Some x) = refl
over_both (Some x) b = refl

pub over_some : {X : Type 0} (a b : Option X) → (IsSome a → IsSome b)
    → option_map (unwrap_or a) b ≡ option_or a b
over_some None None there = refl
over_some None (Some x) there = refl
over_some (Some x) None there = absurd (false≢true (there refl))
over_some (Some x) (Some y) there = refl
