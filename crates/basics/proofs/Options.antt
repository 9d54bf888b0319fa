-- Facts of values that may be missing.
use Rattle.std.proofs.Common.{◌≡◌, true, false, Option, Some, None, IsSome, is_some, option_map, refl, sym}
use Rattle.std.specs.Option.{option_or}
use Rattle.std.proofs.lemmas.Bool.{false≢true}
use Rattle.std.proofs.lemmas.Option.{none-some}

pub or_none : {X : Type 0} (o : Option X) → option_or o None ≡ o
or_none None = refl
or_none (Some x) = refl

-- where neither of two stands, each is missing
pub neither : {X : Type 0} (a b : Option X) → option_or a b ≡ None → (a ≡ None) × (b ≡ None)
neither None b none = (refl, none)
neither (Some x) b none = absurd (cc)

-- what stands has a value
pub some_value : {X : Type 0} (o : Option X) → IsSome o → (x : X) × (o ≡ Some x)
some_value None is = absurd (false≢true is)
some_value (Some x) is = (x, refl)

pub none-is_some : {X : Type 0} (o : Option X) → o ≡ None → IsSome o → ⊥
none-is_some None none is = false≢true is
none-is_some (Some x) none is = none-some x (sym none)

-- what isn't there is missing
pub none_is : {X : Type 0} (o : Option X) → is_some o ≡ false → o ≡ None
none_is None fails = refl
none_is (Some x) fails = absurd (false≢true (sym fails))

-- of two the first counts where it stands
pub some_or : {X : Type 0} (o next : Option X) → is_some o ≡ true → option_or o next ≡ o
some_or None next is = absurd (false≢true is)
some_or (Some x) next is = refl

-- and the second where it doesn't
pub none_or : {X : Type 0} (o next : Option X) → is_some o ≡ false → option_or o next ≡ next
none_or None next fails = refl
none_or (Some x) next fails = absurd (false≢true (sym fails))

pub is_some-map : {X Y : Type 0} (f : X → Y) (o : Option X) → is_some (option_map f o) ≡ is_some o
is_some-map f None = refl
is_some-map f (Some x) = refl
