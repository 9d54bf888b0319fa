-- Facts of truth values that several crates cite.
use Rattle.std.proofs.Common.{◌≡◌, Bool, true, false, ◌&&◌, ◌||◌, refl, sym, ◌∙◌}
use Rattle.std.specs.Prelude.{MatchBool}
use Rattle.std.proofs.lemmas.Bool.{false≢true}

-- which of two fails, where they don't both hold and one of them does
pub first_fails : (a b : Bool) → b ≡ true → (a && b) ≡ false → a ≡ false
first_fails true b holds fails = sym holds ∙ fails
first_fails false b holds fails = refl

pub second_fails : (a b : Bool) → a ≡ true → (a && b) ≡ false → b ≡ false
second_fails true b holds fails = fails
second_fails false b holds fails = absurd (false≢true holds)

pub and_or : (a b c : Bool) → ((a && b) || (a && c)) ≡ (a && (b || c))
and_or true b c = refl
and_or false b c = refl

pub at_true : (P Q : Type 0) (b : Bool) → b ≡ true → MatchBool b P Q → P
at_true P Q true is holds = holds
at_true P Q false is holds = absurd (false≢true is)

pub at_false : (P Q : Type 0) (b : Bool) → b ≡ false → MatchBool b P Q → Q
at_false P Q true is holds = absurd (false≢true (sym is))
at_false P Q false is holds = holds
