-- A number beside the numeral of its text.
use Rattle.std.proofs.Common.{◌≡◌, ℕ, Bool, true, false, if◌then◌else◌, Some, None, option_and_then, refl, Float, List, drop, ◌==◌, slice_index}
use Rattle.std.specs.Float.{binary64, float_is_finite}
use Rattle.fast_float.specs.Text.{Parts, scan, nearest}
use Rattle.serde_json.specs.Data.{Num, float}
use Rattle.serde_json.specs.Find.{as_u64}
use Rattle.serde_json.specs.Read.{number_of, number_from}

float_apart : (finite : Bool) (x : Float)
    → None ≡ option_and_then as_u64 (if finite then Some (float x) else None)
float_apart true x = refl
float_apart false x = refl

negative_apart : (test finite : Bool) (x : Float) (n : Num) → as_u64 n ≡ None
    → None ≡ option_and_then as_u64
    (if test then Some n else (if finite then Some (float x) else None))
negative_apart true finite x n apart = rw apart refl
negative_apart false finite x n apart = float_apart finite x

-- a number with a minus isn't unsigned
pub as_u64-negative : (p : Parts) → None ≡ option_and_then as_u64 (number_from true p)
as_u64-negative p = negative_apart _ (float_is_finite (nearest binary64 true p)) _ _ refl

-- the numeral of a text follows its minus, where it has one
pub number_of-minus : (s : List ℕ) → (slice_index s 0 == 45) ≡ true
    → number_of s ≡ number_from true (scan (drop 1 s))
unfolding number_of
number_of-minus s is = rw is refl

pub number_of-plain : (s : List ℕ) → (slice_index s 0 == 45) ≡ false
    → number_of s ≡ number_from false (scan s)
unfolding number_of
number_of-plain s is = rw is refl
