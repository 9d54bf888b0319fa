-- What a writer of JSON gains by one value, or by one member of an object.
use Rattle.std.specs.Prelude.{◌≡◌, ℕ, List, ◌++◌, Result, OnOk}
use Rattle.json.specs.Token.{Token}
use Rattle.json.specs.Tree.{json_tokens}
use Rattle.json.specs.Written.{Written}
use Rattle.serde_json.specs.Data.{Data}
use Rattle.serde_json.specs.Written.{outline}

-- the tokens of a value
abbrev pub tokens_of : Data → List Token
tokens_of d = json_tokens (outline d)

-- those tokens were written whole, or memory ran out; what stood before the writer began stays
pub record Puts {E : Type 0} (result : Result (Unit {0}) E) (old new : Written)
    (added : List Token) : Type 0 where
  pub kept : new.before ≡ old.before
  pub whole : OnOk result (new.tokens ≡ old.tokens ++ added)
