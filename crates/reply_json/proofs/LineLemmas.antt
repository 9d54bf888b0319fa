-- What the writer of JSON prints for the tokens of a value is the value's compact text.
use Rattle.std.proofs.Common.{◌≡◌, ℕ, List, [], ◌∷◌, ◌++◌, ap, ◌∙◌, append_assoc}
use Rattle.json.specs.Token.{Token}
use Rattle.json.specs.Print.{print}
use Rattle.serde_json.specs.Data.{Data}
use Rattle.serde_json.specs.Written.{compact_text}
use Rattle.serde_json.proofs.Texts.{print-outline}
use Rattle.reply_json.specs.ToJson.{tokens_of}

-- the line of a value, after what stood before
pub line-text : (before : List ℕ) (tokens : List Token) (d : Data) → tokens ≡ [] ++ tokens_of d
    → (before ++ print tokens) ++ 10 ∷ [] ≡ before ++ (compact_text d ++ 10 ∷ [])
line-text before tokens d is =
    ap (λ ts. (before ++ print ts) ++ 10 ∷ []) is
    ∙ ap (λ text. (before ++ text) ++ 10 ∷ []) (print-outline d)
    ∙ append_assoc before (compact_text d) (10 ∷ [])
