use Rattle.std.proofs.Common.{ap}
use Rattle.std.proofs.lemmas.Str.{encodes-IsAscii}
use Rattle.serde_json.specs.Data.{string}
use Rattle.reply_json.proofs.line.digits_are_text.Goals as goal

pub returns : goal.returns
returns c = λ digits ascii. ap string (encodes-IsAscii digits ascii)
