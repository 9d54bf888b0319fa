use Rattle.std.proofs.Common.{◌≡◌, ◌++◌, drop, string_bytes, encode_utf8_all}
use Rattle.reply_json.proofs.values.digits_text.Given as goal

abbrev pub invariant-loop-digit : goal.invariant-loop-digit
invariant-loop-digit l =
    string_bytes l.text ++ encode_utf8_all (drop l.digit-index l.digits) ≡ encode_utf8_all l.digits
