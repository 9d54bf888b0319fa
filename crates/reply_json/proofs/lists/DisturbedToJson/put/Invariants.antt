use Rattle.std.proofs.Common.{◌≡◌, ◌++◌, drop, take}
use Rattle.std.specs.List.{All}
use Rattle.reply_json.specs.Fits.{NumbersFit}
use Rattle.reply_json.specs.ToJson.{tokens_of}
use Rattle.reply_json.specs.Values.{array_of, disturbed_data}
use Rattle.reply_json.proofs.TokenLemmas.{rest_of}
use Rattle.reply_json.proofs.lists.DisturbedToJson.put.Given as goal

abbrev pub invariant-loop-refusal : goal.invariant-loop-refusal
invariant-loop-refusal l = record {
  kept : l.writer.before ≡ l.fn.writer.before;
  written : l.writer.tokens ++ rest_of disturbed_data (drop l.refusal-index l.refusal-items)
      ≡ l.fn.writer.tokens ++ tokens_of (array_of disturbed_data l.refusal-items);
  fits : All (λ refusal. NumbersFit (disturbed_data refusal))
      (take l.refusal-index l.refusal-items);
}
