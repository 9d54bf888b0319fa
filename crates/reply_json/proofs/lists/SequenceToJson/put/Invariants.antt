use Rattle.std.proofs.Common.{◌≡◌, ◌++◌, drop, take}
use Rattle.std.specs.List.{All}
use Rattle.reply_json.specs.Fits.{NumbersFit}
use Rattle.reply_json.specs.ToJson.{tokens_of}
use Rattle.reply_json.specs.Values.{array_of}
use Rattle.reply_json.proofs.TokenLemmas.{rest_of}
use Rattle.reply_json.proofs.lists.SequenceToJson.put.Given as goal

abbrev pub invariant-loop-item : goal.invariant-loop-item
invariant-loop-item g l = record {
  kept : l.writer.before ≡ l.fn.writer.before;
  written : l.writer.tokens ++ rest_of g.T.ToJson.json (drop l.item-index l.item-items)
      ≡ l.fn.writer.tokens ++ tokens_of (array_of g.T.ToJson.json l.item-items);
  fits : All (λ value. NumbersFit (g.T.ToJson.json value)) (take l.item-index l.item-items);
}
