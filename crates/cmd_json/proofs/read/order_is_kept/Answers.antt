use Rattle.cmd_json.proofs.OrderLemmas.{order_is_kept}
use Rattle.cmd_json.proofs.read.order_is_kept.Goals as goal

pub returns : goal.returns
returns c = order_is_kept
