-- Another block stands under another key.
use Rattle.std.proofs.Common.{rules}
use Rattle.snapshot_chain.proofs.Keys.{other_key}
use Rattle.snapshot_chain.proofs.layer.Layer.put_at.Goals as goal

pub returns-clause-others : goal.returns-clause-others
returns-clause-others c = search (rules, other_key)
