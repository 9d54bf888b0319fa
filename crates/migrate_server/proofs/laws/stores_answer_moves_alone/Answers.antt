use Rattle.migrate_server.proofs.AnyStores.{stores_answer_moves_alone}
use Rattle.migrate_server.proofs.laws.stores_answer_moves_alone.Goals as goal

pub returns : goal.returns
returns c = stores_answer_moves_alone
