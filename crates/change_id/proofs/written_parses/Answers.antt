use Rattle.std.proofs.Common.{Ok, refl}
use Rattle.change_id.specs.ChangeId.{spelling}
use Rattle.change_id.proofs.AnswerLemmas.{one_answer}
use Rattle.change_id.proofs.written_parses.Goals as goal

pub returns : goal.returns
returns c = λ id answer is_id a.
    one_answer (spelling id.uuid id.seq) answer (Ok id) a
    (record { identifier = is_id; spelled = refl })
