use Rattle.std.proofs.Common.{ap, sym, ◌∙◌, Err}
use Rattle.cmd_json.specs.Left.{object_of}
use Rattle.cmd_json.proofs.MemberLemmas.{first_left}
use Rattle.cmd_json.proofs.members.Members.finish.Goals as goal

pub returns-in-Some-clause-read : goal.returns-in-Some-clause-read
returns-in-Some-clause-read g c = λ paid.
    first_left c.args.read (object_of c.args.self.list.items) c.in-Some.name.now
    (sym c.in-Some.ensures) ∙ ap Err (sym (c.refusal_of.ensures paid))
