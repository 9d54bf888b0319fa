use Rattle.json.specs.Value.{members_view}
use Rattle.serde_json.specs.Data.{no_members}
use Rattle.cmd_json.proofs.MemberLemmas.{first_name-put_all}
use Rattle.cmd_json.proofs.members.least_name.Goals as goal

pub loop-member-init : goal.loop-member-init
loop-member-init c = first_name-put_all (members_view c.deref-member-items.result.now) no_members
