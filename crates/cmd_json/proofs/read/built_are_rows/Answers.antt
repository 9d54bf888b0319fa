use Rattle.std.proofs.Common.{refl}
use Rattle.cmd_json.proofs.read.built_are_rows.Goals as goal

pub returns-clause-these : goal.returns-clause-these
returns-clause-these c = refl

pub returns-clause-rows : goal.returns-clause-rows
returns-clause-rows c = refl
