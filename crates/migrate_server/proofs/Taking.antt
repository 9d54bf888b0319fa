-- The records of a server would be taken behind each command, as they would be before it.
use Rattle.std.proofs.Common.{◌≡◌, List, Option, None, Result, Ok, Err, sym, ap, subst}
use Rattle.cmd_json.specs.declared.command.Command.{Command}
use Rattle.answers.specs.Answer.{Answer}
use Rattle.fleet.specs.Fleet.{FleetState}
use Rattle.fleet.specs.Sound.{AllAreIn, IsFleet}
use Rattle.record_codec.specs.declared.record.Record.{Record}
use Rattle.restart.specs.Standing.{AreTaken}
use Rattle.migrate_server.specs.Serve.{WouldBeTaken}
use Rattle.migrate_server.specs.Session.{State, Answers, LateRefusal, refusal_of, state_after}
use Rattle.migrate_server.proofs.EachCommand.{refused_stays}
use Rattle.migrate_server.proofs.GoingOn.{goes_then}
use Rattle.migrate_server.proofs.Growing.{grows_by, taken_later}
use Rattle.migrate_server.proofs.LogsAfter.{in_then, none_refuses}
use Rattle.migrate_server.proofs.Owning.{owned_then}

-- the records that were taken over the fleet before a command are taken over the fleet behind it
pub taken_behind : (command : Command) (answer : Answer) (old new : State)
    (records : List Record) → IsFleet old.fleet → AllAreIn old.fleet
    → Answers command answer old new → WouldBeTaken old.fleet records
    → WouldBeTaken new.fleet records
taken_behind command (Ok reply) old new records is all h taken =
    let after = state_after command old in
    let none = none_refuses (refusal_of command old) (LateRefusal command None old) h.0 in
    let grows = grows_by old.fleet after.fleet (goes_then command old) (in_then command old all)
    (owned_then command old is none) in
    subst (λ (s : State). WouldBeTaken s.fleet records) (sym h.2)
    (taken.0, taken_later old.fleet after.fleet records taken.0 is grows taken.1)
taken_behind command (Err why) old new records is all h taken =
    subst (λ (fleet : FleetState). WouldBeTaken fleet records)
    (sym (refused_stays command why old new h).fleet) taken
