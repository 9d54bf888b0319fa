use Rattle.std.proofs.Common.{◌≡◌, map, take}
use Rattle.plan_commands.specs.commands.Status.{migration_line}
use Rattle.plan_commands.proofs.status.status_of.Given as goal

abbrev pub invariant-loop-migration : goal.invariant-loop-migration
invariant-loop-migration l = l.lines.items
    ≡ map (migration_line l.fleet l.state) (take l.migration-index l.migration-items)
