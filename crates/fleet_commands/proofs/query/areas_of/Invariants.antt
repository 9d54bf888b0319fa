use Rattle.std.proofs.Common.{◌≡◌, map, take}
use Rattle.fleet_commands.specs.commands.Query.{area_of}
use Rattle.fleet_commands.proofs.query.areas_of.Given as goal

abbrev pub invariant-loop-run : goal.invariant-loop-run
invariant-loop-run l = l.areas.items ≡ map area_of (take l.run-index l.runs)
