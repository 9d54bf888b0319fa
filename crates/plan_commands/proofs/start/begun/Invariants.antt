use Rattle.std.proofs.Common.{◌≡◌, length, map, take}
use Rattle.std.specs.List.{zip, range_with_len}
use Rattle.plan_commands.specs.commands.Start.{begun_by}
use Rattle.plan_commands.proofs.start.begun.Given as goal

abbrev pub invariant-loop-place : goal.invariant-loop-place
invariant-loop-place l = l.records.items ≡ map (begun_by l.plan l.fleet)
    (take l.place (zip (range_with_len l.first (length l.vms)) l.vms))
