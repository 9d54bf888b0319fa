use Rattle.std.proofs.Common.{◌≡◌, ◌++◌, take}
use Rattle.std.specs.List.{range_with_len}
use Rattle.plan_commands.specs.commands.Start.{numbers_in}
use Rattle.plan_commands.proofs.start.all_numbers.Given as goal

abbrev pub invariant-loop-place : goal.invariant-loop-place
invariant-loop-place l = l.numbers.items
    ≡ numbers_in l.fn.plan l.state ++ take l.place (range_with_len l.first l.count)
