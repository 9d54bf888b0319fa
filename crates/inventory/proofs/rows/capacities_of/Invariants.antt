use Rattle.std.proofs.Common.{◌≡◌, take}
use Rattle.inventory.proofs.rows.capacities_of.Given as goal

abbrev pub invariant-loop-disk : goal.invariant-loop-disk
invariant-loop-disk l = l.capacities.items ≡ take l.disk l.machine.capacities
