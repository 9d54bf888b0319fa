use Rattle.std.proofs.Common.{◌≡◌, ◌-◌, ◌≤◌, length, take}
use Rattle.plan_commands.specs.Machines.{known_of}
use Rattle.plan_commands.proofs.machines.known_of.Given as goal

abbrev pub invariant-loop-alloc : goal.invariant-loop-alloc
invariant-loop-alloc l = record {
  known : l.known.items ≡ take l.place (known_of l.fleet l.state);
  within : l.place ≤ length l.fleet.vms;
}

abbrev pub decreases-loop-alloc : goal.decreases-loop-alloc
decreases-loop-alloc l = length l.fleet.vms - l.place
