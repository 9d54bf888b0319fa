use Rattle.std.proofs.Common.{◌≡◌, ◌++◌, map}
use Rattle.fleet_commands.specs.commands.Inventory.{vm_line}
use Rattle.fleet_commands.proofs.listing.vm_lines.Given as goal

-- the lines so far are those of the rows so far, and the others are left
abbrev pub invariant-loop-row : goal.invariant-loop-row
invariant-loop-row l = record {
  lines : l.lines.items ≡ map vm_line l.yielded;
  left : l.yielded ++ l.row-iterator.rest.items ≡ l.initial.row-iterator.rest.items;
}
