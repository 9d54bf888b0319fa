-- The command `inventory`: it lists the hosts and machines, in the order in which they were added.
use Rattle.std.specs.Prelude.{map}
use Rattle.reply_json.specs.declared.reply.HostLine.{HostLine}
use Rattle.reply_json.specs.declared.reply.Reply.{Reply}
use Rattle.reply_json.specs.declared.reply.Reply.TheVariants.{Inventory}
use Rattle.reply_json.specs.declared.reply.VmLine.{VmLine}
use Rattle.fleet.specs.Fleet.{FleetState}
use Rattle.inventory.specs.Rows.{host_rows, vm_rows}
use Rattle.inventory.specs.declared.rows.HostRow.{HostRow}
use Rattle.inventory.specs.declared.rows.VmRow.{VmRow}

abbrev pub host_line : HostRow → HostLine
host_line row = record { limit = row.limit; name = row.name }

abbrev pub vm_line : VmRow → VmLine
vm_line row = record {
  disks = row.capacities;
  host = row.host;
  name = row.name;
  number = row.number;
  on = row.on;
  tracking = row.tracking;
}

abbrev pub inventory_reply : FleetState → Reply
inventory_reply fleet =
    Inventory (map host_line (host_rows fleet)) (map vm_line (vm_rows fleet))
