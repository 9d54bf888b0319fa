-- A machine of a fleet as it is kept: the machine itself, or what is remembered of it while it is
-- out.
use Rattle.std.specs.Prelude.{ℕ, List, Bool, is_none, unwrap_or}
use Rattle.source_vm.specs.Machine.{MachineState}
use Rattle.fleet.specs.declared.vm.Vm.{Vm}

abbrev pub machine_under : Vm → MachineState
machine_under vm = unwrap_or vm.machine vm.remembered.value
