use Rattle.std.proofs.Common.{arith}
use Rattle.log_model.specs.Legal.{all_of}
use Rattle.log_model.proofs.Accepted.{written_bounded}
use Rattle.source_vm.proofs.machine_log.MachineLog.write_refusal.Goals as goal

pub overflow_add-is_full : goal.overflow_add-is_full
overflow_add-is_full c =
    omega (
      arith,
      c.self.invariant.stand.sectors,
      written_bounded
          (all_of c.self.inside.capacities.items) c.self.inside.entries.items
          c.self.invariant.legal,
    )
