use Rattle.std.proofs.Common.{◌≡◌, List, true, refl, sym, ◌∙◌}
use Rattle.log_model.specs.declared.entry.Act.TheVariants.{On}
use Rattle.log_model.specs.Legal.{all_of}
use Rattle.log_model.specs.Laws.{FitsBehind}
use Rattle.log_model.proofs.Accepted.{on_stands}
use Rattle.source_disk.specs.SourceDisk.{SourceDiskState}
use Rattle.source_disk.proofs.Taking.{others_pass}
use Rattle.source_vm.specs.MachineLog.{LogState}
use Rattle.source_vm.proofs.DiskLemmas.{none_took}
use Rattle.basics.proofs.Results.{where_ok}
use Rattle.source_vm.proofs.MachineLemmas.{sound_after}
use Rattle.source_vm.proofs.machine.Machine.power_on.Goals as goal

pub invariant_of-self-2 : goal.invariant_of-self-2
invariant_of-self-2 c =
    let log : LogState = c.self.inside.log in
    let disks : List SourceDiskState = c.self.inside.disks.items in
    let fits : FitsBehind (all_of log.capacities) log.entries c.args.who On =
    on_stands log.capacities log.entries c.args.who (sym c.power_on_refusal.ensures
    ∙ c.in_default.is) in
    let roomy : c.reserve.new.self ≡ record log { room = true } =
    where_ok c.reserve.result (sym c.is_err.ensures.value ∙ c.if-is_err.false)
    c.reserve.ensures.ok in
    sound_after c.self.inside.number log c.reserve.new.self c.push.new.self c.args.who On disks
    disks roomy c.push.ensures fits c.self.invariant
    (none_took others_pass On disks (λ k. refl))

pub returns-clause-legal : goal.returns-clause-legal
returns-clause-legal c = (invariant_of-self-2 c).legal
