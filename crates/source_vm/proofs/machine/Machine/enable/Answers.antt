use Rattle.std.proofs.Common.{◌≡◌, List, ◌++◌, length, take, drop, true, subst, sym, ap, ◌∙◌}
use Rattle.log_model.specs.declared.entry.Act.TheVariants.{Enable}
use Rattle.log_model.specs.Legal.{all_of}
use Rattle.log_model.specs.Laws.{FitsBehind}
use Rattle.log_model.proofs.Accepted.{enable_stands}
use Rattle.source_disk.specs.SourceDisk.{SourceDiskState}
use Rattle.source_vm.specs.Disks.{IsSound, DisksTake}
use Rattle.source_vm.specs.MachineLog.{LogState}
use Rattle.basics.proofs.ItemAt.{take-written}
use Rattle.basics.proofs.Results.{where_ok}
use Rattle.source_vm.proofs.MachineLemmas.{sound_after}
use Rattle.source_vm.proofs.machine.Machine.enable.Goals as goal

pub invariant_of-self-2 : goal.invariant_of-self-2
invariant_of-self-2 c =
    let log : LogState = c.self.inside.log in
    let disks : List SourceDiskState = c.self.inside.disks.items in
    let new : List SourceDiskState = c.enable_all.new.disks in
    let fits : FitsBehind (all_of log.capacities) log.entries c.args.who Enable =
    enable_stands log.capacities log.entries c.args.who (sym c.enable_refusal.ensures
    ∙ c.in_default.is) in
    let roomy : c.reserve.new.self ≡ record log { room = true } =
    where_ok c.reserve.result (sym c.is_err.ensures.value ∙ c.if-is_err.false)
    c.reserve.ensures.ok in
    let takes : DisksTake Enable disks new =
    subst (λ (xs : List SourceDiskState). DisksTake Enable xs new) c.deref_mut.ensures.value
    c.enable_all.ensures in
    let back : take c.self.inside.disks.len (new ++ drop (length new) disks) ≡ new =
    take-written c.self.inside.disks.len new disks
    (sym (c.enable_all.auto.disks ∙ c.deref_mut.ensures.len)) in
    subst (λ (xs : List SourceDiskState). IsSound c.self.inside.number c.push.new.self.capacities
    c.push.new.self.entries xs) (sym back)
    (sound_after c.self.inside.number log c.reserve.new.self c.push.new.self c.args.who Enable disks
    new roomy c.push.ensures fits c.self.invariant takes)

pub returns-clause-legal : goal.returns-clause-legal
returns-clause-legal c = (invariant_of-self-2 c).legal
