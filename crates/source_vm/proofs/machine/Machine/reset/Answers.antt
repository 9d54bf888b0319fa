use Rattle.std.proofs.Common.{◌≡◌, ◌≢◌, ℕ, ◌<◌, List, length, set, true, false, cond, is_some, Some, None, subst, sym, ap, ◌∙◌, arith}
use Rattle.std.specs.List.{slice_get}
use Rattle.std.proofs.lemmas.Bool.{ne_eqb}
use Rattle.std.proofs.lemmas.Option.{slice_get-get_or}
use Rattle.log_model.specs.declared.entry.Act.TheVariants.{Reset}
use Rattle.log_model.specs.Legal.{all_of}
use Rattle.log_model.specs.Laws.{FitsBehind}
use Rattle.log_model.proofs.Accepted.{reset_stands}
use Rattle.change_tracker.specs.History.{Reset as Restarted}
use Rattle.source_disk.specs.SourceDisk.{SourceDiskState, machine_of, number_of, capacity_of}
use Rattle.source_disk.specs.StandsFor.{Takes, concerns}
use Rattle.source_disk.proofs.Taking.{others_pass}
use Rattle.source_disk.proofs.Holding.{holds_the_log}
use Rattle.source_vm.specs.MachineLog.{LogState}
use Rattle.source_vm.proofs.DiskLemmas.{Took, one_took}
use Rattle.basics.proofs.Results.{where_ok}
use Rattle.source_vm.proofs.MachineLemmas.{sound_after}
use Rattle.source_vm.proofs.machine.Machine.reset.Goals as goal

others : (disk k : ℕ) → k ≢ disk → concerns k (Reset disk) ≡ false
others disk k other =
    ap (λ b. is_some (cond b (Some Restarted) None)) (ne_eqb disk k (λ e. other (sym e)))

pub reset-requires : goal.reset-requires
reset-requires c =
    let log : LogState = c.self.inside.log in
    let disks : List SourceDiskState = c.self.inside.disks.items in
    let item : SourceDiskState = c.index_mut-tracked.result.now in
    let fits : FitsBehind (all_of log.capacities) log.entries c.args.who (Reset c.args.disk) =
    reset_stands log.capacities log.entries c.args.who c.args.disk (sym c.reset_refusal.ensures
    ∙ c.in_default.is) in
    let inside : c.args.disk < length disks = omega (arith, fits.0, c.self.invariant.stand.count) in
    let at : slice_get disks c.args.disk ≡ Some item =
    slice_get-get_or disks c.args.disk item inside
    ∙ ap Some (sym c.index_mut-tracked.ensures.value) in
    let few = (holds_the_log item log.entries
    (c.self.invariant.stand.each c.args.disk item at).stands).few_resets in
    omega (arith, few, fits.1)

pub invariant_of-self-2 : goal.invariant_of-self-2
invariant_of-self-2 c =
    let log : LogState = c.self.inside.log in
    let disks : List SourceDiskState = c.self.inside.disks.items in
    let disk : ℕ = c.args.disk in
    let item : SourceDiskState = c.index_mut-tracked.result.now in
    let now : SourceDiskState = c.reset.new.self in
    let fits : FitsBehind (all_of log.capacities) log.entries c.args.who (Reset disk) =
    reset_stands log.capacities log.entries c.args.who disk (sym c.reset_refusal.ensures
    ∙ c.in_default.is) in
    let roomy : c.reserve.new.self ≡ record log { room = true } =
    where_ok c.reserve.result (sym c.is_err.ensures.value ∙ c.if-is_err.false)
    c.reserve.ensures.ok in
    let inside : disk < length disks = omega (arith, fits.0, c.self.invariant.stand.count) in
    let at : slice_get disks disk ≡ Some item =
    slice_get-get_or disks disk item inside ∙ ap Some (sym c.index_mut-tracked.ensures.value) in
    let number : number_of item ≡ disk = (c.self.invariant.stand.each disk item at).numbered in
    let took : Took (Reset disk) item now = record {
      place = record {
        machine = ap (λ (d : SourceDiskState). machine_of d) c.reset.ensures.reset;
        number = ap (λ (d : SourceDiskState). number_of d) c.reset.ensures.reset;
        size = ap (λ (d : SourceDiskState). capacity_of d) c.reset.ensures.reset;
      };
      takes = subst (λ (n : ℕ). Takes (Reset n) item now) number c.reset.ensures.stands;
    } in
    sound_after c.self.inside.number log c.reserve.new.self c.push.new.self c.args.who (Reset disk)
    disks (set disks disk now) roomy c.push.ensures fits c.self.invariant
    (one_took others_pass (Reset disk) disk disks item now inside
    (subst (λ (d : SourceDiskState). Took (Reset disk) d now) c.index_mut-tracked.ensures.value
    took) (others disk))

pub returns-clause-legal : goal.returns-clause-legal
returns-clause-legal c = (invariant_of-self-2 c).legal
