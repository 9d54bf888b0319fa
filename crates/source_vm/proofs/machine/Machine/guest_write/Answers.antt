use Rattle.std.proofs.Common.{◌≡◌, ◌≢◌, ℕ, ◌<◌, List, length, set, true, false, cond, eqb, is_some, Some, None, ◌||◌, subst, sym, ap, ◌∙◌, arith}
use Rattle.std.specs.List.{slice_get}
use Rattle.std.proofs.lemmas.Bool.{ne_eqb}
use Rattle.std.proofs.lemmas.Option.{slice_get-get_or}
use Rattle.sector_model.specs.declared.sector.Sector.{Sector}
use Rattle.log_model.specs.declared.entry.Act.TheVariants.{Write}
use Rattle.log_model.specs.Legal.{all_of}
use Rattle.log_model.specs.Laws.{FitsBehind}
use Rattle.log_model.proofs.Accepted.{write_stands}
use Rattle.source_disk.specs.SourceDisk.{SourceDiskState, machine_of, number_of, capacity_of, after_writing, IsSameButRoom}
use Rattle.source_disk.specs.StandsFor.{Takes, concerns}
use Rattle.snapshot_chain.specs.History.{Written}
use Rattle.change_tracker.specs.History.{Marked}
use Rattle.source_disk.proofs.Taking.{others_pass}
use Rattle.source_vm.specs.MachineLog.{LogState}
use Rattle.source_vm.proofs.DiskLemmas.{Took, one_took, still_one}
use Rattle.basics.proofs.Results.{where_ok, where_err}
use Rattle.source_vm.proofs.MachineLemmas.{sound_after, sound_still, IsPushed}
use Rattle.source_vm.proofs.machine.Machine.guest_write.Goals as goal

others : (disk first : ℕ) (sectors : List Sector) (k : ℕ) → k ≢ disk
    → concerns k (Write disk first sectors) ≡ false
others disk first sectors k other =
    let different : eqb disk k ≡ false = ne_eqb disk k (λ e. other (sym e)) in
    ap (λ b. is_some (cond b (Some (Written (record { first = first; sectors = sectors }))) None) ||
    is_some (cond b (Some (Marked (record { first = first; count = length sectors }))) None))
    different

pub invariant_of-self-then-is_err-2 : goal.invariant_of-self-then-is_err-2
invariant_of-self-then-is_err-2 c =
    let log : LogState = c.self.inside.log in
    let disks : List SourceDiskState = c.self.inside.disks.items in
    let disk : ℕ = c.args.disk in
    let item : SourceDiskState = c.index_mut-written.result.now in
    let now : SourceDiskState = c.write.new.self in
    let fits : FitsBehind (all_of log.capacities) log.entries c.args.who
    (Write disk c.args.first c.args.sectors.now) =
    write_stands log.capacities log.entries c.args.who disk c.args.first c.args.sectors.now
    (sym c.write_refusal.ensures ∙ c.in_default.is) in
    let roomy : c.reserve.new.self ≡ record log { room = true } =
    where_ok c.reserve.result (sym c.is_err.ensures.value ∙ c.if-is_err.false)
    c.reserve.ensures.ok in
    let inside : disk < length disks =
    omega (arith, fits.0.within.0, c.self.invariant.stand.count) in
    let same : IsSameButRoom item now =
    where_err c.write.result (sym c.is_err-2.ensures.value ∙ c.if-is_err-2.true)
    c.write.ensures.err in
    sound_still c.self.inside.number log c.reserve.new.self disks (set disks disk now) roomy
    c.self.invariant
    (still_one c.room_is_no_part.ensures disk disks item now inside
    (subst (λ (d : SourceDiskState). IsSameButRoom d now) c.index_mut-written.ensures.value
    same))

pub invariant_of-self-2 : goal.invariant_of-self-2
invariant_of-self-2 c =
    let log : LogState = c.self.inside.log in
    let disks : List SourceDiskState = c.self.inside.disks.items in
    let disk : ℕ = c.args.disk in
    let first : ℕ = c.args.first in
    let sectors : List Sector = c.args.sectors.now in
    let item : SourceDiskState = c.index_mut-written.result.now in
    let now : SourceDiskState = c.write.new.self in
    let fits : FitsBehind (all_of log.capacities) log.entries c.args.who (Write disk first sectors)
    = write_stands log.capacities log.entries c.args.who disk first sectors
    (sym c.write_refusal.ensures ∙ c.in_default.is) in
    let roomy : c.reserve.new.self ≡ record log { room = true } =
    where_ok c.reserve.result (sym c.is_err.ensures.value ∙ c.if-is_err.false)
    c.reserve.ensures.ok in
    let inside : disk < length disks =
    omega (arith, fits.0.within.0, c.self.invariant.stand.count) in
    let at : slice_get disks disk ≡ Some item =
    slice_get-get_or disks disk item inside ∙ ap Some (sym c.index_mut-written.ensures.value) in
    let number : number_of item ≡ disk = (c.self.invariant.stand.each disk item at).numbered in
    let ok : now ≡ after_writing first sectors item =
    where_ok c.write.result (sym c.is_err-2.ensures.value ∙ c.if-is_err-2.false)
    c.write.ensures.ok in
    let stands : Takes (Write (number_of item) first sectors) item now =
    where_ok c.write.result (sym c.is_err-2.ensures.value ∙ c.if-is_err-2.false)
    c.write.ensures.stands in
    let took : Took (Write disk first sectors) item now = record {
      place = record {
        machine = ap (λ (d : SourceDiskState). machine_of d) ok;
        number = ap (λ (d : SourceDiskState). number_of d) ok;
        size = ap (λ (d : SourceDiskState). capacity_of d) ok;
      };
      takes = subst (λ (n : ℕ). Takes (Write n first sectors) item now) number stands;
    } in
    let pushed : IsPushed c.args.who (Write disk first sectors) c.reserve.new.self c.push.new.self =
    subst (λ (xs : List Sector). IsPushed c.args.who (Write disk first xs) c.reserve.new.self
    c.push.new.self) c.in-Ok.ensures c.push.ensures in
    sound_after c.self.inside.number log c.reserve.new.self c.push.new.self c.args.who
    (Write disk first sectors) disks (set disks disk now) roomy pushed fits c.self.invariant
    (one_took others_pass (Write disk first sectors) disk disks item now inside
    (subst (λ (d : SourceDiskState). Took (Write disk first sectors) d now)
    c.index_mut-written.ensures.value took) (others disk first sectors))

pub returns-clause-legal : goal.returns-clause-legal
returns-clause-legal c = (invariant_of-self-2 c).legal
