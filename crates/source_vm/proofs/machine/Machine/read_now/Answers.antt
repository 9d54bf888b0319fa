use Rattle.std.proofs.Common.{◌≡◌, ℕ, ◌+◌, List, length, true, false, cond, Some, None, Ok, Err, slice_range, subst, sym, ap, refl, ◌∙◌}
use Rattle.std.specs.List.{slice_get}
use Rattle.basics.proofs.Results.{when_ok}
use Rattle.basics.specs.Refusal.{IsRefusedBy}
use Rattle.sector_model.specs.declared.sector.Sector.{Sector}
use Rattle.sector_model.specs.Run.{is_within}
use Rattle.log_model.specs.declared.refusals.LinkRefused.{LinkRefused}
use Rattle.log_model.specs.declared.refusals.LinkRefused.TheVariants.{Range}
use Rattle.log_model.specs.Entry.{contents}
use Rattle.log_model.specs.Legal.{capacity_of}
use Rattle.log_model.specs.Refusals.{is_on_disk}
use Rattle.source_disk.specs.SourceDisk.{SourceDiskState, number_of, capacity_of as size_of}
use Rattle.source_vm.specs.Disks.{IsDisk}
use Rattle.source_vm.specs.MachineLog.{LogState}
use Rattle.source_vm.specs.Machine.{MachineState}
use Rattle.source_vm.specs.Refusals.{read_now_refusal}
use Rattle.source_vm.proofs.MachineLemmas.{disk_at, known_at, lies_as, read_within, read_outside}
use Rattle.source_vm.proofs.machine.Machine.read_now.Goals as goal

pub returns-in-Some-clause-refused : goal.returns-in-Some-clause-refused
returns-in-Some-clause-refused c =
    let log : LogState = c.self.inside.log in
    let disks : List SourceDiskState = c.self.inside.disks.items in
    let d : SourceDiskState = c.in-Some.found.now in
    let count : ℕ = length c.args.buf.now in
    let at : slice_get disks c.args.disk ≡ Some d =
    ap (λ (xs : List SourceDiskState). slice_get xs c.args.disk) (sym c.deref.ensures.value)
    ∙ disk_at c.deref.result.now c.args.disk c.get.result c.in-Some.found c.get.ensures.lookup
    c.in-Some.is in
    let is : IsDisk c.self.inside.number c.args.disk (capacity_of log.capacities c.args.disk)
    log.entries d = c.self.invariant.stand.each c.args.disk d at in
    let within : is_on_disk log.capacities c.args.disk c.args.first count ≡ true =
    lies_as log.capacities c.args.disk c.args.first count d
    (known_at c.self.inside.number log.capacities log.entries disks c.args.disk d
    c.self.invariant.stand at) is.sized
    ∙ read_within (is_within (size_of d) c.args.first count) c.read.result c.read.ensures.refused
    (sym c.is_ok.ensures.value ∙ c.if-is_ok.true) in
    subst (λ (m : MachineState). IsRefusedBy {T = Unit {0}}
    (read_now_refusal m.capacities c.args.disk c.args.first count) (Ok tt)) c.self.view_is
    (subst (λ b. IsRefusedBy {T = Unit {0}} {E = LinkRefused} (cond b None (Some Range)) (Ok tt))
    (sym within) refl)

pub returns-in-Some-clause-sectors : goal.returns-in-Some-clause-sectors
returns-in-Some-clause-sectors c =
    let log : LogState = c.self.inside.log in
    let disks : List SourceDiskState = c.self.inside.disks.items in
    let d : SourceDiskState = c.in-Some.found.now in
    let buf : List Sector = c.read.new.buf in
    let end : ℕ = c.args.first + length c.args.buf.now in
    let at : slice_get disks c.args.disk ≡ Some d =
    ap (λ (xs : List SourceDiskState). slice_get xs c.args.disk) (sym c.deref.ensures.value)
    ∙ disk_at c.deref.result.now c.args.disk c.get.result c.in-Some.found c.get.ensures.lookup
    c.in-Some.is in
    let is : IsDisk c.self.inside.number c.args.disk (capacity_of log.capacities c.args.disk)
    log.entries d = c.self.invariant.stand.each c.args.disk d at in
    let told : buf ≡ slice_range (contents (size_of d) (number_of d) log.entries) c.args.first end =
    when_ok c.read.result (sym c.is_ok.ensures.value ∙ c.if-is_ok.true)
    (c.read.ensures.told log.entries is.stands) in
    subst (λ (m : MachineState). buf
    ≡ slice_range (contents (capacity_of m.capacities c.args.disk) c.args.disk m.log)
    c.args.first end) c.self.view_is
    (told ∙ (λ i. slice_range (contents (is.sized i) (is.numbered i) log.entries) c.args.first end))

pub returns-in_default-clause-refused : goal.returns-in_default-clause-refused
returns-in_default-clause-refused c =
    let log : LogState = c.self.inside.log in
    let disks : List SourceDiskState = c.self.inside.disks.items in
    let d : SourceDiskState = c.in-Some.found.now in
    let count : ℕ = length c.args.buf.now in
    let at : slice_get disks c.args.disk ≡ Some d =
    ap (λ (xs : List SourceDiskState). slice_get xs c.args.disk) (sym c.deref.ensures.value)
    ∙ disk_at c.deref.result.now c.args.disk c.get.result c.in-Some.found c.get.ensures.lookup
    c.in-Some.is in
    let is : IsDisk c.self.inside.number c.args.disk (capacity_of log.capacities c.args.disk)
    log.entries d = c.self.invariant.stand.each c.args.disk d at in
    let outside : is_on_disk log.capacities c.args.disk c.args.first count ≡ false =
    lies_as log.capacities c.args.disk c.args.first count d
    (known_at c.self.inside.number log.capacities log.entries disks c.args.disk d
    c.self.invariant.stand at) is.sized
    ∙ read_outside (is_within (size_of d) c.args.first count) c.read.result c.read.ensures.refused
    (sym c.is_ok.ensures.value ∙ c.if-is_ok.false) in
    subst (λ (m : MachineState). IsRefusedBy {T = Unit {0}}
    (read_now_refusal m.capacities c.args.disk c.args.first count) (Err Range)) c.self.view_is
    (subst (λ b. IsRefusedBy {T = Unit {0}} {E = LinkRefused} (cond b None (Some Range))
    (Err Range)) (sym outside) refl)
