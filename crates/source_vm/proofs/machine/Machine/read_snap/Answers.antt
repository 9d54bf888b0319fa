use Rattle.std.proofs.Common.{◌≡◌, ℕ, ◌+◌, List, length, Bool, true, false, not, cond, Option, Some, None, is_none, Result, Ok, Err, slice_range, subst, sym, ap, refl, ◌∙◌}
use Rattle.std.specs.List.{slice_get}
use Rattle.basics.proofs.Results.{when_ok}
use Rattle.basics.specs.Refusal.{IsRefusedBy}
use Rattle.sector_model.specs.declared.sector.Sector.{Sector}
use Rattle.snapshot_chain.specs.declared.chain.ChainRefused.{ChainRefused}
use Rattle.snapshot_chain.specs.declared.chain.ChainRefused.TheVariants.{UnknownSnap as ChainUnknown, Range as ChainRange}
use Rattle.sector_model.specs.Run.{is_within}
use Rattle.log_model.specs.declared.refusals.LinkRefused.{LinkRefused}
use Rattle.log_model.specs.declared.refusals.LinkRefused.TheVariants.{UnknownSnap, Range}
use Rattle.log_model.specs.Frozen.{frozen}
use Rattle.log_model.specs.Legal.{capacity_of}
use Rattle.log_model.specs.Refusals.{is_on_disk, is_live, read_refusal}
use Rattle.source_disk.specs.SourceDisk.{SourceDiskState, number_of, capacity_of as size_of, contents_of}
use Rattle.source_disk.proofs.Holding.{holds_the_log}
use Rattle.source_vm.specs.Disks.{IsDisk}
use Rattle.source_vm.specs.MachineLog.{LogState}
use Rattle.source_vm.specs.Machine.{MachineState}
use Rattle.source_vm.proofs.MachineLemmas.{disk_at, known_at, lies_as, read_within, read_outside}
use Rattle.source_vm.proofs.machine.Machine.read_snap.Goals as goal

-- a live snapshot is refused for its range alone
ranged : {T : Type 0} (within : Bool) (o : Option (List Sector)) (x : List Sector)
    (r : Result T ChainRefused) → o ≡ Some x
    → IsRefusedBy (cond (is_none o) (Some ChainUnknown) (cond within None (Some ChainRange))) r
    → IsRefusedBy (cond within None (Some ChainRange)) r
ranged within o x r is refused =
    subst (λ p. IsRefusedBy
    (cond (is_none p) (Some ChainUnknown) (cond within None (Some ChainRange))) r) is refused

pub returns-in-Some-clause-refused : goal.returns-in-Some-clause-refused
returns-in-Some-clause-refused c =
    let log : LogState = c.self.inside.log in
    let disks : List SourceDiskState = c.self.inside.disks.items in
    let d : SourceDiskState = c.in-Some.found.now in
    let count : ℕ = length c.args.buf.now in
    let at : slice_get disks c.args.disk ≡ Some d =
    ap (λ (xs : List SourceDiskState). slice_get xs c.args.disk) (sym c.deref.ensures.value)
    ∙ disk_at c.deref.result.now c.args.disk c.get.result c.in-Some.found c.get.ensures.lookup
    c.in-Some.is in
    let is : IsDisk c.self.inside.number c.args.disk (capacity_of log.capacities c.args.disk)
    log.entries d = c.self.invariant.stand.each c.args.disk d at in
    let live : is_live c.args.id log.entries ≡ true =
    sym c.is_live.ensures ∙ c.if-not-is_live.false in
    let has = (holds_the_log d log.entries is.stands).frozen c.args.id live in
    let within : is_on_disk log.capacities c.args.disk c.args.first count ≡ true =
    lies_as log.capacities c.args.disk c.args.first count d
    (known_at c.self.inside.number log.capacities log.entries disks c.args.disk d
    c.self.invariant.stand at) is.sized
    ∙ read_within (is_within (size_of d) c.args.first count) c.read.result
    (ranged (is_within (size_of d) c.args.first count) (contents_of (Some c.args.id) d) _
    c.read.result has c.read.ensures.refused) (sym c.is_ok.ensures.value ∙ c.if-is_ok.true) in
    subst (λ (m : MachineState). IsRefusedBy {T = Unit {0}}
    (read_refusal m.capacities c.args.id c.args.disk c.args.first count m.log) (Ok tt))
    c.self.view_is
    (subst (λ a. IsRefusedBy {T = Unit {0}} {E = LinkRefused}
    (cond (not a) (Some UnknownSnap)
    (cond (not (is_on_disk log.capacities c.args.disk c.args.first count)) (Some Range) None))
    (Ok tt)) (sym live)
    (subst (λ b. IsRefusedBy {T = Unit {0}} {E = LinkRefused} (cond (not b) (Some Range) None)
    (Ok tt)) (sym within) refl))

pub returns-in-Some-clause-sectors : goal.returns-in-Some-clause-sectors
returns-in-Some-clause-sectors c =
    let log : LogState = c.self.inside.log in
    let disks : List SourceDiskState = c.self.inside.disks.items in
    let d : SourceDiskState = c.in-Some.found.now in
    let buf : List Sector = c.read.new.buf in
    let end : ℕ = c.args.first + length c.args.buf.now in
    let at : slice_get disks c.args.disk ≡ Some d =
    ap (λ (xs : List SourceDiskState). slice_get xs c.args.disk) (sym c.deref.ensures.value)
    ∙ disk_at c.deref.result.now c.args.disk c.get.result c.in-Some.found c.get.ensures.lookup
    c.in-Some.is in
    let is : IsDisk c.self.inside.number c.args.disk (capacity_of log.capacities c.args.disk)
    log.entries d = c.self.invariant.stand.each c.args.disk d at in
    let told : buf ≡ slice_range (frozen (size_of d) (number_of d) c.args.id log.entries)
    c.args.first end = when_ok c.read.result (sym c.is_ok.ensures.value ∙ c.if-is_ok.true)
    (c.read.ensures.told log.entries is.stands) in
    subst (λ (m : MachineState). buf
    ≡ slice_range (frozen (capacity_of m.capacities c.args.disk) c.args.disk c.args.id m.log)
    c.args.first end) c.self.view_is
    (told ∙ (λ i. slice_range (frozen (is.sized i) (is.numbered i) c.args.id log.entries)
    c.args.first end))

pub returns-in_default-clause-refused : goal.returns-in_default-clause-refused
returns-in_default-clause-refused c =
    let log : LogState = c.self.inside.log in
    let disks : List SourceDiskState = c.self.inside.disks.items in
    let d : SourceDiskState = c.in-Some.found.now in
    let count : ℕ = length c.args.buf.now in
    let at : slice_get disks c.args.disk ≡ Some d =
    ap (λ (xs : List SourceDiskState). slice_get xs c.args.disk) (sym c.deref.ensures.value)
    ∙ disk_at c.deref.result.now c.args.disk c.get.result c.in-Some.found c.get.ensures.lookup
    c.in-Some.is in
    let is : IsDisk c.self.inside.number c.args.disk (capacity_of log.capacities c.args.disk)
    log.entries d = c.self.invariant.stand.each c.args.disk d at in
    let live : is_live c.args.id log.entries ≡ true =
    sym c.is_live.ensures ∙ c.if-not-is_live.false in
    let has = (holds_the_log d log.entries is.stands).frozen c.args.id live in
    let outside : is_on_disk log.capacities c.args.disk c.args.first count ≡ false =
    lies_as log.capacities c.args.disk c.args.first count d
    (known_at c.self.inside.number log.capacities log.entries disks c.args.disk d
    c.self.invariant.stand at) is.sized
    ∙ read_outside (is_within (size_of d) c.args.first count) c.read.result
    (ranged (is_within (size_of d) c.args.first count) (contents_of (Some c.args.id) d) _
    c.read.result has c.read.ensures.refused) (sym c.is_ok.ensures.value ∙ c.if-is_ok.false) in
    subst (λ (m : MachineState). IsRefusedBy {T = Unit {0}}
    (read_refusal m.capacities c.args.id c.args.disk c.args.first count m.log) (Err Range))
    c.self.view_is
    (subst (λ a. IsRefusedBy {T = Unit {0}} {E = LinkRefused}
    (cond (not a) (Some UnknownSnap)
    (cond (not (is_on_disk log.capacities c.args.disk c.args.first count)) (Some Range) None))
    (Err Range)) (sym live)
    (subst (λ b. IsRefusedBy {T = Unit {0}} {E = LinkRefused} (cond (not b) (Some Range) None)
    (Err Range)) (sym outside) refl))
