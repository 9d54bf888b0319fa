use Rattle.std.proofs.Common.{◌≡◌, ℕ, List, true, not, cond, Some, None, is_ok, IfOk, subst, sym, ap, ◌∙◌}
use Rattle.std.specs.List.{slice_get}
use Rattle.basics.specs.Refusal.{IsRefusedBy}
use Rattle.change_tracker.specs.declared.refusals.TrackRefused.TheVariants.{UnknownSnap as NotKnown}
use Rattle.log_model.specs.declared.refusals.LinkRefused.TheVariants.{UnknownSnap, Range}
use Rattle.log_model.specs.Legal.{capacity_of}
use Rattle.log_model.specs.Marks.{id_at}
use Rattle.log_model.specs.Refusals.{is_live, is_known, change_id_refusal}
use Rattle.source_disk.specs.SourceDisk.{SourceDiskState, machine_of, number_of}
use Rattle.source_vm.specs.Disks.{IsDisk}
use Rattle.source_vm.specs.MachineLog.{LogState}
use Rattle.source_vm.specs.Machine.{MachineState}
use Rattle.source_vm.proofs.MachineLemmas.{disk_at, known_at, found_on}
use Rattle.source_vm.proofs.machine.Machine.change_id.Goals as goal

pub returns-in-Some-clause-refused : goal.returns-in-Some-clause-refused
returns-in-Some-clause-refused c =
    let log : LogState = c.self.inside.log in
    let disks : List SourceDiskState = c.self.inside.disks.items in
    let d : SourceDiskState = c.in-Some.found.now in
    let at : slice_get disks c.args.disk ≡ Some d =
    ap (λ (xs : List SourceDiskState). slice_get xs c.args.disk) (sym c.deref.ensures.value)
    ∙ disk_at c.deref.result.now c.args.disk c.get.result c.in-Some.found c.get.ensures.lookup
    c.in-Some.is in
    let is : IsDisk c.self.inside.number c.args.disk (capacity_of log.capacities c.args.disk)
    log.entries d = c.self.invariant.stand.each c.args.disk d at in
    let live : is_live c.args.id log.entries ≡ true =
    sym c.is_live.ensures ∙ c.if-not-is_live.false in
    let known : is_known log.capacities c.args.disk ≡ true =
    known_at c.self.inside.number log.capacities log.entries disks c.args.disk d
    c.self.invariant.stand at in
    let told : is_ok c.id_of.result ≡ true =
    subst (λ b. IsRefusedBy (cond b None (Some NotKnown)) c.id_of.result) live
    (c.id_of.ensures.refused log.entries is.stands) in
    subst (λ (m : MachineState). IsRefusedBy
    (change_id_refusal m.capacities c.args.id c.args.disk m.log) c.map_err.result)
    c.self.view_is
    (subst (λ a. IsRefusedBy
    (cond (not a) (Some UnknownSnap)
    (cond (not (is_known log.capacities c.args.disk)) (Some Range) None)) c.map_err.result)
    (sym live)
    (subst (λ b. IsRefusedBy (cond (not b) (Some Range) None) c.map_err.result) (sym known)
    (c.map_err.ensures.variant ∙ told)))

pub returns-in-Some-clause-found : goal.returns-in-Some-clause-found
returns-in-Some-clause-found c =
    let log : LogState = c.self.inside.log in
    let disks : List SourceDiskState = c.self.inside.disks.items in
    let d : SourceDiskState = c.in-Some.found.now in
    let at : slice_get disks c.args.disk ≡ Some d =
    ap (λ (xs : List SourceDiskState). slice_get xs c.args.disk) (sym c.deref.ensures.value)
    ∙ disk_at c.deref.result.now c.args.disk c.get.result c.in-Some.found c.get.ensures.lookup
    c.in-Some.is in
    let is : IsDisk c.self.inside.number c.args.disk (capacity_of log.capacities c.args.disk)
    log.entries d = c.self.invariant.stand.each c.args.disk d at in
    let live : is_live c.args.id log.entries ≡ true =
    sym c.is_live.ensures ∙ c.if-not-is_live.false in
    let told : is_ok c.id_of.result ≡ true =
    subst (λ b. IsRefusedBy (cond b None (Some NotKnown)) c.id_of.result) live
    (c.id_of.ensures.refused log.entries is.stands) in
    let found : IfOk c.map_err.result
    (λ found. found ≡ id_at (machine_of d) (number_of d) c.args.id log.entries) =
    found_on (λ found. found ≡ id_at (machine_of d) (number_of d) c.args.id log.entries) _
    c.id_of.result c.map_err.result c.map_err.ensures.cases told
    (c.id_of.ensures.found log.entries is.stands) in
    subst (λ (m : MachineState). IfOk c.map_err.result
    (λ found. found ≡ id_at m.number c.args.disk c.args.id m.log)) c.self.view_is
    (subst (λ (n : ℕ). IfOk c.map_err.result
    (λ found. found ≡ id_at n c.args.disk c.args.id log.entries)) is.of_machine
    (subst (λ (k : ℕ). IfOk c.map_err.result
    (λ found. found ≡ id_at (machine_of d) k c.args.id log.entries)) is.numbered found))
