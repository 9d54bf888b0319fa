use Rattle.std.proofs.Common.{◌≡◌, ℕ, ◌+◌, List, ◌++◌, length, take, drop, true, subst, sym, ap, ◌∙◌}
use Rattle.std.specs.List.{All}
use Rattle.log_model.specs.declared.entry.Act.{Act}
use Rattle.log_model.specs.declared.entry.Act.TheVariants.{Snap}
use Rattle.log_model.specs.Legal.{all_of, taken}
use Rattle.log_model.specs.Laws.{FitsBehind}
use Rattle.log_model.proofs.Accepted.{snap_stands}
use Rattle.source_disk.specs.SourceDisk.{SourceDiskState, has_freeze_room}
use Rattle.source_disk.proofs.Holding.{next_is_free}
use Rattle.source_vm.specs.Disks.{IsSound, DisksTake, StillDisks, CanFreeze}
use Rattle.source_vm.specs.MachineLog.{LogState}
use Rattle.source_vm.proofs.DiskLemmas.{all_can_freeze}
use Rattle.basics.proofs.ItemAt.{take-written}
use Rattle.basics.proofs.Results.{where_ok}
use Rattle.source_vm.proofs.MachineLemmas.{sound_after, sound_still, IsPushed}
use Rattle.source_vm.proofs.machine.Machine.snap.Goals as goal

pub invariant_of-self-then-is_err-2 : goal.invariant_of-self-then-is_err-2
invariant_of-self-then-is_err-2 c =
    let log : LogState = c.self.inside.log in
    let disks : List SourceDiskState = c.self.inside.disks.items in
    let new : List SourceDiskState = c.reserve_freezes.new.disks in
    let roomy : c.reserve.new.self ≡ record log { room = true } =
    where_ok c.reserve.result (sym c.is_err.ensures.value ∙ c.if-is_err.false)
    c.reserve.ensures.ok in
    let still : StillDisks disks new =
    subst (λ (xs : List SourceDiskState). StillDisks xs new) c.deref_mut.ensures.value
    c.reserve_freezes.ensures.still in
    let back : take c.self.inside.disks.len (new ++ drop (length new) disks) ≡ new =
    take-written c.self.inside.disks.len new disks
    (sym (c.reserve_freezes.auto.disks ∙ c.deref_mut.ensures.len)) in
    subst (λ (xs : List SourceDiskState). IsSound c.self.inside.number c.reserve.new.self.capacities
    c.reserve.new.self.entries xs) (sym back)
    (sound_still c.self.inside.number log c.reserve.new.self disks new roomy c.self.invariant still)

pub freeze_all-requires : goal.freeze_all-requires
freeze_all-requires c =
    let log : LogState = c.self.inside.log in
    let disks : List SourceDiskState = c.self.inside.disks.items in
    let roomed : List SourceDiskState = c.reserve_freezes.new.disks in
    let roomy : c.reserve.new.self ≡ record log { room = true } =
    where_ok c.reserve.result (sym c.is_err.ensures.value ∙ c.if-is_err.false)
    c.reserve.ensures.ok in
    let len_is : length disks ≡ c.self.inside.disks.len =
    sym (ap length c.deref_mut.ensures.value) ∙ c.deref_mut.ensures.len in
    let still : StillDisks disks roomed =
    subst (λ (xs : List SourceDiskState). StillDisks xs roomed) c.deref_mut.ensures.value
    c.reserve_freezes.ensures.still in
    let same : length roomed ≡ length disks =
    c.reserve_freezes.auto.disks ∙ ap length c.deref_mut.ensures.value in
    let back : take c.self.inside.disks.len (roomed ++ drop (length roomed) disks) ≡ roomed =
    take-written c.self.inside.disks.len roomed disks (sym (same ∙ len_is)) in
    let met : c.deref_mut-2.result.now ≡ roomed = c.deref_mut-2.ensures.value ∙ back in
    let room : All (λ d. has_freeze_room d ≡ true) roomed =
    where_ok c.reserve_freezes.result (sym c.is_err-else-is_err.ensures.value
    ∙ c.if-is_err-2.false) c.reserve_freezes.ensures.room in
    let id_is : c.snapped-snapped.result.id ≡ taken log.entries + 1 =
    ap (λ s. s.id) c.snapped-snapped.ensures
    ∙ ap (λ (r : LogState). taken r.entries + 1) roomy in
    subst (λ (xs : List SourceDiskState). All (CanFreeze c.snapped-snapped.result.id) xs) (sym met)
    (subst (λ (id : ℕ). All (CanFreeze id) roomed) (sym id_is)
    (all_can_freeze next_is_free c.self.inside.number (all_of log.capacities) log.capacities
    log.entries roomed c.self.invariant.legal
    (still c.self.inside.number log.capacities log.entries c.self.invariant.stand) room))

pub invariant_of-self-2 : goal.invariant_of-self-2
invariant_of-self-2 c =
    let log : LogState = c.self.inside.log in
    let disks : List SourceDiskState = c.self.inside.disks.items in
    let roomed : List SourceDiskState = c.reserve_freezes.new.disks in
    let new : List SourceDiskState = c.freeze_all.new.disks in
    let act : Act = Snap (taken log.entries + 1) c.args.owner in
    let fits : FitsBehind (all_of log.capacities) log.entries c.args.who act =
    snap_stands log.capacities log.entries c.args.who c.args.must_be_off c.args.owner c.requires
    (sym c.snap_refusal.ensures ∙ c.in_default.is) in
    let roomy : c.reserve.new.self ≡ record log { room = true } =
    where_ok c.reserve.result (sym c.is_err.ensures.value ∙ c.if-is_err.false)
    c.reserve.ensures.ok in
    let len_is : length disks ≡ c.self.inside.disks.len =
    sym (ap length c.deref_mut.ensures.value) ∙ c.deref_mut.ensures.len in
    let still : StillDisks disks roomed =
    subst (λ (xs : List SourceDiskState). StillDisks xs roomed) c.deref_mut.ensures.value
    c.reserve_freezes.ensures.still in
    let same : length roomed ≡ length disks =
    c.reserve_freezes.auto.disks ∙ ap length c.deref_mut.ensures.value in
    let back : take c.self.inside.disks.len (roomed ++ drop (length roomed) disks) ≡ roomed =
    take-written c.self.inside.disks.len roomed disks (sym (same ∙ len_is)) in
    let met : c.deref_mut-2.result.now ≡ roomed = c.deref_mut-2.ensures.value ∙ back in
    let id_is : c.snapped-snapped.result.id ≡ taken log.entries + 1 =
    ap (λ s. s.id) c.snapped-snapped.ensures
    ∙ ap (λ (r : LogState). taken r.entries + 1) roomy in
    let takes : DisksTake act roomed new =
    subst (λ (id : ℕ). DisksTake (Snap id c.args.owner) roomed new) id_is
    (subst (λ (xs : List SourceDiskState). DisksTake (Snap c.snapped-snapped.result.id c.args.owner)
    xs new) met (c.freeze_all.ensures c.args.owner)) in
    let pushed : IsPushed c.args.who act c.reserve.new.self c.push.new.self =
    subst (λ (id : ℕ). IsPushed c.args.who (Snap id c.args.owner) c.reserve.new.self
    c.push.new.self) id_is c.push.ensures in
    let whole : take c.self.inside.disks.len
    (new ++ drop (length new)
    (take c.self.inside.disks.len (roomed ++ drop (length roomed) disks))) ≡ new =
    ap (λ (xs : List SourceDiskState). take c.self.inside.disks.len (new ++ drop (length new) xs))
    back
    ∙ take-written c.self.inside.disks.len new roomed
    (sym (c.freeze_all.auto.disks ∙ ap length met ∙ same ∙ len_is)) in
    subst (λ (xs : List SourceDiskState). IsSound c.self.inside.number c.push.new.self.capacities
    c.push.new.self.entries xs) (sym whole)
    (sound_after c.self.inside.number log c.reserve.new.self c.push.new.self c.args.who act roomed
    new roomy pushed fits
    (record {
      sizes = c.self.invariant.sizes;
      legal = c.self.invariant.legal;
      stand = still
          c.self.inside.number log.capacities log.entries c.self.invariant.stand;
    }) takes)

pub returns-clause-legal : goal.returns-clause-legal
returns-clause-legal c = (invariant_of-self-2 c).legal
