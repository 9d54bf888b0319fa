use Rattle.std.proofs.Common.{◌≡◌, ℕ, List, ◌++◌, length, take, drop, true, Option, Some, None, is_some, subst, sym, ap, refl, ◌∙◌}
use Rattle.std.specs.List.{All}
use Rattle.std.proofs.lemmas.Option.{none-some}
use Rattle.log_model.specs.declared.entry.Owner.{Owner}
use Rattle.log_model.specs.declared.entry.Act.TheVariants.{Remove}
use Rattle.log_model.specs.declared.entry.Entry.{Entry}
use Rattle.log_model.specs.Legal.{all_of, owner_of}
use Rattle.log_model.specs.Laws.{FitsBehind}
use Rattle.log_model.specs.Refusals.{owner_refusal, is_live}
use Rattle.log_model.proofs.Accepted.{remove_stands}
use Rattle.source_disk.specs.SourceDisk.{SourceDiskState, HasMergeRoom}
use Rattle.source_disk.proofs.Holding.{holds_the_log}
use Rattle.source_vm.specs.Disks.{IsSound, DisksTake, StillDisks, HasSnap}
use Rattle.source_vm.specs.MachineLog.{LogState}
use Rattle.source_vm.proofs.DiskLemmas.{all_have}
use Rattle.basics.proofs.ItemAt.{take-written}
use Rattle.basics.proofs.Results.{where_ok}
use Rattle.source_vm.proofs.MachineLemmas.{sound_after, sound_still}
use Rattle.source_vm.proofs.machine.Machine.remove.Goals as goal

-- a snapshot whose removal isn't refused is live
live_there : (who : ℕ) (owner : Owner) (o : Option Owner) (log : List Entry)
    → owner_refusal who owner o log ≡ None → is_some o ≡ true
live_there who owner None log h = absurd (none-some _ (sym h))
live_there who owner (Some has) log h = refl

pub reserve_merges-requires : goal.reserve_merges-requires
reserve_merges-requires c =
    let log : LogState = c.self.inside.log in
    let disks : List SourceDiskState = c.self.inside.disks.items in
    let live : is_live c.args.id log.entries ≡ true =
    live_there c.args.who c.args.owner (owner_of c.args.id log.entries) log.entries
    (sym c.remove_refusal.ensures ∙ c.in_default.is) in
    subst (λ (xs : List SourceDiskState). All (HasSnap c.args.id) xs)
    (sym c.deref_mut.ensures.value)
    (all_have holds_the_log c.args.id c.self.inside.number log.capacities log.entries disks live
    c.self.invariant.stand)

pub invariant_of-self-then-is_err-2 : goal.invariant_of-self-then-is_err-2
invariant_of-self-then-is_err-2 c =
    let log : LogState = c.self.inside.log in
    let disks : List SourceDiskState = c.self.inside.disks.items in
    let new : List SourceDiskState = c.reserve_merges.new.disks in
    let roomy : c.reserve.new.self ≡ record log { room = true } =
    where_ok c.reserve.result (sym c.is_err.ensures.value ∙ c.if-is_err.false)
    c.reserve.ensures.ok in
    let still : StillDisks disks new =
    subst (λ (xs : List SourceDiskState). StillDisks xs new) c.deref_mut.ensures.value
    c.reserve_merges.ensures.still in
    let back : take c.self.inside.disks.len (new ++ drop (length new) disks) ≡ new =
    take-written c.self.inside.disks.len new disks
    (sym (c.reserve_merges.auto.disks ∙ c.deref_mut.ensures.len)) in
    subst (λ (xs : List SourceDiskState). IsSound c.self.inside.number c.reserve.new.self.capacities
    c.reserve.new.self.entries xs) (sym back)
    (sound_still c.self.inside.number log c.reserve.new.self disks new roomy c.self.invariant still)

pub merge_all-requires : goal.merge_all-requires
merge_all-requires c =
    let disks : List SourceDiskState = c.self.inside.disks.items in
    let roomed : List SourceDiskState = c.reserve_merges.new.disks in
    let len_is : length disks ≡ c.self.inside.disks.len =
    sym (ap length c.deref_mut.ensures.value) ∙ c.deref_mut.ensures.len in
    let same : length roomed ≡ length disks =
    c.reserve_merges.auto.disks ∙ ap length c.deref_mut.ensures.value in
    let met : c.deref_mut-2.result.now ≡ roomed =
    c.deref_mut-2.ensures.value
    ∙ take-written c.self.inside.disks.len roomed disks (sym (same ∙ len_is)) in
    subst (λ (xs : List SourceDiskState). All (HasMergeRoom c.args.id) xs) (sym met)
    (where_ok c.reserve_merges.result (sym c.is_err-else-is_err.ensures.value ∙ c.if-is_err-2.false)
    c.reserve_merges.ensures.room)

pub invariant_of-self-2 : goal.invariant_of-self-2
invariant_of-self-2 c =
    let log : LogState = c.self.inside.log in
    let disks : List SourceDiskState = c.self.inside.disks.items in
    let roomed : List SourceDiskState = c.reserve_merges.new.disks in
    let new : List SourceDiskState = c.merge_all.new.disks in
    let fits : FitsBehind (all_of log.capacities) log.entries c.args.who (Remove c.args.id) =
    remove_stands log.capacities log.entries c.args.who c.args.owner c.args.id
    (sym c.remove_refusal.ensures ∙ c.in_default.is) in
    let roomy : c.reserve.new.self ≡ record log { room = true } =
    where_ok c.reserve.result (sym c.is_err.ensures.value ∙ c.if-is_err.false)
    c.reserve.ensures.ok in
    let len_is : length disks ≡ c.self.inside.disks.len =
    sym (ap length c.deref_mut.ensures.value) ∙ c.deref_mut.ensures.len in
    let still : StillDisks disks roomed =
    subst (λ (xs : List SourceDiskState). StillDisks xs roomed) c.deref_mut.ensures.value
    c.reserve_merges.ensures.still in
    let same : length roomed ≡ length disks =
    c.reserve_merges.auto.disks ∙ ap length c.deref_mut.ensures.value in
    let back : take c.self.inside.disks.len (roomed ++ drop (length roomed) disks) ≡ roomed =
    take-written c.self.inside.disks.len roomed disks (sym (same ∙ len_is)) in
    let met : c.deref_mut-2.result.now ≡ roomed = c.deref_mut-2.ensures.value ∙ back in
    let takes : DisksTake (Remove c.args.id) roomed new =
    subst (λ (xs : List SourceDiskState). DisksTake (Remove c.args.id) xs new) met
    c.merge_all.ensures in
    let whole : take c.self.inside.disks.len
    (new ++ drop (length new)
    (take c.self.inside.disks.len (roomed ++ drop (length roomed) disks))) ≡ new =
    ap (λ (xs : List SourceDiskState). take c.self.inside.disks.len (new ++ drop (length new) xs))
    back
    ∙ take-written c.self.inside.disks.len new roomed
    (sym (c.merge_all.auto.disks ∙ ap length met ∙ same ∙ len_is)) in
    subst (λ (xs : List SourceDiskState). IsSound c.self.inside.number c.push.new.self.capacities
    c.push.new.self.entries xs) (sym whole)
    (sound_after c.self.inside.number log c.reserve.new.self c.push.new.self c.args.who
    (Remove c.args.id) roomed new roomy c.push.ensures fits
    (record {
      sizes = c.self.invariant.sizes;
      legal = c.self.invariant.legal;
      stand = still
          c.self.inside.number log.capacities log.entries c.self.invariant.stand;
    }) takes)

pub returns-clause-legal : goal.returns-clause-legal
returns-clause-legal c = (invariant_of-self-2 c).legal
