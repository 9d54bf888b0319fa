use Rattle.std.proofs.Common.{◌≡◌, ap, subst, ◌∙◌, arith}
use Rattle.target_volume.proofs.SlotLemmas.{slots_of, slots_put, whole_put, remade}
use Rattle.target_volume.specs.MemVolumes.{Lent}
use Rattle.target_volume.specs.VolumeName.{with_volume}
use Rattle.target_volume.specs.declared.volume_name.VolumeName.{VolumeName}
use Rattle.target_volume.specs.declared.mem_volumes.Slot.TheVariants.{Lent as SlotLent}
use Rattle.target_volume.proofs.mem_volumes.MemVolumes.make.Goals as goal

pub returns-clause-lent : goal.returns-clause-lent
returns-clause-lent c =
    let put = ap slots_of c.in_ok-set_slot.ensures.set
    ∙ slots_put c.in_ok-copy-2.field-0 (SlotLent c.args.capacity 0) c.self.inside.slots.entries in
    remade _ _ _ _ _ _ c.self.view_is c.saturating_add-number.ensures
    (subst (λ (n : VolumeName). slots_of c.set_slot.new.slots.entries
    ≡ with_volume n (Lent (record { capacity = c.args.capacity; faults = 0 }))
    (slots_of c.self.inside.slots.entries)) c.in_ok-copy-2.ensures put)

pub invariant_of-self-2 : goal.invariant_of-self-2
invariant_of-self-2 c =
    whole_put _ _ _ _ _ _ _ c.self.invariant (omega arith) c.in_ok-set_slot.ensures.set
    c.in_ok-set_slot.ensures.ordered
