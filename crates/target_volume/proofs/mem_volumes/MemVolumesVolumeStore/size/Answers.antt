use Rattle.std.proofs.Common.{◌≡◌, ℕ, Option, Some, None, option_map, ap, sym, ◌∙◌, subst}
use Rattle.target_volume.proofs.SlotLemmas.{whole_called, told_of, slots_of, capacity_at, lent_capacity_at}
use Rattle.target_volume.specs.MemVolumes.{MemVolumesState, named_loan}
use Rattle.std.specs.List.{filter_map}
use Rattle.std.specs.Prelude.{IfSome}
use Rattle.target_volume.specs.VolumeName.{find_volume}
use Rattle.target_volume.specs.VolumeStore.{StoredVolume}
use Rattle.basics.specs.Calls.{CallLog}
use Rattle.target_volume.proofs.mem_volumes.MemVolumesVolumeStore.size.Goals as goal

pub invariant_of-self : goal.invariant_of-self
invariant_of-self c =
    whole_called _ _ _ _ _ c.self.invariant (ap (λ (l : CallLog). l.failing) c.next.ensures.log)
    c.next.ensures.cause.later

pub returns-in_default-clause-found : goal.returns-in_default-clause-found
returns-in_default-clause-found c =
    let none : Option ℕ = None in
    subst (λ (s : MemVolumesState). none
    ≡ option_map (λ (v : StoredVolume). v.capacity) (find_volume c.args.name.now (told_of s.slots)))
    c.self.view_is
    (capacity_at c.args.name.now c.self.inside.slots.entries None c.in_default.ensures.value)

pub returns-clause-found : goal.returns-clause-found
returns-clause-found c =
    subst (λ (s : MemVolumesState). Some c.capacity.result
    ≡ option_map (λ (v : StoredVolume). v.capacity) (find_volume c.args.name.now (told_of s.slots)))
    c.self.view_is
    (ap Some c.capacity.ensures
    ∙ capacity_at c.args.name.now c.self.inside.slots.entries (Some c.in-Some.slot.now)
    c.in-Some.ensures.value)

pub returns-in_default-clause-found_lent : goal.returns-in_default-clause-found_lent
returns-in_default-clause-found_lent c =
    let none : Option ℕ = None in
    subst (λ (s : MemVolumesState). IfSome
    (find_volume c.args.name.now (filter_map named_loan s.slots))
    (λ loan. none ≡ Some loan.capacity)) c.self.view_is
    (lent_capacity_at c.args.name.now c.self.inside.slots.entries None c.self.invariant.ordered
    c.in_default.ensures.value)

pub returns-clause-found_lent : goal.returns-clause-found_lent
returns-clause-found_lent c =
    subst (λ (s : MemVolumesState). IfSome
    (find_volume c.args.name.now (filter_map named_loan s.slots))
    (λ loan. Some c.capacity.result ≡ Some loan.capacity)) c.self.view_is
    (subst (λ (n : ℕ). IfSome (find_volume c.args.name.now
    (filter_map named_loan (slots_of c.self.inside.slots.entries)))
    (λ loan. Some n ≡ Some loan.capacity)) (sym c.capacity.ensures)
    (lent_capacity_at c.args.name.now c.self.inside.slots.entries (Some c.in-Some.slot.now)
    c.self.invariant.ordered c.in-Some.ensures.value))
