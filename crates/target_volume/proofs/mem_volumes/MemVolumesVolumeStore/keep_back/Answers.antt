use Rattle.std.proofs.Common.{◌≡◌, ℕ, ◌-◌, ◌≤◌, ◌&&◌, Result, Ok, Err, option_map, IsOk, OnErr, ap, sym, ◌∙◌, subst, refl, arith}
use Rattle.std.specs.BTreeMap.{get}
use Rattle.std.specs.List.{filter_map}
use Rattle.std.specs.Prelude.{IsSomeAnd}
use Rattle.basics.specs.Calls.{CallLog, never_fails}
use Rattle.basics.specs.Faults.{counted_by}
use Rattle.target_volume.proofs.SlotLemmas.{slots_of, slots_put, slots_found, slots_ordered, loans_found, loan_slot, lent_at, not_lent, lent_only, lent_counted, whole_kept, kept_state, kept_as_taken}
use Rattle.target_volume.specs.MemVolume.{MemVolumeState, volume_state}
use Rattle.target_volume.specs.MemVolumes.{MemVolumesState, store_state, slot_state, named_loan}
use Rattle.target_volume.specs.VolumeName.{volume_cmp, find_volume, AreAscending}
use Rattle.target_volume.specs.declared.mem_volumes.Slot.TheVariants.{Home as SlotHome}
use Rattle.target_volume.proofs.mem_volumes.MemVolumesVolumeStore.keep_back.Goals as goal
use Rattle.target_volume.proofs.mem_volumes.MemVolumesVolumeStore.keep_back.Goals.{then-self, else-self}

ok_unless : {T E : Type 0} {P : Type 0} (r : Result T E) → OnErr r P → (P → ⊥) → IsOk r
ok_unless (Ok x) failed never = refl
ok_unless (Err e) failed never = absurd (never failed)

pub faults_as_lent-lent-requires : goal.faults_as_lent-lent-requires
faults_as_lent-lent-requires c =
    lent_at (λ loan. loan.capacity ≡ (volume_state c.args.vol).capacity) c.vol.inside.name
    c.self.inside.slots.entries c.self.invariant.ordered
    (subst (λ (v : MemVolumeState). IsSomeAnd
    (find_volume v.name (filter_map named_loan (slots_of c.self.inside.slots.entries)))
    (λ loan. loan.capacity ≡ (volume_state c.args.vol).capacity)) (sym c.vol.view_is)
    (subst (λ (s : MemVolumesState). IsSomeAnd
    (find_volume c.args.vol.name (filter_map named_loan s.slots))
    (λ loan. loan.capacity ≡ (volume_state c.args.vol).capacity)) (sym c.self.view_is)
    c.requires))

pub unwrap-requires : goal.unwrap-requires
unwrap-requires c =
    ok_unless c.set_slot.result c.set_slot.ensures.new_name
    (not_lent (get volume_cmp c.self.inside.slots c.vol.inside.name)
    (lent_only c.faults_as_lent-lent.result
    (option_map slot_state (get volume_cmp c.self.inside.slots c.vol.inside.name))
    c.faults_as_lent-lent.ensures))

-- whether the store is sound afterwards
both : (c : goal.Joined-unwrap)
    → c.if-self.self ≡ (c.self.inside.sound && never_fails c.vol.inside.held.calls)
both c =
    elim c.if-self.branch [
      | then-self w ↦ w.self-is ∙ w.never_fail-self-inside.ensures
          ∙ ap (λ b. b && never_fails c.vol.inside.held.calls) (sym w.if-self.true)
      | else-self w ↦ w.self-is ∙ w.if-self.false
          ∙ ap (λ b. b && never_fails c.vol.inside.held.calls) (sym w.if-self.false)
    ]

pub invariant_of-self : goal.invariant_of-self
invariant_of-self c =
    let set = rw c.unwrap.ensures at c.set_slot.ensures.set in
    let lent = lent_counted c.self.inside.sound c.self.inside.calls.faults
    c.faults_as_lent-lent.result
    c.vol.inside.name c.self.inside.slots.entries c.self.invariant.kept
    c.faults_as_lent-lent.ensures in
    let after = ap (λ (l : CallLog). l.faults) c.add_faults.ensures.log in
    let counted : c.vol.inside.held.calls.faults ≤ c.add_faults.new.self.faults = omega arith in
    whole_kept c.self.inside.sound c.if-self.self c.self.inside.failing.items c.self.inside.calls
    c.add_faults.new.self c.self.inside.slots.entries c.set_slot.new.slots.entries
    c.vol.inside.name c.vol.inside.held c.self.invariant
    (ap (λ (l : CallLog). l.failing) c.add_faults.ensures.log) c.add_faults.ensures.later (both c)
    c.vol.invariant counted set c.set_slot.ensures.ordered

pub returns-clause-left : goal.returns-clause-left
returns-clause-left c = λ loan lent.
    let set = rw c.unwrap.ensures at c.set_slot.ensures.set in
    kept_state _ _ _ _ _ _ _ c.faults_as_lent-lent.result loan _ c.self.view_is c.vol.view_is
    (c.add_faults.ensures.log
    ∙ ap (λ (n : ℕ). record c.self.inside.calls
    { faults = counted_by n c.self.inside.calls.faults })
    (c.saturating_sub.ensures
    ∙ ap (λ (f : ℕ). f - c.faults_as_lent-lent.result) c.faults.ensures))
    (both c)
    (ap slots_of set ∙ slots_put c.vol.inside.name (SlotHome c.vol.inside.held)
    c.self.inside.slots.entries)
    (slots_found c.vol.inside.name c.self.inside.slots.entries) c.faults_as_lent-lent.ensures lent

pub returns-clause-kept : goal.returns-clause-kept
returns-clause-kept c = λ name loan named found.
    let ordered : AreAscending c.args.self.now.slots =
    subst (λ (s : MemVolumesState). AreAscending s.slots) c.self.view_is
    (slots_ordered c.self.inside.slots.entries c.self.invariant.ordered) in
    let same : c.args.vol.name ≡ name = cc in
    let slot = loan_slot (find_volume name c.args.self.now.slots) loan
    (sym (loans_found name c.args.self.now.slots ordered) ∙ found) in
    ap store_state (returns-clause-left c loan
    (ap (λ n. find_volume n c.args.self.now.slots) same ∙ slot))
    ∙ kept_as_taken c.args.self.now c.args.vol name loan.faults ordered same
