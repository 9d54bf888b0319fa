use Rattle.std.proofs.Common.{ap, sym, ◌∙◌, subst}
use Rattle.std.specs.List.{filter_map}
use Rattle.std.specs.Prelude.{IsSome}
use Rattle.basics.specs.Calls.{CallLog}
use Rattle.target_volume.proofs.SlotLemmas.{whole_called, told_of, told_is_some, told_missing, slots_ordered, slot_missing, loans_missing, lends_created}
use Rattle.target_volume.specs.MemVolumes.{MemVolumesState, named_loan}
use Rattle.target_volume.specs.VolumeName.{find_volume}
use Rattle.target_volume.proofs.mem_volumes.MemVolumesVolumeStore.create.Goals as goal

pub invariant_of-self : goal.invariant_of-self
invariant_of-self c =
    whole_called _ _ _ _ _ c.self.invariant (ap (λ (l : CallLog). l.failing) c.next.ensures.log)
    c.next.ensures.cause.later

pub returns-then-contains_key-clause-exists : goal.returns-then-contains_key-clause-exists
returns-then-contains_key-clause-exists c = λ _.
    subst (λ (s : MemVolumesState). IsSome (find_volume c.args.name.now (told_of s.slots)))
    c.self.view_is
    (told_is_some c.args.name.now c.self.inside.slots.entries
    ∙ sym c.contains_key.ensures ∙ c.if-contains_key.true)

pub returns-in_err-make-clause-taken : goal.returns-in_err-make-clause-taken
returns-in_err-make-clause-taken c = λ some.
    absurd (told_missing c.args.name.now c.self.inside.slots.entries
    (sym c.contains_key.ensures ∙ c.if-contains_key.false)
    (subst (λ (s : MemVolumesState). IsSome (find_volume c.args.name.now (told_of s.slots)))
    (sym c.self.view_is) some))

pub returns-clause-taken : goal.returns-clause-taken
returns-clause-taken c = λ some.
    absurd (told_missing c.args.name.now c.self.inside.slots.entries
    (sym c.contains_key.ensures ∙ c.if-contains_key.false)
    (subst (λ (s : MemVolumesState). IsSome (find_volume c.args.name.now (told_of s.slots)))
    (sym c.self.view_is) some))

pub returns-clause-lent : goal.returns-clause-lent
returns-clause-lent c =
    lends_created _ _ _ _ _ _ _ c.self.view_is
    (slots_ordered _ c.self.invariant.ordered)
    (slot_missing c.args.name.now c.self.inside.slots.entries (sym c.contains_key.ensures
    ∙ c.if-contains_key.false))
    c.self.invariant.given c.in_ok-next.ensures.log c.in_ok-make.ensures.made
    c.in_ok-make.ensures.lent

pub returns-in_err-make-clause-taken_lent : goal.returns-in_err-make-clause-taken_lent
returns-in_err-make-clause-taken_lent c = λ some.
    absurd (loans_missing c.args.name.now c.self.inside.slots.entries c.self.invariant.ordered
    (sym c.contains_key.ensures ∙ c.if-contains_key.false)
    (subst (λ (s : MemVolumesState). IsSome (find_volume c.args.name.now
    (filter_map named_loan s.slots))) (sym c.self.view_is) some))

pub returns-clause-taken_lent : goal.returns-clause-taken_lent
returns-clause-taken_lent c = λ some.
    absurd (loans_missing c.args.name.now c.self.inside.slots.entries c.self.invariant.ordered
    (sym c.contains_key.ensures ∙ c.if-contains_key.false)
    (subst (λ (s : MemVolumesState). IsSome (find_volume c.args.name.now
    (filter_map named_loan s.slots))) (sym c.self.view_is) some))
