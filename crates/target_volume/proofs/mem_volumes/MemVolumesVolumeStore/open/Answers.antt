use Rattle.std.proofs.Common.{◌≡◌, ◌≤◌, Some, option_map, Result, Ok, Err, ap, sym, ◌∙◌, subst, refl, inl, ⊎_elim, arith}
use Rattle.std.proofs.lemmas.Bool.{false≢true}
use Rattle.std.specs.BTreeMap.{is_at}
use Rattle.std.specs.Map.{lookup}
use Rattle.std.specs.List.{filter_map}
use Rattle.std.specs.Prelude.{IsSome, IsErrAnd}
use Rattle.basics.specs.Calls.{CallLog, FailsNext}
use Rattle.target_volume.proofs.SlotLemmas.{whole_called, whole_put, kept_found, told_of, told_found, slots_of, slots_put, slots_found, slots_ordered, not_there, away_at, home_at, home_not_lent, there_at, lends_opened, opened_state}
use Rattle.target_volume.specs.MemVolume.{MemVolumeState, held_state}
use Rattle.target_volume.specs.MemVolumes.{MemVolumesState, Home, Lent, slot_state, stored_of, named_loan, IsHome, IsHomeWith, IsCountedIn}
use Rattle.target_volume.specs.VolumeName.{volume_cmp, find_volume, with_volume}
use Rattle.target_volume.specs.VolumeStore.{IsThere}
use Rattle.target_volume.specs.declared.mem_volumes.Slot.TheVariants.{Home as SlotHome, Lent as SlotLent}
use Rattle.target_volume.specs.declared.store_refused.StoreRefused.{StoreRefused}
use Rattle.target_volume.specs.declared.store_refused.StoreRefused.TheVariants.{Failed, NoMemory}
use Rattle.target_volume.specs.declared.volume_name.VolumeName.{VolumeName}
use Rattle.target_volume.proofs.mem_volumes.MemVolumesVolumeStore.open.Goals as goal

-- want of memory is no failure
no_memory : (r : Result MemVolumeState StoreRefused) → IsErrAnd r (λ why. why ≡ NoMemory)
    → r ≡ Err Failed → ⊥
no_memory (Ok vol) is failed = is
no_memory (Err why) is failed = cc

-- what stands under the name, once it was taken
found : (c : goal.In-Some-Home)
    → lookup (is_at (volume_cmp c.args.name.now)) c.self.inside.slots.entries
    ≡ Some (SlotHome c.in-Some-Home.held)
found c =
    ap (λ (n : VolumeName). lookup (is_at (volume_cmp n)) c.self.inside.slots.entries)
    (sym c.in_ok-copy.ensures)
    ∙ sym c.in_ok-held.ensures.before ∙ c.in-Some-Home.is ∙ ap Some c.in-Some-Home.field-0-is

-- it has the capacity and the count of faults that were read
home : (c : goal.In-Some-Home) → IsHomeWith c.args.capacity c.in-Some.faults
    (Some (Home (held_state c.in-Some-Home.held)))
home c = subst (λ o. IsHomeWith c.args.capacity c.in-Some.faults (option_map slot_state o))
    (found c)
    c.in-Some.ensures

kept : (c : goal.In-Some-Home)
    → IsCountedIn c.self.inside.sound c.self.inside.calls.faults
    (Home (held_state c.in-Some-Home.held))
kept c = kept_found c.self.inside.sound c.self.inside.calls.faults
    (is_at (volume_cmp c.args.name.now))
    c.self.inside.slots.entries (SlotHome c.in-Some-Home.held) c.self.invariant.kept (found c)

put : (c : goal.In-Some-Home) → slots_of c.set_slot.new.slots.entries
    ≡ with_volume c.args.name.now
    (Lent (record { capacity = c.args.capacity; faults = c.in-Some.faults }))
    (slots_of c.self.inside.slots.entries)
put c =
    ap slots_of c.in_ok-held.ensures.set
    ∙ slots_put c.in_ok-copy.field-0 (SlotLent c.args.capacity c.in-Some.faults)
    c.self.inside.slots.entries
    ∙ ap (λ (n : VolumeName). with_volume n
    (Lent (record { capacity = c.args.capacity; faults = c.in-Some.faults }))
    (slots_of c.self.inside.slots.entries)) c.in_ok-copy.ensures

at_name : (c : goal.In-Some-Home)
    → find_volume c.args.name.now (slots_of c.self.inside.slots.entries)
    ≡ Some (Home (held_state c.in-Some-Home.held))
at_name c = slots_found c.args.name.now c.self.inside.slots.entries
    ∙ ap (option_map slot_state) (found c)

pub invariant_of-self : goal.invariant_of-self
invariant_of-self c =
    whole_called _ _ _ _ _ c.self.invariant (ap (λ (l : CallLog). l.failing) c.fail.ensures.log)
    c.fail.ensures.rises.0

pub returns-in_default-clause-sound : goal.returns-in_default-clause-sound
returns-in_default-clause-sound c = λ sound there failed.
    not_there c.args.name.now c.args.capacity c.self.inside.slots.entries c.in_default.ensures
    (subst (λ (s : MemVolumesState). IsThere c.args.name.now c.args.capacity (told_of s.slots))
    (sym c.self.view_is) there)

pub invariant_of-self-in_err-next : goal.invariant_of-self-in_err-next
invariant_of-self-in_err-next c =
    whole_called _ _ _ _ _ c.self.invariant (ap (λ (l : CallLog). l.failing) c.next.ensures.log)
    c.next.ensures.cause.later

pub invariant_of-result : goal.invariant_of-result
invariant_of-result c = (kept c).0.1

pub invariant_of-self-2 : goal.invariant_of-self-2
invariant_of-self-2 c =
    let counted : c.in-Some.faults ≤ c.next.new.self.faults =
    omega (arith, (home c).1, (kept c).1, c.next.ensures.cause.later) in
    whole_put _ _ _ _ _ _ _
    (whole_called _ _ _ _ _ c.self.invariant (ap (λ (l : CallLog). l.failing) c.next.ensures.log)
    c.next.ensures.cause.later)
    counted c.in_ok-held.ensures.set c.in_ok-held.ensures.ordered

pub returns-clause-lent : goal.returns-clause-lent
returns-clause-lent c =
    lends_opened _ _ _ _ _ _ _ _ _ c.self.view_is c.in_ok-volume_name.ensures
    (slots_ordered _ c.self.invariant.ordered) (at_name c) (home c).0 (home c).1 (kept c).1
    (kept c).2 c.in_ok-next.ensures.log (put c)

pub returns-clause-as_held : goal.returns-clause-as_held
returns-clause-as_held c = (
  subst (λ (s : MemVolumesState). find_volume c.args.name.now (told_of s.slots)
      ≡ Some (stored_of (Home (held_state c.in-Some-Home.held)))) c.self.view_is
      (told_found c.args.name.now (slots_of c.self.inside.slots.entries)
      ∙ ap (option_map stored_of) (at_name c)),
  refl,
)

pub returns-clause-opened : goal.returns-clause-opened
returns-clause-opened c =
    subst (λ (s : MemVolumesState). find_volume c.args.name.now s.slots
    ≡ Some (Home (held_state c.in-Some-Home.held))) c.self.view_is (at_name c)

pub returns-clause-left : goal.returns-clause-left
returns-clause-left c =
    opened_state _ _ _ _ _ _ _ _ (held_state c.in-Some-Home.held) c.self.view_is
    c.in_ok-volume_name.ensures (home c).0 (home c).1
    c.in_ok-next.ensures.log (put c)

pub returns-in_default-clause-fails : goal.returns-in_default-clause-fails
returns-in_default-clause-fails c = (
  λ _. inl (subst (λ (s : MemVolumesState). ¬ IsHome c.args.capacity
      (find_volume c.args.name.now s.slots))
      c.self.view_is
      (away_at c.args.name.now c.args.capacity c.self.inside.slots.entries c.in_default.ensures)),
  λ _. ap Err c.from.ensures,
)

pub returns-in_err-volume_name-clause-fails : goal.returns-in_err-volume_name-clause-fails
returns-in_err-volume_name-clause-fails c = (
  λ failed. absurd (no_memory c.from_residual-in_err-volume_name.result
      c.from_residual-in_err-volume_name.ensures.1 failed),
  ⊎_elim
      (λ away. absurd (away (subst (λ (s : MemVolumesState).
      IsHome c.args.capacity (find_volume c.args.name.now s.slots)) c.self.view_is
      (home_at c.args.name.now c.args.capacity c.in-Some.faults c.self.inside.slots.entries
      c.in-Some.ensures))))
      (λ fails. absurd (false≢true (c.in_ok-next.ensures.fails.1
      (subst (λ (s : MemVolumesState). FailsNext s.calls) (sym c.self.view_is) fails)))),
)

pub returns-in_err-copy-clause-fails : goal.returns-in_err-copy-clause-fails
returns-in_err-copy-clause-fails c = (
  λ failed. absurd (no_memory c.from_residual-in_err-copy.result
      c.from_residual-in_err-copy.ensures.1 failed),
  ⊎_elim
      (λ away. absurd (away (subst (λ (s : MemVolumesState).
      IsHome c.args.capacity (find_volume c.args.name.now s.slots)) c.self.view_is
      (home_at c.args.name.now c.args.capacity c.in-Some.faults c.self.inside.slots.entries
      c.in-Some.ensures))))
      (λ fails. absurd (false≢true (c.in_ok-next.ensures.fails.1
      (subst (λ (s : MemVolumesState). FailsNext s.calls) (sym c.self.view_is) fails)))),
)

pub returns-clause-fails : goal.returns-clause-fails
returns-clause-fails c = (
  λ failed. cc,
  ⊎_elim
      (λ away. absurd (away (subst (λ (s : MemVolumesState).
      IsHome c.args.capacity (find_volume c.args.name.now s.slots)) c.self.view_is
      (home_at c.args.name.now c.args.capacity c.in-Some.faults c.self.inside.slots.entries
      c.in-Some.ensures))))
      (λ fails. absurd (false≢true (c.in_ok-next.ensures.fails.1
      (subst (λ (s : MemVolumesState). FailsNext s.calls) (sym c.self.view_is) fails)))),
)

pub returns-in_err-volume_name-clause-missing : goal.returns-in_err-volume_name-clause-missing
returns-in_err-volume_name-clause-missing c = λ none.
    absurd (none (subst (λ (s : MemVolumesState).
    IsThere c.args.name.now c.args.capacity (told_of s.slots)) c.self.view_is
    (there_at c.args.name.now c.args.capacity c.in-Some.faults c.self.inside.slots.entries
    c.in-Some.ensures)))

pub returns-in_err-volume_name-clause-away : goal.returns-in_err-volume_name-clause-away
returns-in_err-volume_name-clause-away c = λ some.
    absurd (home_not_lent c.args.name.now c.args.capacity c.in-Some.faults
    c.self.inside.slots.entries c.self.invariant.ordered c.in-Some.ensures
    (subst (λ (s : MemVolumesState). IsSome (find_volume c.args.name.now
    (filter_map named_loan s.slots))) (sym c.self.view_is) some))

pub returns-in_err-copy-clause-missing : goal.returns-in_err-copy-clause-missing
returns-in_err-copy-clause-missing c = λ none.
    absurd (none (subst (λ (s : MemVolumesState).
    IsThere c.args.name.now c.args.capacity (told_of s.slots)) c.self.view_is
    (there_at c.args.name.now c.args.capacity c.in-Some.faults c.self.inside.slots.entries
    c.in-Some.ensures)))

pub returns-in_err-copy-clause-away : goal.returns-in_err-copy-clause-away
returns-in_err-copy-clause-away c = λ some.
    absurd (home_not_lent c.args.name.now c.args.capacity c.in-Some.faults
    c.self.inside.slots.entries c.self.invariant.ordered c.in-Some.ensures
    (subst (λ (s : MemVolumesState). IsSome (find_volume c.args.name.now
    (filter_map named_loan s.slots))) (sym c.self.view_is) some))

pub returns-clause-missing : goal.returns-clause-missing
returns-clause-missing c = λ none.
    absurd (none (subst (λ (s : MemVolumesState).
    IsThere c.args.name.now c.args.capacity (told_of s.slots)) c.self.view_is
    (there_at c.args.name.now c.args.capacity c.in-Some.faults c.self.inside.slots.entries
    c.in-Some.ensures)))

pub returns-clause-away : goal.returns-clause-away
returns-clause-away c = λ some.
    absurd (home_not_lent c.args.name.now c.args.capacity c.in-Some.faults
    c.self.inside.slots.entries c.self.invariant.ordered c.in-Some.ensures
    (subst (λ (s : MemVolumesState). IsSome (find_volume c.args.name.now
    (filter_map named_loan s.slots))) (sym c.self.view_is) some))
