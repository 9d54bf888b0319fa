-- The place of its Snap entry is the snapshot's mark.
use Rattle.std.proofs.Common.{◌≡◌, ◌<◌, Some, List, length, take, sym, ap, subst, ◌∙◌, arith, refl}
use Rattle.std.specs.List.{slice_get}
use Rattle.std.proofs.lemmas.Option.{slice_get_read, slice_get_within, same_Some}
use Rattle.log_model.specs.Legal.{all_of}
use Rattle.log_model.specs.Frozen.{off_place}
use Rattle.log_model.specs.Machine.{MachineState}
use Rattle.ctl_state.specs.Asks.{IsItsSnapshot}
use Rattle.log_facts.specs.declared.places.PlaceFacts.{PlaceFacts}
use Rattle.log_facts.specs.Places.{place_facts}
use Rattle.log_facts.proofs.LookupLemmas.{off_place_is, taken_within, is_that, are_same}
use Rattle.log_facts.proofs.log_facts.LogFacts.is_its_final.Goals as goal

pub returns-in-Some : goal.returns-in-Some
returns-in-Some c =
    let at = c.self.inside.machine.value in
    let its : IsItsSnapshot c.args.mig c.args.snap c.args.mark at.log =
    subst (λ (a : MachineState). IsItsSnapshot c.args.mig c.args.snap c.args.mark a.log)
    (sym c.self.view_is) (c.is_its_snapshot.ensures.0 c.if-is_its_snapshot.true) in
    let within : c.args.mark < length at.log =
    taken_within c.args.mig c.args.snap c.args.mark at.log its in
    let read : slice_get c.deref.result.now c.args.mark ≡ Some c.in-Some.before.now =
    slice_get_read c.deref.result.now (length c.deref.result.now) c.args.mark
    c.in-Some.before.now refl c.in-Some.ensures.lookup.3.0 c.in-Some.ensures.lookup.1 in
    let there : c.in-Some.before.now ≡ place_facts (take c.args.mark at.log) =
    same_Some c.in-Some.before.now (place_facts (take c.args.mark at.log))
    (sym read ∙ ap (λ (l : List PlaceFacts). slice_get l c.args.mark) c.deref.ensures.value
    ∙ c.self.invariant.by_place c.args.mark within) in
    let off : off_place c.args.snap c.args.self.now.log ≡ c.in-Some.before.now.last_off =
    ap (λ (a : MachineState). off_place c.args.snap a.log) (sym c.self.view_is)
    ∙ off_place_is (all_of at.capacities) c.args.mig c.args.snap c.args.mark at.log
    c.self.invariant.legal its
    ∙ sym (ap (λ (p : PlaceFacts). p.last_off) there) in (
      λ is. (
        c.is_its_snapshot.ensures.0 c.if-is_its_snapshot.true,
        off
            ∙ is_that c.in-Some.before.now.last_off c.args.place (sym c.eq.ensures ∙ is),
      ),
      λ both. c.eq.ensures ∙ are_same c.in-Some.before.now.last_off c.args.place (sym off ∙ both.1),
    )

pub returns-in-None : goal.returns-in-None
returns-in-None c =
    let at = c.self.inside.machine.value in
    let its : IsItsSnapshot c.args.mig c.args.snap c.args.mark at.log =
    subst (λ (a : MachineState). IsItsSnapshot c.args.mig c.args.snap c.args.mark a.log)
    (sym c.self.view_is) (c.is_its_snapshot.ensures.0 c.if-is_its_snapshot.true) in
    let within : c.args.mark < length at.log =
    taken_within c.args.mig c.args.snap c.args.mark at.log its in
    let inside : c.args.mark < length c.self.inside.places.items =
    slice_get_within c.self.inside.places.items c.args.mark
    (place_facts (take c.args.mark at.log)) (c.self.invariant.by_place c.args.mark within) in
    absurd (omega (arith, inside, c.in-None.ensures.lookup.3, ap length c.deref.ensures.value))
