use Rattle.std.proofs.Common.{◌≡◌, ◌+◌, ◌∷◌, ◌++◌, [], Option, option_map, None, sym, ap, subst, refl, ◌∙◌, ℕ, rules}
use Rattle.change_tracker.specs.Tracker.{TrackerState, after_reset}
use Rattle.change_tracker.specs.History.{Reset, StandsFor}
use Rattle.change_tracker.specs.Fields.{state_of}
use Rattle.change_tracker.specs.declared.maps.Maps.{Maps}
use Rattle.change_tracker.proofs.States.{reset_state}
use Rattle.change_tracker.proofs.Histories.{stands_reset}
use Rattle.change_tracker.proofs.tracker.Tracker.reset.Goals as goal

pub returns-clause-reset : goal.returns-clause-reset
returns-clause-reset c =
    let was = c.self.inside in
    let counted : c.map-self-inside.result ≡ option_map (λ n. 0) was.counted = search rules in
    let new : Maps = record { first = was.maps.first; changes = c.clear.new.self } in
    ap (λ (o : Option ℕ). state_of was.machine was.disk was.capacity (was.resets + 1) o new
    was.snapshots.items was.free_from None was.freeze_room) counted
    ∙ reset_state was.machine was.disk was.capacity was.resets was.counted was.maps new
    was.snapshots.items was.free_from was.mark_room was.freeze_room refl c.clear.ensures
    ∙ ap after_reset c.self.view_is

pub returns-clause-stands : goal.returns-clause-stands
returns-clause-stands c = λ steps stands.
    let P : TrackerState → Type 0 = λ s. StandsFor s (steps ++ Reset ∷ []) in
    subst P (sym (returns-clause-reset c)) (stands_reset c.args.self.now steps stands)
