use Rattle.std.proofs.Common.{◌≡◌, ◌∷◌, ◌++◌, [], false, true, Option, Some, None, is_none, unwrap_or, sym, ap, subst, refl, ◌∙◌, ℕ, rules}
use Rattle.std.proofs.lemmas.Bool.{false≢true}
use Rattle.change_tracker.specs.Tracker.{TrackerState, after_enabling}
use Rattle.change_tracker.specs.History.{Enabled, StandsFor}
use Rattle.change_tracker.specs.Fields.{state_of}
use Rattle.change_tracker.proofs.Histories.{stands_enabled}
use Rattle.change_tracker.proofs.tracker.Tracker.enable.Goals as goal

kept : (o : Option ℕ) → is_none o ≡ false → Some (unwrap_or o 0) ≡ o
kept None is = absurd (false≢true (sym is))
kept (Some n) is = refl

made : (o : Option ℕ) → is_none o ≡ true → Some (unwrap_or o 0) ≡ Some 0
made None is = refl
made (Some n) is = absurd (false≢true is)

pub returns-then-is_none-clause-stands : goal.returns-then-is_none-clause-stands
returns-then-is_none-clause-stands c = λ steps stands.
    let was = c.self.inside in
    let none : is_none was.counted ≡ true = search rules in
    let P : TrackerState → Type 0 = λ s. StandsFor s (steps ++ Enabled ∷ []) in
    subst P (ap after_enabling (sym c.self.view_is)
    ∙ ap (λ (o : Option ℕ). state_of was.machine was.disk was.capacity was.resets o was.maps
    was.snapshots.items was.free_from was.mark_room was.freeze_room) (made was.counted none))
    (stands_enabled c.args.self.now steps stands)

pub returns-else-is_none-clause-stands : goal.returns-else-is_none-clause-stands
returns-else-is_none-clause-stands c = λ steps stands.
    let was = c.self.inside in
    let some : is_none was.counted ≡ false = search rules in
    let P : TrackerState → Type 0 = λ s. StandsFor s (steps ++ Enabled ∷ []) in
    subst P (ap after_enabling (sym c.self.view_is)
    ∙ ap (λ (o : Option ℕ). state_of was.machine was.disk was.capacity was.resets o was.maps
    was.snapshots.items was.free_from was.mark_room was.freeze_room) (kept was.counted some)
    ∙ c.self.view_is) (stands_enabled c.args.self.now steps stands)
