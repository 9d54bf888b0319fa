use Rattle.std.proofs.Common.{◌≡◌, ℕ, ◌∷◌, ◌++◌, [], length, sym, ap, subst, ◌∙◌, rules}
use Rattle.change_tracker.specs.Tracker.{TrackerState, after_marking}
use Rattle.change_tracker.specs.Maps.{IsTouchedWhere, is_met_by}
use Rattle.change_tracker.specs.History.{Marked, StandsFor}
use Rattle.change_tracker.proofs.States.{marked_state}
use Rattle.change_tracker.proofs.Histories.{stands_marked}
use Rattle.change_tracker.proofs.tracker.Tracker.mark.Goals as goal

pub returns-clause-ok : goal.returns-clause-ok
returns-clause-ok c =
    let was = c.self.inside in
    let now : c.len-freezes.result ≡ length was.snapshots.items = search rules in
    let P : ℕ → Type 0 = λ n. IsTouchedWhere (is_met_by c.args.run) n was.maps c.mark.new.self in
    marked_state was.machine was.disk was.capacity was.resets was.counted was.maps c.mark.new.self
    was.snapshots.items was.free_from was.mark_room was.freeze_room c.args.run
    (subst P now c.mark.ensures.touched)
    ∙ ap (after_marking c.args.run) (c.self.view_is ∙ c.in_ok-reserve_mark.ensures.ok)

pub returns-clause-stands : goal.returns-clause-stands
returns-clause-stands c = λ steps stands.
    let P : TrackerState → Type 0 = λ s. StandsFor s (steps ++ Marked c.args.run ∷ []) in
    subst P (sym (returns-clause-ok c)) (stands_marked c.args.run c.args.self.now steps stands)
