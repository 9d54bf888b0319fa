use Rattle.std.proofs.Common.{◌≡◌, ◌∷◌, ◌++◌, [], sym, ap, subst, ◌∙◌}
use Rattle.change_tracker.specs.Tracker.{TrackerState, next_id, after_freezing}
use Rattle.change_tracker.specs.History.{Frozen, StandsFor}
use Rattle.change_tracker.proofs.Histories.{named, stands_frozen}
use Rattle.change_tracker.proofs.tracker.Tracker.freeze.Goals as goal
use Rattle.change_tracker.proofs.tracker.Tracker.freeze.Goals.{then-not-self+in_ok-reserve_freeze, else-not-self}

pub returns-clause-named : goal.returns-clause-named
returns-clause-named c = λ steps stands.
    let same : next_id c.if-not-self.self ≡ next_id c.args.self.now =
    (elim c.if-not-self.branch [
      | then-not-self+in_ok-reserve_freeze w ↦ ap next_id
          (w.self-is ∙ w.in_ok-reserve_freeze.ensures.ok)
      | else-not-self w ↦ ap next_id w.self-is
    ]) in
    c.add_snapshot.ensures.told ∙ same ∙ named c.args.id c.args.self.now steps c.requires stands

pub returns-clause-stands : goal.returns-clause-stands
returns-clause-stands c = λ steps stands.
    let same : after_freezing c.args.id c.if-not-self.self
    ≡ after_freezing c.args.id c.args.self.now =
    (elim c.if-not-self.branch [
      | then-not-self+in_ok-reserve_freeze w ↦ ap (after_freezing c.args.id)
          (w.self-is ∙ w.in_ok-reserve_freeze.ensures.ok)
      | else-not-self w ↦ ap (after_freezing c.args.id) w.self-is
    ]) in
    let P : TrackerState → Type 0 = λ s. StandsFor s (steps ++ Frozen c.args.id ∷ []) in
    subst P (sym (c.add_snapshot.ensures.frozen ∙ same))
    (stands_frozen c.args.id c.args.self.now c.requires steps stands)
