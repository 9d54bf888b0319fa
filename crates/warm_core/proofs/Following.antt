-- Events in a row, one more behind them.
use Rattle.std.proofs.Common.{List, [], ◌∷◌, ◌++◌, refl, subst}
use Rattle.warm_core.specs.declared.event.Event.{Event}
use Rattle.warm_core.specs.World.{World}
use Rattle.warm_core.specs.Events.{Steps, Follows}

pub follows-one-more : (events : List Event) (event : Event) (a b e : World) → Follows events a b
    → Steps event b e → Follows (events ++ event ∷ []) a e
follows-one-more [] event a b e same step =
    (e, subst (λ (w : World). Steps event w e) same step, refl)
follows-one-more (first ∷ events) event a b e follows step =
    (follows.0, follows.1, follows-one-more events event follows.0 b e follows.2 step)
