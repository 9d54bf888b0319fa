use Rattle.std.proofs.Common.{[], sym, ap, subst, ◌∙◌, List, None, false}
use Rattle.change_tracker.specs.declared.frozen_snapshot.FrozenSnapshot.{FrozenSnapshot}
use Rattle.change_tracker.specs.declared.maps.Maps.{Maps}
use Rattle.change_tracker.specs.Tracker.{TrackerState}
use Rattle.change_tracker.specs.History.{StandsFor}
use Rattle.change_tracker.specs.Fields.{state_of}
use Rattle.change_tracker.proofs.States.{fresh_state}
use Rattle.change_tracker.proofs.Histories.{stands_fresh}
use Rattle.change_tracker.proofs.tracker.Tracker.new.Goals as goal

pub returns-clause-fresh : goal.returns-clause-fresh
returns-clause-fresh c =
    let maps : Maps = record { first = c.new.result; changes = c.new-2.result } in
    ap (λ (ks : List FrozenSnapshot). state_of c.args.machine c.args.disk c.args.capacity 0 None
    maps ks 0
    None false) c.new-3.ensures.items
    ∙ fresh_state c.args.machine c.args.disk c.args.capacity maps c.new.ensures c.new-2.ensures

pub returns-clause-stands : goal.returns-clause-stands
returns-clause-stands c =
    let P : TrackerState → Type 0 = λ s. StandsFor s [] in
    subst P (sym (returns-clause-fresh c)) (stands_fresh c.args.machine c.args.disk c.args.capacity)
