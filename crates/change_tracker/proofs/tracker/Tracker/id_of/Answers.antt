use Rattle.std.proofs.Common.{◌≡◌, ◌==◌, ◌+◌, List, Some, is_some, refl, sym, ap, ◌∙◌}
use Rattle.std.specs.List.{list_any, slice_get}
use Rattle.std.proofs.lemmas.Option.{get_or_from_slice_get}
use Rattle.change_tracker.specs.declared.frozen_snapshot.FrozenSnapshot.{FrozenSnapshot}
use Rattle.change_tracker.specs.Tracker.{TrackerState, snapshot_of}
use Rattle.change_tracker.specs.History.{freezes, id_at}
use Rattle.change_tracker.specs.Fields.{snapshot_at}
use Rattle.change_tracker.proofs.States.{view_get, view_find}
use Rattle.change_tracker.proofs.Lookups.{known_at, accept_known, refuse_unknown}
use Rattle.change_tracker.proofs.tracker.Tracker.id_of.Goals as goal

pub returns-in-Some-clause-refused : goal.returns-in-Some-clause-refused
returns-in-Some-clause-refused c = λ steps stands.
    let was = c.self.inside in
    let at : slice_get was.snapshots.items c.in-Some.place ≡ Some c.in-Some.ensures.0 =
    ap (λ (ks : List FrozenSnapshot). slice_get ks c.in-Some.place) (sym c.as_slice.ensures.value)
    ∙ c.in-Some.ensures.1 in
    accept_known (list_any (freezes c.args.id) steps) _ (sym (stands.known c.args.id)
    ∙ ap (λ (s : TrackerState). is_some (snapshot_of c.args.id s)) (sym c.self.view_is)
    ∙ view_find was.capacity was.maps 0 c.args.id was.snapshots.items
    ∙ known_at was.snapshots.items c.in-Some.place c.args.id c.in-Some.ensures.0 at
    c.in-Some.ensures.2) refl

pub returns-in-Some-clause-found : goal.returns-in-Some-clause-found
returns-in-Some-clause-found c = λ steps stands.
    let was = c.self.inside in
    let at : slice_get was.snapshots.items c.in-Some.place ≡ Some c.in-Some.ensures.0 =
    ap (λ (ks : List FrozenSnapshot). slice_get ks c.in-Some.place) (sym c.as_slice.ensures.value)
    ∙ c.in-Some.ensures.1 in
    let told : c.index.result.now ≡ c.in-Some.ensures.0 =
    c.index.ensures ∙ get_or_from_slice_get was.snapshots.items c.in-Some.place
    c.in-Some.ensures.0 c.index.result.now at in
    let here = ap (λ (s : TrackerState). slice_get s.snapshots c.in-Some.place) (sym c.self.view_is)
    ∙ view_get was.capacity was.maps 0 was.snapshots.items c.in-Some.place c.in-Some.ensures.0
    at in
    let frozen = stands.frozen c.in-Some.place
    (snapshot_at was.capacity was.maps (0 + c.in-Some.place, c.in-Some.ensures.0)) here in
    ap (λ (k : FrozenSnapshot). k.change_id) told ∙ frozen.change_id
    ∙ ap (λ n. id_at c.args.self.now.machine c.args.self.now.disk n steps) c.in-Some.ensures.2

pub returns-in-None-clause-refused : goal.returns-in-None-clause-refused
returns-in-None-clause-refused c = λ steps stands.
    let was = c.self.inside in
    refuse_unknown (list_any (freezes c.args.id) steps) _ (sym (stands.known c.args.id)
    ∙ ap (λ (s : TrackerState). is_some (snapshot_of c.args.id s)) (sym c.self.view_is)
    ∙ view_find was.capacity was.maps 0 c.args.id was.snapshots.items
    ∙ ap (λ (ks : List FrozenSnapshot). list_any (λ k. k.id == c.args.id) ks)
    (sym c.as_slice.ensures.value) ∙ c.in-None.ensures) refl
