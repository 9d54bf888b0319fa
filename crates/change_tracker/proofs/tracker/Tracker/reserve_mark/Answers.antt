use Rattle.std.proofs.Common.{◌≡◌, Some, ap, ◌∙◌, true, rules}
use Rattle.basics.proofs.Results.{on_err, if_err, free_alone}
use Rattle.change_tracker.specs.Tracker.{TrackerState}
use Rattle.change_tracker.specs.declared.refusals.TrackRefused.TheVariants.{Range, NoMemory}
use Rattle.sector_model.specs.Run.{is_within}
use Rattle.change_tracker.proofs.States.{same_state}
use Rattle.change_tracker.proofs.tracker.Tracker.reserve_mark.Goals as goal

pub returns-in_err-reserve-clause-refused : goal.returns-in_err-reserve-clause-refused
returns-in_err-reserve-clause-refused c =
    let inside : is_within c.args.self.now.capacity c.args.run.first c.args.run.count ≡ true =
    search rules in
    free_alone Range NoMemory
    (is_within c.args.self.now.capacity c.args.run.first c.args.run.count)
    c.from_residual.result inside (if_err _ c.from_residual.result c.from_residual.ensures.1)

pub returns-in_err-reserve-clause-err : goal.returns-in_err-reserve-clause-err
returns-in_err-reserve-clause-err c =
    let was = c.self.inside in
    on_err c.from_residual.result
    (same_state was.machine was.disk was.capacity was.resets was.counted was.maps c.reserve.new.self
    was.snapshots.items was.free_from was.mark_room was.freeze_room c.reserve.ensures.same
    ∙ c.self.view_is)

pub returns-clause-ok : goal.returns-clause-ok
returns-clause-ok c =
    let was = c.self.inside in
    same_state was.machine was.disk was.capacity was.resets was.counted was.maps c.reserve.new.self
    was.snapshots.items was.free_from (Some c.args.run) was.freeze_room c.reserve.ensures.same
    ∙ ap (λ (s : TrackerState). record s { mark_room = Some c.args.run }) c.self.view_is
