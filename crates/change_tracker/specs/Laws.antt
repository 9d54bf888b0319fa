-- What the room for later calls is to the steps for which a tracker stands, and what pages of an
-- answer tell.
use Rattle.std.specs.Prelude.{◌≡◌, ℕ, ◌<◌, ◌^◌, List, Bool, Option, Ok}
use Rattle.sector_model.specs.Page.{PagesTell}
use Rattle.sector_model.specs.declared.run.Run.{Run}
use Rattle.change_id.specs.declared.Since.{Since}
use Rattle.change_tracker.specs.Tracker.{TrackerState}
use Rattle.change_tracker.specs.History.{TrackStep, StandsFor, answered}

-- the room for later calls is no part of what a tracker stands for
abbrev pub RoomIsNoPart : Type 0
RoomIsNoPart =
    (tracker : TrackerState) (steps : List TrackStep) (mark_room : Option Run) (freeze_room : Bool)
    → StandsFor tracker steps
    → StandsFor (record tracker { mark_room = mark_room; freeze_room = freeze_room }) steps

-- the pages of an answer, each from the end of the one before, tell all of it from the first one's
-- start on
abbrev pub AnswerPagesJoin : Type 0
AnswerPagesJoin = (machine disk capacity snapshot : ℕ) (since : Since) (steps : List TrackStep)
    (areas : List Run) → capacity < 2 ^ 64
    → answered machine disk capacity snapshot since steps ≡ Ok areas → PagesTell capacity areas
