use Rattle.std.proofs.Common.{◌≡◌, ℕ, ◌/◌, ◌<◌, true}
use Rattle.sector_model.specs.Run.{meets}
use Rattle.change_tracker.specs.Maps.{HasSameTouches, KeepsPlaces, NoneTouchedLater, HasBlockRoom}
use Rattle.change_tracker.proofs.maps.Maps.reserve.Given as goal

-- the words before this one have their places
abbrev pub invariant-loop-word : goal.invariant-loop-word
invariant-loop-word l = record {
  same : HasSameTouches l.initial.self l.self;
  kept : KeepsPlaces l.freezes l.initial.self l.self;
  later : NoneTouchedLater l.self l.freezes;
  room : (b : ℕ) → b / 64 < l.word → meets b l.run.first l.run.count ≡ true
      → HasBlockRoom l.self l.freezes b;
}
