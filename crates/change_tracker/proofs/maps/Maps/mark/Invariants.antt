use Rattle.std.proofs.Common.{◌≡◌, ℕ, ◌/◌, ◌≤◌, true}
use Rattle.sector_model.specs.Run.{meets}
use Rattle.change_tracker.specs.Maps.{IsTouchedWhere, NoneTouchedLater, HasBlockRoom}
use Rattle.change_tracker.proofs.Marking.{met_before}
use Rattle.change_tracker.proofs.maps.Maps.mark.Given as goal

-- the words before this one are marked, and the others have their places
abbrev pub invariant-loop-word : goal.invariant-loop-word
invariant-loop-word l = record {
  touched : IsTouchedWhere (met_before l.word l.run) l.freezes l.initial.self l.self;
  later : NoneTouchedLater l.initial.self l.freezes → NoneTouchedLater l.self l.freezes;
  room : (b : ℕ) → l.word ≤ b / 64 → meets b l.run.first l.run.count ≡ true
      → HasBlockRoom l.self l.freezes b;
}
