use Rattle.std.proofs.Common.{◌≡◌, ℕ, ◌+◌, ◌<◌, false, ◌==◌, ◌&&◌, take}
use Rattle.log_model.specs.Marks.{epoch, number}
use Rattle.log_model.proofs.query.numbered_place.Given as goal

-- no place before this one gave the number
abbrev pub invariant-loop-place : goal.invariant-loop-place
invariant-loop-place l = (k : ℕ) → k < l.place
    → (epoch l.disk (take (k + 1) l.log) == l.now && number l.disk (take (k + 1) l.log) == l.seq)
    ≡ false
