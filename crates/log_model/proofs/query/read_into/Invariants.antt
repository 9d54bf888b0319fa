use Rattle.std.proofs.Common.{◌≡◌, ℕ, ◌+◌, ◌<◌, length, get_or}
use Rattle.sector_model.specs.Sector.{zero_sector}
use Rattle.log_model.specs.PlainMachine.{sector_at}
use Rattle.log_model.proofs.query.read_into.Given as goal

-- the sectors below i are read
abbrev pub invariant-loop-i : goal.invariant-loop-i
invariant-loop-i l = record {
  long : length l.buf ≡ length l.fn.buf;
  so_far : (k : ℕ) → k < l.i → get_or l.buf k zero_sector ≡ sector_at l.disk (l.first + k) l.log;
}
