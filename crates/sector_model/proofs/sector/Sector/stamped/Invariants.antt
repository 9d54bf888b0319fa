use Rattle.std.proofs.Common.{◌≡◌, ℕ, ◌<◌, ◌%◌, length, get_or}
use Rattle.sector_model.proofs.sector.Sector.stamped.Given as goal

-- the bytes below i are those of the stamp, again and again
abbrev pub invariant-loop-i : goal.invariant-loop-i
invariant-loop-i l =
    record {
      long : length l.sector ≡ 512;
      so_far : (k : ℕ) → k < l.i → get_or l.sector k 0 ≡ get_or l.bytes (k % 8) 0;
    }
