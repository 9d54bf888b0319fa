-- The offsets before k are cleared.
use Rattle.std.proofs.Common.{◌≡◌, ℕ, ◌<◌, get_or, false, Some}
use Rattle.std.specs.List.{slice_get}
use Rattle.sector_model.specs.Sector.{zero_sector}
use Rattle.snapshot_chain.proofs.reading.clear.Given as goal

abbrev pub invariant-loop-k : goal.invariant-loop-k
invariant-loop-k l = record {
  found : (j : ℕ) → j < l.k → get_or l.is_found j false ≡ false;
  read : (j : ℕ) → j < l.k → slice_get l.buf j ≡ Some zero_sector;
}
