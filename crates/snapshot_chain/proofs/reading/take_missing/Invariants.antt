-- The offsets before k are done, and those from k on are as they were.
use Rattle.std.proofs.Common.{◌≡◌, ℕ, ◌+◌, ◌<◌, ◌≤◌, get_or, false}
use Rattle.std.specs.List.{slice_get}
use Rattle.snapshot_chain.specs.Page128.{sector_at}
use Rattle.snapshot_chain.specs.Reading.{TakesMissing}
use Rattle.snapshot_chain.proofs.reading.take_missing.Given as goal

abbrev pub invariant-loop-k : goal.invariant-loop-k
invariant-loop-k l = record {
  done : (j : ℕ) → j < l.k
      → TakesMissing (sector_at l.page (l.offset + j)) (get_or l.fn.is_found j false)
      (slice_get l.fn.buf j) (get_or l.is_found j false) (slice_get l.buf j);
  found_same : (j : ℕ) → l.k ≤ j → get_or l.is_found j false ≡ get_or l.fn.is_found j false;
  buf_same : (j : ℕ) → l.k ≤ j → slice_get l.buf j ≡ slice_get l.fn.buf j;
}
