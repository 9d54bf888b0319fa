-- A source in memory: the bytes that are left, and the calls that are to fail.
use Rattle.std.specs.Prelude.{ℕ, min, List, length, drop, Some, true, false}
use Rattle.basics.specs.Calls.{CallLog, no_calls, after_call}
use Rattle.edge_traits.specs.Source.{SourceState}

pub record MemSourceState : Type 0 where
  -- the bytes that it has still to give
  pub left : List ℕ
  -- the most bytes that it gives in a call
  pub piece : ℕ
  pub calls : CallLog

-- what it is as a source
abbrev pub source_state : MemSourceState → SourceState
source_state s = record { left = Some s.left; faults = s.calls.faults }

-- a source that was not read yet
abbrev pub unread : (bytes : List ℕ) (piece : ℕ) (failing : List ℕ) → MemSourceState
unread bytes piece failing = record { left = bytes; piece = piece; calls = no_calls failing }

-- how many bytes it gives into a buffer of this length
abbrev pub next_count : MemSourceState → (room : ℕ) → ℕ
next_count source room = min source.piece (min room (length source.left))

-- after a call that gave `count` bytes
abbrev pub after_read : (count : ℕ) → MemSourceState → MemSourceState
after_read count s = record {
  left = drop count s.left;
  piece = s.piece;
  calls = after_call s.calls true;
}

-- after a call that failed
abbrev pub after_failed_read : MemSourceState → MemSourceState
after_failed_read s = record {
  left = s.left;
  piece = s.piece;
  calls = after_call s.calls false;
}
