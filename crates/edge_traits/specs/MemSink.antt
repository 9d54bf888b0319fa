-- A sink in memory: the bytes that it holds, the room for them, and the calls that are to fail.
use Rattle.std.specs.Prelude.{ℕ, ◌+◌, ◌<◌, List, [], ◌++◌, length, Some, true, false}
use Rattle.basics.specs.Calls.{CallLog, no_calls, after_call}
use Rattle.edge_traits.specs.Sink.{SinkState}

pub record MemSinkState : Type 0 where
  pub held : List ℕ
  -- the most bytes that it can hold
  pub room : ℕ
  pub calls : CallLog

-- what it is as a sink
abbrev pub sink_state : MemSinkState → SinkState
sink_state s = record { held = Some s.held; faults = s.calls.faults }

-- a sink that nothing was put into yet
abbrev pub empty_sink : (room : ℕ) (failing : List ℕ) → MemSinkState
empty_sink room failing = record { held = []; room = room; calls = no_calls failing }

-- there is no room for these bytes
abbrev pub IsTooFullFor : MemSinkState → List ℕ → Type 0
IsTooFullFor sink bytes = sink.room < length sink.held + length bytes

-- after a call that appended all of these bytes
abbrev pub after_put : List ℕ → MemSinkState → MemSinkState
after_put bytes s = record {
  held = s.held ++ bytes;
  room = s.room;
  calls = after_call s.calls true;
}

-- after a call that failed when it had appended these bytes
abbrev pub after_failed_put : List ℕ → MemSinkState → MemSinkState
after_failed_put kept s = record {
  held = s.held ++ kept;
  room = s.room;
  calls = after_call s.calls false;
}
