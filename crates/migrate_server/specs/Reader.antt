-- What a reader of lines takes of its source. It reads on only where no LF is left to be found in
-- what it read, so a line is known to be whole as soon as its LF was read.
use Rattle.std.specs.Prelude.{◌≡◌, ◌≢◌, ℕ, ◌+◌, ◌-◌, ◌<◌, ◌≤◌, ◌⊎◌, List, [], ◌∷◌, ◌++◌, length, All, Bool, true, false, Option}
use Rattle.std.specs.Io.KnownBytes.{Consumes, IsAtEnd}
use Rattle.edge_traits.specs.Source.{SourceState}
use Rattle.basics.specs.Faults.{HasRisen}
use Rattle.migrate_server.specs.LineBuffer.{Holds}
use Rattle.migrate_server.specs.declared.line.TheConstants.{LF}
use Rattle.migrate_server.specs.declared.reader.TheConstants.{INPUT_LIMIT}
use Rattle.migrate_server.specs.declared.reader.NoLine.{NoLine}
use Rattle.migrate_server.specs.declared.reader.NoLine.TheVariants.{Fault, Limit, NoMemory}
use Rattle.migrate_server.specs.declared.line_buffer.LineBuffer.{LineBuffer}

-- bytes that were read and are not taken yet; how many were read in all; whether the source ended
pub record ReaderState : Type 0 where
  pub pending : List ℕ
  pub total : ℕ
  pub ended : Bool

-- how many bytes can still be taken before the limit is passed
abbrev pub budget : ReaderState → ℕ
budget r = (INPUT_LIMIT + 1 - r.total) + length r.pending

-- the reader took these bytes of the source, and counted them; one that had ended took none
pub record Takes (left left_after : Option (List ℕ)) (old new : ReaderState) (given : List ℕ)
    : Type 0 where
  pub whole : Consumes left left_after given
  pub count : new.total ≡ old.total + length given
  pub none : old.ended ≡ true → given ≡ []

-- a reader that has ended has nothing pending, and its source has nothing left
abbrev pub IsIdle : (left : Option (List ℕ)) → ReaderState → Type 0
IsIdle left reader = reader.ended ≡ true → (reader.pending ≡ []) × IsAtEnd left

-- no byte is an LF
abbrev pub HasNoLf : List ℕ → Type 0
HasNoLf line = All (λ b. b ≢ LF) line

-- bytes were read, and none only at the end
pub record ReadsMore (source source_after : SourceState) (old new : ReaderState) : Type 0 where
  pub given : List ℕ
  pub takes : Takes source.left source_after.left old new given
  pub pending : new.pending ≡ given
  pub at_end : new.ended ≡ true → (given ≡ []) × IsAtEnd source_after.left
  pub some : new.ended ≡ false → 0 < length given
  pub fits : new.total ≤ INPUT_LIMIT
  pub steady : source_after.faults ≡ source.faults

-- the next line is in the buffer: what stands before the first LF, or without one before the end
pub record TakesLine (source source_after : SourceState) (old new : ReaderState)
    (buffer : LineBuffer) : Type 0 where
  pub text : List ℕ
  pub held : Holds buffer text
  pub one : HasNoLf text
  pub given : List ℕ
  pub takes : Takes source.left source_after.left old new given
  pub split : (old.pending ++ given ≡ text ++ LF ∷ new.pending)
      ⊎ ((old.pending ++ given ≡ text) × (0 < length text) × (new.ended ≡ true))
  pub idle : IsIdle source_after.left new
  pub fits : new.total ≤ INPUT_LIMIT
  pub steady : source_after.faults ≡ source.faults

-- there is no further line: the source ended, and nothing is pending
pub record TakesEnd (source source_after : SourceState) (old new : ReaderState) : Type 0 where
  pub given : List ℕ
  pub takes : Takes source.left source_after.left old new given
  pub nothing : old.pending ++ given ≡ []
  pub ended : new.ended ≡ true
  pub idle : IsIdle source_after.left new
  pub fits : new.total ≤ INPUT_LIMIT
  pub steady : source_after.faults ≡ source.faults

-- the source failed, and there was no LF in what was read
pub record FailsInLine (source source_after : SourceState) (old new : ReaderState) : Type 0 where
  pub running : old.ended ≡ false
  pub given : List ℕ
  pub takes : Takes source.left source_after.left old new given
  pub one : HasNoLf (old.pending ++ given)
  pub fits : new.total ≤ INPUT_LIMIT
  pub rises : HasRisen source.faults source_after.faults

-- one byte came past the limit, and there was no LF in what was read before it
pub record PassesLimit (source source_after : SourceState) (old new : ReaderState) : Type 0 where
  pub running : old.ended ≡ false
  pub given : List ℕ
  pub past : ℕ
  pub takes : Takes source.left source_after.left old new (given ++ past ∷ [])
  pub one : HasNoLf (old.pending ++ given)
  pub over : new.total ≡ INPUT_LIMIT + 1
  pub steady : source_after.faults ≡ source.faults

-- memory ran out in a line that has at least one byte
pub record StopsInLine (source source_after : SourceState) (old new : ReaderState) : Type 0 where
  pub running : old.ended ≡ false
  pub given : List ℕ
  pub takes : Takes source.left source_after.left old new given
  pub some : 0 < length (old.pending ++ given)
  pub fits : new.total ≤ INPUT_LIMIT
  pub steady : source_after.faults ≡ source.faults

-- why no line came
abbrev pub HasNoLine : NoLine → (source source_after : SourceState) (old new : ReaderState) → Type 0
HasNoLine Fault source source_after old new = FailsInLine source source_after old new
HasNoLine Limit source source_after old new = PassesLimit source source_after old new
HasNoLine NoMemory source source_after old new = StopsInLine source source_after old new
