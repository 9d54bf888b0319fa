-- A line while it is read. The bytes of one that is too long aren't kept, since nothing needs them.
use Rattle.std.specs.Prelude.{◌≡◌, ◌⊎◌, ◌<◌, ◌≤◌, ℕ, List, length, true, false}
use Rattle.migrate_server.specs.declared.line.TheConstants.{LINE_LIMIT}
use Rattle.migrate_server.specs.declared.line_buffer.LineBuffer.{LineBuffer}

-- the buffer has the line, or knows that it is too long
abbrev pub Holds : LineBuffer → List ℕ → Type 0
Holds buffer line =
    ((buffer.is_long ≡ false) × (buffer.bytes.items ≡ line) × (length line ≤ LINE_LIMIT))
    ⊎ ((buffer.is_long ≡ true) × (LINE_LIMIT < length line))
