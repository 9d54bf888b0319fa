-- The names that commands and records may carry. They need no quotes and no escapes in a command
-- line, a file name or a reply.
use Rattle.std.specs.Prelude.{◌≡◌, ℕ, List, length, Bool, true, nat_le, ◌==◌, ◌&&◌, ◌||◌}
use Rattle.std.specs.List.{list_all}
use Rattle.basics.specs.declared.name.TheConstants.{MAX_NAME_BYTES}

-- a lower-case letter, a digit or a hyphen
abbrev pub is_name_byte : (byte : ℕ) → Bool
is_name_byte byte = (nat_le 97 byte && nat_le byte 122) || (nat_le 48 byte && nat_le byte 57)
    || (byte == 45)

-- 1 to MAX_NAME_BYTES of them
abbrev pub is_name : (text : List ℕ) → Bool
is_name text = nat_le 1 (length text) && nat_le (length text) MAX_NAME_BYTES
    && list_all is_name_byte text

-- the same, as a fact of a text
abbrev pub IsName : (text : List ℕ) → Type 0
IsName text = is_name text ≡ true
