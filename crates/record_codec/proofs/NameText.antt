-- A name is text: its bytes are ASCII, so each record can be shown.
use Rattle.std.proofs.Common.{◌≡◌, ℕ, ◌<◌, ◌≤◌, ◌&&◌, inl, inr, true, List, length, get_or, arith, leb}
use Rattle.std.specs.List.{list_all}
use Rattle.std.specs.Str.{IsUtf8}
use Rattle.std.proofs.lemmas.Str.{IsUtf8-from_ascii}
use Rattle.std.proofs.lemmas.Bool.{and_parts, cases_lt}
use Rattle.std.proofs.lemmas.Bool.Decides.{nat_tests}
use Rattle.std.proofs.lemmas.List.{get_or_past}
use Rattle.std.proofs.lemmas.List.Sums.{AllPass-from_list_all}
use Rattle.basics.specs.Spelled.{IsName, is_name_byte}
use Rattle.basics.specs.declared.name.TheConstants.{MAX_NAME_BYTES}

byte_is_ascii : (b : ℕ) → is_name_byte b ≡ true → b < 128
byte_is_ascii b h = grind (arith, nat_tests)

pub name_is_text : (text : List ℕ) → IsName text → IsUtf8 text
name_is_text text h =
    let spelled = (and_parts (leb 1 (length text) && leb (length text) MAX_NAME_BYTES)
    (list_all is_name_byte text) h).1 in
    IsUtf8-from_ascii text (λ i.
    elim (cases_lt i (length text)) [
      | inl within ↦ byte_is_ascii (get_or text i 0)
          (AllPass-from_list_all is_name_byte text spelled i 0 within)
      | inr past ↦ rw (get_or_past text i 0 past) (omega arith)
    ])
