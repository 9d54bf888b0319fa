-- What the reader of one cell finds.
use Rattle.std.proofs.Common.{◌≡◌, ◌≢◌, ℕ, suc, ◌+◌, ◌^◌, ◌<◌, ◌≤◌, List, [], ◌∷◌, ◌++◌, length, get_or, take, drop, refl, sym, ◌∙◌, ap, arith, append_assoc, length-append, length-drop, length-take, lit<}
use Rattle.std.proofs.lemmas.List.{take-append-drop}
use Rattle.record_codec.specs.Record.{word_bytes}
use Rattle.record_codec.specs.Parse.{word_at}
use Rattle.record_codec.proofs.Numbers.{IsBytes, word_split, word_fits}
use Rattle.record_codec.proofs.FixedFields.{byte_split}
use Rattle.journal.specs.declared.format.TheConstants.{OPEN_GATE}
use Rattle.journal.specs.Cells.{IsOpen}
use Rattle.journal.proofs.CellLemmas.{HasParts, parts_of}

-- five bytes at least stand where a cell is open
pub open_long : (cells body behind : List ℕ) → IsOpen cells body behind → 5 ≤ length cells
open_long cells body behind is =
    let parts = parts_of cells body behind is in
    omega (arith, ap length parts.gate, parts.long)

-- its first byte is an open gate
pub open_gate : (cells body behind : List ℕ) → IsOpen cells body behind
    → get_or cells 0 0 ≡ OPEN_GATE
open_gate cells body behind is =
    let parts = parts_of cells body behind is in
    ap (λ xs. get_or xs 0 0) parts.gate

-- the length that it tells fits the bytes behind
pub open_fits : (cells body behind : List ℕ) → IsOpen cells body behind
    → word_at (drop 1 cells) ≤ length (drop 5 cells)
open_fits cells body behind is =
    let parts = parts_of cells body behind is in
    let word : word_at (drop 1 cells) ≡ length body =
    ap (λ xs. word_at (drop 1 xs)) parts.gate ∙ parts.word in
    let rest : drop 5 cells ≡ body ++ behind = ap (λ xs. drop 5 xs) parts.gate ∙ parts.tail in
    omega (arith, word, ap length rest, length-append body behind)

drop_five : (cells : List ℕ) → drop 4 (drop 1 cells) ≡ drop 5 cells
drop_five [] = refl
drop_five (x ∷ xs) = refl

-- where all of that holds, a cell is open
pub is_open : (cells body behind : List ℕ) → IsBytes cells → IsBytes (drop 1 cells)
    → 5 ≤ length cells → get_or cells 0 0 ≡ OPEN_GATE
    → word_at (drop 1 cells) ≤ length (drop 5 cells)
    → body ≡ take (word_at (drop 1 cells)) (drop 5 cells)
    → behind ≡ drop (word_at (drop 1 cells)) (drop 5 cells) → IsOpen cells body behind
is_open cells body behind bytes rest_bytes long gate fits body_is behind_is =
    let count : ℕ = word_at (drop 1 cells) in
    let rest : List ℕ = drop 5 cells in
    let four : 4 ≤ length (drop 1 cells) = omega (arith, length-drop 1 cells) in
    let fields : drop 1 cells ≡ word_bytes count ++ rest =
    word_split (drop 1 cells) four rest_bytes
    ∙ ap (λ xs. word_bytes count ++ xs) (drop_five cells) in
    let len : length body ≡ count = omega (arith, ap length body_is, length-take count rest) in
    let both : body ++ behind ≡ rest =
    ap (λ xs. xs ++ behind) body_is ∙ ap (λ xs. take count rest ++ xs) behind_is
    ∙ take-append-drop count rest in
    let some : 1 ≤ length cells = omega arith in
    let split : cells ≡ OPEN_GATE ∷ (word_bytes count ++ rest) =
    byte_split cells some ∙ ap (λ g. g ∷ drop 1 cells) gate
    ∙ ap (λ xs. OPEN_GATE ∷ xs) fields in
    record {
      few = omega (arith, len, word_fits (drop 1 cells) rest_bytes);
      split =
          split ∙ ap (λ xs. OPEN_GATE ∷ (word_bytes count ++ xs)) (sym both)
          ∙ ap (λ xs. OPEN_GATE ∷ xs) (sym (append_assoc (word_bytes count) body behind))
          ∙ ap (λ n. OPEN_GATE ∷ ((word_bytes n ++ body) ++ behind)) (sym len);
    }
