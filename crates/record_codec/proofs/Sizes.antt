-- How long fields and spellings are.
use Rattle.std.proofs.Common.{◌≡◌, ◌+◌, List, [], ◌∷◌, length, refl, sym, ◌∙◌, arith, length-append}
use Rattle.std.specs.List.{sum_by}
use Rattle.std.proofs.lemmas.List.Sums.{sum_by-cons}
use Rattle.record_codec.specs.Record.{Field, Byte, Word, Long, Flag, Text, Words, Ids, word_bytes, id_bytes, all_word_bytes, all_id_bytes, field_bytes, field_size, fields_of, spelled_fields}
use Rattle.record_codec.specs.Laws.{SpellingsHaveTheirSize}
use Rattle.record_codec.proofs.Numbers.{length-word_bytes, length-long_bytes}
use Rattle.record_codec.proofs.Pieces.{length-concat}
use Rattle.record_codec.proofs.VariableFields.{length-id_bytes}

length-field : (field : Field) → length (field_bytes field) ≡ field_size field
length-field (Byte n) = refl
length-field (Word n) = length-word_bytes n
length-field (Long n) = length-long_bytes n
length-field (Flag flag) = refl
length-field (Text text) = omega arith
length-field (Words numbers) =
    length-append (word_bytes (length numbers)) (all_word_bytes numbers)
    ∙ (let w = length-word_bytes (length numbers) in
    let r = length-concat word_bytes 4 length-word_bytes numbers in omega arith)
length-field (Ids ids) =
    length-append (word_bytes (length ids)) (all_id_bytes ids)
    ∙ (let w = length-word_bytes (length ids) in
    let r = length-concat id_bytes 24 length-id_bytes ids in omega arith)

length-fields : (fields : List Field) → length (spelled_fields fields) ≡ sum_by field_size fields
length-fields [] = refl
length-fields (field ∷ fields) =
    length-append (field_bytes field) (spelled_fields fields)
    ∙ (λ i. length-field field i + length-fields fields i)
    ∙ sym (sum_by-cons field_size field fields)

pub spellings_have_their_size : SpellingsHaveTheirSize
spellings_have_their_size r = let e = length-fields (fields_of r) in omega arith
