-- No text has two answers: which form it has decides.
use Rattle.std.proofs.Common.{◌≡◌, ℕ, ◌^◌, ◌<◌, ◌≤◌, List, Contains, Result, Ok, Err, decimal, refl, sym, ap, ◌∙◌}
use Rattle.change_id.specs.declared.ChangeId.{ChangeId}
use Rattle.change_id.specs.declared.IdRefused.{IdRefused}
use Rattle.change_id.specs.declared.IdRefused.TheVariants.{Form, Uuid, Number}
use Rattle.change_id.specs.ChangeId.{slash, uuid_text, uuid_part, number_part, IsUuidText, IsNumberText, Spells, IsAnswer}
use Rattle.change_id.proofs.SpellingLemmas.{same_identifier, joined, divided-spelling, uuid_part-spelling, number_part-spelling}

-- a text that is cut at its first slash into the texts of a UUID and of a number
pub spelled_by_parts : (text : List ℕ) (uuid seq : ℕ) → uuid < 2 ^ 128 → 1 ≤ seq → seq < 2 ^ 64
    → Contains text slash → uuid_part text ≡ uuid_text uuid → number_part text ≡ decimal seq
    → Spells text (record { uuid = uuid; seq = seq })
spelled_by_parts text uuid seq uuid_fits counted seq_fits divided front back = record {
  identifier = record {
    ranges = record { uuid_fits = uuid_fits; seq_fits = seq_fits };
    counted =
        counted;
  };
  spelled = joined text uuid seq divided front back;
}

-- what a spelled text does not lack
has_slash : (text : List ℕ) (id : ChangeId) → Spells text id → Contains text slash
has_slash text id s = rw s.spelled (divided-spelling id.uuid id.seq)

has_uuid : (text : List ℕ) (id : ChangeId) → Spells text id → IsUuidText (uuid_part text)
has_uuid text id s = (
  id.uuid,
  s.identifier.ranges.uuid_fits,
  ap uuid_part s.spelled
      ∙ uuid_part-spelling id.uuid id.seq,
)

has_number : (text : List ℕ) (id : ChangeId) → Spells text id → IsNumberText (number_part text)
has_number text id s = (
  id.seq,
  s.identifier.counted,
  s.identifier.ranges.seq_fits,
  ap number_part s.spelled
      ∙ number_part-spelling id.uuid id.seq,
)

pub one_answer : (text : List ℕ) (a b : Result ChangeId IdRefused) → IsAnswer text a
    → IsAnswer text b → a ≡ b
one_answer text (Ok x) (Ok y) p q =
    ap Ok (same_identifier x y p.identifier q.identifier (sym p.spelled ∙ q.spelled))
one_answer text (Ok x) (Err Form) p q = absurd (q (has_slash text x p))
one_answer text (Ok x) (Err Uuid) p q = absurd (q.no_uuid (has_uuid text x p))
one_answer text (Ok x) (Err Number) p q = absurd (q.no_number (has_number text x p))
one_answer text (Err Form) (Ok y) p q = absurd (p (has_slash text y q))
one_answer text (Err Form) (Err Form) p q = refl
one_answer text (Err Form) (Err Uuid) p q = absurd (p q.divided)
one_answer text (Err Form) (Err Number) p q = absurd (p q.divided)
one_answer text (Err Uuid) (Ok y) p q = absurd (p.no_uuid (has_uuid text y q))
one_answer text (Err Uuid) (Err Form) p q = absurd (q p.divided)
one_answer text (Err Uuid) (Err Uuid) p q = refl
one_answer text (Err Uuid) (Err Number) p q = absurd (p.no_uuid q.has_uuid)
one_answer text (Err Number) (Ok y) p q = absurd (p.no_number (has_number text y q))
one_answer text (Err Number) (Err Form) p q = absurd (q p.divided)
one_answer text (Err Number) (Err Uuid) p q = absurd (q.no_uuid p.has_uuid)
one_answer text (Err Number) (Err Number) p q = refl
