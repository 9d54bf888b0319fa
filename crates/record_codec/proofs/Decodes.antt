-- From what the parts of the decoder answer to what the decoder answers.
use Rattle.std.proofs.Common.{◌≡◌, ℕ, true, List, ◌∷◌, Option, Some, None, Result, Ok, Err, refl, sym, subst}
use Rattle.std.specs.Prelude.{nat_lt}
use Rattle.std.specs.Option.{ok_or}
use Rattle.record_codec.specs.declared.parse.CodecRefused.{CodecRefused}
use Rattle.record_codec.specs.declared.parse.CodecRefused.TheVariants.{Bad, NoMemory}
use Rattle.record_codec.specs.declared.record.Record.{Record}
use Rattle.record_codec.specs.declared.record.Kind.{Kind}
use Rattle.record_codec.specs.declared.record.Kind.TheVariants.{PlanMade as PlanMadeKind, IdsStored as IdsStoredKind}
use Rattle.record_codec.specs.Record.{kind_byte, Spells}
use Rattle.record_codec.specs.Parse.{fixed_size, parse_fixed, Reads}
use Rattle.record_codec.specs.Decoded.{IsDecoded}
use Rattle.record_codec.proofs.Numbers.{IsBytes}
use Rattle.record_codec.proofs.FixedFields.{fixed_spells, fixed_only}

pub reads_decoded : (body : List ℕ) (needs : Type 0) (r : Record)
    (result : Result Record CodecRefused) → Reads needs r result
    → (needs → Spells body r) → ((other : Record) → Spells body other → needs)
    → IsDecoded body result
reads_decoded body needs r (Ok x) read spells only =
    subst (λ (y : Record). Spells body y) (sym read.1) (spells read.0)
reads_decoded body needs r (Err Bad) refused spells only = λ other s. refused (only other s)
reads_decoded body needs r (Err NoMemory) has spells only = (r, spells has)

pub fixed_decoded : (kind : Kind) (bytes : List ℕ) (o : Option Record) → o ≡ parse_fixed kind bytes
    → IsBytes bytes
    → nat_lt 0 (fixed_size kind) ≡ true → IsDecoded (kind_byte kind ∷ bytes) (ok_or o Bad)
fixed_decoded kind bytes (Some r) e fit fixed = fixed_spells kind bytes r fit (sym e)
fixed_decoded kind bytes None e fit fixed = fixed_only kind bytes fixed (sym e)

pub fixed_kind : (kind : Kind) → (kind ≡ PlanMadeKind → ⊥) → (kind ≡ IdsStoredKind → ⊥)
    → nat_lt 0 (fixed_size kind) ≡ true
fixed_kind PlanMadeKind plan ids = absurd (plan refl)
fixed_kind IdsStoredKind plan ids = absurd (ids refl)
fixed_kind _ plan ids = refl
