-- Kinds and their bytes: each kind stands in the list of all at the place that its byte tells, so
-- no
-- two share a byte, and a byte that none of the list has is no kind's.
use Rattle.std.proofs.Common.{◌≡◌, ◌≢◌, ℕ, ◌-◌, ◌<◌, refl, sym, ap, ◌∙◌, lit<}
use Rattle.std.specs.Prelude.{slice_index_or}
use Rattle.record_codec.specs.declared.record.TheConstants.{KINDS}
use Rattle.record_codec.specs.declared.record.Kind.{Kind}
use Rattle.record_codec.specs.declared.record.Kind.TheVariants.{PlanMade as PlanMadeKind}
use Rattle.record_codec.specs.Record.{kind_byte}

kind_place : (kind : Kind) → kind_byte kind - 1 < 18
kind_place PlanMadeKind = lit< tt
kind_place _ = lit< tt

kind_there : (kind : Kind) → slice_index_or KINDS (kind_byte kind - 1) PlanMadeKind ≡ kind
kind_there PlanMadeKind = refl
kind_there _ = refl

pub kinds_differ : (a b : Kind) → kind_byte a ≡ kind_byte b → a ≡ b
kinds_differ a b e =
    sym (kind_there a) ∙ ap (λ (byte : ℕ). slice_index_or KINDS (byte - 1) PlanMadeKind) e
    ∙ kind_there b

-- a byte that none of all kinds has
pub none_has : (byte : ℕ)
    → ((k : ℕ) → k < 18 → kind_byte (slice_index_or KINDS k PlanMadeKind) ≢ byte)
    → (kind : Kind) → kind_byte kind ≢ byte
none_has byte none kind same =
    none (kind_byte kind - 1) (kind_place kind) (ap kind_byte (kind_there kind) ∙ same)
