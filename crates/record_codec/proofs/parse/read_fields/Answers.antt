use Rattle.std.proofs.Common.{sym, subst, ◌∷◌}
use Rattle.record_codec.specs.declared.record.Kind.{Kind}
use Rattle.record_codec.specs.Record.{kind_byte}
use Rattle.record_codec.specs.Parse.{PlanNeeds, plan_at, IdsNeed, ids_at}
use Rattle.record_codec.specs.Decoded.{IsDecoded}
use Rattle.record_codec.proofs.VariableFields.{plan_spells, plan_only, ids_spell, ids_only}
use Rattle.record_codec.proofs.Numbers.{fitting_bytes}
use Rattle.record_codec.proofs.Decodes.{reads_decoded, fixed_decoded, fixed_kind}
use Rattle.record_codec.proofs.parse.read_fields.Goals as goal

pub returns-in-PlanMade : goal.returns-in-PlanMade
returns-in-PlanMade c =
    let bytes = c.args.bytes.now in
    subst (λ (k : Kind). IsDecoded (kind_byte k ∷ bytes) c.plan_made.result) (sym c.in-PlanMade.is)
    (reads_decoded (1 ∷ bytes) (PlanNeeds bytes) (plan_at bytes) c.plan_made.result
    c.plan_made.ensures
    (plan_spells bytes (fitting_bytes bytes c.type_inv.bytes)) (plan_only bytes))

pub returns-in-IdsStored : goal.returns-in-IdsStored
returns-in-IdsStored c =
    let bytes = c.args.bytes.now in
    subst (λ (k : Kind). IsDecoded (kind_byte k ∷ bytes) c.ids_stored.result)
    (sym c.in-IdsStored.is)
    (reads_decoded (5 ∷ bytes) (IdsNeed bytes) (ids_at bytes) c.ids_stored.result
    c.ids_stored.ensures
    (ids_spell bytes (fitting_bytes bytes c.type_inv.bytes)) (ids_only bytes))

pub returns-in_default : goal.returns-in_default
returns-in_default c =
    let bytes = c.args.bytes.now in
    subst (λ r. IsDecoded (kind_byte c.args.kind ∷ bytes) r) (sym c.ok_or.ensures.value)
    (fixed_decoded c.args.kind bytes c.fixed.result c.fixed.ensures
    (fitting_bytes bytes c.type_inv.bytes)
    (fixed_kind c.args.kind c.in_default.not-PlanMade c.in_default.not-IdsStored))
