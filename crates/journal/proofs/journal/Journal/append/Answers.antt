use Rattle.std.proofs.Common.{◌≡◌, ◌+◌, ◌-◌, ◌≤◌, [], ◌∷◌, ◌++◌, ◌∙◌, length, take, refl, ap, arith}
use Rattle.std.specs.Prelude.{Some, Result, Ok, Err, option_map}
use Rattle.record_codec.specs.declared.record.Record.{Record}
use Rattle.record_codec.specs.Record.{spelling}
use Rattle.std.proofs.lemmas.Grind.{common_steps}
use Rattle.journal.specs.declared.format.TheConstants.{OPEN_GATE, CLOSED_GATE, MAX_BYTES}
use Rattle.basics.specs.Faults.{HasRisen}
use Rattle.edge_traits.specs.Disk.{settled}
use Rattle.journal.specs.declared.refusal.JournalRefused.TheVariants.{DiskFault}
use Rattle.journal.specs.Format.{cell}
use Rattle.journal.specs.Journal.{JournalState}
use Rattle.journal.specs.Fields.{failure_of}
use Rattle.journal.proofs.Keeping.{cell_len, kept_by, cut_by, answered_ok, answered_err}
use Rattle.journal.proofs.journal.Journal.append.Goals as goal

pub invariant_of-self-in-Ok : goal.invariant_of-self-in-Ok
invariant_of-self-in-Ok g c =
    let r : Record = c.args.record.now in
    let bytes : c.deref.result.now ≡ cell r ++ CLOSED_GATE ∷ [] =
    c.deref.ensures.value ∙ c.in_ok-cell.ensures.bytes in
    let size : length c.deref.result.now ≡ 5 + length (spelling r) =
    cell_len r c.deref.result.now bytes in
    kept_by c.self.inside.records.items c.push.new.self.items c.self.inside.len _ _ _
    c.self.inside.opened _ _ r
    c.deref.result.now c.self.invariant (ap (λ f. option_map failure_of f) c.in_default.is)
    (ap (λ f. option_map failure_of f) c.in_default.is)
    (grind (arith, common_steps, c.in-Ok.ensures.cause))
    c.in_ok-cell.ensures.spells bytes
    (grind (arith, common_steps)) (grind (arith, common_steps)) (omega (arith, size))
    (grind (arith, common_steps, c.in-Ok.ensures.appended))

pub returns-in-Ok : goal.returns-in-Ok
returns-in-Ok g c =
    let r : Record = c.args.record.now in
    let bytes : c.deref.result.now ≡ cell r ++ CLOSED_GATE ∷ [] =
    c.deref.ensures.value ∙ c.in_ok-cell.ensures.bytes in
    let size : length c.deref.result.now ≡ 5 + length (spelling r) =
    cell_len r c.deref.result.now bytes in
    let new : JournalState = record {
      records = c.push.new.self.items;
      len = c.self.inside.len + c.len.result;
      failure = option_map failure_of c.self.inside.failure;
      opened = c.self.inside.opened;
      disk = g.D.Disk.state c.append_cell.new.disk;
    } in
    let faults : (g.D.Disk.state c.append_cell.new.disk).faults
    ≡ (g.D.Disk.state c.self.inside.disk).faults =
    grind (arith, common_steps, c.in-Ok.ensures.cause) in
    let whole = ap (λ f. option_map failure_of f) c.in_default.is in
    let more : c.push.new.self.items ≡ c.self.inside.records.items ++ r ∷ [] =
    grind (arith, common_steps) in
    let longer : c.self.inside.len + c.len.result ≡ c.self.inside.len + length c.deref.result.now =
    grind (arith, common_steps) in
    let contents : (g.D.Disk.state c.append_cell.new.disk).contents
    ≡ option_map (λ d. settled
    (take (c.self.inside.len - 1) d.bytes ++ OPEN_GATE ∷ c.deref.result.now))
    (g.D.Disk.state c.self.inside.disk).contents =
    grind (arith, common_steps, c.in-Ok.ensures.appended) in
    let room : c.self.inside.len + length c.deref.result.now ≤ MAX_BYTES = omega (arith, size) in
    answered_ok r _ c.args.self.now new c.deref.result.now (λ j why. (Ok tt ≡ Err why) × (new ≡ j))
    c.self.view_is
    whole bytes room more longer refl faults contents refl
    (kept_by c.self.inside.records.items c.push.new.self.items c.self.inside.len _ _ _
    c.self.inside.opened _ _ r
    c.deref.result.now c.self.invariant whole whole faults c.in_ok-cell.ensures.spells bytes more
    longer room contents)

pub invariant_of-self-in-Err : goal.invariant_of-self-in-Err
invariant_of-self-in-Err g c =
    let r : Record = c.args.record.now in
    let bytes : c.deref.result.now ≡ cell r ++ CLOSED_GATE ∷ [] =
    c.deref.ensures.value ∙ c.in_ok-cell.ensures.bytes in
    let size : length c.deref.result.now ≡ 5 + length (spelling r) =
    cell_len r c.deref.result.now bytes in
    cut_by c.self.inside.records.items c.reserve.new.self.items c.self.inside.len _
    c.self.inside.opened _ _ r
    c.deref.result.now _ c.self.invariant (ap (λ f. option_map failure_of f) c.in_default.is)
    (grind (arith, common_steps, c.in-Err.ensures.cause)) c.in_ok-cell.ensures.spells bytes
    (grind (arith, common_steps)) c.of-refused.ensures (omega (arith, size)) c.in-Err.ensures.cut

pub returns : goal.returns
returns g c =
    let r : Record = c.args.record.now in
    let bytes : c.deref.result.now ≡ cell r ++ CLOSED_GATE ∷ [] =
    c.deref.ensures.value ∙ c.in_ok-cell.ensures.bytes in
    let size : length c.deref.result.now ≡ 5 + length (spelling r) =
    cell_len r c.deref.result.now bytes in
    let new : JournalState = record {
      records = c.reserve.new.self.items;
      len = c.self.inside.len;
      failure = Some (record { at = c.in-Err.field-0.0; refused = c.of-refused.result.value });
      opened = c.self.inside.opened;
      disk = g.D.Disk.state c.append_cell.new.disk;
    } in
    let whole = ap (λ f. option_map failure_of f) c.in_default.is in
    let same : c.reserve.new.self.items ≡ c.self.inside.records.items =
    grind (arith, common_steps) in
    let rises : HasRisen (g.D.Disk.state c.self.inside.disk).faults
    (g.D.Disk.state c.append_cell.new.disk).faults =
    grind (arith, common_steps, c.in-Err.ensures.cause) in
    let room : c.self.inside.len + length c.deref.result.now ≤ MAX_BYTES = omega (arith, size) in
    answered_err r c.in-Err.field-0.0 _ c.args.self.now new c.deref.result.now
    (λ j why. (Err (DiskFault c.in-Err.field-0.0) ≡ Err why) × (new ≡ j)) c.self.view_is
    whole bytes room c.in-Err.ensures.offset same refl
    (ap (λ x. Some (record { at = c.in-Err.field-0.0; refused = x })) c.of-refused.ensures) refl
    rises
    (cut_by c.self.inside.records.items c.reserve.new.self.items c.self.inside.len _
    c.self.inside.opened _ _ r
    c.deref.result.now _ c.self.invariant whole rises c.in_ok-cell.ensures.spells bytes same
    c.of-refused.ensures
    room c.in-Err.ensures.cut)
