use Rattle.std.proofs.Common.{◌≡◌, ℕ, ◌+◌, List, length, map, slice_range, subst, sym, ap, ◌∙◌}
use Rattle.std.specs.List.{range_with_len}
use Rattle.log_model.specs.declared.entry.Entry.{Entry}
use Rattle.log_model.specs.Legal.{all_of, Legal, capacity_of}
use Rattle.log_model.specs.Marks.{mark, before}
use Rattle.log_model.specs.Frozen.{frozen}
use Rattle.log_model.specs.Link.{LinkState}
use Rattle.log_model.specs.PlainMachine.{sector_at}
use Rattle.log_model.proofs.SectorAt.{read_is}
use Rattle.log_model.proofs.LegalLogs.{prefixes_are_legal}
use Rattle.log_model.proofs.plain_machine.PlainMachineLink.read_snap.Goals as goal

pub returns-clause-sectors : goal.returns-clause-sectors
returns-clause-sectors c =
    let log : List Entry = c.as_slice-log.result.now in
    let sizes : List ℕ = c.as_slice.result.now in
    let d : ℕ = c.args.disk in
    let n : ℕ = length c.args.buf.now in
    let legal : Legal (all_of sizes) log =
    subst (Legal (all_of sizes)) (sym c.as_slice-log.ensures.value)
    (subst (λ (xs : List ℕ). Legal (all_of xs) c.self.inside.entries.items)
    (sym c.as_slice.ensures.value) c.self.invariant) in
    let read : c.read_into.new.buf ≡ slice_range (frozen (capacity_of sizes d) d c.args.id log)
    c.args.first (c.args.first + n) =
    c.read_into.ensures ∙ ap
    (λ (xs : List Entry). map (λ i. sector_at d (c.args.first + i) xs) (range_with_len 0 n))
    c.before-2.ensures
    ∙ read_is sizes d c.args.first n (before c.args.id log)
    (prefixes_are_legal (all_of sizes) log (mark c.args.id log) legal)
    (sym c.is_on_disk.ensures.within ∙ c.if-not-is_on_disk.false) in
    subst (λ (s : LinkState). c.read_into.new.buf
    ≡ slice_range (frozen (capacity_of s.capacities d) d c.args.id s.seen) c.args.first
    (c.args.first + n)) c.self.view_is
    (subst (λ (xs : List Entry). c.read_into.new.buf
    ≡ slice_range (frozen (capacity_of c.self.inside.capacities.items d) d c.args.id xs)
    c.args.first (c.args.first + n)) c.as_slice-log.ensures.value
    (subst (λ (xs : List ℕ). c.read_into.new.buf
    ≡ slice_range (frozen (capacity_of xs d) d c.args.id log) c.args.first (c.args.first + n))
    c.as_slice.ensures.value read))
