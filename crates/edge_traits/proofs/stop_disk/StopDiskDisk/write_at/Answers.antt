use Rattle.std.proofs.Common.{◌≡◌, ◌/◌, ◌∙◌, sym, ap, arith, length}
use Rattle.edge_traits.proofs.Images.{part_asked}
use Rattle.edge_traits.proofs.stop_disk.StopDiskDisk.write_at.Goals as goal

pub returns-then-has_stopped-clause-broken : goal.returns-then-has_stopped-clause-broken
returns-then-has_stopped-clause-broken g c =
    let old : c.args.self.now.inner ≡ c.self.inside.inner =
    sym (ap (λ s. s.inner) c.count.ensures) ∙ sym (ap (λ s. s.inner) c.self.view_is) in
    let half = c.write_at.ensures in
    let new : c.fail-then-has_stopped.new.self.inner ≡ c.write_at.new.self =
    ap (λ s. s.inner) c.fail-then-has_stopped.ensures in
    let begins = rw old at c.requires in
    rw (new, old) (part_asked _ _ _ c.args.at c.args.bytes.now (length c.args.bytes.now / 2)
    (omega arith) begins
    half.written half.broken)
