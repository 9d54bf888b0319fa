use Rattle.std.proofs.Common.{◌≡◌, ℕ, List, arith, length}
use Rattle.std.proofs.lemmas.Grind.{common_steps}
use Rattle.edge_traits.specs.Disk.{DiskContents}
use Rattle.edge_traits.specs.MemDisk.{IsConsistent, IsOverlaid}
use Rattle.edge_traits.specs.declared.span.Span.{Span}
use Rattle.edge_traits.proofs.Images.{synced_up}
use Rattle.edge_traits.proofs.mem_disk.MemDiskDisk.sync.Goals as goal

-- the slices that the call passes are the fields
synced_up_by : (c : DiskContents) (spans : List Span) (upper synced : List ℕ) → IsConsistent c
    → spans ≡ c.loose → upper ≡ c.bytes → IsOverlaid spans c.synced upper synced
    → synced ≡ c.bytes
synced_up_by c spans upper synced is loose bytes laid =
    let laid_on : IsOverlaid c.loose c.synced c.bytes synced = rw (loose, bytes) at laid in
    synced_up c synced is laid_on

pub returns-clause-synced : goal.returns-clause-synced
returns-clause-synced c =
    let same : c.overlay.new.lower.items ≡ c.self.inside.bytes.items =
    synced_up_by (record {
      bytes = c.self.inside.bytes.items;
      synced = c.self.inside.synced.items;
      loose = c.self.inside.loose.items;
      least = c.self.inside.least;
      greatest = c.self.inside.greatest;
    }) _ _ _ c.self.invariant.consistent c.deref-2.ensures.value c.deref.ensures.value
    c.overlay.ensures.bytes in
    grind (arith, common_steps, same)

pub returns-clause-left : goal.returns-clause-left
returns-clause-left c =
    let same : c.overlay.new.lower.items ≡ c.self.inside.bytes.items =
    synced_up_by (record {
      bytes = c.self.inside.bytes.items;
      synced = c.self.inside.synced.items;
      loose = c.self.inside.loose.items;
      least = c.self.inside.least;
      greatest = c.self.inside.greatest;
    }) _ _ _ c.self.invariant.consistent c.deref-2.ensures.value c.deref.ensures.value
    c.overlay.ensures.bytes in
    grind (arith, common_steps, same)
