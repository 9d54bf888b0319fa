use Rattle.std.proofs.Common.{◌≡◌, ◌≤◌, arith, length, length-append}
use Rattle.std.proofs.lemmas.Grind.{common_steps}
use Rattle.edge_traits.proofs.Images.{write_consistent}
use Rattle.edge_traits.proofs.mem_disk.MemDiskDisk.write_at.Goals as goal

pub invariant_of-self : goal.invariant_of-self
invariant_of-self c =
    let begins : c.args.at ≤ length c.self.inside.bytes.items = grind (arith, common_steps) in
    let kept = write_consistent (record {
      bytes = c.self.inside.bytes.items;
      synced = c.self.inside.synced.items;
      loose = c.self.inside.loose.items;
      least = c.self.inside.least;
      greatest = c.self.inside.greatest;
    }) c.args.at c.args.bytes.now c.self.invariant.consistent begins in
    let bytes = c.overwrite.ensures.bytes in
    let loose = c.push.ensures.items in
    record {
      consistent = grind (arith, common_steps, kept, bytes, loose);
      longest = grind (arith, common_steps);
      within = grind (arith, common_steps);
      spans = grind (arith, common_steps, length-append, loose);
      for_bytes = grind (arith, common_steps);
      for_synced = grind (arith, common_steps);
      for_spans = grind (arith, common_steps);
    }
