-- One sector more is put, the last of those that are left.
use Rattle.std.proofs.Common.{◌≡◌, length, arith}
use Rattle.snapshot_chain.proofs.Puts.{last_left, one_more_put}
use Rattle.snapshot_chain.proofs.placed_sectors.put_all.Goals as goal

pub loop-sector-preserved : goal.loop-sector-preserved
loop-sector-preserved c =
    let last = last_left c.loop-sector.rest.items c.pop.new.self.items c.args.sectors.items
    c.in-Some.sector c.in-Some.ensures.items c.loop-sector.invariant.front in
    let at : c.len.result ≡ length c.pop.new.self.items =
    omega (arith, c.len.ensures, c.pop.new.self.ok.0) in
    record {
      front = last.0;
      page = c.put_one-mask.ensures.page;
      room = omega (
        arith,
        c.put_one-mask.ensures.len,
        c.put_one-mask.ensures.room,
        c.loop-sector.invariant.room,
        last.2,
      );
      put = one_more_put _ _ _ c.args.offset (length c.pop.new.self.items) c.args.sectors.items
          c.in-Some.sector last.1 (rw last.2 at c.loop-sector.invariant.put)
          (rw at at c.put_one-mask.ensures.sectors);
    }
