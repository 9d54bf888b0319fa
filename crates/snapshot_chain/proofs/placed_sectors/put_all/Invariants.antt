-- What is left is put from its end down, and the page has what came after it.
use Rattle.std.proofs.Common.{◌+◌, ◌≤◌, length, vec_len, vec_capacity}
use Rattle.basics.specs.Prefix.{IsPrefix}
use Rattle.snapshot_chain.specs.Page128.{IsPage}
use Rattle.snapshot_chain.proofs.Puts.{IsPutFrom}
use Rattle.snapshot_chain.proofs.placed_sectors.put_all.Given as goal

abbrev pub invariant-loop-sector : goal.invariant-loop-sector
invariant-loop-sector l = record {
  front : IsPrefix l.rest.items l.initial.rest.items;
  page : IsPage (record { mask = l.mask; sectors = l.list.items });
  room : vec_len l.list + length l.rest.items ≤ vec_capacity l.list;
  put : IsPutFrom (record { mask = l.initial.mask; sectors = l.initial.list.items }) l.offset
      l.initial.rest.items (length l.rest.items)
      (record { mask = l.mask; sectors = l.list.items });
}

abbrev pub decreases-loop-sector : goal.decreases-loop-sector
decreases-loop-sector l = length l.rest.items
