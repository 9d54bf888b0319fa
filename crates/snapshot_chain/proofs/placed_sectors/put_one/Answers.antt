-- The sector is put between the others, or in place of the one that was there.
use Rattle.std.proofs.Common.{arith}
use Rattle.std.proofs.lemmas.Nat.{one_shl}
use Rattle.snapshot_chain.proofs.Masks.{rank_of, index_below, replaced_sector}
use Rattle.snapshot_chain.proofs.Puts.{bit_there, bit_free, index_fits, inserted_page, inserted_put, replaced_put}
use Rattle.snapshot_chain.proofs.placed_sectors.put_one.Goals as goal

pub index_mut-requires : goal.index_mut-requires
index_mut-requires c =
    let has = bit_there c.args.mask c.args.offset c.requires.within c.if-mask-bit-ne0.true in
    omega (
      arith,
      rank_of c.args.mask c.args.offset c.requires.within,
      index_below _ c.args.offset c.requires.page has,
      c.args.list.now.ok.0,
    )

pub returns-then-mask-bit-ne0-clause-sectors : goal.returns-then-mask-bit-ne0-clause-sectors
returns-then-mask-bit-ne0-clause-sectors c =
    let has = bit_there c.args.mask c.args.offset c.requires.within c.if-mask-bit-ne0.true in
    rw (rank_of c.args.mask c.args.offset c.requires.within)
    (replaced_put _ _ c.args.offset c.args.sector c.requires.page has
    (replaced_sector _ c.args.offset c.args.sector c.requires.page.1 has))

pub insert-put-requires : goal.insert-put-requires
insert-put-requires c =
    omega (
      arith,
      rank_of c.args.mask c.args.offset c.requires.within,
      index_fits _ c.args.offset c.requires.page,
      c.args.list.now.ok.0,
    )

pub overflow_add-result : goal.overflow_add-result
overflow_add-result c =
    let free = bit_free c.args.mask c.args.offset c.requires.within c.if-mask-bit-ne0.false in
    rw (one_shl c.args.offset 128 c.requires.within)
    (omega (
      arith,
      (inserted_page _ c.args.offset c.args.sector c.requires.page c.requires.within free).0,
    ))

pub returns-clause-page : goal.returns-clause-page
returns-clause-page c =
    let free = bit_free c.args.mask c.args.offset c.requires.within c.if-mask-bit-ne0.false in
    rw (
      one_shl c.args.offset 128 c.requires.within,
      c.insert-put.ensures.items,
      c.insert-put.ensures.succeeds c.requires.room,
      rank_of c.args.mask c.args.offset c.requires.within,
    )
    (inserted_page _ c.args.offset c.args.sector c.requires.page c.requires.within free)

pub returns-clause-sectors : goal.returns-clause-sectors
returns-clause-sectors c =
    let free = bit_free c.args.mask c.args.offset c.requires.within c.if-mask-bit-ne0.false in
    rw (
      one_shl c.args.offset 128 c.requires.within,
      c.insert-put.ensures.items,
      c.insert-put.ensures.succeeds c.requires.room,
      rank_of c.args.mask c.args.offset c.requires.within,
    )
    (inserted_put _ c.args.offset c.args.sector c.requires.page free)
