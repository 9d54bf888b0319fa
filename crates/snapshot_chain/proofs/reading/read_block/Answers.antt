-- Layer by layer, from the newest down.
use Rattle.std.proofs.Common.{◌≡◌, ◌+◌, ◌<◌, length, sym, arith}
use Rattle.snapshot_chain.specs.Layers.{found}
use Rattle.snapshot_chain.proofs.LayersRead.{none_yet, one_more, none_more, all_read, found_early}
use Rattle.snapshot_chain.proofs.reading.read_block.Goals as goal

pub loop-left-init : goal.loop-left-init
loop-left-init g c = record {
  bound = omega arith;
  read = λ k less. none_yet c.args.layers.now c.args.block (c.args.offset + k) _ _
      (c.clear.ensures.read k (omega (arith, less)));
  marks = c.clear.ensures.same;
  counted = omega arith;
  cost = omega arith;
}

pub loop-left-preserved-in-Some : goal.loop-left-preserved-in-Some
loop-left-preserved-in-Some g c = record {
  bound = omega arith;
  read = λ k less. one_more c.args.layers.now c.loop-left.left c.args.block (c.args.offset + k)
      c.index-layers-left.result c.in-Some.page.now _ _ _ _ c.loop-left-test.true
      c.loop-left.invariant.bound
      c.index-layers-left.is (sym c.in-Some.ensures.page)
      (c.loop-left.invariant.read k (omega (arith, less, c.take_missing.auto.buf)))
      (c.take_missing.ensures k (omega (arith, less, c.take_missing.auto.buf)));
  marks = omega (
    arith,
    c.take_missing.auto.buf,
    c.take_missing.auto.is_found,
    c.loop-left.invariant.marks,
  );
  counted = omega (arith, c.page.ensures.step, c.loop-left.invariant.counted);
  cost = omega (arith, c.page.ensures.step, c.loop-left.invariant.cost, c.loop-left-test.true);
}

pub loop-left-preserved : goal.loop-left-preserved
loop-left-preserved g c = record {
  bound = omega arith;
  read = λ k less. none_more c.args.layers.now c.loop-left.left c.args.block (c.args.offset + k)
      c.index-layers-left.result _ _ c.loop-left-test.true c.loop-left.invariant.bound
      c.index-layers-left.is (sym c.in_default.ensures.page) (c.loop-left.invariant.read k less);
  marks = c.loop-left.invariant.marks;
  counted = omega (arith, c.page.ensures.step, c.loop-left.invariant.counted);
  cost = omega (arith, c.page.ensures.step, c.loop-left.invariant.cost, c.loop-left-test.true);
}

pub returns-else-not-all_found-clause-sectors : goal.returns-else-not-all_found-clause-sectors
returns-else-not-all_found-clause-sectors g c = λ k less.
    let inside : k < length c.loop-left.buf =
    omega (arith, less, c.loop-left.auto.buf, c.clear.auto.buf) in
    found_early c.args.layers.now c.loop-left.left c.args.block (c.args.offset + k) _ _
    (c.loop-left.invariant.read k inside)
    (c.if-not-all_found.ensures k (omega (arith, inside, c.loop-left.invariant.marks)))

pub returns-after-loop-left-clause-sectors : goal.returns-after-loop-left-clause-sectors
returns-after-loop-left-clause-sectors g c = λ k less.
    let inside : k < length c.loop-left.buf =
    omega (arith, less, c.loop-left.auto.buf, c.clear.auto.buf) in
    let done : c.loop-left.left ≡ 0 = omega (arith, c.loop-left-test.false) in
    all_read (found c.args.layers.now c.args.block (c.args.offset + k)) _ _
    (rw done at (c.loop-left.invariant.read k inside))
