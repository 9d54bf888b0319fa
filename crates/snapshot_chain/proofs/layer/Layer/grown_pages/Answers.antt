-- One block more: its page is kept where the write needs memory there.
use Rattle.std.proofs.Common.{◌<◌, ◌*◌, ◌+◌, ◌∙◌, length, arith, inl, inr}
use Rattle.std.proofs.lemmas.Bool.{cases_eq}
use Rattle.snapshot_chain.proofs.Slots.{grown_some, grown_none, grown_all}
use Rattle.snapshot_chain.proofs.layer.Layer.grown_pages.Goals as goal
use Rattle.snapshot_chain.proofs.layer.Layer.grown_pages.Goals.{in-Some+in_ok-add, in_default}

pub loop-block-preserved : goal.loop-block-preserved
loop-block-preserved c =
    let low : 128 * c.loop-block.block < c.args.first + length c.args.sectors.now =
    omega (arith, c.loop-block-test.true, c.div_ceil-block-end.ensures) in
    elim c.match-branch-2.branch [
      | in-Some+in_ok-add w ↦
          rw w.grown-is
          (record {
            each = grown_some c.args.self.now c.loop-block.grown w.add.new.self c.args.first
                c.args.sectors.now c.loop-block.block w.in-Some.page c.loop-block.invariant.each
                (rw w.in-Some.is at c.in_ok-page.ensures) w.in_ok-add.ensures.here
                w.add.ensures.others;
            behind = λ b from. w.add.ensures.others b (λ same. omega (arith, from, same))
                ∙ c.loop-block.invariant.behind b (omega (arith, from));
            within = λ most le b some. elim (cases_eq b c.loop-block.block) [
              | inl at ↦ omega (arith, at, low, le)
              | inr apart ↦ c.loop-block.invariant.within most le b
                  (rw (w.add.ensures.others b apart) at some)
            ];
          })
      | in_default w ↦
          rw w.grown-is
          (record {
            each = grown_none c.args.self.now c.loop-block.grown c.args.first c.args.sectors.now
                c.loop-block.block c.loop-block.invariant.each
                (rw w.in_default.is at c.in_ok-page.ensures)
                (c.loop-block.invariant.behind c.loop-block.block (omega arith));
            behind = λ b from. c.loop-block.invariant.behind b (omega (arith, from));
            within = c.loop-block.invariant.within;
          })
    ]

pub returns-clause-grown : goal.returns-clause-grown
returns-clause-grown c =
    grown_all c.args.self.now c.loop-block.grown c.args.first c.args.sectors.now c.loop-block.block
    c.loop-block.invariant.each c.loop-block.invariant.behind
    (omega (arith, c.loop-block-test.false, c.div_ceil-block-end.ensures))
