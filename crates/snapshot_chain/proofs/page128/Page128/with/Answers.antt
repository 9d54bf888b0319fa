-- A lone sector is of a block, and another one above it makes a pair.
use Rattle.std.proofs.Common.{◌+◌, ◌<◌, ◌^◌}
use Rattle.snapshot_chain.proofs.Pairs.{above_lone}
use Rattle.snapshot_chain.proofs.page128.Page128.with.Goals as goal
use Rattle.snapshot_chain.proofs.page128.Page128.with.Goals.{in-Nothing, in-Lone+in_ok-new-in-Lone, in-Pair+in_ok-placed-in-Pair+in_ok-append-in-Pair+in_ok-new-in-Pair, in-Many+in_ok-append-in-Many}

pub new-pair-requires : goal.new-pair-requires
new-pair-requires c =
    let above : 0 + 2 ^ c.in-Lone.own < 2 ^ c.args.offset =
    rw (← c.self.view_is, c.in-Lone.is) at c.requires.above in
    (above_lone c.in-Lone.own c.args.offset above, c.requires.offset)

pub invariant_of-result : goal.invariant_of-result
invariant_of-result c = elim c.match-self-2.branch [
  | in-Nothing w ↦ rw w.form-is c.requires.offset
  | in-Lone+in_ok-new-in-Lone w ↦ rw w.form-is tt
  | in-Pair+in_ok-placed-in-Pair+in_ok-append-in-Pair+in_ok-new-in-Pair w ↦ rw w.form-is tt
  | in-Many+in_ok-append-in-Many w ↦ rw w.form-is tt
]
