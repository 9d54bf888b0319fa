use Rattle.std.proofs.Common.{◌<◌, ◌^◌, List, subst, sym}
use Rattle.ctl_state.specs.declared.copies.DiskCopy.{DiskCopy}
use Rattle.ctl_state.specs.Migration.{sectors_written}
use Rattle.ctl_state.proofs.CopyFacts.{sum_fits}
use Rattle.ctl_state.proofs.copies.CopyList.written.Goals as goal

pub written_sum-requires : goal.written_sum-requires
written_sum-requires c =
    let P : List DiskCopy → Type 0 = λ copies. sectors_written copies < 2 ^ 64 in
    subst P (sym c.deref.ensures.value) (sum_fits c.self.inside.copies.items c.self.invariant)
