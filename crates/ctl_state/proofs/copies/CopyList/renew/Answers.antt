use Rattle.std.proofs.Common.{◌≡◌, List, length, map, subst, sym, ap, ◌∙◌, arith}
use Rattle.basics.proofs.ItemAt.{take-written}
use Rattle.ctl_state.specs.declared.copies.DiskCopy.{DiskCopy}
use Rattle.ctl_state.specs.Migration.{fresh_copy}
use Rattle.ctl_state.proofs.CopyFacts.{Holds, renewed_holds}
use Rattle.ctl_state.proofs.copies.CopyList.renew.Goals as goal

pub invariant_of-self : goal.invariant_of-self
invariant_of-self c =
    let kept = c.self.inside.copies in
    let now = c.renew_each.new.copies in
    let whole : kept.len ≡ length now = omega arith in
    let e = take-written kept.len now kept.items whole
    ∙ (c.renew_each.ensures
    ∙ ap (λ (old : List DiskCopy). map fresh_copy old) c.deref_mut.ensures.value) in
    let P : List DiskCopy → Type 0 = Holds in
    subst P (sym e) (renewed_holds kept.items c.self.invariant)
