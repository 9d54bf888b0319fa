use Rattle.std.proofs.Common.{◌≡◌, List, length, map, subst, sym, ap, ◌∙◌, arith}
use Rattle.basics.proofs.ItemAt.{take-written}
use Rattle.ctl_state.specs.declared.copies.DiskCopy.{DiskCopy}
use Rattle.ctl_state.specs.Migration.{unnamed_copy}
use Rattle.ctl_state.proofs.CopyFacts.{Holds, unnamed_holds}
use Rattle.ctl_state.proofs.copies.CopyList.forget_ids.Goals as goal

pub invariant_of-self : goal.invariant_of-self
invariant_of-self c =
    let kept = c.self.inside.copies in
    let now = c.forget_each.new.copies in
    let whole : kept.len ≡ length now = omega arith in
    let e = take-written kept.len now kept.items whole
    ∙ (c.forget_each.ensures
    ∙ ap (λ (old : List DiskCopy). map unnamed_copy old) c.deref_mut.ensures.value) in
    let P : List DiskCopy → Type 0 = Holds in
    subst P (sym e) (unnamed_holds kept.items c.self.invariant)
