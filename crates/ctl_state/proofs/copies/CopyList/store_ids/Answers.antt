use Rattle.std.proofs.Common.{◌≡◌, List, length, subst, sym, ap, ◌∙◌, arith}
use Rattle.basics.proofs.ItemAt.{take-written}
use Rattle.ctl_state.specs.declared.copies.DiskCopy.{DiskCopy}
use Rattle.ctl_state.specs.Migration.{named_copies}
use Rattle.ctl_state.proofs.CopyFacts.{Holds, named_holds}
use Rattle.ctl_state.proofs.copies.CopyList.store_ids.Goals as goal

pub invariant_of-self : goal.invariant_of-self
invariant_of-self c =
    let kept = c.self.inside.copies in
    let ids = c.args.ids.now in
    let now = c.name_each.new.copies in
    let whole : kept.len ≡ length now = omega arith in
    let e = take-written kept.len now kept.items whole
    ∙ (c.name_each.ensures ∙ ap (λ (old : List DiskCopy). named_copies old ids)
    c.deref_mut.ensures.value) in
    let P : List DiskCopy → Type 0 = Holds in
    subst P (sym e) (named_holds kept.items ids c.self.invariant)
