use Rattle.std.proofs.Common.{arith, sym, ap, ◌∙◌, ◌≡◌, ◌-◌, ◌∷◌, suc}
use Rattle.guest_gen.specs.Script.{offered, write_from}
use Rattle.guest_gen.proofs.Writes.{offered_next}
use Rattle.guest_gen.proofs.script.GuestScript.next.Goals as goal

pub returns : goal.returns
returns c =
    let s = c.self.inside in
    let is = c.write_after-write.ensures ∙ ap (write_from s.state) c.as_slice.ensures.value in
    let n = s.left - 1 in
    let more : s.left ≡ suc n = omega (arith, c.if-self-eq0.false) in
    sym c.self.view_is
    ∙ ap (λ k. offered s.state k s.capacities.items) more
    ∙ offered_next s.state n s.capacities.items
    ∙ ap (λ w. w ∷ offered w.stamp n s.capacities.items) (sym is)
