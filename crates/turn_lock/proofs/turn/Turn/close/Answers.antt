use Rattle.std.proofs.Common.{sym, ap, ◌∙◌, subst, Some, is_some, ◌≡◌, true, false, All, drop}
use Rattle.basics.specs.Prefix.{IsPrefix}
use Rattle.turn_lock.specs.Story.{added_by}
use Rattle.turn_lock.specs.Pass.{entries_of, IsOneOf}
use Rattle.turn_lock.specs.Rule.{beginning_of}
use Rattle.turn_lock.proofs.Passes.{of_name, closed_value}
use Rattle.turn_lock.proofs.Ends.{closes, whose}
use mathlib.Core.Option.{some-injective}
use Rattle.turn_lock.proofs.turn.Turn.close.Goals as goal

pub unreachable-requires : goal.unreachable-requires
unreachable-requires g c =
    let s = g.V.Storied in
    let v = c.into_seat.result.me.0 in
    let pass = c.into_seat.ensures.pass in
    let own = of_name _ _ v.beginning _ (ap (λ p. p.turn) c.into_seat.ensures.state
    ∙ c.requires.turn.1) (c.requires.turn.2 ∙ ap (λ t. t.name) (sym c.self.view_is)) in
    let left = closes s.frame s.story s.who
    (beginning_of s.frame s.story c.self.inside.table.shared.key.value) _ v _ _ own.1
    (ap (λ p. p.number) c.into_seat.ensures.state ∙ c.requires.first)
    (pass.holds_is ∙ c.requires.free) (pass.out_is ∙ c.requires.alone) pass.nothing_due
    c.close_with-closed.ensures.values.2 in
    let none : true ≡ false =
    ap is_some (some-injective (Some left.value) c.take-value.result
    (sym left.stands ∙ c.take-value.ensures.value) ∙ c.in_default.is) in
    cc

pub returns-clause-frame : goal.returns-clause-frame
returns-clause-frame g c =
    let s = g.V.Storied in
    let v = c.into_seat.result.me.0 in
    let pass = c.into_seat.ensures.pass in
    let b = beginning_of s.frame s.story c.self.inside.table.shared.key.value in
    let own = of_name _ _ v.beginning _ (ap (λ p. p.turn) c.into_seat.ensures.state
    ∙ c.requires.turn.1) (c.requires.turn.2 ∙ ap (λ t. t.name) (sym c.self.view_is)) in
    let left = closes s.frame s.story s.who b _ v _ _ own.1
    (ap (λ p. p.number) c.into_seat.ensures.state ∙ c.requires.first)
    (pass.holds_is ∙ c.requires.free) (pass.out_is ∙ c.requires.alone) pass.nothing_due
    c.close_with-closed.ensures.values.2 in
    let same = closed_value s.frame s.story s.who b v _ left _ c.in-Some.value
    c.take-value.ensures.value c.in-Some.is in
    ap s.frame (sym same) ∙ left.framed ∙ ap (λ t. t.frame) c.self.view_is

pub returns-clause-goes_on : goal.returns-clause-goes_on
returns-clause-goes_on g c =
    let s = g.V.Storied in
    let v = c.into_seat.result.me.0 in
    let pass = c.into_seat.ensures.pass in
    let b = beginning_of s.frame s.story c.self.inside.table.shared.key.value in
    let own = of_name _ _ v.beginning _ (ap (λ p. p.turn) c.into_seat.ensures.state
    ∙ c.requires.turn.1) (c.requires.turn.2 ∙ ap (λ t. t.name) (sym c.self.view_is)) in
    let left = closes s.frame s.story s.who b _ v _ _ own.1
    (ap (λ p. p.number) c.into_seat.ensures.state ∙ c.requires.first)
    (pass.holds_is ∙ c.requires.free) (pass.out_is ∙ c.requires.alone) pass.nothing_due
    c.close_with-closed.ensures.values.2 in
    let same = closed_value s.frame s.story s.who b v _ left _ c.in-Some.value
    c.take-value.ensures.value c.in-Some.is in
    subst (λ p. IsPrefix p.seen (s.story c.in-Some.value)) c.into_seat.ensures.state
    (subst (λ x. IsPrefix v.seen (s.story x)) same left.goes_on)

pub returns-clause-entries : goal.returns-clause-entries
returns-clause-entries g c = λ number.
    let s = g.V.Storied in
    let v = c.into_seat.result.me.0 in
    let pass = c.into_seat.ensures.pass in
    let b = beginning_of s.frame s.story c.self.inside.table.shared.key.value in
    let own = of_name _ _ v.beginning _ (ap (λ p. p.turn) c.into_seat.ensures.state
    ∙ c.requires.turn.1) (c.requires.turn.2 ∙ ap (λ t. t.name) (sym c.self.view_is)) in
    let left = closes s.frame s.story s.who b _ v _ _ own.1
    (ap (λ p. p.number) c.into_seat.ensures.state ∙ c.requires.first)
    (pass.holds_is ∙ c.requires.free) (pass.out_is ∙ c.requires.alone) pass.nothing_due
    c.close_with-closed.ensures.values.2 in
    let same = closed_value s.frame s.story s.who b v _ left _ c.in-Some.value
    c.take-value.ensures.value c.in-Some.is in
    ap (λ t. added_by s.who number t.start (s.story c.in-Some.value)) (sym c.self.view_is)
    ∙ ap (λ x. added_by s.who number b.start (s.story x)) (sym same)
    ∙ left.each number
    ∙ ap (entries_of number) c.into_seat.ensures.state

pub returns-clause-whose : goal.returns-clause-whose
returns-clause-whose g c =
    let s = g.V.Storied in
    let v = c.into_seat.result.me.0 in
    let pass = c.into_seat.ensures.pass in
    let b = beginning_of s.frame s.story c.self.inside.table.shared.key.value in
    let own = of_name _ _ v.beginning _ (ap (λ p. p.turn) c.into_seat.ensures.state
    ∙ c.requires.turn.1) (c.requires.turn.2 ∙ ap (λ t. t.name) (sym c.self.view_is)) in
    let left = closes s.frame s.story s.who b _ v _ _ own.1
    (ap (λ p. p.number) c.into_seat.ensures.state ∙ c.requires.first)
    (pass.holds_is ∙ c.requires.free) (pass.out_is ∙ c.requires.alone) pass.nothing_due
    c.close_with-closed.ensures.values.2 in
    let same = closed_value s.frame s.story s.who b v _ left _ c.in-Some.value
    c.take-value.ensures.value c.in-Some.is in
    let all = whose s.frame s.story s.who (drop b.start (s.story left.value)) v.mine v.chief.ended
    left.each in
    subst (λ t. All (λ e. IsOneOf (s.who e) c.args.first) (drop t.start (s.story c.in-Some.value)))
    c.self.view_is
    (subst (λ x. All (λ e. IsOneOf (s.who e) c.args.first) (drop b.start (s.story x))) same
    (subst (λ p. All (λ e. IsOneOf (s.who e) p) (drop b.start (s.story left.value)))
    c.into_seat.ensures.state all))
