use Rattle.std.proofs.Common.{arith, sym, ap, ◌∙◌, subst, Some, is_some, ◌≡◌, [], ◌∷◌, drop, length}
use Rattle.std.specs.List.{filter}
use Rattle.atomic_table.specs.Table.{rest}
use Rattle.basics.specs.Prefix.{IsPrefix}
use Rattle.turn_lock.specs.Story.{added_by, is_under}
use Rattle.turn_lock.specs.View.{start_of}
use Rattle.turn_lock.proofs.Stories.{none_new}
use Rattle.turn_lock.proofs.Passes.{of_turn, same_value}
use Rattle.turn_lock.proofs.Tickets.{draws_ticket}
use Rattle.turn_lock.proofs.turn.Turn.take.Goals as goal

pub fetch_add-ticket-requires : goal.fetch_add-ticket-requires
fetch_add-ticket-requires g c =
    let s = g.V.Storied in
    let v = c.pass.inside.seat.me.0 in
    let own = of_turn s.frame s.story _ _ v.beginning _ (ap (λ p. p.turn) c.pass.view_is
    ∙ c.requires.turn ∙ ap (λ t. Some t) (sym c.self.view_is)) in
    let idle = ap (λ p. p.holds) c.pass.view_is ∙ c.requires.free in (
      own.0,
      omega (arith, c.self.invariant.0),
      draws_ticket s.frame s.story s.who _ _ _ c.pass.inside.seat.me (ap is_some own.1) idle
          (c.pass.invariant.ticketless (sym c.pass.invariant.holds_is ∙ idle)),
    )

pub exchange-taken-requires : goal.exchange-taken-requires
exchange-taken-requires g c =
    let s = g.V.Storied in
    let v = c.pass.inside.seat.me.0 in
    let own = of_turn s.frame s.story _ _ v.beginning _ (ap (λ p. p.turn) c.pass.view_is
    ∙ c.requires.turn ∙ ap (λ t. Some t) (sym c.self.view_is)) in
    let h = c.wait_for.ensures.holds in
    let out = ap (λ m. m.1) h.2 in (
      c.wait_for.ensures.table ∙ c.fetch_add-ticket.ensures.0
          ∙ own.0,
      (Some h.0, out ∙ ap (λ l. (0, Some h.0) ∷ l) (sym (ap rest out))),
    )

pub returns-clause-others : goal.returns-clause-others
returns-clause-others g c =
    let s = g.V.Storied in
    let i = c.pass.invariant in
    let v = c.pass.inside.seat.me.0 in
    let h = c.wait_for.ensures.holds in
    let out = ap (λ m. m.1) h.2 in
    let got = c.exchange-taken.ensures.2
    ∙ ap (λ o. (0, o) ∷ rest c.wait_for.new.seat.me.1) c.in-Some.is in
    let value = same_value c.wait_for.new.seat.me.1 _ _ h.0 c.in-Some.value out got in
    let queue = c.fetch_add-ticket.ensures.2 in
    let same = ap (λ m. m.0) queue.2 in
    let begun = sym (ap (λ z. z.beginning) same) ∙ h.3 in
    let goes = subst (λ z. IsPrefix z.seen (s.story h.0)) same h.5 in
    let own = ap (λ z. added_by s.who z.number h.1.start (s.story h.0)) (sym same) ∙ h.6
    ∙ ap (λ z. z.mine) same in
    let known = ap (λ n. added_by s.who n (start_of v.beginning) v.seen) i.number_is ∙ i.known in
    let none = none_new s.who v.number (start_of v.beginning) v.seen (s.story h.0) v.mine goes
    i.reach known (ap (λ b. added_by s.who v.number (start_of b) (s.story h.0)) begun ∙ own) in
    subst
    (λ p. filter (is_under s.who p.number) (drop (length p.seen) (s.story c.in-Some.value)) ≡ [])
    c.pass.view_is
    (subst (λ x. filter (is_under s.who v.number) (drop (length v.seen) (s.story x)) ≡ []) value
    none)
