use Rattle.std.proofs.Common.{arith, ap, ◌∙◌, subst}
use Rattle.turn_lock.specs.View.{is_live, Holds}
use Rattle.turn_lock.proofs.Tickets.{looks}
use Rattle.turn_lock.proofs.wait.wait_for.Goals as goal

pub load-served-requires : goal.load-served-requires
load-served-requires g c =
    let s = g.V.Storied in
    let same = ap (λ m. m.0) c.loop.invariant.me in (
      c.loop.invariant.table ∙ c.requires.table.0,
      omega (arith, c.requires.table.1.0),
      looks s.frame s.story s.who _ _ _ c.loop.seat.me c.requires.queued.0
          (ap is_live same ∙ c.requires.live)
          (ap (λ v. v.holds) same ∙ c.requires.free.0)
          (ap (λ v. v.ticket) same ∙ c.requires.queued.1),
    )

pub returns-then-served-ticket-clause-holds : goal.returns-then-served-ticket-clause-holds
returns-then-served-ticket-clause-holds g c =
    let s = g.V.Storied in
    let same = c.loop.invariant.me in
    let had = ap (λ m. m.0.ticket) same ∙ c.requires.queued.1 in
    subst (λ m. Holds s.frame s.story s.who m c.load-served.new.seat.me) same
    ((c.load-served.ensures.2 c.requires.queued.0 had).0
    (c.if-served-ticket.true ∙ c.requires.queued.2))
