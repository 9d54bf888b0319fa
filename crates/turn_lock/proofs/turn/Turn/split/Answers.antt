use Rattle.std.proofs.Common.{arith, sym, ap, ◌∙◌, Some, is_some, ◌≡◌, ◌+◌, ◌<◌, ◌^◌, true}
use Rattle.turn_lock.specs.View.{is_live}
use Rattle.turn_lock.proofs.Passes.{of_turn}
use Rattle.turn_lock.proofs.Numbers.{draws_number, splits}
use Rattle.turn_lock.proofs.turn.Turn.split.Goals as goal

pub fetch_add-requires : goal.fetch_add-requires
fetch_add-requires g c =
    let s = g.V.Storied in
    let v = c.first.inside.seat.me.0 in
    let own = of_turn s.frame s.story _ _ v.beginning _ (ap (λ p. p.turn) c.first.view_is
    ∙ c.requires.turn ∙ ap (λ t. Some t) (sym c.self.view_is)) in
    let live : is_live v ≡ true = ap is_some own.1 in
    let small : v.chief.made + 1 < 2 ^ 32 =
    omega (arith, c.first.invariant.made_is, c.if-first.false) in (
      own.0,
      omega (arith, c.self.invariant.0),
      draws_number s.frame s.story s.who _ _ _ c.first.inside.seat.me live
          (ap (λ p. p.number) c.first.view_is ∙ c.requires.first) c.first.invariant.nothing_due
          small,
    )

pub split_seat-seat-requires : goal.split_seat-seat-requires
split_seat-seat-requires g c =
    let s = g.V.Storied in
    let v = c.first.inside.seat.me.0 in
    let own = of_turn s.frame s.story _ _ v.beginning _ (ap (λ p. p.turn) c.first.view_is
    ∙ c.requires.turn ∙ ap (λ t. Some t) (sym c.self.view_is)) in
    let drew = ap (λ m. m.0) c.fetch_add.ensures.2.1 in (
      c.fetch_add.ensures.0 ∙ own.0,
      omega (arith, c.self.invariant.0),
      splits s.frame s.story s.who _ _ c.fetch_add.new.seat.me.0 c.fetch_add.result
          (ap is_live drew ∙ ap is_some own.1)
          (ap (λ w. w.number) drew ∙ ap (λ p. p.number) c.first.view_is ∙ c.requires.first)
          (ap (λ w. w.chief.due) drew) (ap (λ w. w.chief.joined) drew
          ∙ c.first.invariant.nothing_to_check),
    )
