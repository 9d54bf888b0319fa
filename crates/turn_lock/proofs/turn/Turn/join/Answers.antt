use Rattle.std.proofs.Common.{arith, sym, ap, ap₂, ◌∙◌, subst, None, [], ◌∷◌, if◌then◌else◌, Bool, ◌+◌, ◌-◌, ◌≢◌, cond, refl}
use Rattle.basics.specs.Prefix.{IsPrefix}
use Rattle.basics.proofs.Prefix.{prefix-fits}
use Rattle.turn_lock.specs.Story.{longer, added_by}
use Rattle.turn_lock.specs.Pass.{IsPass, pass_state, joined_with}
use Rattle.turn_lock.specs.View.{is_live, checked, united, start_of, is_among}
use Rattle.turn_lock.proofs.Passes.{of_name, compared}
use Rattle.turn_lock.proofs.Joins.{joins, compares}
use Rattle.turn_lock.proofs.turn.Turn.join.Goals as goal

pub join_seat-requires : goal.join_seat-requires
join_seat-requires g c =
    let s = g.V.Storied in
    let v = c.first.inside.seat.me.0 in
    let w = c.into_seat.result.me.0 in
    let name = ap (λ t. t.name) (sym c.self.view_is) in
    let own = of_name _ _ v.beginning _ (ap (λ p. p.turn) c.first.view_is ∙ c.requires.turn.0.1)
    (c.requires.turn.0.2 ∙ name) in
    let its = of_name _ _ w.beginning _ (ap (λ p. p.turn) c.into_seat.ensures.state
    ∙ c.requires.turn.1.1) (c.requires.turn.1.2 ∙ name) in
    let pass = c.into_seat.ensures.pass in (
      own.0,
      its.0,
      pass.carries ∙ ap (λ (h : Bool). if h then (0, None) ∷ [] else []) c.requires.free,
      omega (arith, c.self.invariant.0),
      joins s.frame s.story s.who _ _ v _ w own.1 (ap (λ p. p.number) c.first.view_is
          ∙ c.requires.first) its.1 (pass.holds_is ∙ c.requires.free)
          (pass.ticketless c.requires.free),
    )

pub load-requires : goal.load-requires
load-requires g c =
    let s = g.V.Storied in
    let v = c.first.inside.seat.me.0 in
    let name = ap (λ t. t.name) (sym c.self.view_is) in
    let own = of_name _ _ v.beginning _ (ap (λ p. p.turn) c.first.view_is ∙ c.requires.turn.0.1)
    (c.requires.turn.0.2 ∙ name) in
    let w = c.into_seat.result.me.0 in
    let same = ap (λ m. m.0) c.join_seat.ensures.2 in (
      c.join_seat.ensures.0 ∙ own.0,
      omega (arith, c.self.invariant.0),
      compares s.frame s.story s.who _ _ _ c.join_seat.new.seat.me _ (ap is_live same ∙ own.1)
          (ap (λ z. z.number) same ∙ ap (λ p. p.number) c.first.view_is ∙ c.requires.first)
          (ap (λ z. z.chief.joined) same)
          (ap (λ z. z.seen) same
          ∙ ap (λ h. cond h v.seen (longer v.seen w.seen)) (sym (ap (λ z. z.holds) same))),
    )

pub overflow_sub-first : goal.overflow_sub-first
overflow_sub-first g c =
    let told = compared g.V.Storied.who c.first.inside.seat.me.0 c.into_seat.result.me.0
    c.join_seat.new.seat.me (ap (λ m. m.0) c.join_seat.ensures.2) c.load.ensures.2.1 in
    omega (arith, told.2, c.first.invariant.out_is)

pub invariant_of-first : goal.invariant_of-first
invariant_of-first g c =
    let s = g.V.Storied in
    let i = c.first.invariant in
    let v = c.first.inside.seat.me.0 in
    let w = c.into_seat.result.me.0 in
    let united_is = c.join_seat.ensures.2 in
    let told = compared s.who v w c.join_seat.new.seat.me (ap (λ m. m.0) united_is)
    c.load.ensures.2.1 in
    let after = c.load.ensures.2.0 ∙ ap (λ m. (checked m.0, m.1)) united_is
    ∙ ap (λ l. (record (checked (united v w)) { seen = l }, c.first.inside.seat.me.1)) told.6 in
    subst (λ m. IsPass s.who m c.first.inside.number c.first.inside.made (c.first.inside.out - 1)
    c.first.inside.holds) (sym after)
    record {
      number_is = i.number_is;
      made_is = i.made_is;
      out_is = ap (λ n. n - 1) i.out_is;
      holds_is = i.holds_is;
      nothing_due = i.nothing_due;
      nothing_to_check = refl;
      carries = i.carries;
      ticketless = i.ticketless;
      reach = (let le = i.reach in let h = prefix-fits v.seen (longer v.seen w.seen) told.0 in
          omega arith);
      known = ap (λ n. added_by s.who n (start_of v.beginning) (longer v.seen w.seen))
          (sym i.number_is) ∙ told.5;
    }

pub returns-clause-out : goal.returns-clause-out
returns-clause-out g c =
    let v = c.first.inside.seat.me.0 in
    let united_is = c.join_seat.ensures.2 in
    let told = compared g.V.Storied.who v c.into_seat.result.me.0 c.join_seat.new.seat.me
    (ap (λ m. m.0) united_is) c.load.ensures.2.1 in
    let after = c.load.ensures.2.0 ∙ ap (λ m. (checked m.0, m.1)) united_is in
    ap (λ m. m.0.chief.out + 1) after ∙ sym told.2 ∙ ap (λ p. p.out) c.first.view_is

pub returns-clause-seen : goal.returns-clause-seen
returns-clause-seen g c =
    let v = c.first.inside.seat.me.0 in
    let w = c.into_seat.result.me.0 in
    let united_is = c.join_seat.ensures.2 in
    let told = compared g.V.Storied.who v w c.join_seat.new.seat.me (ap (λ m. m.0) united_is)
    c.load.ensures.2.1 in
    let after = c.load.ensures.2.0 ∙ ap (λ m. (checked m.0, m.1)) united_is in
    let seen = ap (λ m. m.0.seen) after ∙ told.6 in (
      subst (λ p. IsPrefix p.seen c.load.new.seat.me.0.seen) c.first.view_is
          (subst (λ l. IsPrefix v.seen l) (sym seen) told.0),
      subst (λ p. IsPrefix p.seen c.load.new.seat.me.0.seen) c.into_seat.ensures.state
          (subst (λ l. IsPrefix w.seen l) (sym seen) told.1),
    )

pub returns-clause-pass : goal.returns-clause-pass
returns-clause-pass g c =
    let v = c.first.inside.seat.me.0 in
    let w = c.into_seat.result.me.0 in
    let united_is = c.join_seat.ensures.2 in
    let told = compared g.V.Storied.who v w c.join_seat.new.seat.me (ap (λ m. m.0) united_is)
    c.load.ensures.2.1 in
    let after = c.load.ensures.2.0 ∙ ap (λ m. (checked m.0, m.1)) united_is in
    let p = joined_with (pass_state c.first.inside.seat.table_id v)
    (pass_state c.into_seat.result.table_id w) in
    ap₂ pass_state (c.load.ensures.0 ∙ c.join_seat.ensures.0) (ap (λ m. m.0) after)
    ∙ ap (λ l. record p { seen = l }) told.6
    ∙ ap₂ joined_with c.first.view_is c.into_seat.ensures.state

pub returns-clause-held : goal.returns-clause-held
returns-clause-held g c = λ held.
    let v = c.first.inside.seat.me.0 in
    let w = c.into_seat.result.me.0 in
    let united_is = c.join_seat.ensures.2 in
    let after = c.load.ensures.2.0 ∙ ap (λ m. (checked m.0, m.1)) united_is in
    let holds = ap (λ p. p.holds) c.first.view_is ∙ held in
    ap (λ m. m.0.seen) after ∙ ap (λ h. cond h v.seen (longer v.seen w.seen)) holds
    ∙ ap (λ p. p.seen) c.first.view_is

pub returns-clause-fresh : goal.returns-clause-fresh
returns-clause-fresh g c =
    let v = c.first.inside.seat.me.0 in
    let w = c.into_seat.result.me.0 in
    let told = compared g.V.Storied.who v w c.join_seat.new.seat.me
    (ap (λ m. m.0) c.join_seat.ensures.2) c.load.ensures.2.1 in (
      subst (λ p. p.number ≢ 0) c.into_seat.ensures.state told.3,
      ap₂ (λ p q. is_among p.number q.ended) (sym c.into_seat.ensures.state) (sym c.first.view_is)
          ∙ told.4,
    )
