use Rattle.std.proofs.Common.{arith, sym, ap, ap₂, ◌∙◌, subst, Some, None, is_some, [], ◌∷◌, false, refl, if◌then◌else◌, Bool}
use Rattle.atomic_table.specs.Table.{rest}
use Rattle.basics.proofs.Prefix.{prefix-fits}
use Rattle.turn_lock.specs.Story.{AddsUnder, added_by}
use Rattle.turn_lock.specs.View.{is_live, gave, start_of}
use Rattle.turn_lock.specs.Pass.{IsPass}
use Rattle.turn_lock.proofs.Passes.{of_turn, known_after}
use Rattle.turn_lock.proofs.Tickets.{serves}
use Rattle.turn_lock.proofs.turn.Turn.give.Goals as goal

pub fetch_add-served-requires : goal.fetch_add-served-requires
fetch_add-served-requires g c =
    let s = g.V.Storied in
    let v = c.pass.inside.seat.me.0 in
    let own = of_turn s.frame s.story _ _ v.beginning _ (ap (λ p. p.turn) c.pass.view_is
    ∙ c.requires.turn ∙ ap (λ t. Some t) (sym c.self.view_is)) in
    let put = c.exchange-taken.ensures in
    let same = ap (λ m. m.0) put.3 in
    let held = ap (λ p. p.holds) c.pass.view_is ∙ c.requires.holder in
    let holds = sym c.pass.invariant.holds_is ∙ held in
    let out = c.pass.invariant.carries
    ∙ ap (λ (h : Bool). if h then (0, None) ∷ [] else []) holds in
    let carries = ap (λ m. m.1) put.3 ∙ ap (λ l. (0, Some c.args.value) ∷ rest l) out in
    let adds = subst (λ p. AddsUnder s.who p.number p.seen (s.story c.args.value))
    (sym c.pass.view_is) c.requires.adds in (
      put.0 ∙ own.0,
      omega (arith, c.self.invariant.0),
      serves s.frame s.story s.who _ _ _ c.exchange-taken.new.seat.me c.args.value
          (ap is_live same ∙ ap is_some own.1) (ap (λ w. w.holds) same ∙ held) carries
          (c.requires.frame ∙ sym (ap (λ t. t.frame) c.self.view_is))
          (subst (λ w. AddsUnder s.who w.number w.seen (s.story c.args.value)) (sym same) adds),
    )

pub invariant_of-pass : goal.invariant_of-pass
invariant_of-pass g c =
    let s = g.V.Storied in
    let i = c.pass.invariant in
    let v = c.pass.inside.seat.me.0 in
    let put = c.exchange-taken.ensures in
    let own = of_turn s.frame s.story _ _ v.beginning _ (ap (λ p. p.turn) c.pass.view_is
    ∙ c.requires.turn ∙ ap (λ t. Some t) (sym c.self.view_is)) in
    let same = ap (λ m. m.0) put.3 in
    let held = ap (λ p. p.holds) c.pass.view_is ∙ c.requires.holder in
    let holds = sym i.holds_is ∙ held in
    let out = i.carries ∙ ap (λ (h : Bool). if h then (0, None) ∷ [] else []) holds in
    let carries = ap (λ m. m.1) put.3 ∙ ap (λ l. (0, Some c.args.value) ∷ rest l) out in
    let adds = subst (λ p. AddsUnder s.who p.number p.seen (s.story c.args.value))
    (sym c.pass.view_is) c.requires.adds in
    let after = c.fetch_add-served.ensures.2 c.args.value carries
    ∙ ap (λ w. (gave (s.story c.args.value) w, [])) same in
    let number = i.number_is in
    subst (λ m. IsPass s.who m c.pass.inside.number c.pass.inside.made c.pass.inside.out false)
    (sym after)
    record {
      number_is = i.number_is;
      made_is = i.made_is;
      out_is = i.out_is;
      holds_is = refl;
      nothing_due = i.nothing_due;
      nothing_to_check = i.nothing_to_check;
      carries = refl;
      ticketless = λ _. refl;
      reach = (let le = i.reach in let h = prefix-fits v.seen (s.story c.args.value) adds.0 in
          omega arith);
      known = known_after s.who c.pass.inside.number (start_of v.beginning) v.seen
          (s.story c.args.value) v.mine
          (subst (λ k. AddsUnder s.who k v.seen (s.story c.args.value)) i.number_is adds) i.reach
          i.known;
    }

pub returns-clause-own : goal.returns-clause-own
returns-clause-own g c =
    let s = g.V.Storied in
    let i = c.pass.invariant in
    let v = c.pass.inside.seat.me.0 in
    let x = c.args.value in
    let put = c.exchange-taken.ensures in
    let own = of_turn s.frame s.story _ _ v.beginning _ (ap (λ p. p.turn) c.pass.view_is
    ∙ c.requires.turn ∙ ap (λ t. Some t) (sym c.self.view_is)) in
    let same = ap (λ m. m.0) put.3 in
    let held = ap (λ p. p.holds) c.pass.view_is ∙ c.requires.holder in
    let out = i.carries ∙ ap (λ (h : Bool). if h then (0, None) ∷ [] else [])
    (sym i.holds_is ∙ held) in
    let carries = ap (λ m. m.1) put.3 ∙ ap (λ l. (0, Some x) ∷ rest l) out in
    let adds = subst (λ p. AddsUnder s.who p.number p.seen (s.story x)) (sym c.pass.view_is)
    c.requires.adds in
    let after = c.fetch_add-served.ensures.2 x carries ∙ ap (λ w. (gave (s.story x) w, [])) same in
    let known = ap (λ n. added_by s.who n (start_of v.beginning) v.seen) i.number_is ∙ i.known in
    ap₂ (λ p t. added_by s.who p.number t.start (s.story x)) (sym c.pass.view_is)
    (sym c.self.view_is)
    ∙ ap (λ b. added_by s.who v.number (start_of b) (s.story x)) (sym own.1)
    ∙ known_after s.who v.number (start_of v.beginning) v.seen (s.story x) v.mine adds i.reach known
    ∙ sym (ap (λ m. m.0.mine) after)
