use Rattle.std.proofs.Common.{◌≡◌, ℕ, ◌+◌, List, Bool, true, ◌==◌, ◌&&◌, take, length, unwrap_or, sym, ap, ◌∙◌, arith}
use Rattle.std.proofs.lemmas.Bool.{and_from, eq-eqb}
use Rattle.log_model.specs.declared.entry.Entry.{Entry}
use Rattle.log_model.specs.Marks.{epoch, number}
use Rattle.change_id.proofs.Ends.{find-range_at, find-range_none}
use Rattle.log_model.proofs.query.numbered_place.Goals as goal

abbrev gives : ℕ → ℕ → List Entry → ℕ → ℕ → Bool
gives d q log now k = epoch d (take (k + 1) log) == now && number d (take (k + 1) log) == q

pub returns-then-number-seq-clause-place : goal.returns-then-number-seq-clause-place
returns-then-number-seq-clause-place c =
    let log : List Entry = c.args.log.now in
    let d : ℕ = c.args.disk in
    let q : ℕ = c.args.seq in
    let place : ℕ = c.loop-place.place in
    let now : c.epoch-now.result ≡ epoch d log = c.epoch-now.ensures in
    let here : gives d q log (epoch d log) (0 + place) ≡ true =
    ap (λ k. gives d q log (epoch d log) k) (omega arith)
    ∙ and_from (epoch d (take (place + 1) log) == epoch d log)
    (number d (take (place + 1) log) == q)
    (eq-eqb (epoch d (take (place + 1) log)) (epoch d log)
    (sym c.epoch.ensures ∙ c.if-epoch-now.true ∙ now))
    (eq-eqb (number d (take (place + 1) log)) q (sym c.number.ensures ∙ c.if-number-seq.true))
    in
    let at : place ≡ 0 + place = omega arith in
    at ∙ sym (ap (λ o. unwrap_or o (length log))
    (find-range_at (gives d q log (epoch d log)) 0 (length log) place c.loop-place-test.true
    (λ k less. ap (λ n. gives d q log (epoch d log) n) (omega arith)
    ∙ ap (λ e. gives d q log e k) (sym now) ∙ c.loop-place.invariant k less) here))

pub returns-clause-place : goal.returns-clause-place
returns-clause-place c =
    let log : List Entry = c.args.log.now in
    let d : ℕ = c.args.disk in
    let q : ℕ = c.args.seq in
    sym (ap (λ o. unwrap_or o (length log))
    (find-range_none (gives d q log (epoch d log)) 0 (length log)
    (λ k less. ap (λ n. gives d q log (epoch d log) n) (omega arith)
    ∙ ap (λ e. gives d q log e k) (sym c.epoch-now.ensures)
    ∙ c.loop-place.invariant k (omega arith))))
