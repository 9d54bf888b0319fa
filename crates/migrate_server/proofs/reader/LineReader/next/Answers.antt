use Rattle.std.proofs.Common.{◌≡◌, ◌+◌, length, false, [], subst, sym, ap, ◌∙◌}
use Rattle.std.proofs.lemmas.Result.{err_from_is_err_and}
use Rattle.migrate_server.specs.Reader.{ReaderState, TakesLine}
use Rattle.migrate_server.proofs.PartLines.{Partly, taken_line, taken_rest, filled_more, ended_line, cut_short, skipped, rest_none, nearer}
use Rattle.migrate_server.proofs.reader.LineReader.next.Goals as goal

pub returns-in-Some-clause-taken : goal.returns-in-Some-clause-taken
returns-in-Some-clause-taken g c =
    let S = g.S.Source.state in
    let now = c.loop-at.self in
    let new = skipped now c.take_to.new.self c.skip.new.self c.in-Some.at
    c.in_ok-take_to.ensures.left c.skip.ensures in
    let T : ReaderState → Type 0 =
    λ r. TakesLine (S c.args.source.now) (S c.loop-at.source) c.args.self.now r
    c.take_to.new.line in
    subst T (sym new) (taken_line (S c.args.source.now) (S c.loop-at.source) c.args.self.now now
    c.loop-at.line c.take_to.new.line c.in-Some.at c.loop-at.invariant
    c.in-Some.ensures.cases.0 c.in-Some.ensures.cases.1 c.in_ok-take_to.ensures.taken)

pub returns-then-ended-clause-taken : goal.returns-then-ended-clause-taken
returns-then-ended-clause-taken g c =
    let S = g.S.Source.state in
    let now = c.loop-at.self in
    let new = c.take_to-in-loop-at.new.self in
    let line = c.take_to-in-loop-at.new.line in
    let n = c.count-rest.result in
    let left = c.in_ok-take_to-2.ensures.left in
    let none_there = rw c.in_default.is at c.line_end.ensures.cases in
    let P : ReaderState → Type 0 =
    λ r. Partly (S c.args.source.now) (S c.loop-at.source) c.args.self.now r line in
    let part = subst P (sym left)
    (taken_rest (S c.args.source.now) (S c.loop-at.source) c.args.self.now now c.loop-at.line
    line n c.count-rest.ensures c.loop-at.invariant none_there c.in_ok-take_to-2.ensures.taken)
    in
    let none : new.pending ≡ [] =
    ap (λ (r : ReaderState). r.pending) left ∙ rest_none now n c.count-rest.ensures in
    ended_line (S c.args.source.now) (S c.loop-at.source) c.args.self.now new line c.is_empty.result
    part none (sym c.if-ended.ensures) c.is_empty.ensures

pub loop-at-smaller : goal.loop-at-smaller
loop-at-smaller g c =
    let now = c.loop-at.self in
    let left = c.in_ok-take_to-2.ensures.left in
    let f = c.in_ok-read_more.ensures.more in
    let running : now.ended ≡ false =
    sym (ap (λ (r : ReaderState). r.ended) left) ∙ sym c.if-ended.ensures in
    let total : c.read_more.new.self.total ≡ now.total + length f.given =
    f.takes.count ∙ ap (λ (r : ReaderState). r.total + length f.given) left in
    nearer c.read_more.new.self.ended now.ended now.total c.read_more.new.self.total
    (length f.given) running total f.fits f.some

pub loop-at-preserved : goal.loop-at-preserved
loop-at-preserved g c =
    let S = g.S.Source.state in
    let now = c.loop-at.self in
    let mid = c.take_to-in-loop-at.new.self in
    let line = c.take_to-in-loop-at.new.line in
    let n = c.count-rest.result in
    let left = c.in_ok-take_to-2.ensures.left in
    let none_there = rw c.in_default.is at c.line_end.ensures.cases in
    let P : ReaderState → Type 0 =
    λ r. Partly (S c.args.source.now) (S c.loop-at.source) c.args.self.now r line in
    let part = subst P (sym left)
    (taken_rest (S c.args.source.now) (S c.loop-at.source) c.args.self.now now c.loop-at.line
    line n c.count-rest.ensures c.loop-at.invariant none_there c.in_ok-take_to-2.ensures.taken)
    in
    let none : mid.pending ≡ [] =
    ap (λ (r : ReaderState). r.pending) left ∙ rest_none now n c.count-rest.ensures in
    filled_more (S c.args.source.now) (S c.loop-at.source) (S c.read_more.new.source)
    c.args.self.now mid c.read_more.new.self line part none (sym c.if-ended.ensures)
    c.in_ok-read_more.ensures.more

pub returns-in_err-read_more-clause-none : goal.returns-in_err-read_more-clause-none
returns-in_err-read_more-clause-none g c =
    let S = g.S.Source.state in
    let now = c.loop-at.self in
    let mid = c.take_to-in-loop-at.new.self in
    let line = c.take_to-in-loop-at.new.line in
    let n = c.count-rest.result in
    let left = c.in_ok-take_to-2.ensures.left in
    let none_there = rw c.in_default.is at c.line_end.ensures.cases in
    let P : ReaderState → Type 0 =
    λ r. Partly (S c.args.source.now) (S c.loop-at.source) c.args.self.now r line in
    let part = subst P (sym left)
    (taken_rest (S c.args.source.now) (S c.loop-at.source) c.args.self.now now c.loop-at.line
    line n c.count-rest.ensures c.loop-at.invariant none_there c.in_ok-take_to-2.ensures.taken)
    in
    let none : mid.pending ≡ [] =
    ap (λ (r : ReaderState). r.pending) left ∙ rest_none now n c.count-rest.ensures in
    let short = cut_short (S c.args.source.now) (S c.loop-at.source) (S c.read_more.new.source)
    c.args.self.now mid c.read_more.new.self line c.in_err-read_more.field-0.0 part none
    (sym c.if-ended.ensures) c.in_err-read_more.ensures.none in
    let p = err_from_is_err_and c.from_residual-in_err-read_more.result
    c.from_residual-in_err-read_more.ensures.1 in
    rw (p.1, p.2) short
