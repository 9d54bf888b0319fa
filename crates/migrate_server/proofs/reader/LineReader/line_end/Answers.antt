use Rattle.std.proofs.Common.{◌≡◌, ◌+◌, ◌-◌, ℕ, List, ◌∷◌, take, drop, MatchOption, ap, subst, ◌∙◌, arith}
use Rattle.migrate_server.specs.Reader.{ReaderState, HasNoLf}
use Rattle.migrate_server.proofs.PartLines.{pending_is}
use Rattle.migrate_server.proofs.reader.LineReader.line_end.Goals as goal

pub returns-clause-cases : goal.returns-clause-cases
returns-clause-cases c =
    let inside = c.self.inside in
    let same = ap (λ xs. take (inside.end - inside.start) (drop inside.start xs))
    c.deref.ensures.value
    ∙ pending_is inside.chunk.items inside.start inside.end (omega (arith, c.self.invariant))
    ∙ ap (λ (r : ReaderState). r.pending) c.self.view_is in
    let P : List ℕ → Type 0 =
    λ xs. MatchOption c.first_lf.result (HasNoLf xs) (λ at. HasNoLf (take at xs)
    × (drop at xs ≡ 10 ∷ drop (at + 1) xs)) in
    subst P same c.first_lf.ensures.cases
