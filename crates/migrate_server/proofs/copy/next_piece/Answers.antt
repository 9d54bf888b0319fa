use Rattle.std.proofs.Common.{◌≡◌, ◌≤◌, ℕ, List, All, Option, Some, None, sym, ◌∙◌, arith}
use Rattle.std.proofs.lemmas.Grind.{common_steps}
use Rattle.sector_model.specs.Run.{end_of, next_run, AreSpaced, IsNext}
use Rattle.sector_model.specs.declared.run.Run.{Run}
use Rattle.sector_model.proofs.NextRun.{next_found}
use Rattle.migrate_server.proofs.copy.next_piece.Goals as goal

is_next : (at capacity : ℕ) (runs : List Run) (found : Option Run) (run : Run) → found ≡ Some run
    → found ≡ next_run at runs → AreSpaced runs → All (λ r. end_of r ≤ capacity) runs
    → IsNext runs at capacity run
is_next at capacity runs found run is next = next_found at capacity runs (Some run) (sym is ∙ next)

pub returns-in_default-clause-gap : goal.returns-in_default-clause-gap
returns-in_default-clause-gap c = λ gap s from before.
    next_found c.args.at c.args.capacity c.args.allocated.now None
    (sym c.in_default.is ∙ c.next_from.ensures) c.requires.spaced c.requires.within s from

pub overflow_add-run : goal.overflow_add-run
overflow_add-run c =
    let next = is_next c.args.at c.args.capacity c.args.allocated.now c.next_from.result
    c.in-Some.run' c.in-Some.is c.next_from.ensures c.requires.spaced c.requires.within in
    omega (arith, next.inside)

pub piece_to-requires-then-run-at : goal.piece_to-requires-then-run-at
piece_to-requires-then-run-at c =
    let next = is_next c.args.at c.args.capacity c.args.allocated.now c.next_from.result
    c.in-Some.run' c.in-Some.is c.next_from.ensures c.requires.spaced c.requires.within in
    omega (arith, next.some)

pub returns-then-run-at-clause-some : goal.returns-then-run-at-clause-some
returns-then-run-at-clause-some c =
    let next = is_next c.args.at c.args.capacity c.args.allocated.now c.next_from.result
    c.in-Some.run' c.in-Some.is c.next_from.ensures c.requires.spaced c.requires.within in
    let some = next.some in
    grind (arith, common_steps)

pub returns-then-run-at-clause-inside : goal.returns-then-run-at-clause-inside
returns-then-run-at-clause-inside c =
    let next = is_next c.args.at c.args.capacity c.args.allocated.now c.next_from.result
    c.in-Some.run' c.in-Some.is c.next_from.ensures c.requires.spaced c.requires.within in
    let inside = next.inside in
    grind (arith, common_steps)

pub returns-then-run-at-clause-data : goal.returns-then-run-at-clause-data
returns-then-run-at-clause-data c = λ is s from before.
    let next = is_next c.args.at c.args.capacity c.args.allocated.now c.next_from.result
    c.in-Some.run' c.in-Some.is c.next_from.ensures c.requires.spaced c.requires.within in
    next.held s (omega (arith, from)) (grind (arith, common_steps))

pub returns-else-run-at-clause-inside : goal.returns-else-run-at-clause-inside
returns-else-run-at-clause-inside c =
    let next = is_next c.args.at c.args.capacity c.args.allocated.now c.next_from.result
    c.in-Some.run' c.in-Some.is c.next_from.ensures c.requires.spaced c.requires.within in
    let inside = next.inside in
    let some = next.some in
    let from = next.from in
    grind (arith, common_steps)

pub returns-else-run-at-clause-gap : goal.returns-else-run-at-clause-gap
returns-else-run-at-clause-gap c = λ gap s from before.
    let next = is_next c.args.at c.args.capacity c.args.allocated.now c.next_from.result
    c.in-Some.run' c.in-Some.is c.next_from.ensures c.requires.spaced c.requires.within in
    next.gap s from (grind (arith, common_steps))
