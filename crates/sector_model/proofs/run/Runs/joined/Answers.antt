use Rattle.std.proofs.Common.{◌≡◌, ◌≤◌, [], ◌++◌, ◌||◌, List, drop, get_or, sym, ap, subst, ◌∙◌, arith}
use Rattle.std.specs.List.{All}
use Rattle.std.proofs.lemmas.List.{drop_all}
use Rattle.std.proofs.lemmas.List.Elements.{recursion_from_All, All-from_recursion}
use Rattle.sector_model.specs.Run.{end_of, has, in_runs, AreSpaced}
use Rattle.sector_model.specs.Joining.{joined, left_over}
use Rattle.sector_model.specs.declared.run.Run.{Run}
use Rattle.sector_model.proofs.Joined.{ends_fit, in_joined, joined-spaced, joined-ends}
use Rattle.sector_model.proofs.run.Runs.joined.Goals as goal

pub place-requires-clause-run_fits : goal.place-requires-clause-run_fits
place-requires-clause-run_fits c =
    let zero_run : Run = record { first = 0; count = 0 } in
    ends_fit 0 c.as_slice-run-items.result.now c.loop-run.run-index zero_run
    c.as_slice-run-items.ensures.spaced (omega arith)

pub invariant_of-result : goal.invariant_of-result
invariant_of-result c =
    let all = c.as_slice-run-items.result.now in
    let none : drop c.loop-run.run-index all ≡ [] =
    drop_all c.loop-run.run-index all (omega arith) in
    let same = c.in_ok-put_left.ensures
    ∙ ap (λ (rs : List Run). c.loop-run.joined.items ++ left_over c.loop-run.left rs) (sym none)
    ∙ c.loop-run.invariant.told in
    subst AreSpaced (sym same)
    (joined-spaced 0 c.args.more all c.as_slice-run-items.ensures.spaced (omega arith)
    c.requires.some c.requires.fits)

pub returns-clause-members : goal.returns-clause-members
returns-clause-members c =
    let all = c.as_slice-run-items.result.now in
    let none : drop c.loop-run.run-index all ≡ [] =
    drop_all c.loop-run.run-index all (omega arith) in
    let same = c.in_ok-put_left.ensures
    ∙ ap (λ (rs : List Run). c.loop-run.joined.items ++ left_over c.loop-run.left rs) (sym none)
    ∙ c.loop-run.invariant.told in
    λ s. ap (λ (rs : List Run). in_runs rs s) same ∙ in_joined c.args.more all s
    ∙ ap (λ (rs : List Run). in_runs rs s || has s c.args.more)
    c.as_slice-run-items.ensures.same

pub returns-clause-within : goal.returns-clause-within
returns-clause-within c =
    let all = c.as_slice-run-items.result.now in
    let none : drop c.loop-run.run-index all ≡ [] =
    drop_all c.loop-run.run-index all (omega arith) in
    let same = c.in_ok-put_left.ensures
    ∙ ap (λ (rs : List Run). c.loop-run.joined.items ++ left_over c.loop-run.left rs) (sym none)
    ∙ c.loop-run.invariant.told in
    λ e ends there.
    let here : All (λ q. end_of q ≤ e) all =
    subst (λ (rs : List Run). All (λ q. end_of q ≤ e) rs)
    (sym c.as_slice-run-items.ensures.same) ends in
    subst (λ (rs : List Run). All (λ q. end_of q ≤ e) rs) (sym same)
    (All-from_recursion (λ q. end_of q ≤ e) (joined c.args.more all)
    (joined-ends e c.args.more all c.requires.some
    (recursion_from_All (λ q. end_of q ≤ e) all here) there))
