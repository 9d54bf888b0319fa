use Rattle.std.proofs.Common.{◌≡◌, ◌-◌, ℕ, List, take, drop, length, length-drop, ltb, rules, sym, ap, subst, ◌∙◌, arith}
use Rattle.std.specs.List.{list_any}
use Rattle.std.specs.List.Sorted.{IsNonDecreasingBy}
use Rattle.std.proofs.lemmas.List.{take_all}
use Rattle.std.proofs.lemmas.List.Sorted.{IsPartitionPoint-from_clause, IsPartitionedBy-ltb, IsNonDecreasingBy-drop}
use Rattle.change_tracker.specs.declared.word.Touch.{Touch}
use Rattle.change_tracker.specs.Touches.{WordState, is_of}
use Rattle.change_tracker.proofs.Windows.{Splits, rise, inside}
use Rattle.change_tracker.proofs.word.Word.earlier_in.Goals as goal

pub returns : goal.returns
returns c =
    let kept : List Touch = c.self.inside.earlier.items in
    let xs : List Touch = c.as_slice-earlier.result.now in
    let start : ℕ = c.partition_point-start.result in
    let later : List Touch = take (length xs - start) (drop start xs) in
    let same : xs ≡ kept = c.as_slice-earlier.ensures.value in
    let up : IsNonDecreasingBy (λ x. x.freezes) xs =
    (let P : List Touch → Type 0 = λ ys. IsNonDecreasingBy (λ x. x.freezes) ys in
    subst P (sym same) (rise 0 c.self.inside.latest.freezes kept c.self.invariant)) in
    let whole : later ≡ drop start xs =
    take_all (length xs - start) (drop start xs) (omega (arith, length-drop start xs)) in
    let up_later : IsNonDecreasingBy (λ x. x.freezes) later =
    (let P : List Touch → Type 0 = λ ys. IsNonDecreasingBy (λ x. x.freezes) ys in
    subst P (sym whole) (IsNonDecreasingBy-drop (λ x. x.freezes) start xs up)) in
    let low : Splits c.args.window.from xs start =
    IsPartitionPoint-from_clause (λ x. ltb x.freezes c.args.window.from) xs start
    c.partition_point-start.ensures.partitioned
    (IsPartitionedBy-ltb (λ x. x.freezes) xs c.args.window.from up) (λ a r f k. search rules) in
    let high : Splits c.args.window.end later c.partition_point-count.result =
    IsPartitionPoint-from_clause (λ x. ltb x.freezes c.args.window.end) later
    c.partition_point-count.result c.partition_point-count.ensures.partitioned
    (IsPartitionedBy-ltb (λ x. x.freezes) later c.args.window.end up_later)
    (λ a r f k. search rules) in
    let Q : List Touch → Type 0 =
    λ ys. Splits c.args.window.end ys c.partition_point-count.result in
    λ place. ap (λ (ys : List Touch). list_any (is_of c.args.window place)
    (take c.partition_point-count.result ys)) whole
    ∙ inside c.args.window place xs start c.partition_point-count.result low (subst Q whole high)
    ∙ ap (list_any (is_of c.args.window place))
    (same ∙ ap (λ (s : WordState). s.earlier) c.self.view_is)
