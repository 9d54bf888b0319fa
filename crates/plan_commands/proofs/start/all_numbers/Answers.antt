use Rattle.std.proofs.Common.{◌+◌, ◌≤◌, ◌++◌, ◌∷◌, [], ap, sym, ◌∙◌, append_assoc, length, take, arith}
use Rattle.std.specs.List.{range_with_len}
use Rattle.std.proofs.lemmas.List.{append-nil, take_all}
use Rattle.std.proofs.lemmas.List.FromFn.{length-range_with_len}
use Rattle.plan_commands.specs.commands.Start.{numbers_in}
use Rattle.plan_commands.proofs.Counting.{one_number_more}
use Rattle.plan_commands.proofs.start.all_numbers.Goals as goal

pub loop-place-init : goal.loop-place-init
loop-place-init c = c.in_ok-numbers.ensures
    ∙ sym (append-nil (numbers_in c.args.plan c.args.state.now))

pub loop-place-preserved : goal.loop-place-preserved
loop-place-preserved c =
    let before = numbers_in c.args.plan c.args.state.now in
    let place = c.loop-place.place in
    let new = take place (range_with_len c.args.first c.args.count) in
    c.in_ok-push.ensures.items
    ∙ ap (λ numbers. numbers ++ (c.args.first + place) ∷ []) c.loop-place.invariant
    ∙ append_assoc before new ((c.args.first + place) ∷ [])
    ∙ ap (λ numbers. before ++ numbers)
    (sym (one_number_more c.args.first c.args.count place c.loop-place-test.true))

pub returns : goal.returns
returns c =
    let all = range_with_len c.args.first c.args.count in
    let long : length all ≤ c.loop-place.place =
    omega (arith, length-range_with_len c.args.first c.args.count) in
    c.from_vec.ensures ∙ c.loop-place.invariant
    ∙ ap (λ numbers. numbers_in c.args.plan c.args.state.now ++ numbers)
    (take_all c.loop-place.place all long)
