use Rattle.std.proofs.Common.{◌+◌, ◌≤◌, ◌++◌, ◌∷◌, [], ap, sym, ◌∙◌, length, map, get_or, arith}
use Rattle.std.specs.List.{zip, range_with_len}
use Rattle.std.proofs.lemmas.List.{take_all}
use Rattle.record_codec.specs.declared.record.Record.TheVariants.{MigrationStarted}
use Rattle.plan_commands.specs.commands.Start.{begun_by}
use Rattle.plan_commands.proofs.Counting.{length-numbered, one_pair_more}
use Rattle.plan_commands.proofs.start.begun.Goals as goal

pub loop-place-preserved : goal.loop-place-preserved
loop-place-preserved c =
    let plan = c.args.plan in
    let vms = c.args.vms.now in
    let place = c.loop-place.place in
    let number = c.args.first + place in
    let vm = get_or vms place 0 in
    let by = begun_by plan c.args.fleet.now in
    c.in_ok-push.ensures.items
    ∙ ap (λ disks. c.loop-place.records.items ++ MigrationStarted number plan vm disks ∷ [])
    c.disks_of.ensures
    ∙ ap (λ records. records ++ by (number, vm) ∷ []) c.loop-place.invariant
    ∙ sym (one_pair_more by c.args.first vms place c.loop-place-test.true)

pub returns : goal.returns
returns c =
    let vms = c.args.vms.now in
    let long : length (zip (range_with_len c.args.first (length vms)) vms) ≤ c.loop-place.place =
    omega (arith, length-numbered c.args.first vms) in
    c.from_vec.ensures ∙ c.loop-place.invariant
    ∙ ap (map (begun_by c.args.plan c.args.fleet.now)) (take_all c.loop-place.place _ long)
