use Rattle.std.proofs.Common.{◌<◌, length, get_or, arith}
use Rattle.std.proofs.lemmas.List.Edits.{map_over_more}
use Rattle.ctl_state.specs.Migration.{unnamed_copy, new_copy}
use Rattle.std.proofs.lemmas.List.{get_or_default}
use Rattle.ctl_state.proofs.copies.forget_each.Goals as goal

pub loop-copy-preserved : goal.loop-copy-preserved
loop-copy-preserved c =
    let copies = c.loop-copy.copies in
    let i = c.loop-copy.copy-index in
    let copy = get_or copies i new_copy in
    let within : i < length copies = omega arith in
    map_over_more unnamed_copy c.args.copies.now copies i copy c.loop-copy-test.true
    c.loop-copy.invariant
    (get_or_default copies i new_copy copy within)
