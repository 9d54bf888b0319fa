use Rattle.std.proofs.Common.{refl, ap}
use Rattle.log_model.specs.declared.link.Facts.{Facts}
use Rattle.plan_commands.proofs.Known.{fact_is}
use Rattle.plan_commands.proofs.machines.fact_at.Goals as goal

pub returns : goal.returns
returns c =
    let pair = rw c.unwrap.ensures at c.vm_at.ensures.vm in
    let machine = rw c.unwrap-machine.ensures at c.machine.ensures in
    fact_is c.args.fleet.now c.args.state.now c.args.place c.requires.place c.requires.all_in _ _
    pair c.unwrap-machine.result.now machine _ c.in_ok-of.ensures refl c.is_at_work.ensures
    (ap (λ (f : Facts). f.tracking) c.look.ensures.facts)
