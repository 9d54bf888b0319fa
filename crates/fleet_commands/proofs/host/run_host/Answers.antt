use Rattle.std.proofs.Common.{Ok, Err, refl, ap, ◌∙◌, sym}
use Rattle.fleet.specs.Fleet.{with_host}
use Rattle.fleet.specs.Refusals.{add_host_refusal}
use Rattle.fleet.specs.declared.refusals.FleetRefused.TheVariants.{NoMemory}
use Rattle.fleet_commands.specs.Refusals.{fleet_told}
use Rattle.fleet_commands.proofs.Telling.{told_none, told_some}
use Rattle.fleet_commands.proofs.host.run_host.Goals as goal

pub returns-in-Ok-clause-answer : goal.returns-in-Ok-clause-answer
returns-in-Ok-clause-answer c =
    let refused = rw c.as_str.ensures.text at c.in-Ok.ensures.refused in
    let added = rw c.as_str.ensures.text at c.in-Ok.ensures.ok in (
      told_none fleet_told (add_host_refusal c.args.name.now c.args.fleet.now) NoMemory (Ok tt) tt
          refused refl,
      refl,
      added ∙ ap (λ limit. with_host c.args.name.now limit c.args.fleet.now)
          c.unwrap_or-limit.ensures,
    )

pub returns-in_ok-ok_or-in-Err-clause-answer : goal.returns-in_ok-ok_or-in-Err-clause-answer
returns-in_ok-ok_or-in-Err-clause-answer c =
    let refused = rw c.as_str.ensures.text at c.in-Err.ensures.refused in
    let told = sym c.fleet_told.ensures ∙ c.in_ok-ok_or-in-Err.ensures.ok_part in (
      told_some {T = Unit {0}} fleet_told (add_host_refusal c.args.name.now c.args.fleet.now)
          NoMemory (Err c.in-Err.why) c.in-Err.why _ refused refl refl told,
      c.in-Err.ensures.err,
    )
