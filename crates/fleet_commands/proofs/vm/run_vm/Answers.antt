use Rattle.std.proofs.Common.{ℕ, Ok, Err, refl, ap, ◌∙◌, sym}
use Rattle.reply_json.specs.declared.reply.Reply.TheVariants.{Number}
use Rattle.fleet.specs.Refusals.{add_vm_refusal}
use Rattle.fleet.specs.declared.refusals.FleetRefused.TheVariants.{NoMemory}
use Rattle.fleet_commands.specs.Refusals.{fleet_told}
use Rattle.fleet_commands.proofs.Telling.{told_none, told_some}
use Rattle.fleet_commands.proofs.vm.run_vm.Goals as goal

pub returns-in-Ok-clause-answer : goal.returns-in-Ok-clause-answer
returns-in-Ok-clause-answer c =
    let refused = rw (c.as_str.ensures.text, c.as_str-2.ensures.text) at c.in-Ok.ensures.refused in
    let added = rw (c.as_str.ensures.text, c.as_str-2.ensures.text) at c.in-Ok.ensures.ok in (
      told_none fleet_told
          (add_vm_refusal c.args.name.now c.args.host.now c.args.disks.now c.args.fleet.now)
          NoMemory (Ok c.in-Ok.number) c.in-Ok.number refused refl,
      ap Number c.in-Ok.ensures.number,
      added,
    )

pub returns-in_ok-ok_or-in-Err-clause-answer : goal.returns-in_ok-ok_or-in-Err-clause-answer
returns-in_ok-ok_or-in-Err-clause-answer c =
    let refused = rw (c.as_str.ensures.text, c.as_str-2.ensures.text) at c.in-Err.ensures.refused in
    let told = sym c.fleet_told.ensures ∙ c.in_ok-ok_or-in-Err.ensures.ok_part in (
      told_some {T = ℕ} fleet_told
          (add_vm_refusal c.args.name.now c.args.host.now c.args.disks.now c.args.fleet.now)
          NoMemory (Err c.in-Err.why) c.in-Err.why _ refused refl refl told,
      c.in-Err.ensures.err,
    )
