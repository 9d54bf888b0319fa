-- The machine that is read is that of the name, and comes back as it was.
use Rattle.std.proofs.Common.{◌≡◌, Some, option_copied, refl, ap, ◌∙◌, sym}
use Rattle.log_model.specs.Link.{LinkState}
use Rattle.log_model.specs.declared.entry.TheConstants.{MIGRATION_CALLER}
use Rattle.log_model.proofs.LinkLaws.{calls_alone, reads-go_on}
use Rattle.source_vm.specs.Machine.{MachineState, link_of}
use Rattle.fleet_commands.specs.Machines.{machine_named}
use Rattle.fleet_commands.proofs.Lifting.{may_go_back, goes_back_same}
use Rattle.fleet_commands.proofs.Reading.{named_by}
use Rattle.fleet_commands.proofs.read.read_into.Goals as goal

pub returns-in_default-clause-reads : goal.returns-in_default-clause-reads
returns-in_default-clause-reads c =
    let m : MachineState = c.in_ok-machine.machine.now in
    let named : machine_named c.args.vm.now c.args.fleet.now ≡ Some m =
    named_by c.args.vm.now c.as_str.result.now c.args.fleet.now c.in_ok-number.number m
    c.as_str.ensures.text (sym c.number_of.ensures.number ∙ c.in_ok-number.was)
    (sym c.machine.ensures ∙ ap option_copied c.in_ok-machine.was) in
    rw c.in_default.is (m, named, c.read_now.ensures.refused, c.read_now.ensures.sectors)

pub lower-requires : goal.lower-requires
lower-requires c =
    let m : MachineState = c.in_ok-take_out.field-0 in
    let named : machine_named c.args.vm.now c.args.fleet.now ≡ Some m =
    sym c.take_out.ensures.machine ∙ c.in_ok-take_out.was in
    let lent = rw c.in_ok-take_out.was at c.take_out.ensures.after in
    let reads = rw c.of-link.ensures at c.read_snap-read.ensures.reads in
    rw lent (may_go_back c.args.vm.now m c.args.fleet.now named c.read_snap-read.new.self
    (reads-go_on (link_of MIGRATION_CALLER m) c.read_snap-read.new.self reads))

pub returns-clause-same : goal.returns-clause-same
returns-clause-same c =
    let m : MachineState = c.in_ok-take_out.field-0 in
    let named : machine_named c.args.vm.now c.args.fleet.now ≡ Some m =
    sym c.take_out.ensures.machine ∙ c.in_ok-take_out.was in
    let lent = rw c.in_ok-take_out.was at c.take_out.ensures.after in
    let left : LinkState = c.read_snap-read.new.self in
    let reads = rw c.of-link.ensures at c.read_snap-read.ensures.reads in
    rw (c.lower.ensures, lent) (goes_back_same c.args.vm.now m c.args.fleet.now named left
    ((calls_alone (link_of MIGRATION_CALLER m) left refl).reads reads))
