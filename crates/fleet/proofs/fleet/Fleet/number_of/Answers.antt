-- The number is one more than the place.
use Rattle.std.proofs.Common.{◌+◌, Some, ap, ◌∙◌, sym, option_map}
use Rattle.fleet.specs.Fleet.{vm_number}
use Rattle.fleet.proofs.Refused.{vm_is}
use Rattle.fleet.proofs.fleet.Fleet.number_of.Goals as goal

pub returns-in_err-place-clause-number : goal.returns-in_err-place-clause-number
returns-in_err-place-clause-number c =
    rw (vm_is c.self.inside.hosts c.self.inside.vms c.args.self.now c.self.view_is
    c.args.name.now
    ∙ ap (option_map (λ place. place + 1)) (sym c.place_of.ensures ∙ c.in_err-place.was))
    c.from_residual.ensures

pub returns-clause-number : goal.returns-clause-number
returns-clause-number c =
    sym (vm_is c.self.inside.hosts c.self.inside.vms c.args.self.now c.self.view_is
    c.args.name.now
    ∙ ap (option_map (λ place. place + 1)) (sym c.place_of.ensures ∙ c.in_ok-place.was))
