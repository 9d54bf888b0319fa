-- A machine is changed through a link over it, for which it is taken out of the fleet and put back
-- afterwards. While it is out the fleet remembers it as it was, and only that one, with a log that
-- goes on from there, goes back in its place.
use Rattle.std.specs.Prelude.{◌≡◌, ℕ, length, take, Bool, true, false, Option, option_map, IsSomeAnd}
use Rattle.std.specs.Option.{option_map_or}
use Rattle.basics.specs.Prefix.{IsPrefix}
use Rattle.log_model.specs.declared.entry.TheConstants.{MIGRATION_CALLER}
use Rattle.log_model.specs.Link.{LinkState}
use Rattle.source_vm.specs.Machine.{link_of}
use Rattle.fleet.specs.Fleet.{VmState, FleetState, vm_of, vm_in, machine_of, with_vm_at}

-- the link over the machine with this number, where it isn't out: it is the only one, and has the
-- number under which migrations are carried out
abbrev pub lifted : (number : ℕ) → FleetState → Option LinkState
lifted number fleet = option_map (link_of MIGRATION_CALLER) (machine_of number fleet)

abbrev pub after_lift : (number : ℕ) → FleetState → FleetState
after_lift number fleet = option_map_or
    (λ vm. with_vm_at number (record vm { out = true }) fleet) (vm_in number fleet) fleet

-- the link is over this machine, which is out, and its log goes on from the one that is remembered
pub record IsOver (vm : VmState) (link : LinkState) : Type 0 where
  pub out : vm.out ≡ true
  pub capacities : link.capacities ≡ vm.capacities
  pub log : IsPrefix vm.log link.seen

abbrev pub MayGoBack : LinkState → FleetState → Type 0
MayGoBack link fleet = IsSomeAnd (vm_of link.machine fleet) (λ vm. IsOver vm link)

abbrev pub after_lower : LinkState → FleetState → FleetState
after_lower link fleet = option_map_or
    (λ vm. with_vm_at link.machine (record vm { log = link.seen; out = false }) fleet)
    (vm_of link.machine fleet) fleet
