-- What holds of every fleet, whatever is called: a fleet goes on, and a machine that is taken out
-- and put back has its new log and nothing else that is new.
use Rattle.std.specs.Prelude.{◌≡◌, ℕ, List, length, take, Option, Some}
use Rattle.basics.specs.Prefix.{IsPrefix}
use Rattle.log_model.specs.declared.entry.Entry.{Entry}
use Rattle.log_model.specs.Link.{LinkState, FollowsFrom}
use Rattle.fleet.specs.Fleet.{VmState, FleetState, empty_fleet, vm_of, vm_in, with_host, with_vm_under, with_log, FleetGoesOn}
use Rattle.fleet.specs.Sound.{AllAreIn}
use Rattle.fleet.specs.Lending.{lifted, after_lift, after_lower, MayGoBack}

-- ---- a fleet goes on

abbrev pub GoesOnItself : Type 0
GoesOnItself = (fleet : FleetState) → FleetGoesOn fleet fleet

abbrev pub GoesOnFurther : Type 0
GoesOnFurther = (first second third : FleetState) → FleetGoesOn first second
    → FleetGoesOn second third → FleetGoesOn first third

abbrev pub HostsGoOn : Type 0
HostsGoOn = (name : List ℕ) (limit : ℕ) (fleet : FleetState)
    → FleetGoesOn fleet (with_host name limit fleet)

abbrev pub VmsGoOn : Type 0
VmsGoOn = (name host capacities : List ℕ) (fleet : FleetState)
    → FleetGoesOn fleet (with_vm_under name host capacities fleet)

abbrev pub LogsGoOn : Type 0
LogsGoOn = (number : ℕ) (log : List Entry) (vm : VmState) (fleet : FleetState)
    → vm_of number fleet ≡ Some vm → IsPrefix vm.log log
    → FleetGoesOn fleet (with_log number log fleet)

abbrev pub LiftGoesOn : Type 0
LiftGoesOn = (number : ℕ) (fleet : FleetState) → FleetGoesOn fleet (after_lift number fleet)

abbrev pub LowerGoesOn : Type 0
LowerGoesOn = (link : LinkState) (fleet : FleetState) → MayGoBack link fleet
    → FleetGoesOn fleet (after_lower link fleet)

-- ---- taking out and putting back

-- a link that was used, however often, may go back
abbrev pub MayGoBackThen : Type 0
MayGoBackThen = (number : ℕ) (before after : LinkState) (fleet : FleetState)
    → lifted number fleet ≡ Some before → FollowsFrom before after
    → MayGoBack after (after_lift number fleet)

-- then its machine has the log that the link saw, and nothing else has changed
abbrev pub LowersWhatWasLifted : Type 0
LowersWhatWasLifted = (number : ℕ) (before after : LinkState) (fleet : FleetState)
    → lifted number fleet ≡ Some before → after.machine ≡ before.machine
    → after_lower after (after_lift number fleet) ≡ with_log number after.seen fleet

-- the log that was there changes nothing, and of two the later one counts
abbrev pub SameLogIsNothing : Type 0
SameLogIsNothing = (number : ℕ) (vm : VmState) (fleet : FleetState)
    → vm_of number fleet ≡ Some vm → with_log number vm.log fleet ≡ fleet

abbrev pub LaterLogCounts : Type 0
LaterLogCounts = (number : ℕ) (log later : List Entry) (fleet : FleetState)
    → with_log number later (with_log number log fleet) ≡ with_log number later fleet

-- ---- all machines stay in, but for one that is taken out

abbrev pub EmptyIsIn : Type 0
EmptyIsIn = AllAreIn empty_fleet

abbrev pub HostsStayIn : Type 0
HostsStayIn = (name : List ℕ) (limit : ℕ) (fleet : FleetState) → AllAreIn fleet
    → AllAreIn (with_host name limit fleet)

abbrev pub VmsStayIn : Type 0
VmsStayIn = (name host capacities : List ℕ) (fleet : FleetState) → AllAreIn fleet
    → AllAreIn (with_vm_under name host capacities fleet)

abbrev pub LogsStayIn : Type 0
LogsStayIn = (number : ℕ) (log : List Entry) (fleet : FleetState) → AllAreIn fleet
    → AllAreIn (with_log number log fleet)

abbrev pub InIsFound : Type 0
InIsFound = (number : ℕ) (fleet : FleetState) → AllAreIn fleet
    → vm_in number fleet ≡ vm_of number fleet
