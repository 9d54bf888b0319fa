-- What is found in a fleet by a name, and in one with a machine that is taken out or put back.
use Rattle.std.proofs.Common.{◌≡◌, ℕ, ◌+◌, ◌-◌, ◌<◌, ◌≤◌, Bool, true, false, List, [], length, get_or, set, take, Option, Some, None, option_map, option_and_then, IsSomeAnd, cond, refl, ap, ◌∙◌, sym, subst, slice_get, nat_lt, if◌then◌else◌, arith}
use Rattle.std.specs.List.{position, position_or_len}
use Rattle.std.specs.Str.{bytes_eq}
use Rattle.std.proofs.lemmas.List.{length-set}
use Rattle.std.proofs.lemmas.List.Folds.{position_or_len-set}
use Rattle.std.proofs.lemmas.List.Quantifiers.{position-Some}
use Rattle.std.proofs.Math.Seq.{take-length}
use Rattle.std.proofs.lemmas.Option.{none-some, same_Some, slice_get-get_or, get_or_from_slice_get}
use Rattle.std.proofs.lemmas.Slice.Eq.{bytes_eq-Decides}
use Rattle.basics.specs.Prefix.{IsPrefix}
use Rattle.log_model.specs.declared.entry.TheConstants.{MIGRATION_CALLER}
use Rattle.log_model.specs.declared.entry.Entry.{Entry}
use Rattle.log_model.specs.Link.{LinkState}
use Rattle.source_vm.specs.Machine.{MachineState, link_of}
use Rattle.fleet.specs.Fleet.{HostState, VmState, FleetState, host_place, vm_number, vm_of, vm_in, machine_of, with_vm_at, with_log, VmGoesOn, FleetGoesOn}
use Rattle.fleet.specs.Lending.{lifted, after_lift, after_lower, IsOver, MayGoBack}
use Rattle.fleet.proofs.Logs.{at_place, found_changed, later_counts, log_is, changed_goes_on, goes_on_itself}
use Rattle.fleet.proofs.Replacing.{vm_of-at}

-- ---- by a name

named_at : {X : Type 0} (name_of : X → List ℕ) (name : List ℕ) (xs : List X) (place : ℕ) (d : X)
    → position (λ x. bytes_eq name (name_of x)) xs ≡ Some place
    → (x : X) × (slice_get xs place ≡ Some x) × (name_of x ≡ name)
named_at name_of name xs place d at =
    let found = position-Some (λ x. bytes_eq name (name_of x)) xs place d at in (
      get_or xs place d,
      slice_get-get_or xs place d found.0,
      sym ((bytes_eq-Decides name (name_of (get_or xs place d))).0 found.1),
    )

pub names_lead_to_hosts : (name : List ℕ) (place : ℕ) (fleet : FleetState)
    → host_place name fleet ≡ Some place
    → (host : HostState) × (slice_get fleet.hosts place ≡ Some host) × (host.name ≡ name)
names_lead_to_hosts name place fleet at =
    named_at (λ (h : HostState). h.name) name fleet.hosts place (record { name = []; limit = 0 }) at

one_more : (o : Option ℕ) (number : ℕ) → option_map (λ place. place + 1) o ≡ Some number
    → (place : ℕ) × (o ≡ Some place) × (number ≡ place + 1)
one_more None number h = absurd (none-some number h)
one_more (Some place) number h = (place, refl, sym (same_Some (place + 1) number h))

pub names_lead_to_vms : (name : List ℕ) (number : ℕ) (fleet : FleetState)
    → vm_number name fleet ≡ Some number
    → (vm : VmState) × (vm_of number fleet ≡ Some vm) × (vm.name ≡ name)
names_lead_to_vms name number fleet h =
    let p = one_more _ number h in
    let none : VmState = record { name = []; host = 0; capacities = []; log = []; out = false } in
    let found = named_at (λ (vm : VmState). vm.name) name fleet.vms p.0 none p.1 in
    (found.0, vm_of-at number p.0 fleet p.2 ∙ found.1, found.2)

pub numbers_stay : (number : ℕ) (log : List Entry) (name : List ℕ) (fleet : FleetState)
    → vm_number name (with_log number log fleet) ≡ vm_number name fleet
numbers_stay number log name fleet = by (vm_of number fleet) refl
  where
    by : (o : Option VmState) → vm_of number fleet ≡ o
        → vm_number name (with_log number log fleet) ≡ vm_number name fleet
    by None is = rw is refl
    by (Some vm) is =
        let new : VmState = record vm { log = log } in
        let same : bytes_eq name new.name ≡ bytes_eq name (get_or fleet.vms (number - 1) vm).name =
        ap (λ (v : VmState). bytes_eq name v.name)
        (sym (get_or_from_slice_get fleet.vms (number - 1) vm vm
        (at_place number vm fleet is))) in
        rw (
          log_is number vm fleet is log,
          position_or_len-set (λ (v : VmState). bytes_eq name v.name) fleet.vms (number - 1) new vm
              same,
          length-set fleet.vms (number - 1) new,
        ) refl

-- ---- taken out

-- a link that is lifted is over a machine that was in
lifted_is : (number : ℕ) (before : LinkState) (fleet : FleetState)
    → lifted number fleet ≡ Some before
    → (vm : VmState) × (vm_of number fleet ≡ Some vm) × (vm.out ≡ false) × (before.machine ≡ number)
lifted_is number before fleet h = by (vm_of number fleet) refl h
  where
    by : (o : Option VmState) → vm_of number fleet ≡ o
        → option_map (link_of MIGRATION_CALLER) (option_map {T = VmState} {U = MachineState}
        (λ vm. record { number = number; capacities = vm.capacities; log = vm.log })
        (option_and_then (λ vm. if vm.out then None else Some vm) o)) ≡ Some before
        → (vm : VmState) × (vm_of number fleet ≡ Some vm) × (vm.out ≡ false)
        × (before.machine ≡ number)
    by None is e = absurd (none-some before e)
    by (Some vm) is e = in_or_out vm.out refl e
      where
        in_or_out : (out : Bool) → vm.out ≡ out
            → option_map (link_of MIGRATION_CALLER) (option_map {T = VmState} {U = MachineState}
            (λ v. record { number = number; capacities = v.capacities; log = v.log })
            (if out then None else Some vm)) ≡ Some before
            → (vm : VmState) × (vm_of number fleet ≡ Some vm) × (vm.out ≡ false)
            × (before.machine ≡ number)
        in_or_out true out f = absurd (none-some before f)
        in_or_out false out f =
            (vm, is, out, ap (λ (l : LinkState). l.machine) (sym (same_Some _ before f)))

-- and nobody else reaches it
pub lifted-alone : (number : ℕ) (before : LinkState) (fleet : FleetState)
    → lifted number fleet ≡ Some before → before.unshared ≡ true
lifted-alone number before fleet is = by (machine_of number fleet) is
  where
    by : (o : Option MachineState)
        → option_map (link_of MIGRATION_CALLER) o ≡ Some before → before.unshared ≡ true
    by None e = absurd (none-some before e)
    by (Some m) e = ap (λ (l : LinkState). l.unshared) (sym (same_Some _ before e))

after_lift_is : (number : ℕ) (vm : VmState) (fleet : FleetState) → vm_of number fleet ≡ Some vm
    → vm.out ≡ false → after_lift number fleet ≡ with_vm_at number (record vm { out = true }) fleet
after_lift_is number vm fleet is within = rw (is, within) refl

pub lowers_what_was_lifted : (number : ℕ) (before after : LinkState) (fleet : FleetState)
    → lifted number fleet ≡ Some before → after.machine ≡ before.machine
    → after_lower after (after_lift number fleet) ≡ with_log number after.seen fleet
lowers_what_was_lifted number before after fleet out same =
    let l = lifted_is number before fleet out in
    let vm = l.0 in
    let there : VmState = record vm { out = true } in
    let back : VmState = record vm { log = after.seen; out = false } in
    let number_is : after.machine ≡ number = same ∙ l.3 in
    let found : vm_of number (with_vm_at number there fleet) ≡ Some there =
    found_changed number vm fleet l.1 there in
    ap (after_lower after) (after_lift_is number vm fleet l.1 l.2)
    ∙ rw (number_is, found) (later_counts number vm fleet l.1 there back)
    ∙ ap (λ out. with_vm_at number (record vm { log = after.seen; out = out }) fleet) (sym l.2)
    ∙ sym (log_is number vm fleet l.1 after.seen)

-- ---- a fleet goes on

pub logs_go_on : (number : ℕ) (log : List Entry) (vm : VmState) (fleet : FleetState)
    → vm_of number fleet ≡ Some vm → IsPrefix vm.log log
    → FleetGoesOn fleet (with_log number log fleet)
logs_go_on number log vm fleet is longer = rw (log_is number vm fleet is log)
    (changed_goes_on number vm (record vm { log = log }) fleet is
    (record { name = refl; host = refl; capacities = refl; log = longer }))

pub lift_goes_on : (number : ℕ) (fleet : FleetState) → FleetGoesOn fleet (after_lift number fleet)
lift_goes_on number fleet = by (vm_of number fleet) refl
  where
    by : (o : Option VmState) → vm_of number fleet ≡ o → FleetGoesOn fleet (after_lift number fleet)
    by None is = rw is (goes_on_itself fleet)
    by (Some vm) is = in_or_out vm.out refl
      where
        in_or_out : (out : Bool) → vm.out ≡ out → FleetGoesOn fleet (after_lift number fleet)
        in_or_out true out = rw (is, out) (goes_on_itself fleet)
        in_or_out false out = rw (after_lift_is number vm fleet is out)
            (changed_goes_on number vm (record vm { out = true }) fleet is
            (record { name = refl; host = refl; capacities = refl; log = take-length vm.log }))

pub lower_goes_on : (link : LinkState) (fleet : FleetState) → MayGoBack link fleet
    → FleetGoesOn fleet (after_lower link fleet)
lower_goes_on link fleet may = by (vm_of link.machine fleet) refl may
  where
    by : (o : Option VmState) → vm_of link.machine fleet ≡ o
        → IsSomeAnd o (λ vm. IsOver vm link) → FleetGoesOn fleet (after_lower link fleet)
    by None is over = absurd over
    by (Some vm) is over = rw is
        (changed_goes_on link.machine vm (record vm { log = link.seen; out = false }) fleet is
        (record { name = refl; host = refl; capacities = refl; log = over.log }))
