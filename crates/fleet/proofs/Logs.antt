-- One item of a list that is replaced, and with it one machine of a fleet.
use Rattle.std.proofs.Common.{◌≡◌, ◌≢◌, ℕ, zero, suc, ◌+◌, ◌-◌, ◌<◌, ◌≤◌, Bool, true, false, cond, List, [], ◌∷◌, length, set, take, Option, Some, None, option_map, nat_le, refl, ap, ◌∙◌, sym, subst, slice_get, arith}
use Rattle.std.proofs.Math.Seq.{take-length}
use Rattle.std.proofs.lemmas.List.{set-set}
use Rattle.std.proofs.lemmas.Option.{none-some, same_Some, slice_get_within}
use Rattle.basics.proofs.ItemAt.{slice_get-set_same, slice_get-set_other}
use Rattle.log_model.specs.declared.entry.Entry.{Entry}
use Rattle.fleet.specs.Fleet.{VmState, FleetState, vm_of, with_vm_at, with_log, VmGoesOn, FleetGoesOn}

set_back : {X : Type 0} (xs : List X) (i : ℕ) (x : X) → slice_get xs i ≡ Some x → set xs i x ≡ xs
set_back [] i x h = refl
set_back (y ∷ xs) zero x h = ap (λ z. z ∷ xs) (sym (same_Some y x h))
set_back (y ∷ xs) (suc i) x h = ap (λ l. y ∷ l) (set_back xs i x h)

module _ (number : ℕ) (vm : VmState) (fleet : FleetState) (is : vm_of number fleet ≡ Some vm) where
  at_least : nat_le 1 number ≡ true
  at_least = by (nat_le 1 number) is
    where
      by : (b : Bool) → cond b (slice_get fleet.vms (number - 1)) None ≡ Some vm → b ≡ true
      by true h = refl
      by false h = absurd (none-some vm h)

  pub at_place : slice_get fleet.vms (number - 1) ≡ Some vm
  at_place = sym (ap (λ b. cond b (slice_get fleet.vms (number - 1)) None) at_least) ∙ is

  pub found_changed : (new : VmState) → vm_of number (with_vm_at number new fleet) ≡ Some new
  found_changed new = rw at_least (slice_get-set_same fleet.vms (number - 1) new
      (slice_get_within fleet.vms (number - 1) vm at_place))

  pub others_unchanged : (other : ℕ) (new : VmState) → other ≢ number
      → vm_of other (with_vm_at number new fleet) ≡ vm_of other fleet
  others_unchanged zero new differs = refl
  others_unchanged (suc other) new differs =
      let some : 1 ≤ number = grind (arith, at_least) in
      let apart : number - 1 ≢ suc other - 1 = λ same. differs (omega (arith, some, same)) in
      ap (λ o. cond (nat_le 1 (suc other)) o None)
      (slice_get-set_other fleet.vms (number - 1) (suc other - 1) new apart)

  pub same_is_nothing : with_vm_at number vm fleet ≡ fleet
  same_is_nothing =
      ap (λ vms. record fleet { vms = vms }) (set_back fleet.vms (number - 1) vm at_place)

  pub later_counts : (new later : VmState)
      → with_vm_at number later (with_vm_at number new fleet) ≡ with_vm_at number later fleet
  later_counts new later =
      ap (λ vms. record fleet { vms = vms }) (set-set fleet.vms (number - 1) new later)

  pub log_is : (log : List Entry)
      → with_log number log fleet ≡ with_vm_at number (record vm { log = log }) fleet
  log_is log = rw is refl

pub is_within : (number : ℕ) (vm : VmState) (fleet : FleetState) → vm_of number fleet ≡ Some vm
    → (1 ≤ number) × (number ≤ length fleet.vms)
is_within number vm fleet is =
    let some : 1 ≤ number = grind (arith, at_least number vm fleet is) in
    let below = slice_get_within fleet.vms (number - 1) vm (at_place number vm fleet is) in
    (some, omega (arith, some, below))

-- ---- the laws of logs that change

pub log_is_found : (number : ℕ) (log : List Entry) (fleet : FleetState)
    → vm_of number (with_log number log fleet)
    ≡ option_map {T = VmState} (λ vm. record vm { log = log }) (vm_of number fleet)
log_is_found number log fleet = by (vm_of number fleet) refl
  where
    by : (o : Option VmState) → vm_of number fleet ≡ o
        → vm_of number (with_log number log fleet)
        ≡ option_map {T = VmState} (λ vm. record vm { log = log }) (vm_of number fleet)
    by None is = rw is is
    by (Some vm) is = rw (log_is number vm fleet is log)
        (found_changed number vm fleet is (record vm { log = log }) ∙ rw is refl)

pub others_stay : (number other : ℕ) (log : List Entry) (fleet : FleetState) → other ≢ number
    → vm_of other (with_log number log fleet) ≡ vm_of other fleet
others_stay number other log fleet differs = by (vm_of number fleet) refl
  where
    by : (o : Option VmState) → vm_of number fleet ≡ o
        → vm_of other (with_log number log fleet) ≡ vm_of other fleet
    by None is = rw is refl
    by (Some vm) is = rw (log_is number vm fleet is log)
        (others_unchanged number vm fleet is other (record vm { log = log }) differs)

pub later_log : (number : ℕ) (log later : List Entry) (fleet : FleetState)
    → with_log number later (with_log number log fleet) ≡ with_log number later fleet
later_log number log later fleet = by (vm_of number fleet) refl
  where
    by : (o : Option VmState) → vm_of number fleet ≡ o
        → with_log number later (with_log number log fleet) ≡ with_log number later fleet
    by None is = ap (with_log number later) (rw is refl)
    by (Some vm) is =
        let new : VmState = record vm { log = log } in
        ap (with_log number later) (log_is number vm fleet is log)
        ∙ log_is number new (with_vm_at number new fleet) (found_changed number vm fleet is new)
        later
        ∙ later_counts number vm fleet is new (record vm { log = later })
        ∙ sym (log_is number vm fleet is later)

-- ---- a fleet in which one machine goes on

pub vm_stays : (vm : VmState) → VmGoesOn vm vm
vm_stays vm = record { name = refl; host = refl; capacities = refl; log = take-length vm.log }

each_goes_on : (vms : List VmState) (place : ℕ) (new old : VmState)
    → slice_get vms place ≡ Some old → VmGoesOn old new
    → (k : ℕ) (vm : VmState) → slice_get vms k ≡ Some vm
    → (later : VmState) × (slice_get (set vms place new) k ≡ Some later) × VmGoesOn vm later
each_goes_on [] place new old at on k vm h = absurd (none-some vm h)
each_goes_on (y ∷ vms) zero new old at on zero vm h =
    (new, refl, subst (λ (v : VmState). VmGoesOn v new) (same_Some old vm (sym at ∙ h)) on)
each_goes_on (y ∷ vms) zero new old at on (suc k) vm h = (vm, h, vm_stays vm)
each_goes_on (y ∷ vms) (suc place) new old at on zero vm h = (vm, h, vm_stays vm)
each_goes_on (y ∷ vms) (suc place) new old at on (suc k) vm h =
    each_goes_on vms place new old at on k vm h

pub changed_goes_on : (number : ℕ) (vm new : VmState) (fleet : FleetState)
    → vm_of number fleet ≡ Some vm → VmGoesOn vm new
    → FleetGoesOn fleet (with_vm_at number new fleet)
changed_goes_on number vm new fleet is on = record {
  hosts = take-length fleet.hosts;
  vms = each_goes_on fleet.vms (number - 1) new vm (at_place number vm fleet is) on;
}

pub goes_on_itself : (fleet : FleetState) → FleetGoesOn fleet fleet
goes_on_itself fleet = record {
  hosts = take-length fleet.hosts;
  vms = λ k vm h. (vm, h, vm_stays vm);
}
