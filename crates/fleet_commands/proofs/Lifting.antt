-- A machine that is taken out of a fleet by its name, changed through a link that nobody shares,
-- and put back.
use Rattle.std.proofs.Common.{◌≡◌, ℕ, Bool, true, false, List, [], ◌∷◌, ◌++◌, Option, Some, None, option_map, option_and_then, IsSomeAnd, refl, ap, ◌∙◌, sym, subst, if◌then◌else◌}
use Rattle.std.specs.Option.{option_map_or}
use Rattle.std.proofs.lemmas.Option.{none-some, same_Some, option_and_then_some}
use Rattle.basics.specs.Prefix.{IsPrefix}
use Rattle.reply_json.specs.declared.reply.Reply.{Reply}
use Rattle.reply_json.specs.declared.reply.Reply.TheVariants.{Done}
use Rattle.log_model.specs.declared.entry.Act.{Act}
use Rattle.log_model.specs.declared.entry.Entry.{Entry}
use Rattle.log_model.specs.declared.entry.TheConstants.{MIGRATION_CALLER}
use Rattle.log_model.specs.Link.{LinkState, FollowsFrom}
use Rattle.source_vm.specs.Machine.{MachineState, link_of, may_have_disks}
use Rattle.fleet.specs.Fleet.{VmState, FleetState, vm_number, vm_of, vm_in, machine_of, with_vm_at, with_log}
use Rattle.fleet.specs.Lending.{lifted, after_lift, after_lower, IsOver, MayGoBack}
use Rattle.fleet.specs.Sound.{IsFleet}
use Rattle.fleet.proofs.In.{IsIn, is_in}
use Rattle.fleet.proofs.Logs.{at_place, found_changed, log_is, same_is_nothing}
use Rattle.fleet.proofs.Found.{lowers_what_was_lifted}
use Rattle.fleet.proofs.StaysSound.{IsVm-at}
use Rattle.log_model.specs.Entry.{entry_of}
use Rattle.fleet_commands.specs.Machines.{machine_named, at_machine, reply_at, after_act}
use Rattle.answers.specs.declared.refusal.Refusal.{Refusal}
use Rattle.answers.specs.declared.refusal.Refusal.TheVariants.{UnknownVm}

-- ---- by number

-- where nothing is lifted, the machine isn't found and nothing changes
pub not_lifted : (number : ℕ) (fleet : FleetState) → lifted number fleet ≡ None
    → (machine_of number fleet ≡ None) × (after_lift number fleet ≡ fleet)
not_lifted number fleet h = by (vm_in number fleet) refl h
  where
    by : (o : Option VmState) → vm_in number fleet ≡ o
        → option_map (link_of MIGRATION_CALLER) (option_map {T = VmState} {U = MachineState}
        (λ vm. record { number = number; capacities = vm.capacities; log = vm.log }) o) ≡ None
        → (machine_of number fleet ≡ None) × (after_lift number fleet ≡ fleet)
    by None is e = (rw is refl, rw is refl)
    by (Some vm) is e = absurd (none-some _ (sym e))

-- the machine that a link is over
abbrev machine_under : LinkState → MachineState
machine_under link =
    record { number = link.machine; capacities = link.capacities; log = link.seen }

-- what is lifted is the machine that is found, and has its number
pub is_lifted : (number : ℕ) (link : LinkState) (fleet : FleetState)
    → lifted number fleet ≡ Some link
    → (machine_of number fleet ≡ Some (machine_under link)) × (link.machine ≡ number)
is_lifted number link fleet h = by (machine_of number fleet) refl h
  where
    by : (o : Option MachineState) → machine_of number fleet ≡ o
        → option_map (link_of MIGRATION_CALLER) o ≡ Some link
        → (machine_of number fleet ≡ Some (machine_under link)) × (link.machine ≡ number)
    by None is e = absurd (none-some link e)
    by (Some m) is e =
        let same : link_of MIGRATION_CALLER m ≡ link = same_Some _ link e in (
          is ∙ ap (λ (l : LinkState). Some (machine_under l)) same,
          ap (λ (l : LinkState). l.machine) (sym same)
              ∙ ap (λ (x : MachineState). x.number) (is_in number m fleet is).1.same,
        )

-- a machine of a fleet may have the disks that it has
pub disks_may_be : (number : ℕ) (m : MachineState) (fleet : FleetState) → IsFleet fleet
    → machine_of number fleet ≡ Some m → may_have_disks m.capacities ≡ true
disks_may_be number m fleet sound is =
    let here = is_in number m fleet is in
    let vm : VmState = here.0 in
    ap may_have_disks (ap (λ (x : MachineState). x.capacities) here.1.same)
    ∙ (IsVm-at _ vm fleet sound (at_place number vm fleet here.1.there)).disks

-- ---- by name

pub unknown_to : (vm : List ℕ) (refusal : MachineState → Option Refusal) (fleet : FleetState)
    → machine_named vm fleet ≡ None → at_machine vm refusal fleet ≡ Some UnknownVm
unknown_to vm refusal fleet is =
    ap (λ (o : Option MachineState). option_map_or refusal o (Some UnknownVm)) is

module _ (vm : List ℕ) (m : MachineState) (fleet : FleetState)
    (is : machine_named vm fleet ≡ Some m) where
  pub refused_as : (refusal : MachineState → Option Refusal)
      → at_machine vm refusal fleet ≡ refusal m
  refused_as refusal =
      ap (λ (o : Option MachineState). option_map_or refusal o (Some UnknownVm)) is

  pub replied_as : (reply : MachineState → Reply) → reply_at vm reply fleet ≡ reply m
  replied_as reply = ap (λ (o : Option MachineState). option_map_or reply o Done) is

  pub after_as : (act : List Entry → Act) → after_act vm act fleet
      ≡ with_log m.number (m.log ++ entry_of (act m.log) ∷ []) fleet
  after_as act = ap (λ (o : Option MachineState). option_map_or {T = MachineState} {U = FleetState}
      (λ x. with_log x.number (x.log ++ entry_of (act x.log) ∷ []) fleet) o fleet) is

  named : (number : ℕ) × (vm_number vm fleet ≡ Some number) × (machine_of number fleet ≡ Some m)
  named = option_and_then_some (λ number. machine_of number fleet) (vm_number vm fleet) m is
      (λ number at found. (number, at, found))

  number_is : m.number ≡ named.0
  number_is = ap (λ (x : MachineState). x.number) (is_in named.0 m fleet named.2).1.same

  pub at_number : vm_number vm fleet ≡ Some m.number
  at_number = named.1 ∙ ap Some (sym number_is)

  pub found_in : machine_of m.number fleet ≡ Some m
  found_in = ap (λ number. machine_of number fleet) number_is ∙ named.2

  pub vm_here : (v : VmState) × IsIn m.number v m fleet
  vm_here = is_in m.number m fleet found_in

  -- with a longer log it may go back
  pub longer_may_go_back : (link : LinkState) → link.machine ≡ m.number
      → link.capacities ≡ m.capacities → IsPrefix m.log link.seen
      → MayGoBack link (after_lift m.number fleet)
  longer_may_go_back link number_stays sizes_stay longer =
      let v : VmState = vm_here.0 in
      let there : VmState = record v { out = true } in
      let known : vm_of m.number fleet ≡ Some v = vm_here.1.there in
      let within : v.out ≡ false = vm_here.1.within in
      let lent : after_lift m.number fleet ≡ with_vm_at m.number there fleet =
      rw (known, within) refl in
      let found : vm_of link.machine (after_lift m.number fleet) ≡ Some there =
      ap (λ number. vm_of number (after_lift m.number fleet)) number_stays
      ∙ ap (vm_of m.number) lent ∙ found_changed m.number v fleet known there in
      let sizes : m.capacities ≡ v.capacities =
      ap (λ (x : MachineState). x.capacities) vm_here.1.same in
      let entries : m.log ≡ v.log = ap (λ (x : MachineState). x.log) vm_here.1.same in
      subst (λ (o : Option VmState). IsSomeAnd o (λ w. IsOver w link)) (sym found) (record {
        out = refl;
        capacities = sizes_stay ∙ sizes;
        log = subst (λ (log : List Entry). IsPrefix log link.seen) entries longer;
      })

  -- and so after any calls
  pub may_go_back : (link : LinkState) → FollowsFrom (link_of MIGRATION_CALLER m) link
      → MayGoBack link (after_lift m.number fleet)
  may_go_back link follows =
      longer_may_go_back link follows.machine follows.capacities follows.seen

  -- and has then the log that the link saw
  pub goes_back : (link : LinkState) → link.machine ≡ m.number
      → after_lower link (after_lift m.number fleet) ≡ with_log m.number link.seen fleet
  goes_back link same = lowers_what_was_lifted m.number (link_of MIGRATION_CALLER m) link fleet
      (ap (option_map (link_of MIGRATION_CALLER)) found_in) same

  -- nothing has changed where the link is as it was
  pub goes_back_same : (link : LinkState) → link ≡ link_of MIGRATION_CALLER m
      → after_lower link (after_lift m.number fleet) ≡ fleet
  goes_back_same link same =
      let v : VmState = vm_here.0 in
      let known : vm_of m.number fleet ≡ Some v = vm_here.1.there in
      let entries : link.seen ≡ v.log =
      ap (λ (l : LinkState). l.seen) same ∙ ap (λ (x : MachineState). x.log) vm_here.1.same in
      goes_back link (ap (λ (l : LinkState). l.machine) same)
      ∙ ap (λ log. with_log m.number log fleet) entries
      ∙ log_is m.number v fleet known v.log ∙ same_is_nothing m.number v fleet known

  -- and one entry more where the link saw one
  pub goes_back_after : (act : List Entry → Act) (link : LinkState) → link.machine ≡ m.number
      → link.seen ≡ m.log ++ entry_of (act m.log) ∷ []
      → after_lower link (after_lift m.number fleet) ≡ after_act vm act fleet
  goes_back_after act link same seen =
      goes_back link same ∙ ap (λ log. with_log m.number log fleet) seen ∙ sym (after_as act)
