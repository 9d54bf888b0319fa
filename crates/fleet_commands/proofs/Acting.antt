-- What one act on a machine that was taken out of a fleet by its name leaves of the fleet.
use Rattle.std.proofs.Common.{◌≡◌, ℕ, List, Some, Result, Ok, Err, refl, ap, subst}
use Rattle.log_model.specs.declared.entry.Act.{Act}
use Rattle.log_model.specs.declared.entry.TheConstants.{MIGRATION_CALLER}
use Rattle.log_model.specs.declared.refusals.LinkRefused.{LinkRefused}
use Rattle.log_model.specs.Legal.{Legal, all_of}
use Rattle.log_model.specs.Link.{LinkState, AddsAct, log_met, after_act_alone}
use Rattle.log_model.proofs.LinkLaws.{adds-go_on, adds-alone, met-alone}
use Rattle.source_vm.specs.Machine.{MachineState, Adds, with_act, link_of}
use Rattle.source_vm.proofs.Additions.{adds-follow}
use Rattle.fleet.specs.Fleet.{FleetState}
use Rattle.fleet.specs.Lending.{after_lift, after_lower, MayGoBack}
use Rattle.fleet_commands.specs.Machines.{machine_named, after_act}
use Rattle.fleet_commands.proofs.Lifting.{may_go_back, goes_back_same, goes_back_after}

-- ---- through a link

module _ {T : Type 0} (vm : List ℕ) (m : MachineState) (fleet : FleetState)
    (is : machine_named vm fleet ≡ Some m) (link : LinkState) (act : Act)
    (result : Result T LinkRefused) (adds : AddsAct result act (link_of MIGRATION_CALLER m) link)
  where
    pub acted_may_go_back : MayGoBack link (after_lift m.number fleet)
    acted_may_go_back =
        may_go_back vm m fleet is link
        (adds-go_on (link_of MIGRATION_CALLER m) link result act adds)

    left : link ≡ after_act_alone result act (link_of MIGRATION_CALLER m)
    left = adds-alone (link_of MIGRATION_CALLER m) link result act refl adds

    pub met_log : log_met result link ≡ m.log
    met_log = met-alone (link_of MIGRATION_CALLER m) link result act refl adds

    pub accepted_act : (answer : T) → result ≡ Ok answer
        → after_lower link (after_lift m.number fleet) ≡ after_act vm (λ log. act) fleet
    accepted_act answer ok =
        let after = subst (λ (r : Result T LinkRefused).
        link ≡ after_act_alone r act (link_of MIGRATION_CALLER m)) ok left in
        goes_back_after vm m fleet is (λ log. act) link (ap (λ (l : LinkState). l.machine) after)
        (ap (λ (l : LinkState). l.seen) after)

    pub refused_act : (why : LinkRefused) → result ≡ Err why
        → after_lower link (after_lift m.number fleet) ≡ fleet
    refused_act why err =
        goes_back_same vm m fleet is link (subst (λ (r : Result T LinkRefused).
        link ≡ after_act_alone r act (link_of MIGRATION_CALLER m)) err left)

-- ---- by the machine itself

module _ {T E : Type 0} (vm : List ℕ) (m : MachineState) (fleet : FleetState)
    (is : machine_named vm fleet ≡ Some m) (new : MachineState) (act : Act)
    (result : Result T E) (adds : Adds result MIGRATION_CALLER act m new) where
  same_sizes : new.capacities ≡ m.capacities
  same_sizes = by result adds
    where
      by : (r : Result T E) → Adds r MIGRATION_CALLER act m new → new.capacities ≡ m.capacities
      by (Ok answer) added = ap (λ (x : MachineState). x.capacities) added
      by (Err why) same = ap (λ (x : MachineState). x.capacities) same

  pub added_may_go_back : Legal (all_of new.capacities) new.log
      → MayGoBack (link_of MIGRATION_CALLER new) (after_lift m.number fleet)
  added_may_go_back legal = may_go_back vm m fleet is (link_of MIGRATION_CALLER new)
      (adds-follow result MIGRATION_CALLER act m new adds
      (subst (λ (sizes : List ℕ). Legal (all_of sizes) new.log) same_sizes legal))

  pub accepted_addition : (answer : T) → result ≡ Ok answer
      → after_lower (link_of MIGRATION_CALLER new) (after_lift m.number fleet)
      ≡ after_act vm (λ log. act) fleet
  accepted_addition answer ok =
      let added : new ≡ with_act MIGRATION_CALLER act m =
      subst (λ (r : Result T E). Adds r MIGRATION_CALLER act m new) ok adds in
      goes_back_after vm m fleet is (λ log. act) (link_of MIGRATION_CALLER new)
      (ap (λ (x : MachineState). x.number) added) (ap (λ (x : MachineState). x.log) added)

  pub refused_addition : (why : E) → result ≡ Err why
      → after_lower (link_of MIGRATION_CALLER new) (after_lift m.number fleet) ≡ fleet
  refused_addition why err =
      goes_back_same vm m fleet is (link_of MIGRATION_CALLER new)
      (ap (link_of MIGRATION_CALLER)
      (subst (λ (r : Result T E). Adds r MIGRATION_CALLER act m new) err adds))
