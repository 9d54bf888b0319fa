-- What commands make of the logs of a fleet, each found by the name of its machine.
use Rattle.std.proofs.Common.{◌≡◌, ℕ, ◌+◌, ◌≤◌, Bool, true, false, true≢false, cond, List, [], ◌∷◌, ◌++◌, length, Option, Some, None, option_map, option_and_then, refl, ap, ◌∙◌, sym, nat_lt, arith}
use Rattle.std.specs.Prelude.{IsSome, ◌==◌}
use Rattle.std.specs.List.{find, position_or_len}
use Rattle.std.specs.Option.{option_map_or, option_or}
use Rattle.std.specs.Str.{bytes_eq}
use Rattle.std.proofs.lemmas.List.{append-nil}
use Rattle.std.proofs.lemmas.Bool.{false_from_ne_true}
use Rattle.std.proofs.lemmas.Bool.Decides.{Decides-eqb}
use Rattle.std.proofs.lemmas.List.Folds.{find_at, find-append}
use Rattle.std.proofs.lemmas.Option.{slice_get_past}
use Rattle.std.proofs.lemmas.Option.{none-some, same_Some}
use Rattle.std.proofs.lemmas.Slice.Eq.{bytes_eq-Decides}
use Rattle.log_model.specs.declared.entry.Act.{Act}
use Rattle.log_model.specs.declared.entry.Entry.{Entry}
use Rattle.source_vm.specs.Machine.{MachineState}
use Rattle.fleet.specs.Fleet.{VmState, FleetState, host_place, vm_number, vm_of, with_vm, with_vm_under, with_log}
use Rattle.fleet.specs.Laws.{LogsStayIn}
use Rattle.fleet.specs.Sound.{AllAreIn}
use Rattle.fleet.proofs.Logs.{log_is_found, others_stay}
use Rattle.fleet.proofs.Found.{names_lead_to_vms, numbers_stay}
use Rattle.fleet.proofs.Replacing.{vm_of-at}
use Rattle.log_model.specs.Entry.{entry_of}
use Rattle.fleet_commands.specs.Machines.{machine_named, after_act}
use Rattle.fleet_commands.specs.Logs.{log_named, entry_at, ActsAddThere, HostsAddNone, VmsAddNone, ActsKeepIn}
use Rattle.fleet_commands.proofs.Lifting.{at_number, after_as, vm_here}

-- the log under a number, where there is one
abbrev log_at : (number : Option ℕ) → FleetState → List Entry
log_at number fleet =
    option_map_or (λ (v : VmState). v.log) (option_and_then (λ n. vm_of n fleet) number) []

entry_here : (vm name : List ℕ) (act : Act) → vm ≡ name
    → entry_at vm name act ≡ entry_of act ∷ []
entry_here vm name act same =
    ap (λ b. cond b (entry_of act ∷ []) []) ((bytes_eq-Decides vm name).1 same)

none_here : (vm name : List ℕ) (act : Act) → (vm ≡ name → ⊥) → entry_at vm name act ≡ []
none_here vm name act differ =
    ap (λ b. cond b (entry_of act ∷ []) [])
    (false_from_ne_true (bytes_eq vm name) (λ alike. differ ((bytes_eq-Decides vm name).0 alike)))

-- two names of one machine are the same
one_name : (vm name : List ℕ) (number : ℕ) (fleet : FleetState)
    → vm_number vm fleet ≡ Some number → vm_number name fleet ≡ Some number → vm ≡ name
one_name vm name number fleet at other =
    let one = names_lead_to_vms vm number fleet at in
    let two = names_lead_to_vms name number fleet other in
    sym one.2 ∙ ap (λ (v : VmState). v.name) (same_Some one.0 two.0 (sym one.1 ∙ two.1)) ∙ two.2

module _ (vm name : List ℕ) (act : List Entry → Act) (fleet : FleetState) (m : MachineState)
    (is : machine_named vm fleet ≡ Some m) where
  abbrev After : FleetState
  After = with_log m.number (m.log ++ entry_of (act m.log) ∷ []) fleet

  abbrev Goal : Option ℕ → Type 0
  Goal o = log_at o After
      ≡ log_named name fleet ++ entry_at vm name (act (log_named name fleet))

  nameless : vm_number name fleet ≡ None → Goal None
  nameless none =
      let old : log_named name fleet ≡ [] = ap (λ o. log_at o fleet) none in
      let apart : vm ≡ name → ⊥ = λ same. none-some m.number
      (sym none ∙ ap (λ n. vm_number n fleet) (sym same) ∙ at_number vm m fleet is) in
      let nothing : entry_at vm name (act (log_named name fleet)) ≡ [] =
      none_here vm name (act (log_named name fleet)) apart in
      sym (ap (λ e. log_named name fleet ++ e) nothing ∙ append-nil (log_named name fleet) ∙ old)

  itself : (k : ℕ) → vm_number name fleet ≡ Some k → k ≡ m.number → Goal (Some k)
  itself k there same =
      let here = vm_here vm m fleet is in
      let v : VmState = here.0 in
      let numbered : vm_number name fleet ≡ Some m.number = there ∙ ap Some same in
      let known : vm_of m.number fleet ≡ Some v = here.1.there in
      let old : log_named name fleet ≡ m.log =
      ap (λ o. log_at o fleet) numbered
      ∙ ap (λ (o : Option VmState). option_map_or (λ (w : VmState). w.log) o []) known
      ∙ ap (λ (x : MachineState). x.log) (sym here.1.same) in
      let new : log_at (Some k) After ≡ m.log ++ entry_of (act m.log) ∷ [] =
      ap (λ n. log_at (Some n) After) same
      ∙ ap (λ (o : Option VmState). option_map_or (λ (w : VmState). w.log) o [])
      (log_is_found m.number (m.log ++ entry_of (act m.log) ∷ []) fleet
      ∙ ap (option_map {T = VmState} (λ w. record w { log = m.log ++ entry_of (act m.log) ∷ [] }))
      known) in
      let added : entry_at vm name (act m.log) ≡ entry_of (act m.log) ∷ [] =
      entry_here vm name (act m.log)
      (one_name vm name m.number fleet (at_number vm m fleet is) numbered) in
      new ∙ ap (λ e. m.log ++ e) (sym added)
      ∙ ap (λ (log : List Entry). log ++ entry_at vm name (act log)) (sym old)

  another : (k : ℕ) → vm_number name fleet ≡ Some k → (k ≡ m.number → ⊥) → Goal (Some k)
  another k there differs =
      let old : log_at (Some k) fleet ≡ log_named name fleet =
      ap (λ o. log_at o fleet) (sym there) in
      let new : log_at (Some k) After ≡ log_at (Some k) fleet =
      ap (λ (o : Option VmState). option_map_or (λ (w : VmState). w.log) o [])
      (others_stay m.number k (m.log ++ entry_of (act m.log) ∷ []) fleet differs) in
      let apart : vm ≡ name → ⊥ = λ same. differs (same_Some k m.number
      (sym there ∙ ap (λ n. vm_number n fleet) (sym same) ∙ at_number vm m fleet is)) in
      let nothing : entry_at vm name (act (log_named name fleet)) ≡ [] =
      none_here vm name (act (log_named name fleet)) apart in
      new ∙ old ∙ sym (ap (λ e. log_named name fleet ++ e) nothing
      ∙ append-nil (log_named name fleet))

  by_number : (o : Option ℕ) → vm_number name fleet ≡ o → Goal o
  by_number None none = nameless none
  by_number (Some k) there = by_test (k == m.number) refl
    where
      by_test : (b : Bool) → (k == m.number) ≡ b → Goal (Some k)
      by_test true alike = itself k there ((Decides-eqb k m.number).0 alike)
      by_test false unlike = another k there
          (λ same. true≢false (sym ((Decides-eqb k m.number).1 same) ∙ unlike))

  pub adds_there : log_named name (after_act vm act fleet)
      ≡ log_named name fleet ++ entry_at vm name (act (log_named name fleet))
  adds_there =
      ap (log_named name) (after_as vm m fleet is act)
      ∙ ap (λ o. log_at o After)
      (numbers_stay m.number (m.log ++ entry_of (act m.log) ∷ []) name fleet)
      ∙ by_number (vm_number name fleet) refl

pub acts_add_there : ActsAddThere
acts_add_there vm name act fleet some = by (machine_named vm fleet) refl some
  where
    by : (o : Option MachineState) → machine_named vm fleet ≡ o → IsSome o
        → log_named name (after_act vm act fleet)
        ≡ log_named name fleet ++ entry_at vm name (act (log_named name fleet))
    by None is h = absurd (true≢false (sym h))
    by (Some m) is h = adds_there vm name act fleet m is

-- ---- adding

pub hosts_add_none : HostsAddNone
hosts_add_none host name limit fleet = refl

abbrev log_of : Option VmState → List Entry
log_of found = option_map_or (λ (v : VmState). v.log) found []

abbrev is_named : (name : List ℕ) → VmState → Bool
is_named name v = bytes_eq name v.name

abbrev place_in : (name : List ℕ) → List VmState → ℕ
place_in name vms = position_or_len (is_named name) vms

-- a log that is found by a name is that of the first machine with the name
log_found : (name : List ℕ) (fleet : FleetState)
    → log_named name fleet ≡ log_of (find (is_named name) fleet.vms)
log_found name fleet = by (nat_lt (place_in name fleet.vms) (length fleet.vms)) refl
  where
    by : (b : Bool) → nat_lt (place_in name fleet.vms) (length fleet.vms) ≡ b
        → log_named name fleet ≡ log_of (find (is_named name) fleet.vms)
    by true is =
        ap (λ (b : Bool). log_of (option_and_then (λ n. vm_of n fleet)
        (option_map (λ place. place + 1) (cond b (Some (place_in name fleet.vms)) None)))) is
        ∙ ap log_of (vm_of-at (place_in name fleet.vms + 1) (place_in name fleet.vms) fleet refl
        ∙ sym (find_at (is_named name) fleet.vms))
    by false is =
        let past : length fleet.vms ≤ place_in name fleet.vms = grind (arith, is) in
        ap (λ (b : Bool). log_of (option_and_then (λ n. vm_of n fleet)
        (option_map (λ place. place + 1) (cond b (Some (place_in name fleet.vms)) None)))) is
        ∙ ap log_of (sym (find_at (is_named name) fleet.vms
        ∙ slice_get_past fleet.vms (place_in name fleet.vms) past))

-- one more machine, without entries, adds none
nothing_new : (found : Option VmState) (v : VmState) (b : Bool) → v.log ≡ []
    → log_of (option_or found (cond b (Some v) None)) ≡ log_of found
nothing_new None v true none = none
nothing_new None v false none = refl
nothing_new (Some w) v b none = refl

pub vms_add_none : VmsAddNone
vms_add_none vm host disks name fleet = by (host_place host fleet) refl
  where
    by : (o : Option ℕ) → host_place host fleet ≡ o
        → log_named name (with_vm_under vm host disks fleet) ≡ log_named name fleet
    by None is =
        ap (λ o. log_named name (option_map_or (λ place. with_vm vm place disks fleet) o fleet)) is
    by (Some place) is =
        let added : VmState = record {
          name = vm;
          host = place;
          capacities = disks;
          log = [];
          out = false;
        } in
        ap (λ o. log_named name (option_map_or (λ p. with_vm vm p disks fleet) o fleet)) is
        ∙ log_found name (with_vm vm place disks fleet)
        ∙ ap log_of (find-append (is_named name) fleet.vms (added ∷ []))
        ∙ nothing_new (find (is_named name) fleet.vms) added (bytes_eq name vm) refl
        ∙ sym (log_found name fleet)

-- ---- machines stay in

pub acts_keep_in : LogsStayIn → ActsKeepIn
acts_keep_in logs vm act fleet all = by (machine_named vm fleet)
  where
    by : (o : Option MachineState) → AllAreIn (option_map_or
        (λ m. with_log m.number (m.log ++ entry_of (act m.log) ∷ []) fleet) o fleet)
    by None = all
    by (Some m) = logs m.number (m.log ++ entry_of (act m.log) ∷ []) fleet all
