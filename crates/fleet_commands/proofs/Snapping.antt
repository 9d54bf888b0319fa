-- A snapshot that a machine takes is what the command is answered.
use Rattle.std.proofs.Common.{◌≡◌, ℕ, ◌+◌, List, [], ◌∷◌, ◌++◌, length, take, false, Option, Some, option_and_then, Result, Ok, Err, refl, ap, ◌∙◌, sym}
use Rattle.std.proofs.Math.Seq.{take-append_seam, take-length}
use Rattle.basics.specs.Refusal.{IsRefusedOr}
use Rattle.change_id.specs.declared.ChangeId.{ChangeId}
use Rattle.reply_json.specs.declared.reply.Reply.TheVariants.{Snapshot}
use Rattle.log_model.specs.Legal.{taken}
use Rattle.log_model.specs.Link.{LinkState, after_act_alone}
use Rattle.log_model.specs.Refusals.{snap_refusal}
use Rattle.log_model.specs.declared.entry.Entry.{Entry}
use Rattle.log_model.specs.declared.entry.TheConstants.{MIGRATION_CALLER}
use Rattle.log_model.specs.declared.refusals.LinkRefused.{LinkRefused}
use Rattle.log_model.specs.declared.refusals.LinkRefused.TheVariants.{NoMemory}
use Rattle.source_vm.specs.Machine.{MachineState, link_of}
use Rattle.fleet.specs.Fleet.{FleetState}
use Rattle.fleet.specs.Lending.{after_lift, after_lower, MayGoBack}
use Rattle.answers.specs.Answer.{AnswersFor}
use Rattle.log_model.specs.Entry.{entry_of}
use Rattle.fleet_commands.specs.Machines.{machine_named}
use Rattle.fleet_commands.specs.Refusals.{link_told}
use Rattle.fleet_commands.specs.commands.Snapshot.{snap_act, ids_at, next_snapshot, snapshot_refusal, snapshot_reply, after_snapshot}
use Rattle.answers.specs.declared.refusal.Refusal.{Refusal}
use Rattle.fleet_commands.proofs.Lifting.{refused_as, replied_as, longer_may_go_back, goes_back_same, goes_back_after}
use Rattle.fleet_commands.proofs.Telling.{told_none, told_some}

module _ (vm : List ℕ) (m : MachineState) (fleet : FleetState)
    (is : machine_named vm fleet ≡ Some m) (link : LinkState) (result : Result ℕ LinkRefused)
    (adds : link ≡ after_act_alone result (snap_act m.log) (link_of MIGRATION_CALLER m))
    (refused : IsRefusedOr (snap_refusal false m.log) NoMemory result) where
  pub snapshot_answers : (snapshot : ℕ) → result ≡ Ok snapshot → snapshot ≡ taken m.log + 1
      → (ids : List (Option ChangeId))
      → ids ≡ ids_at m.number m.capacities (taken m.log + 1) link.seen
      → AnswersFor (snapshot_refusal vm fleet) (snapshot_reply vm fleet) (after_snapshot vm fleet)
      (Ok (Snapshot snapshot ids)) fleet (after_lower link (after_lift m.number fleet))
  snapshot_answers snapshot ok number ids found =
      let there : link ≡ after_act_alone {T = ℕ} (Ok snapshot) (snap_act m.log)
      (link_of MIGRATION_CALLER m) =
      adds ∙ ap (λ r. after_act_alone r (snap_act m.log) (link_of MIGRATION_CALLER m)) ok in
      let seen : link.seen ≡ m.log ++ entry_of (snap_act m.log) ∷ [] =
      ap (λ (l : LinkState). l.seen) there in (
        refused_as vm m fleet is (λ x. option_and_then link_told (snap_refusal false x.log))
            ∙ told_none link_told (snap_refusal false m.log) NoMemory result snapshot refused ok,
        ap (λ n. Snapshot n ids) number
            ∙ ap (Snapshot (taken m.log + 1)) (found
            ∙ ap (ids_at m.number m.capacities (taken m.log + 1)) seen)
            ∙ sym (replied_as vm m fleet is next_snapshot),
        goes_back_after vm m fleet is snap_act link (ap (λ (l : LinkState). l.machine) there) seen,
      )

  -- the machine may go back, whatever was answered
  pub taken_may_go_back : MayGoBack link (after_lift m.number fleet)
  taken_may_go_back = by result adds
    where
      by : (r : Result ℕ LinkRefused)
          → link ≡ after_act_alone r (snap_act m.log) (link_of MIGRATION_CALLER m)
          → MayGoBack link (after_lift m.number fleet)
      by (Ok snapshot) there =
          let one : List Entry = entry_of (snap_act m.log) ∷ [] in
          longer_may_go_back vm m fleet is link (ap (λ (l : LinkState). l.machine) there)
          (ap (λ (l : LinkState). l.capacities) there)
          (ap (λ (l : LinkState). take (length m.log) l.seen) there
          ∙ take-append_seam m.log one)
      by (Err why) there =
          longer_may_go_back vm m fleet is link (ap (λ (l : LinkState). l.machine) there)
          (ap (λ (l : LinkState). l.capacities) there)
          (ap (λ (l : LinkState). take (length m.log) l.seen) there ∙ take-length m.log)

  pub nothing_taken : (why : LinkRefused) → result ≡ Err why
      → after_lower link (after_lift m.number fleet) ≡ fleet
  nothing_taken why err = goes_back_same vm m fleet is link
      (adds ∙ ap (λ r. after_act_alone r (snap_act m.log) (link_of MIGRATION_CALLER m)) err)

  pub snapshot_refuses : (why : LinkRefused) → result ≡ Err why → (said : Refusal)
      → link_told why ≡ Some said
      → AnswersFor (snapshot_refusal vm fleet) (snapshot_reply vm fleet) (after_snapshot vm fleet)
      (Err said) fleet (after_lower link (after_lift m.number fleet))
  snapshot_refuses why err said told = (
    refused_as vm m fleet is (λ x. option_and_then link_told (snap_refusal false x.log))
        ∙ told_some link_told (snap_refusal false m.log) NoMemory result why said refused err refl
        told,
    nothing_taken why err,
  )
