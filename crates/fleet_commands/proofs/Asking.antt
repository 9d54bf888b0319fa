-- What a machine answers a query is what the command is answered.
use Rattle.std.proofs.Common.{◌≡◌, ℕ, ◌/◌, true, List, Option, Some, None, option_and_then, Result, Ok, Err, IsOk, IfOk, refl, ap, ◌∙◌, sym, subst}
use Rattle.std.proofs.lemmas.Option.{none-some}
use Rattle.basics.specs.Refusal.{IsRefusedBy}
use Rattle.sector_model.specs.Page.{PageContents, page_from}
use Rattle.sector_model.specs.declared.run.Run.{Run}
use Rattle.basics.specs.declared.limits.TheConstants.{SECTOR_BYTES}
use Rattle.change_id.specs.declared.ChangeId.{ChangeId}
use Rattle.change_id.specs.declared.IdRefused.{IdRefused}
use Rattle.change_id.specs.declared.Since.{Since}
use Rattle.log_model.specs.Legal.{capacity_of}
use Rattle.log_model.specs.Link.{LinkState, OnlyReads}
use Rattle.log_model.specs.Marks.{id_at}
use Rattle.log_model.specs.Query.{changed_areas}
use Rattle.log_model.specs.Refusals.{query_refusal as refusal_of_query, change_id_refusal}
use Rattle.log_model.specs.declared.refusals.LinkRefused.{LinkRefused}
use Rattle.log_model.proofs.LinkLaws.{calls_alone}
use Rattle.log_model.specs.declared.entry.TheConstants.{MIGRATION_CALLER}
use Rattle.source_vm.specs.Machine.{MachineState, link_of, may_have_disks}
use Rattle.fleet.specs.Fleet.{FleetState}
use Rattle.answers.specs.Answer.{AnswersFor}
use Rattle.fleet_commands.specs.Machines.{machine_named}
use Rattle.fleet_commands.specs.Refusals.{link_told}
use Rattle.fleet_commands.specs.commands.Query.{since_refusal, since_reply, page_reply, areas_or_none, query_refusal, query_reply, PageAnswers}
use Rattle.answers.specs.declared.refusal.Refusal.{Refusal}
use Rattle.fleet_commands.proofs.Lifting.{refused_as, replied_as}
use Rattle.fleet_commands.proofs.Showing.{FitsInBytes, accepted_none, refused_some, none_accepted, is_answered, has_id, page_fits, untold_none}

-- ---- the call of the link

module _ (snapshot disk : ℕ) (since : Since) (start : ℕ) (a b : LinkState)
    (result : Result (Unit {0}) LinkRefused) (alone : a.unshared ≡ true) (reads : OnlyReads a b)
    (refused : IsRefusedBy (refusal_of_query a.machine a.capacities snapshot disk since
    (start / SECTOR_BYTES) b.seen) result) where
  pub same_then : b ≡ a
  same_then = (calls_alone a b alone).reads reads

  refused_then : IsRefusedBy (refusal_of_query a.machine a.capacities snapshot disk since
      (start / SECTOR_BYTES) a.seen) result
  refused_then = subst (λ (l : LinkState). IsRefusedBy (refusal_of_query a.machine a.capacities
      snapshot disk since (start / SECTOR_BYTES) l.seen) result) same_then refused

  pub accepted_then : result ≡ Ok tt → refusal_of_query a.machine a.capacities snapshot disk since
      (start / SECTOR_BYTES) a.seen ≡ None
  accepted_then ok = accepted_none (refusal_of_query a.machine a.capacities snapshot disk since
      (start / SECTOR_BYTES) a.seen) result tt refused_then ok

  -- then the disk has an identifier at the snapshot, or none
  pub id_then : result ≡ Ok tt → (found : Result (Option ChangeId) LinkRefused) (d : LinkState)
      → OnlyReads b d
      → IsRefusedBy (change_id_refusal b.capacities snapshot disk d.seen) found → IsOk found
  id_then ok found d more is =
      let stay : d ≡ a = (calls_alone b d (ap (λ (l : LinkState). l.unshared) same_then
      ∙ alone)).reads more ∙ same_then in
      let none : change_id_refusal b.capacities snapshot disk d.seen ≡ None =
      ap (λ (l : LinkState). change_id_refusal l.capacities snapshot disk d.seen) same_then
      ∙ ap (λ (l : LinkState). change_id_refusal a.capacities snapshot disk l.seen) stay
      ∙ has_id a.machine a.capacities snapshot disk since (start / SECTOR_BYTES) a.seen
      (accepted_then ok) in
      none_accepted (change_id_refusal b.capacities snapshot disk d.seen) found is none

  pub shows_then : result ≡ Ok tt → (page : PageContents)
      → IfOk (changed_areas a.machine (capacity_of a.capacities disk) disk snapshot since b.seen)
      (λ areas. page ≡ page_from (capacity_of a.capacities disk) areas (start / SECTOR_BYTES))
      → (id : Option ChangeId) → id ≡ id_at a.machine disk snapshot a.seen
      → PageAnswers snapshot disk (Ok since) start a (Ok id) page
  shows_then ok page filled id is =
      let accepted = accepted_then ok in
      let answered = is_answered a.machine a.capacities snapshot disk since
      (start / SECTOR_BYTES) a.seen accepted in
      let size : ℕ = capacity_of a.capacities disk in
      let here : IfOk (changed_areas a.machine size disk snapshot since a.seen)
      (λ areas. page ≡ page_from size areas (start / SECTOR_BYTES)) =
      subst (λ (l : LinkState). IfOk (changed_areas a.machine size disk snapshot since l.seen)
      (λ areas. page ≡ page_from size areas (start / SECTOR_BYTES))) same_then filled in
      let made : page ≡ page_from size answered.areas (start / SECTOR_BYTES) =
      subst (λ (r : Result (List Run) (Option ChangeId)). IfOk r
      (λ areas. page ≡ page_from size areas (start / SECTOR_BYTES))) answered.are here in (
        ap (option_and_then link_told) accepted,
        is,
        made ∙ ap (λ r. page_from size (areas_or_none r) (start / SECTOR_BYTES))
            (sym answered.are),
      )

  pub refuses_then : (why : LinkRefused) → result ≡ Err why → (said : Refusal)
      → link_told why ≡ Some said → (page : PageContents)
      → PageAnswers snapshot disk (Ok since) start a (Err said) page
  refuses_then why err said told page = ap (option_and_then link_told)
      (refused_some (refusal_of_query a.machine a.capacities snapshot disk since
      (start / SECTOR_BYTES) a.seen) result why refused_then err) ∙ told

-- a page that is shown fits in bytes
pub shown_fits : (snapshot disk : ℕ) (asked : Result Since IdRefused) (start : ℕ)
    (m : MachineState) (id : Option ChangeId) (page : PageContents)
    → may_have_disks m.capacities ≡ true
    → PageAnswers snapshot disk asked start (link_of MIGRATION_CALLER m) (Ok id) page
    → FitsInBytes page
shown_fits snapshot disk (Err why) start m id page may shown = absurd (none-some _ (sym shown.0))
shown_fits snapshot disk (Ok since) start m id page may shown =
    subst FitsInBytes (sym shown.2) (page_fits m.number m.capacities snapshot disk since
    (start / SECTOR_BYTES) m.log (untold_none m.number m.capacities snapshot disk since
    (start / SECTOR_BYTES) m.log shown.0) may)

-- ---- the command

module _ (vm : List ℕ) (snapshot disk : ℕ) (asked : Result Since IdRefused) (start : ℕ)
    (m : MachineState) (fleet : FleetState) (is : machine_named vm fleet ≡ Some m)
    (page : PageContents) where
  pub query_answers : (id : Option ChangeId)
      → PageAnswers snapshot disk asked start (link_of MIGRATION_CALLER m) (Ok id) page
      → AnswersFor (query_refusal vm snapshot disk asked start fleet)
      (query_reply vm snapshot disk asked start fleet) fleet (Ok (page_reply id page)) fleet fleet
  query_answers id found = (
    refused_as vm m fleet is (since_refusal snapshot disk asked (start / SECTOR_BYTES)) ∙ found.0,
    ap (λ i. page_reply i page) found.1 ∙ ap (page_reply _) found.2
        ∙ sym (replied_as vm m fleet is (since_reply snapshot disk asked (start / SECTOR_BYTES))),
    refl,
  )

  pub query_refuses : (why : Refusal)
      → PageAnswers snapshot disk asked start (link_of MIGRATION_CALLER m) (Err why) page
      → AnswersFor (query_refusal vm snapshot disk asked start fleet)
      (query_reply vm snapshot disk asked start fleet) fleet (Err why) fleet fleet
  query_refuses why found = (
    refused_as vm m fleet is (since_refusal snapshot disk asked (start / SECTOR_BYTES)) ∙ found,
    refl,
  )
