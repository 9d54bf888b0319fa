-- What commands on plans that are carried out over a controller answer and leave, by the words of a
-- session; and that the records on the journal's disk would be taken then.
use Rattle.std.proofs.Common.{◌≡◌, ℕ, ◌+◌, ◌-◌, ◌<◌, ◌==◌, Bool, true, false, cond, List, [], ◌∷◌, ◌++◌, length, Option, Some, None, Result, Ok, Err, All, inl, inr, refl, sym, ap, subst, ◌∙◌, append_assoc, arith, get_or}
use Rattle.std.specs.Prelude.{MatchOption, IfOk, IfErr, OnOk, IsSome, slice_get}
use Rattle.std.specs.Result.{result_unwrap_or}
use Rattle.std.specs.List.{AllByRecursion, list_all}
use Rattle.std.specs.Option.{option_map_or}
use Rattle.std.proofs.lemmas.Bool.{and_parts, eqb-true, false≢true}
use Rattle.std.proofs.lemmas.List.{append-nil}
use Rattle.std.proofs.lemmas.List.Elements.{All-from_recursion}
use Rattle.std.proofs.lemmas.Option.{none-some, same_Some, slice_get-get_or}
use Rattle.answers.specs.Answer.{Answer}
use Rattle.answers.specs.declared.refusal.Refusal.{Refusal}
use Rattle.cmd_json.specs.declared.command.Command.{Command}
use Rattle.fleet.specs.Fleet.{FleetState, machine_of}
use Rattle.fleet.specs.Sound.{IsFleet}
use Rattle.source_vm.specs.Machine.{MachineState}
use Rattle.journal.specs.Journal.{Failure, JournalState, outcomes, with_refused}
use Rattle.plan_model.specs.declared.plan.Plan.{Plan}
use Rattle.record_codec.specs.declared.record.Record.{Record}
use Rattle.reply_json.specs.declared.reply.Reply.{Reply}
use Rattle.ctl_state.specs.Fold.{IsStateOf, after}
use Rattle.ctl_state.specs.Value.{CtlValue, no_records, numbered, plan_in}
use Rattle.ctl_state.proofs.ListFacts.{numbered-there}
use Rattle.record_keeping.specs.Keeping.{Keeping, keeping, IsReady, IsUnfailed, Keeps, KeepsFront, MayBeKept, StopsAt}
use Rattle.record_keeping.specs.declared.refusal.NotKept.{NotKept}
use Rattle.record_keeping.specs.declared.refusal.NotKept.TheVariants.{Fault, Full, NoMemory}
use Rattle.plan_commands.specs.Carrying.{CarriesOut}
use Rattle.plan_commands.specs.Machines.{HaveMachines}
use Rattle.plan_commands.specs.commands.Plan.{plan_records, plan_refusal, plan_reply}
use Rattle.cmd_json.specs.declared.command.Command.TheVariants.{Plan as PlanAsked}
use Rattle.restart.specs.Agrees.{PlansAsk}
use Rattle.restart.specs.Laws.{TakenAgree}
use Rattle.restart.specs.Machines.{has_tracking, is_tracked}
use Rattle.restart.proofs.Folding.{one_value}
use Rattle.migrate_server.specs.Serve.{AllWouldBeTaken, IsUnanswered, WouldBeTaken}
use Rattle.migrate_server.specs.Session.{State, Answers, LateRefusal, Replies, records_of, refusal_of, reply_of, state_after, state_of, value_of, with_added}
use Rattle.migrate_server.specs.World.{Server, server_of}
use Rattle.migrate_server.proofs.Adding.{IsNew, taken_front}

-- ---- the value of a server's records

pub value_is : (v : CtlValue) (records : List Record) → IsStateOf v records
    → value_of records ≡ v
value_is v records come = ap (λ (r : Result CtlValue ℕ). result_unwrap_or r no_records) come

-- ---- a command that adds records and does nothing else

pub record AddsAlone (command : Command) : Type 0 where
  pub late : (s : State) → LateRefusal command None s
  pub replies : (reply : Reply) (s : State) → reply ≡ reply_of command s → Replies command reply s
  pub after : (s : State) → state_after command s ≡ with_added (records_of command s) s

-- by what it is asked over the value of the controller
pub record HasParts (command : Command) (s : State) (refusal : Option Refusal) (added : List Record)
    (reply : Reply) : Type 0 where
  pub refusal_is : refusal_of command s ≡ refusal
  pub records_are : records_of command s ≡ added
  pub reply_is : reply_of command s ≡ reply

has_none : (refusal : Option Refusal) (P : Type 0) → refusal ≡ None → P
    → MatchOption refusal P (λ why. None ≡ Some why)
has_none None P is p = p
has_none (Some why) P is p = absurd (none-some why (sym is))

has_some : (refusal : Option Refusal) (P : Type 0) (why : Refusal) → refusal ≡ Some why
    → MatchOption refusal P (λ first. Some why ≡ Some first)
has_some None P why is = absurd (none-some why is)
has_some (Some first) P why is = sym is

pub answered : (command : Command) (old new : Server) (refusal : Option Refusal)
    (added : List Record) (reply : Reply) (v w : CtlValue) (result : Result Answer NotKept)
    → AddsAlone command → HasParts command (state_of old) refusal added reply
    → new ≡ record old { journal = new.journal }
    → CarriesOut refusal added reply result (keeping v old.journal) (keeping w new.journal)
    → IfOk result (λ answer. Answers command answer (state_of old) (state_of new))
answered command old new refusal added reply v w (Ok (Ok told)) adds asks kept h = (
  has_none (refusal_of command (state_of old)) (LateRefusal command None (state_of old))
      (asks.refusal_is ∙ h.0) (adds.late (state_of old)),
  adds.replies told (state_of old) (h.1 ∙ sym asks.reply_is),
  ap state_of kept
      ∙ ap (λ (r : List Record). record (state_of old) { records = r })
      (h.2.records ∙ ap (λ (l : List Record). old.journal.records ++ l) (sym asks.records_are))
      ∙ sym (adds.after (state_of old)),
)
answered command old new refusal added reply v w (Ok (Err why)) adds asks kept h = inl (
  has_some (refusal_of command (state_of old)) (LateRefusal command (Some why) (state_of old)) why
      (asks.refusal_is ∙ h.0),
  ap state_of kept
      ∙ ap (λ (k : Keeping). record (state_of old) { records = k.journal.records }) h.1,
)
answered command old new refusal added reply v w (Err why) adds asks kept h = tt

same_keeping : (v w : CtlValue) (j k : JournalState) → keeping w k ≡ keeping v j
    → IsReady (keeping v j) → IsReady (keeping w k)
same_keeping v w j k same ready = subst IsReady (sym same) ready

pub still_ready : (refusal : Option Refusal) (added : List Record) (reply : Reply)
    (v w : CtlValue) (j k : JournalState) (result : Result Answer NotKept) → IsReady (keeping v j)
    → CarriesOut refusal added reply result (keeping v j) (keeping w k)
    → OnOk result (IsReady (keeping w k))
still_ready refusal added reply v w j k (Ok (Ok told)) ready h = h.2.ready
still_ready refusal added reply v w j k (Ok (Err why)) ready h = same_keeping v w j k h.1 ready
still_ready refusal added reply v w j k (Err why) ready h = tt

pub still_unfailed : (refusal : Option Refusal) (added : List Record) (reply : Reply)
    (v w : CtlValue) (j k : JournalState) (result : Result Answer NotKept) → IsReady (keeping v j)
    → CarriesOut refusal added reply result (keeping v j) (keeping w k)
    → OnOk result (IsUnfailed j k)
still_unfailed refusal added reply v w j k (Ok (Ok told)) ready h =
    record { failure = h.2.ready.unfailed; faults = h.2.faults }
still_unfailed refusal added reply v w j k (Ok (Err why)) ready h = record {
  failure = ap (λ (x : Keeping). x.journal.failure) h.1 ∙ ready.unfailed;
  faults = ap (λ (x : Keeping). x.journal.disk.faults) h.1;
}
still_unfailed refusal added reply v w j k (Err why) ready h = tt

pub unanswered : (command : Command) (old new : Server) (refusal : Option Refusal)
    (added : List Record) (reply : Reply) (v w : CtlValue) (result : Result Answer NotKept)
    → AddsAlone command → HasParts command (state_of old) refusal added reply
    → new ≡ record old { journal = new.journal }
    → CarriesOut refusal added reply result (keeping v old.journal) (keeping w new.journal)
    → IfErr result (λ why. IsUnanswered command why old new)
unanswered command old new refusal added reply v w (Ok answer) adds asks kept h = tt
unanswered command old new None added reply v w (Err why) adds asks kept h = inr (record {
  allowed = has_none (refusal_of command (state_of old))
      (LateRefusal command None (state_of old)) asks.refusal_is (adds.late (state_of old));
  front = subst (λ (l : List Record). KeepsFront why l old.journal new.journal)
      (sym asks.records_are) h;
  kept = kept;
})
unanswered command old new (Some first) added reply v w (Err why) adds asks kept h = inl (
  h.0,
  kept ∙ ap (λ (k : Keeping). record old { journal = k.journal }) h.1,
)

-- a plan does
pub plan_adds : (name : List ℕ) (vms : List (List ℕ)) (interval : Option ℕ)
    → AddsAlone (PlanAsked name vms interval)
plan_adds name vms interval = record {
  late = λ s. refl;
  replies = λ reply s is. is;
  after = λ s. refl;
}

pub plan_asks : (name : List ℕ) (vms : List (List ℕ)) (interval : Option ℕ) (server : Server)
    (v : CtlValue) → IsStateOf v server.journal.records
    → HasParts (PlanAsked name vms interval) (state_of server)
    (plan_refusal name vms server.fleet v) (plan_records name vms interval server.fleet v)
    plan_reply
plan_asks name vms interval server v come =
    let is = value_is v server.journal.records come in
    record {
      refusal_is = ap (plan_refusal name vms server.fleet) is;
      records_are = ap (plan_records name vms interval server.fleet) is;
      reply_is = refl;
    }

-- ---- what would be taken then

-- the records that are added are new, and come to something behind those that are there
pub record MayBeAdded (fleet : FleetState) (records added : List Record) : Type 0 where
  pub value : CtlValue
  pub come_to : IsStateOf value (records ++ added)
  pub new : AllByRecursion (IsNew fleet) added

taken_to : (fleet : FleetState) (records added front rest : List Record)
    → WouldBeTaken fleet records → MayBeAdded fleet records added → added ≡ front ++ rest
    → WouldBeTaken fleet (records ++ front)
taken_to fleet records added front rest taken may split =
    taken_front fleet records front rest taken.0 may.value taken.1
    (subst (AllByRecursion (IsNew fleet)) split may.new)
    (ap (λ (l : List Record). after (records ++ l)) (sym split) ∙ may.come_to)

without_failure : (fleet : FleetState) (records : List Record) (failure : Option Failure)
    → failure ≡ None → WouldBeTaken fleet records
    → AllByRecursion (WouldBeTaken fleet) (records ∷ with_refused records failure)
without_failure fleet records None is taken = (taken, tt)
without_failure fleet records (Some f) is taken = absurd (none-some f (sym is))

pub taken_unfailed : (fleet : FleetState) (j : JournalState) → j.failure ≡ None
    → WouldBeTaken fleet j.records → AllWouldBeTaken fleet j
taken_unfailed fleet j unfailed taken = without_failure fleet j.records j.failure unfailed taken

with_failure : (fleet : FleetState) (records : List Record) (failure : Option Failure) (f : Failure)
    → failure ≡ Some f → WouldBeTaken fleet records
    → WouldBeTaken fleet (records ++ f.refused ∷ [])
    → AllByRecursion (WouldBeTaken fleet) (records ∷ with_refused records failure)
with_failure fleet records None f is taken more = absurd (none-some f is)
with_failure fleet records (Some g) f is taken more = (
  taken,
  (
    subst (λ (x : Failure). WouldBeTaken fleet (records ++ x.refused ∷ []))
        (sym (same_Some g f is)) more,
    tt,
  ),
)

front_taken : (fleet : FleetState) (why : NotKept) (added front left : List Record)
    (j k : JournalState) → WouldBeTaken fleet j.records → MayBeAdded fleet j.records added
    → added ≡ front ++ left → k.records ≡ j.records ++ front → StopsAt why left j k
    → AllWouldBeTaken fleet k
front_taken fleet Fault added front [] j k taken may split records stops = absurd stops
front_taken fleet Fault added front (r ∷ left) j k taken may split records stops =
    with_failure fleet k.records k.failure (record { at = stops.at; refused = r }) stops.failure
    (subst (WouldBeTaken fleet) (sym records)
    (taken_to fleet j.records added front (r ∷ left) taken may split))
    (subst (WouldBeTaken fleet)
    (sym (append_assoc j.records front (r ∷ []))
    ∙ ap (λ (l : List Record). l ++ r ∷ []) (sym records))
    (taken_to fleet j.records added (front ++ r ∷ []) left taken may
    (split ∙ sym (append_assoc front (r ∷ []) left))))
front_taken fleet Full added front [] j k taken may split records stops = absurd stops
front_taken fleet Full added front (r ∷ left) j k taken may split records stops =
    taken_unfailed fleet k (stops.0).failure (subst (WouldBeTaken fleet) (sym records)
    (taken_to fleet j.records added front (r ∷ left) taken may split))
front_taken fleet NoMemory added front left j k taken may split records stops =
    taken_unfailed fleet k stops.failure (subst (WouldBeTaken fleet) (sym records)
    (taken_to fleet j.records added front left taken may split))

pub carried_taken : (fleet : FleetState) (refusal : Option Refusal) (added : List Record)
    (reply : Reply) (v w : CtlValue) (j k : JournalState) (result : Result Answer NotKept)
    → IsReady (keeping v j) → WouldBeTaken fleet j.records
    → (refusal ≡ None → MayBeAdded fleet j.records added)
    → CarriesOut refusal added reply result (keeping v j) (keeping w k)
    → AllWouldBeTaken fleet k
carried_taken fleet refusal added reply v w j k (Ok (Ok told)) ready taken may h =
    taken_unfailed fleet k h.2.ready.unfailed (subst (WouldBeTaken fleet) (sym h.2.records)
    (taken_to fleet j.records added added [] taken (may h.0) (sym (append-nil added))))
carried_taken fleet refusal added reply v w j k (Ok (Err why)) ready taken may h =
    subst (λ (x : Keeping). AllWouldBeTaken fleet x.journal) (sym h.1)
    (taken_unfailed fleet j ready.unfailed taken)
carried_taken fleet None added reply v w j k (Err why) ready taken may h =
    front_taken fleet why added h.front h.left j k taken (may refl) h.split h.records h.stops
carried_taken fleet (Some first) added reply v w j k (Err why) ready taken may h =
    subst (λ (x : Keeping). AllWouldBeTaken fleet x.journal) (sym h.1)
    (taken_unfailed fleet j ready.unfailed taken)

pub may_be_added : (fleet : FleetState) (v : CtlValue) (records added : List Record)
    → IsStateOf v records → MayBeKept v added → AllByRecursion (IsNew fleet) added
    → MayBeAdded fleet records added
may_be_added fleet v records added come may new =
    let then = may.stand records come in
    record { value = then.0; come_to = then.1; new = new }

-- ---- the machines of plans

pub plans_ask : TakenAgree → (fleet : FleetState) (records : List Record) (v : CtlValue)
    → IsFleet fleet → IsStateOf v records → WouldBeTaken fleet records → PlansAsk fleet v
plans_ask agree fleet records v is come taken =
    let known = agree fleet records taken.0 is taken.1 in
    subst (PlansAsk fleet) (one_value records known.value v known.come_to come) known.plans

tracked_is_some : (fleet : FleetState) (vm : ℕ) → is_tracked fleet vm ≡ true
    → IsSome (machine_of vm fleet)
tracked_is_some fleet vm h = by (machine_of vm fleet) h
  where
    by : (o : Option MachineState) → option_map_or has_tracking o false ≡ true → IsSome o
    by None e = absurd (false≢true e)
    by (Some m) e = refl

all_some : (fleet : FleetState) (vms : List ℕ) → list_all (is_tracked fleet) vms ≡ true
    → AllByRecursion (λ vm. IsSome (machine_of vm fleet)) vms
all_some fleet [] h = tt
all_some fleet (vm ∷ vms) h =
    let parts = and_parts (is_tracked fleet vm) (list_all (is_tracked fleet) vms) h in
    (tracked_is_some fleet vm parts.0, all_some fleet vms parts.1)

pub have_machines : (fleet : FleetState) (v : CtlValue) → PlansAsk fleet v → HaveMachines fleet v
have_machines fleet v asks = λ k d within.
    let plan : Plan = get_or v.plans k d in
    All-from_recursion (λ vm. IsSome (machine_of vm fleet)) plan.vms
    (all_some fleet plan.vms
    (asks (k + 1) plan (numbered-there v.plans k plan (slice_get-get_or v.plans k d within))))
