-- What a query answers, whose text alone says what it asks for, is an answer of the server's.
use Rattle.std.proofs.Common.{◌≡◌, ℕ, ◌/◌, List, Option, Some, None, Result, Ok, Err, inl, refl, sym, ap, subst, ◌∙◌}
use Rattle.std.specs.Prelude.{MatchOption, IfOk}
use Rattle.std.specs.Option.{option_map_or}
use Rattle.cmd_json.specs.declared.command.Command.{Command}
use Rattle.cmd_json.specs.declared.command.Command.TheVariants.{Query}
use Rattle.fleet.specs.Fleet.{FleetState}
use Rattle.answers.specs.Answer.{Answer, AnswersFor}
use Rattle.fleet_commands.specs.Machines.{machine_named}
use Rattle.fleet_commands.specs.commands.Query.{QueryAnswers, since_refusal}
use Rattle.answers.specs.declared.refusal.Refusal.{Refusal}
use Rattle.answers.specs.declared.refusal.Refusal.TheVariants.{UnknownVm}
use Rattle.reply_json.specs.declared.reply.Reply.{Reply}
use Rattle.basics.specs.declared.limits.TheConstants.{SECTOR_BYTES}
use Rattle.source_vm.specs.Machine.{MachineState}
use Rattle.record_codec.specs.declared.record.Record.{Record}
use Rattle.target_volume.specs.VolumeStore.{StoreState}
use Rattle.migrate_server.specs.Session.{State, serving, refusal_of, LateRefusal, HasRefusal, Replies, state_after, Answers}

by_text : (found : Option MachineState) (asked : MachineState → Option Refusal)
    (refusal : Option Refusal) (P : Type 0) → option_map_or asked found (Some UnknownVm) ≡ refusal
    → P → MatchOption (option_map_or (λ m. None) found (Some UnknownVm)) P
    (λ why. refusal ≡ Some why)
by_text None asked refusal P is late = sym is
by_text (Some m) asked refusal P is late = late

query_answers : (vm : List ℕ) (snapshot disk : ℕ) (since : List ℕ) (start : ℕ) (answer : Answer)
    (old new : FleetState) (records : List Record) (store : StoreState)
    → QueryAnswers vm snapshot disk since start answer old new
    → Answers (Query vm snapshot disk since start) answer (serving old records store)
    (serving new records store)
query_answers vm snapshot disk since start (Ok reply) old new records store h = (
  by_text (machine_named vm old) (since_refusal snapshot disk h.0 (start / SECTOR_BYTES)) None
      (LateRefusal (Query vm snapshot disk since start) None (serving old records store)) (h.2).0
      (h.0, h.1, sym (h.2).0),
  (h.0, h.1, (h.2).1),
  ap (λ (f : FleetState). serving f records store) (h.2).2,
)
query_answers vm snapshot disk since start (Err why) old new records store h = inl (
  by_text (machine_named vm old) (since_refusal snapshot disk h.0 (start / SECTOR_BYTES)) (Some why)
      (LateRefusal (Query vm snapshot disk since start) (Some why) (serving old records store))
      (h.2).0
      (h.0, h.1, sym (h.2).0),
  ap (λ (f : FleetState). serving f records store) (h.2).1,
)

-- the same, whatever the store is, of a text that was copied
pub ok_query : {E : Type 0} (vm : List ℕ) (snapshot disk : ℕ) (since copied : List ℕ) (start : ℕ)
    (result : Result Answer E) (old new : FleetState) → copied ≡ since
    → IfOk result (λ answer. QueryAnswers vm snapshot disk copied start answer old new)
    → IfOk result (λ answer. (records : List Record) (store : StoreState)
    → Answers (Query vm snapshot disk since start) answer (serving old records store)
    (serving new records store))
ok_query vm snapshot disk since copied start (Ok answer) old new is h = λ records store.
    query_answers vm snapshot disk since start answer old new records store
    (subst (λ (x : List ℕ). QueryAnswers vm snapshot disk x start answer old new) is h)
ok_query vm snapshot disk since copied start (Err e) old new is h = tt
