-- The command `query`: it shows a page of what changed on a disk up to a snapshot, since an
-- identifier or since the beginning, which is asked for by a star. What the text of the identifier
-- asks for is a relation, as its reading is; no text asks for two.
use Rattle.std.specs.Prelude.{◌≡◌, ℕ, ◌*◌, ◌/◌, List, [], map, codes, Option, Some, None, option_and_then, Result, Ok, Err}
use Rattle.sector_model.specs.Page.{PageContents, page_from}
use Rattle.sector_model.specs.declared.run.Run.{Run}
use Rattle.basics.specs.declared.limits.TheConstants.{SECTOR_BYTES}
use Rattle.change_id.specs.ChangeId.{IsAnswer}
use Rattle.change_id.specs.declared.ChangeId.{ChangeId}
use Rattle.change_id.specs.declared.IdRefused.{IdRefused}
use Rattle.change_id.specs.declared.Since.{Since}
use Rattle.change_id.specs.declared.Since.TheVariants.{All, From}
use Rattle.reply_json.specs.declared.reply.Area.{Area}
use Rattle.reply_json.specs.declared.reply.Reply.{Reply}
use Rattle.reply_json.specs.declared.reply.Reply.TheVariants.{Query}
use Rattle.log_model.specs.Legal.{capacity_of}
use Rattle.log_model.specs.Link.{LinkState}
use Rattle.log_model.specs.Marks.{id_at}
use Rattle.log_model.specs.Query.{changed_areas}
use Rattle.log_model.specs.Refusals.{query_refusal as refusal_of_query}
use Rattle.source_vm.specs.Machine.{MachineState}
use Rattle.fleet.specs.Fleet.{FleetState}
use Rattle.answers.specs.Answer.{Answer, AnswersFor}
use Rattle.fleet_commands.specs.Machines.{at_machine, reply_at}
use Rattle.fleet_commands.specs.Refusals.{link_told}
use Rattle.answers.specs.declared.refusal.Refusal.{Refusal}
use Rattle.answers.specs.declared.refusal.Refusal.TheVariants as refusal

-- the text that asks since the beginning
abbrev pub from_beginning : List ℕ
from_beginning = codes "*"

-- what the text asks for, or why it is no identifier
abbrev pub AsksSince : (text : List ℕ) → Result Since IdRefused → Type 0
AsksSince text (Ok All) = text ≡ from_beginning
AsksSince text (Ok (From id)) = IsAnswer text (Ok id)
AsksSince text (Err why) = IsAnswer text (Err why) × ¬ (text ≡ from_beginning)

-- what was asked for is known: why the machine refuses it. The page starts at this sector
abbrev pub since_refusal : (snapshot disk : ℕ) → Result Since IdRefused → (start : ℕ)
    → MachineState → Option Refusal
since_refusal snapshot disk (Ok since) start m = option_and_then link_told
    (refusal_of_query m.number m.capacities snapshot disk since start m.log)
since_refusal snapshot disk (Err why) start m = Some (refusal.Since why)

-- an area in bytes
abbrev pub area_of : Run → Area
area_of run =
    record { start = run.first * SECTOR_BYTES; length = run.count * SECTOR_BYTES }

-- a page in bytes, with the identifier of the disk at the snapshot
abbrev pub page_reply : (id : Option ChangeId) → PageContents → Reply
page_reply id page = Query (map area_of page.areas) id
    (page.start * SECTOR_BYTES) (page.length * SECTOR_BYTES)

abbrev pub areas_or_none : Result (List Run) (Option ChangeId) → List Run
areas_or_none (Ok areas) = areas
areas_or_none (Err id) = []

abbrev pub since_areas : (snapshot disk : ℕ) → Result Since IdRefused → MachineState → List Run
since_areas snapshot disk (Ok since) m = areas_or_none
    (changed_areas m.number (capacity_of m.capacities disk) disk snapshot since m.log)
since_areas snapshot disk (Err why) m = []

abbrev pub since_reply : (snapshot disk : ℕ) → Result Since IdRefused → (start : ℕ)
    → MachineState → Reply
since_reply snapshot disk asked start m = page_reply (id_at m.number disk snapshot m.log)
    (page_from (capacity_of m.capacities disk) (since_areas snapshot disk asked m) start)

-- ---- of the command, whose start is a byte

-- the machine of a link
abbrev pub machine_of_link : LinkState → MachineState
machine_of_link link =
    record { number = link.machine; capacities = link.capacities; log = link.seen }

-- what a machine answers: the identifier and the page, or why it refuses
abbrev pub PageAnswers : (snapshot disk : ℕ) → Result Since IdRefused → (start : ℕ) → LinkState
    → Result (Option ChangeId) Refusal → PageContents → Type 0
PageAnswers snapshot disk asked start link (Ok id) page =
    (since_refusal snapshot disk asked (start / SECTOR_BYTES) (machine_of_link link) ≡ None)
    × (id ≡ id_at link.machine disk snapshot link.seen)
    × (page ≡ page_from (capacity_of link.capacities disk)
    (since_areas snapshot disk asked (machine_of_link link)) (start / SECTOR_BYTES))
PageAnswers snapshot disk asked start link (Err why) page =
    since_refusal snapshot disk asked (start / SECTOR_BYTES) (machine_of_link link) ≡ Some why

abbrev pub query_refusal : (vm : List ℕ) (snapshot disk : ℕ) → Result Since IdRefused
    → (start : ℕ) → FleetState → Option Refusal
query_refusal vm snapshot disk asked start fleet =
    at_machine vm (since_refusal snapshot disk asked (start / SECTOR_BYTES)) fleet

abbrev pub query_reply : (vm : List ℕ) (snapshot disk : ℕ) → Result Since IdRefused
    → (start : ℕ) → FleetState → Reply
query_reply vm snapshot disk asked start fleet =
    reply_at vm (since_reply snapshot disk asked (start / SECTOR_BYTES)) fleet

-- there is no such machine: what else refuses a query goes by its text
abbrev pub unknown_refusal : (vm : List ℕ) → FleetState → Option Refusal
unknown_refusal vm fleet = at_machine vm (λ m. None) fleet

-- its refusal, or that there is none, and its reply, by what its text asks for
abbrev pub QueryRefusal : (vm : List ℕ) (snapshot disk : ℕ) (since : List ℕ) (start : ℕ)
    → Option Refusal → FleetState → Type 0
QueryRefusal vm snapshot disk since start refusal fleet = (asked : Result Since IdRefused)
    × AsksSince since asked × (refusal ≡ query_refusal vm snapshot disk asked start fleet)

abbrev pub QueryReplies : (vm : List ℕ) (snapshot disk : ℕ) (since : List ℕ) (start : ℕ)
    → Reply → FleetState → Type 0
QueryReplies vm snapshot disk since start reply fleet = (asked : Result Since IdRefused)
    × AsksSince since asked × (reply ≡ query_reply vm snapshot disk asked start fleet)

-- it is answered by what its text asks for, and changes nothing
abbrev pub QueryAnswers : (vm : List ℕ) (snapshot disk : ℕ) (since : List ℕ) (start : ℕ)
    → Answer → (old new : FleetState) → Type 0
QueryAnswers vm snapshot disk since start answer old new = (asked : Result Since IdRefused)
    × AsksSince since asked
    × AnswersFor (query_refusal vm snapshot disk asked start old)
    (query_reply vm snapshot disk asked start old) old answer old new

-- no text asks for two
abbrev pub AsksForOne : Type 0
AsksForOne = (text : List ℕ) (one other : Result Since IdRefused)
    → AsksSince text one → AsksSince text other → one ≡ other

-- each text asks for something
abbrev pub EachAsks : Type 0
EachAsks = (text : List ℕ) → (asked : Result Since IdRefused) × AsksSince text asked
