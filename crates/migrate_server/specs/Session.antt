-- What the server answers to the lines of an input, one after another, and what it leaves. A
-- command has a row in each of `refusal_of`, `LateRefusal`, `reply_of`, `records_of`,
-- `state_after`, `Fails` and `Stands`, and `Replies` has one for a command whose reply is a
-- relation; nothing else here grows with the commands, their refusals or their replies. A command
-- that isn't built is refused, whatever it asks for. The last line of a run may be cut short, where
-- the journal doesn't take its records: it has no answer then.
use Rattle.std.specs.Prelude.{◌≡◌, ◌⊎◌, ℕ, List, [], ◌∷◌, ◌++◌, Bool, true, false, Option, Some, None, Ok, Err, MatchOption}
use Rattle.std.specs.Result.{result_unwrap_or}
use Rattle.cmd_json.specs.declared.command.Command.{Command}
use Rattle.cmd_json.specs.declared.command.Command.TheVariants.{Move, Host, Vm, Enable, Write, Snapshot, Remove, Query, Read, Power, Reset, Inventory, Plan, Start, Run, Cutover, Cancel, Status, Target, Digest, Restart, Quit}
use Rattle.fleet.specs.Fleet.{FleetState}
use Rattle.answers.specs.Answer.{Answer}
use Rattle.fleet_commands.specs.commands.Deed.{deed_refusal, deed_reply, after_deed}
use Rattle.fleet_commands.specs.commands.Host.{host_refusal, host_reply, after_host}
use Rattle.fleet_commands.specs.commands.Inventory.{inventory_reply}
use Rattle.fleet_commands.specs.commands.Query.{unknown_refusal, QueryRefusal, QueryReplies}
use Rattle.fleet_commands.specs.commands.Read.{read_refusal, read_reply}
use Rattle.fleet_commands.specs.commands.Snapshot.{snapshot_refusal, snapshot_reply, after_snapshot}
use Rattle.fleet_commands.specs.commands.Vm.{vm_refusal, vm_reply, after_vm}
use Rattle.fleet_commands.specs.commands.Write.{write_refusal, write_reply, after_write}
use Rattle.fleet_commands.specs.declared.deed.Deed.{Deed}
use Rattle.fleet_commands.specs.declared.deed.Deed.TheVariants as deed
use Rattle.answers.specs.declared.refusal.Refusal.{Refusal}
use Rattle.answers.specs.declared.refusal.Refusal.TheVariants as refusal
use Rattle.reply_json.specs.declared.reply.Reply.{Reply}
use Rattle.reply_json.specs.declared.reply.Reply.TheVariants.{Done}
use Rattle.target_volume.specs.VolumeStore.{StoreState}
use Rattle.record_codec.specs.declared.record.Record.{Record}
use Rattle.ctl_state.specs.Fold.{after}
use Rattle.ctl_state.specs.Value.{CtlValue, no_records}
use Rattle.plan_commands.specs.commands.Cutover.{cutover_refusal, cutover_records, cutover_reply}
use Rattle.plan_commands.specs.commands.Plan.{plan_refusal, plan_records, plan_reply}
use Rattle.plan_commands.specs.commands.Start.{start_refusal, start_records, start_reply}
use Rattle.plan_commands.specs.commands.Status.{status_reply}
use Rattle.migrate_server.specs.Line.{AsksFor, Means}
use Rattle.migrate_server.specs.World.{Server}
use Rattle.migrate_server.specs.commands.Moves.{move_refusal, MoveRefusal, move_reply, after_move, MoveFails, HasMoved}
use Rattle.migrate_server.specs.commands.Quit.{quit_reply}
use Rattle.migrate_server.specs.declared.line.Line.{Line}
use Rattle.migrate_server.specs.declared.line.Line.TheVariants.{Blank, Asks, Refuses}

-- what a line finds and leaves
pub record State : Type 0 where
  pub fleet : FleetState
  -- of the journal
  pub records : List Record
  pub store : StoreState

-- the state of a server that has this fleet, these records and this store
abbrev pub serving : FleetState → List Record → StoreState → State
serving fleet records store = record { fleet = fleet; records = records; store = store }

abbrev pub state_of : Server → State
state_of server = serving server.fleet server.journal.records server.store

-- what records come to. Those of a server always come to a value; of any others it says nothing
abbrev pub value_of : List Record → CtlValue
value_of records = result_unwrap_or (after records) no_records

-- the state with another fleet
abbrev pub with_fleet : FleetState → State → State
with_fleet fleet s = record s { fleet = fleet }

-- the state with records added
abbrev pub with_added : List Record → State → State
with_added added s = record s { records = s.records ++ added }

-- what `power` asks for
abbrev pub power_deed : Bool → Deed
power_deed true = deed.On
power_deed false = deed.Off

-- a command that isn't built is refused, so the other two are never reached for it
abbrev pub not_built : Option Refusal
not_built = Some refusal.Command

abbrev pub never_answered : Reply
never_answered = Done

abbrev pub never_left : State → State
never_left s = s

-- the first refusal of a command by what it asks for, and by the state that the server has itself
abbrev pub refusal_of : Command → State → Option Refusal
refusal_of (Move name sectors writes) s = move_refusal sectors writes
refusal_of Quit s = None
refusal_of (Host name limit) s = host_refusal name s.fleet
refusal_of (Vm name host disks) s = vm_refusal name host disks s.fleet
refusal_of (Enable vm) s = deed_refusal vm deed.Enable s.fleet
refusal_of (Write vm disk first count fill) s =
    write_refusal vm disk first count s.fleet
refusal_of (Snapshot vm) s = snapshot_refusal vm s.fleet
refusal_of (Remove vm snapshot) s = deed_refusal vm (deed.Remove snapshot) s.fleet
refusal_of (Query vm snapshot disk since start) s = unknown_refusal vm s.fleet
refusal_of (Read vm disk first count snapshot) s =
    read_refusal vm disk first count snapshot s.fleet
refusal_of (Power vm on) s = deed_refusal vm (power_deed on) s.fleet
refusal_of (Reset vm disk) s = deed_refusal vm (deed.Reset disk) s.fleet
refusal_of Inventory s = None
refusal_of (Plan name vms interval) s =
    plan_refusal name vms s.fleet (value_of s.records)
refusal_of (Start plan) s = start_refusal plan (value_of s.records)
refusal_of (Run at workers guests disturb) s = not_built
refusal_of (Cutover plan at) s = cutover_refusal plan (value_of s.records)
refusal_of (Cancel vm) s = not_built
refusal_of Status s = None
refusal_of (Target volume first count) s = not_built
refusal_of (Digest volume) s = not_built
refusal_of Restart s = not_built

-- where there is none, the refusal that only the store can show, or the reading of an identifier
abbrev pub LateRefusal : Command → Option Refusal → State → Type 0
LateRefusal (Move name sectors writes) refusal s = MoveRefusal name refusal s.store
LateRefusal Quit refusal s = refusal ≡ None
LateRefusal (Host name limit) refusal s = refusal ≡ None
LateRefusal (Vm name host disks) refusal s = refusal ≡ None
LateRefusal (Enable vm) refusal s = refusal ≡ None
LateRefusal (Write vm disk first count fill) refusal s = refusal ≡ None
LateRefusal (Snapshot vm) refusal s = refusal ≡ None
LateRefusal (Remove vm snapshot) refusal s = refusal ≡ None
LateRefusal (Query vm snapshot disk since start) refusal s =
    QueryRefusal vm snapshot disk since start refusal s.fleet
LateRefusal (Read vm disk first count snapshot) refusal s = refusal ≡ None
LateRefusal (Power vm on) refusal s = refusal ≡ None
LateRefusal (Reset vm disk) refusal s = refusal ≡ None
LateRefusal Inventory refusal s = refusal ≡ None
LateRefusal (Plan name vms interval) refusal s = refusal ≡ None
LateRefusal (Start plan) refusal s = refusal ≡ None
LateRefusal (Run at workers guests disturb) refusal s = refusal ≡ None
LateRefusal (Cutover plan at) refusal s = refusal ≡ None
LateRefusal (Cancel vm) refusal s = refusal ≡ None
LateRefusal Status refusal s = refusal ≡ None
LateRefusal (Target volume first count) refusal s = refusal ≡ None
LateRefusal (Digest volume) refusal s = refusal ≡ None
LateRefusal Restart refusal s = refusal ≡ None

-- the refusal of a command, or that there is none
abbrev pub HasRefusal : Command → Option Refusal → State → Type 0
HasRefusal command refusal s = MatchOption (refusal_of command s)
    (LateRefusal command refusal s) (λ why. refusal ≡ Some why)

-- the reply to a command that is not refused, where the command and the state determine it at once
abbrev pub reply_of : Command → State → Reply
reply_of (Move name sectors writes) s = move_reply sectors writes
reply_of Quit s = quit_reply
reply_of (Host name limit) s = host_reply
reply_of (Vm name host disks) s = vm_reply s.fleet
reply_of (Enable vm) s = deed_reply
reply_of (Write vm disk first count fill) s = write_reply
reply_of (Snapshot vm) s = snapshot_reply vm s.fleet
reply_of (Remove vm snapshot) s = deed_reply
reply_of (Query vm snapshot disk since start) s = never_answered
reply_of (Read vm disk first count snapshot) s =
    read_reply vm disk first count snapshot s.fleet
reply_of (Power vm on) s = deed_reply
reply_of (Reset vm disk) s = deed_reply
reply_of Inventory s = inventory_reply s.fleet
reply_of (Plan name vms interval) s = plan_reply
reply_of (Start plan) s = start_reply plan (value_of s.records)
reply_of (Run at workers guests disturb) s = never_answered
reply_of (Cutover plan at) s = cutover_reply
reply_of (Cancel vm) s = never_answered
reply_of Status s = status_reply s.fleet (value_of s.records)
reply_of (Target volume first count) s = never_answered
reply_of (Digest volume) s = never_answered
reply_of Restart s = never_answered

-- the reply to a command that is not refused; that to a query goes by what its text asks for
abbrev pub Replies : Command → Reply → State → Type 0
Replies (Query vm snapshot disk since start) reply s =
    QueryReplies vm snapshot disk since start reply s.fleet
Replies command reply s = reply ≡ reply_of command s

-- the records that a command adds that is not refused, in their order
abbrev pub records_of : Command → State → List Record
records_of (Move name sectors writes) s = []
records_of Quit s = []
records_of (Host name limit) s = []
records_of (Vm name host disks) s = []
records_of (Enable vm) s = []
records_of (Write vm disk first count fill) s = []
records_of (Snapshot vm) s = []
records_of (Remove vm snapshot) s = []
records_of (Query vm snapshot disk since start) s = []
records_of (Read vm disk first count snapshot) s = []
records_of (Power vm on) s = []
records_of (Reset vm disk) s = []
records_of Inventory s = []
records_of (Plan name vms interval) s =
    plan_records name vms interval s.fleet (value_of s.records)
records_of (Start plan) s = start_records plan s.fleet (value_of s.records)
records_of (Run at workers guests disturb) s = []
records_of (Cutover plan at) s = cutover_records plan at (value_of s.records)
records_of (Cancel vm) s = []
records_of Status s = []
records_of (Target volume first count) s = []
records_of (Digest volume) s = []
records_of Restart s = []

-- what a command leaves that is not refused
abbrev pub state_after : Command → State → State
state_after (Move name sectors writes) s =
    record s { store = after_move name sectors writes s.store }
state_after Quit s = s
state_after (Host name limit) s = with_fleet (after_host name limit s.fleet) s
state_after (Vm name host disks) s = with_fleet (after_vm name host disks s.fleet) s
state_after (Enable vm) s = with_fleet (after_deed vm deed.Enable s.fleet) s
state_after (Write vm disk first count fill) s =
    with_fleet (after_write vm disk first count fill s.fleet) s
state_after (Snapshot vm) s = with_fleet (after_snapshot vm s.fleet) s
state_after (Remove vm snapshot) s =
    with_fleet (after_deed vm (deed.Remove snapshot) s.fleet) s
state_after (Query vm snapshot disk since start) s = s
state_after (Read vm disk first count snapshot) s = s
state_after (Power vm on) s = with_fleet (after_deed vm (power_deed on) s.fleet) s
state_after (Reset vm disk) s = with_fleet (after_deed vm (deed.Reset disk) s.fleet) s
state_after Inventory s = s
state_after (Plan name vms interval) s =
    with_added (records_of (Plan name vms interval) s) s
state_after (Start plan) s = with_added (records_of (Start plan) s) s
state_after (Run at workers guests disturb) s = never_left s
state_after (Cutover plan at) s = with_added (records_of (Cutover plan at) s) s
state_after (Cancel vm) s = never_left s
state_after Status s = s
state_after (Target volume first count) s = never_left s
state_after (Digest volume) s = never_left s
state_after Restart s = never_left s

-- what a command may leave where the store fails in it
abbrev pub Fails : Command → (old new : State) → Type 0
Fails (Move name sectors writes) old new =
    (new.fleet ≡ old.fleet) × (new.records ≡ old.records)
    × MoveFails name sectors old.store new.store
Fails Quit old new = ⊥
Fails (Host name limit) old new = ⊥
Fails (Vm name host disks) old new = ⊥
Fails (Enable vm) old new = ⊥
Fails (Write vm disk first count fill) old new = ⊥
Fails (Snapshot vm) old new = ⊥
Fails (Remove vm snapshot) old new = ⊥
Fails (Query vm snapshot disk since start) old new = ⊥
Fails (Read vm disk first count snapshot) old new = ⊥
Fails (Power vm on) old new = ⊥
Fails (Reset vm disk) old new = ⊥
Fails Inventory old new = ⊥
Fails (Plan name vms interval) old new = ⊥
Fails (Start plan) old new = ⊥
Fails (Run at workers guests disturb) old new = ⊥
Fails (Cutover plan at) old new = ⊥
Fails (Cancel vm) old new = ⊥
Fails Status old new = ⊥
Fails (Target volume first count) old new = ⊥
Fails (Digest volume) old new = ⊥
Fails Restart old new = ⊥

-- from old, a command may have this answer and leave new: a refusal changes nothing, but for
-- `volume`, which comes where the store fails in a command that nothing else refuses
abbrev pub Answers : Command → Answer → (old new : State) → Type 0
Answers command (Ok reply) old new = HasRefusal command None old
    × Replies command reply old × (new ≡ state_after command old)
Answers command (Err why) old new = (HasRefusal command (Some why) old × (new ≡ old))
    ⊎ ((why ≡ refusal.Volume) × (refusal_of command old ≡ None) × Fails command old new)

abbrev pub LineAnswers : Line → Answer → (old new : State) → Type 0
LineAnswers Blank answer old new = ⊥
LineAnswers (Asks command) answer old new = Answers command answer old new
LineAnswers (Refuses why) answer old new = (answer ≡ Err why) × (new ≡ old)

-- from old, a line may have this answer and leave new
abbrev pub Step : (line : List ℕ) → Answer → (old new : State) → Type 0
Step line answer old new = (what : Line) × Means line what × LineAnswers what answer old new

-- from old, these lines may have these answers, one after another, and leave new
abbrev pub Session : (old : State) → List (List ℕ) → List Answer → (new : State) → Type 0
Session old [] [] new = new ≡ old
Session old (line ∷ lines) (answer ∷ answers) new =
    (mid : State) × Step line answer old mid × Session mid lines answers new
Session old [] (answer ∷ answers) new = ⊥
Session old (line ∷ lines) [] new = ⊥

-- ---- a line that is cut short

-- nothing refuses the command, but one of its records isn't kept: those before it are, and nothing
-- else is done. These are left
pub record IsCut (command : Command) (left : List Record) (old new : State) : Type 0 where
  pub allowed : HasRefusal command None old
  pub front : List Record
  pub split : records_of command old ≡ front ++ left
  pub kept : new ≡ with_added front old

pub record LineIsCut (line : List ℕ) (left : List Record) (old new : State) : Type 0 where
  pub command : Command
  pub asks : AsksFor line command
  pub cut : IsCut command left old new

-- ---- what stands of them

-- what stands of a command that was not refused
abbrev pub Stands : Command → (now : State) → Type 0
Stands (Move name sectors writes) now = HasMoved name sectors writes now.store
Stands Quit now = Unit {0}
Stands (Host name limit) now = Unit {0}
Stands (Vm name host disks) now = Unit {0}
Stands (Enable vm) now = Unit {0}
Stands (Write vm disk first count fill) now = Unit {0}
Stands (Snapshot vm) now = Unit {0}
Stands (Remove vm snapshot) now = Unit {0}
Stands (Query vm snapshot disk since start) now = Unit {0}
Stands (Read vm disk first count snapshot) now = Unit {0}
Stands (Power vm on) now = Unit {0}
Stands (Reset vm disk) now = Unit {0}
Stands Inventory now = Unit {0}
Stands (Plan name vms interval) now = Unit {0}
Stands (Start plan) now = Unit {0}
Stands (Run at workers guests disturb) now = Unit {0}
Stands (Cutover plan at) now = Unit {0}
Stands (Cancel vm) now = Unit {0}
Stands Status now = Unit {0}
Stands (Target volume first count) now = Unit {0}
Stands (Digest volume) now = Unit {0}
Stands Restart now = Unit {0}

-- where the line wasn't refused, what it asked for stands
abbrev pub IsComplete : (line : List ℕ) → Answer → (now : State) → Type 0
IsComplete line (Ok reply) now = (command : Command) × AsksFor line command × Stands command now
IsComplete line (Err why) now = Unit {0}

-- each of these lines that wasn't refused has what it asked for
abbrev pub AllComplete : List (List ℕ) → List Answer → (now : State) → Type 0
AllComplete (line ∷ lines) (answer ∷ answers) now =
    IsComplete line answer now × AllComplete lines answers now
AllComplete lines answers now = Unit {0}
