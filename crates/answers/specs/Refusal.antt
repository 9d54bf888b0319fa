-- The replies that tell refusals: the text of each, and what it carries.
use Rattle.std.specs.Prelude.{ℕ, List, codes}
use Rattle.change_id.specs.declared.IdRefused.{IdRefused}
use Rattle.change_id.specs.declared.IdRefused.TheVariants.{Form, Uuid, Number as NoNumber}
use Rattle.reply_json.specs.declared.reply.Carried.{Carried}
use Rattle.reply_json.specs.declared.reply.Carried.TheVariants.{Nothing, Name, Vm, Cause, Id}
use Rattle.reply_json.specs.declared.reply.Reply.{Reply}
use Rattle.reply_json.specs.declared.reply.Reply.TheVariants.{Refused}
use Rattle.answers.specs.declared.refusal.Refusal.{Refusal}
use Rattle.answers.specs.declared.refusal.Refusal.TheVariants.{Long, Json, Command, Field, Number, NameTaken, UnknownHost, BadSize, TooMany, UnknownVm, UnknownListed, Doubled, InPlan, NoTracking, Empty, UnknownPlan, Started, NotStarted, Ended, AlreadyEnabled, Off, Range, LogFull, UnknownSnapshot, Owned, Since, Strange, AlreadyOn, AlreadyOff, Spent, Volume}

abbrev pub refusal_text : Refusal → List ℕ
refusal_text Long = codes "long"
refusal_text Json = codes "json"
refusal_text Command = codes "command"
refusal_text (Field name) = codes "field"
refusal_text (Number name) = codes "number"
refusal_text NameTaken = codes "name-taken"
refusal_text UnknownHost = codes "unknown-host"
refusal_text BadSize = codes "bad-size"
refusal_text TooMany = codes "too-many"
refusal_text UnknownVm = codes "unknown-vm"
refusal_text (UnknownListed vm) = codes "unknown-vm"
refusal_text (Doubled vm) = codes "doubled"
refusal_text (InPlan vm) = codes "in-plan"
refusal_text (NoTracking vm) = codes "no-tracking"
refusal_text Empty = codes "empty"
refusal_text UnknownPlan = codes "unknown-plan"
refusal_text Started = codes "started"
refusal_text NotStarted = codes "not-started"
refusal_text Ended = codes "ended"
refusal_text AlreadyEnabled = codes "already-enabled"
refusal_text Off = codes "off"
refusal_text Range = codes "range"
refusal_text LogFull = codes "log-full"
refusal_text UnknownSnapshot = codes "unknown-snapshot"
refusal_text Owned = codes "owned"
refusal_text (Since why) = codes "since"
refusal_text (Strange id) = codes "strange"
refusal_text AlreadyOn = codes "already-on"
refusal_text AlreadyOff = codes "already-off"
refusal_text Spent = codes "spent"
refusal_text Volume = codes "volume"

-- what is wrong with a text that is no change identifier
abbrev pub cause_text : IdRefused → List ℕ
cause_text Form = codes "form"
cause_text Uuid = codes "uuid"
cause_text NoNumber = codes "number"

abbrev pub carried_by : Refusal → Carried
carried_by Long = Nothing
carried_by Json = Nothing
carried_by Command = Nothing
carried_by (Field name) = Name name
carried_by (Number name) = Name name
carried_by NameTaken = Nothing
carried_by UnknownHost = Nothing
carried_by BadSize = Nothing
carried_by TooMany = Nothing
carried_by UnknownVm = Nothing
carried_by (UnknownListed vm) = Vm vm
carried_by (Doubled vm) = Vm vm
carried_by (InPlan vm) = Vm vm
carried_by (NoTracking vm) = Vm vm
carried_by Empty = Nothing
carried_by UnknownPlan = Nothing
carried_by Started = Nothing
carried_by NotStarted = Nothing
carried_by Ended = Nothing
carried_by AlreadyEnabled = Nothing
carried_by Off = Nothing
carried_by Range = Nothing
carried_by LogFull = Nothing
carried_by UnknownSnapshot = Nothing
carried_by Owned = Nothing
carried_by (Since why) = Cause (cause_text why)
carried_by (Strange id) = Id id
carried_by AlreadyOn = Nothing
carried_by AlreadyOff = Nothing
carried_by Spent = Nothing
carried_by Volume = Nothing

abbrev pub refusal_reply : Refusal → Reply
refusal_reply why = Refused (refusal_text why) (carried_by why)
