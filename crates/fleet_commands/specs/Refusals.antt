-- What a command is refused as where a fleet, a machine or a write refuses what it asks for. Want
-- of memory is told by nothing, and no command asks that a machine be off.
use Rattle.std.specs.Prelude.{Option, Some, None}
use Rattle.log_model.specs.declared.refusals.LinkRefused.{LinkRefused}
use Rattle.log_model.specs.declared.refusals.LinkRefused.TheVariants as link
use Rattle.log_model.specs.declared.refusals.WriteRefused.{WriteRefused}
use Rattle.log_model.specs.declared.refusals.WriteRefused.TheVariants as write
use Rattle.fleet.specs.declared.refusals.FleetRefused.{FleetRefused}
use Rattle.fleet.specs.declared.refusals.FleetRefused.TheVariants as fleet
use Rattle.answers.specs.declared.refusal.Refusal.{Refusal}
use Rattle.answers.specs.declared.refusal.Refusal.TheVariants.{NameTaken, UnknownHost, BadSize, TooMany, AlreadyEnabled, Off, Range, LogFull, UnknownSnapshot, Owned, Strange, AlreadyOn, AlreadyOff, Spent}

abbrev pub link_told : LinkRefused → Option Refusal
link_told link.UnknownSnap = Some UnknownSnapshot
link_told link.Running = None
link_told (link.Strange id) = Some (Strange id)
link_told link.Range = Some Range
link_told link.AlreadyOff = Some AlreadyOff
link_told link.AlreadyOn = Some AlreadyOn
link_told link.Spent = Some Spent
link_told link.Owned = Some Owned
link_told link.AlreadyEnabled = Some AlreadyEnabled
link_told link.NoMemory = None

abbrev pub write_told : WriteRefused → Option Refusal
write_told write.Off = Some Off
write_told write.Range = Some Range
write_told write.LogFull = Some LogFull
write_told write.NoMemory = None

abbrev pub fleet_told : FleetRefused → Option Refusal
fleet_told fleet.NameTaken = Some NameTaken
fleet_told fleet.UnknownHost = Some UnknownHost
fleet_told fleet.TooMany = Some TooMany
fleet_told fleet.BadSize = Some BadSize
fleet_told fleet.NoMemory = None
