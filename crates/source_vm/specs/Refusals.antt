-- Refusals for which log_model has no word.
use Rattle.std.specs.Prelude.{ℕ, List, Option, Some, None, if◌then◌else◌}
use Rattle.change_tracker.specs.declared.refusals.TrackRefused.{TrackRefused}
use Rattle.change_tracker.specs.declared.refusals.TrackRefused.TheVariants.{UnknownSnap as NotKnown, Range as Outside, Strange as NotOurs, NoMemory as NoRoom}
use Rattle.log_model.specs.declared.refusals.LinkRefused.{LinkRefused}
use Rattle.log_model.specs.declared.refusals.LinkRefused.TheVariants.{UnknownSnap, Strange, Range, NoMemory}
use Rattle.log_model.specs.Refusals.{is_on_disk}

-- why what a disk holds now isn't read
abbrev pub read_now_refusal : (capacities : List ℕ) (disk first count : ℕ) → Option LinkRefused
read_now_refusal capacities disk first count =
    if is_on_disk capacities disk first count then None else Some Range

-- what a machine refuses where one of its disks does
abbrev pub link_refused : TrackRefused → LinkRefused
link_refused NotKnown = UnknownSnap
link_refused Outside = Range
link_refused (NotOurs id) = Strange id
link_refused NoRoom = NoMemory
