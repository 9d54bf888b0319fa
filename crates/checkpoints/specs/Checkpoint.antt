-- What the phases of an import are called, as replies show them, and the numbers and the texts of
-- the refusals, which a caller keeps or prints in place of the refusal itself.
use Rattle.std.specs.Prelude.{ℕ, List, Option, Some, None, codes}
use Rattle.checkpoints.specs.declared.checkpoint.DvPhase.{DvPhase}
use Rattle.checkpoints.specs.declared.checkpoint.DvPhase.TheVariants.{Pending, InProgress, Paused, Succeeded}
use Rattle.checkpoints.specs.declared.checkpoint.CheckRefused.{CheckRefused}
use Rattle.checkpoints.specs.declared.checkpoint.CheckRefused.TheVariants.{Order, Final, NoMemory}

abbrev pub phase_text : DvPhase → List ℕ
phase_text Pending = codes "Pending"
phase_text InProgress = codes "InProgress"
phase_text Paused = codes "Paused"
phase_text Succeeded = codes "Succeeded"

-- want of memory has no number
abbrev pub refusal_number : CheckRefused → Option ℕ
refusal_number Order = Some 1
refusal_number Final = Some 2
refusal_number NoMemory = None

abbrev pub refusal_text : CheckRefused → List ℕ
refusal_text Order = codes "the checkpoint is out of order"
refusal_text Final = codes "the final checkpoint was added before"
refusal_text NoMemory = codes "memory ran out"
