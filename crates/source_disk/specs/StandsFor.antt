-- What a disk stands for: the whole log of its machine, of which its parts know what concerns them.
use Rattle.std.specs.Prelude.{ℕ, List, [], ◌∷◌, ◌++◌, Bool, ◌||◌, is_some}
use Rattle.log_model.specs.declared.entry.Act.{Act}
use Rattle.log_model.specs.declared.entry.Entry.{Entry}
use Rattle.snapshot_chain.specs.History as chain
use Rattle.change_tracker.specs.History as tracker
use Rattle.source_disk.specs.Parts.{chain_event, track_step, events_of, steps_of}
use Rattle.source_disk.specs.SourceDisk.{SourceDiskState, IsInStep, number_of}

-- the disk holds what the log leaves of the disk of its number
pub record StandsFor (d : SourceDiskState) (log : List Entry) : Type 0 where
  pub in_step : IsInStep d
  pub chain : chain.StandsFor d.chain (events_of (number_of d) log)
  pub tracker : tracker.StandsFor d.tracker (steps_of (number_of d) log)

-- whatever log the old value stood for, the new one stands for with this act behind it, whoever
-- acted
abbrev pub Takes : Act → (old new : SourceDiskState) → Type 0
Takes act old new = (log : List Entry) (who : ℕ) → StandsFor old log
    → StandsFor new (log ++ record { who = who; act = act } ∷ [])

-- the act is one for a part of the disk
abbrev pub concerns : (disk : ℕ) → Act → Bool
concerns disk act = is_some (chain_event disk act) || is_some (track_step disk act)
