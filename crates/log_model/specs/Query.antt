-- What a query answers. An identifier is accepted only while its epoch lasts, since a reset forgets
-- what changed before it. Both words are those of change_id, of a log.
use Rattle.std.specs.Prelude.{ℕ, List, Bool, Option, Result}
use Rattle.sector_model.specs.declared.run.Run.{Run}
use Rattle.change_id.specs.History as history
use Rattle.change_id.specs.declared.ChangeId.{ChangeId}
use Rattle.change_id.specs.declared.Since.{Since}
use Rattle.log_model.specs.declared.entry.Entry.{Entry}
use Rattle.log_model.specs.Marks.{reading_of}
use Rattle.log_model.specs.Touched.{touched_areas}

-- a query of the snapshot accepts the identifier for the disk: its UUID is that of the epoch of the
-- disk both at the snapshot and now, and its number is one from 1 to that of the snapshot
abbrev pub accepts : (machine disk snapshot : ℕ) → ChangeId → List Entry → Bool
accepts machine disk snapshot id log =
    history.accepts (reading_of disk) machine disk snapshot id log

-- the areas of the disk that changed up to the snapshot since the identifier, or since the
-- beginning; an identifier that isn't accepted is strange, which tells the one in force
abbrev pub changed_areas : (machine capacity disk snapshot : ℕ) → Since → List Entry
    → Result (List Run) (Option ChangeId)
changed_areas machine capacity disk snapshot since log =
    history.answered (reading_of disk) machine disk snapshot
    (λ from end. touched_areas capacity disk from end log) since log
