-- The identifiers so far are those of their disks.
use Rattle.std.proofs.Common.{◌≡◌, ◌<◌, ℕ}
use Rattle.std.specs.List.{slice_get}
use Rattle.log_model.specs.Marks.{id_at}
use Rattle.log_facts.proofs.log_facts.LogFacts.are_ids_at.Given as goal

abbrev pub invariant-loop-disk : goal.invariant-loop-disk
invariant-loop-disk l = (disk : ℕ) → disk < l.disk
    → slice_get l.ids disk ≡ id_at l.self.number disk l.snap l.self.log
