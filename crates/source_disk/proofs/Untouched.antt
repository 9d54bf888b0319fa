-- Outside the areas that were touched before a snapshot nothing was written by then.
use Rattle.std.proofs.Common.{◌≡◌, ℕ, ◌<◌, replicate, false, ltb, Some, sym, ap, ◌∙◌, arith}
use Rattle.std.specs.List.{slice_get}
use Rattle.std.proofs.lemmas.Bool.{lt-ltb}
use Rattle.std.proofs.lemmas.Option.{slice_get-get_or}
use Rattle.std.proofs.lemmas.List.{get_or-replicate, length-replicate}
use Rattle.basics.proofs.ItemAt.{slice_get-replicate}
use Rattle.basics.proofs.Truth.{second_fails}
use Rattle.sector_model.specs.Sector.{zero_sector}
use Rattle.sector_model.specs.Run.{in_blocks}
use Rattle.sector_model.specs.declared.sector.Sector.{Sector}
use Rattle.sector_model.proofs.Exact.{in_runs_of}
use Rattle.log_model.specs.Marks.{mark}
use Rattle.log_model.specs.Touched.{touched}
use Rattle.log_model.proofs.TouchedLaws.{untouched_stays}
use Rattle.source_disk.specs.SourceDisk.{number_of, capacity_of}
use Rattle.source_disk.specs.Laws.{UntouchedIsZero}

pub untouched_is_zero : UntouchedIsZero
untouched_is_zero disks d log s sector legal has less none =
    let blocks = touched (capacity_of d) (number_of d) 0 (mark s log) log in
    let outside : in_blocks blocks sector ≡ false =
    second_fails (ltb sector (capacity_of d)) (in_blocks blocks sector)
    (lt-ltb sector (capacity_of d) less)
    (sym (in_runs_of (in_blocks blocks) (capacity_of d) sector) ∙ none) in
    untouched_stays disks (capacity_of d) (number_of d) 0 (mark s log) log sector legal has
    (omega arith) outside
    ∙ slice_get-replicate (capacity_of d) sector zero_sector less
