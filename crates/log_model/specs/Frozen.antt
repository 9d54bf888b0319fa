-- What a snapshot froze, and where the machine went off before it: nothing can be written while a
-- machine is off, so a snapshot taken then froze all that there will ever be, and its power-off
-- place says up to which entry that is.
use Rattle.std.specs.Prelude.{ℕ, List, Option, Some, None, if◌then◌else◌}
use Rattle.std.specs.List.{fold, enumerate_from}
use Rattle.sector_model.specs.declared.sector.Sector.{Sector}
use Rattle.log_model.specs.declared.entry.Entry.{Entry}
use Rattle.log_model.specs.Entry.{contents, is_off, is_on}
use Rattle.log_model.specs.Marks.{before}

-- the contents of the disk that the snapshot froze: those that the entries before its Snap entry
-- leave
abbrev pub frozen : (capacity disk snapshot : ℕ) → List Entry → List Sector
frozen capacity disk snapshot log = contents capacity disk (before snapshot log)

-- the place of the last Off entry where the machine is off, else none
abbrev pub off_after : (place : Option ℕ) → ℕ × Entry → Option ℕ
off_after place e = if is_off e.1.act then Some e.0 else if is_on e.1.act then None else place

abbrev pub last_off : List Entry → Option ℕ
last_off log = fold off_after None (enumerate_from 0 log)

-- the power-off place of a snapshot: that of the log before its Snap entry
abbrev pub off_place : (snapshot : ℕ) → List Entry → Option ℕ
off_place snapshot log = last_off (before snapshot log)
