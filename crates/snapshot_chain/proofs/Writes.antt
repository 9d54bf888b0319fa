-- A run of sectors, sector by sector.
use Rattle.std.proofs.Common.{◌≡◌, ℕ, ◌-◌, ◌<◌, ◌≤◌, List, None, refl}
use Rattle.std.specs.List.{slice_get}
use Rattle.std.proofs.lemmas.Bool.{le-leb, lt-leb}
use Rattle.sector_model.specs.declared.sector.Sector.{Sector}
use Rattle.snapshot_chain.specs.Page128.{run_at}

pub run_before : (first : ℕ) (xs : List Sector) (s : ℕ) → s < first → run_at first xs s ≡ None
run_before first xs s less = rw (lt-leb first s less) refl

pub run_from : (first : ℕ) (xs : List Sector) (s : ℕ) → first ≤ s
    → run_at first xs s ≡ slice_get xs (s - first)
run_from first xs s le = rw (le-leb first s le) refl
