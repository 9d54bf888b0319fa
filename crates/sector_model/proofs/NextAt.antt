-- The next run of a list, found by halving: the one behind those that end by a sector.
use Rattle.std.proofs.Common.{◌≡◌, ℕ, true, false, leb, ltb, List, option_map, length, get_or, ap, ◌∙◌, arith}
use Rattle.std.specs.List.{slice_get}
use Rattle.std.specs.List.Sorted.{IsPartitionPoint}
use Rattle.std.proofs.lemmas.Bool.{leb-true, leb-false, lt-ltb, le-ltb}
use Rattle.sector_model.specs.Run.{end_of, next_run, from_sector}
use Rattle.sector_model.specs.declared.run.Run.{Run}
use Rattle.sector_model.proofs.Spacing.{find_at}

abbrev pub EndsBefore : ℕ → List Run → ℕ → Type 0
EndsBefore at runs i =
    IsPartitionPoint (λ r. leb (end_of r) at ≡ true) (λ r. leb (end_of r) at ≡ false) runs i

-- the run behind those that end by `at` is the first that reaches past it
pub next_at : (at : ℕ) (runs : List Run) (i : ℕ) → EndsBefore at runs i
    → next_run at runs ≡ option_map (from_sector at) (slice_get runs i)
next_at at runs i point =
    ap (option_map (from_sector at)) (find_at (λ r. ltb at (end_of r)) runs i
    (λ k d below within. le-ltb at (end_of (get_or runs k d))
    (leb-true (end_of (get_or runs k d)) at (point.0 k d (omega arith) below)))
    (λ d within. lt-ltb at (end_of (get_or runs i d))
    (leb-false (end_of (get_or runs i d)) at (point.1 i d (omega arith) within))))
