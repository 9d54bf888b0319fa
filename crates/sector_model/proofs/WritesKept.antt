-- One sector of a disk after writes that leave its block alone, and how long the disk stays.
use Rattle.std.proofs.Common.{◌≡◌, ℕ, ◌+◌, ◌*◌, ◌/◌, ◌<◌, ◌≤◌, List, [], ◌∷◌, length, false, min, max, refl, ◌∙◌, arith, ◌⊎◌, inl, inr}
use Rattle.std.specs.List.{fold, slice_get, list_any, AllByRecursion}
use Rattle.std.proofs.lemmas.Bool.{or_parts, ltb-false, cases_lt}
use Rattle.basics.proofs.Replaced.{length-replaced, replaced-outside}
use Rattle.sector_model.specs.Disk.{Write, Fits, after_write}
use Rattle.sector_model.specs.Run.{touches}
use Rattle.sector_model.specs.declared.sector.Sector.{Sector}
use Rattle.sector_model.specs.declared.run.TheConstants.{BLOCK_SECTORS}

-- a write that touches nothing of a sector's block lies before or behind the sector
pub misses : (s : ℕ) (w : Write) → touches (s / BLOCK_SECTORS) w ≡ false
    → (s < w.first) ⊎ (w.first + length w.sectors ≤ s)
misses s w apart =
    let bound : min (128 * (s / BLOCK_SECTORS) + 128) (w.first + length w.sectors) ≤ max
    (128 * (s / BLOCK_SECTORS)) w.first =
    ltb-false (max (128 * (s / BLOCK_SECTORS)) w.first)
    (min (128 * (s / BLOCK_SECTORS) + 128) (w.first + length w.sectors)) apart in
    elim (cases_lt s w.first) [ inl less ↦ inl less | inr from ↦ inr (omega arith) ]

pub length-after_writes : (c : ℕ) (disk : List Sector) (ws : List Write) → length disk ≡ c
    → AllByRecursion (Fits c) ws → length (fold after_write disk ws) ≡ c
length-after_writes c disk [] long fit = long
length-after_writes c disk (w ∷ ws) long fit =
    length-after_writes c (after_write disk w) ws
    (length-replaced disk w.sectors w.first (omega (arith, long, fit.0)) ∙ long) fit.1

-- writes that touch nothing of a sector's block leave the sector
pub untouched : (c : ℕ) (disk : List Sector) (ws : List Write) (s : ℕ) → length disk ≡ c
    → AllByRecursion (Fits c) ws → list_any (touches (s / BLOCK_SECTORS)) ws ≡ false
    → slice_get (fold after_write disk ws) s ≡ slice_get disk s
untouched c disk [] s long fit none = refl
untouched c disk (w ∷ ws) s long fit none =
    let within : w.first + length w.sectors ≤ length disk = omega (arith, long, fit.0) in
    untouched c (after_write disk w) ws s (length-replaced disk w.sectors w.first within ∙ long)
    fit.1 (or_parts (touches (s / BLOCK_SECTORS) w) (list_any (touches (s / BLOCK_SECTORS)) ws)
    none).1
    ∙ replaced-outside disk w.sectors w.first (omega (arith, within)) s
    (misses s w (or_parts (touches (s / BLOCK_SECTORS) w)
    (list_any (touches (s / BLOCK_SECTORS)) ws) none).0)
