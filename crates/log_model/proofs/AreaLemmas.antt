-- The next area from a sector on, found sector by sector.
use Rattle.std.proofs.Common.{◌≡◌, ℕ, ◌/◌, ◌<◌, List, [], ◌∷◌, Bool, false, ◌||◌, Option, Some, None, refl, ap, ◌∙◌, arith}
use Rattle.std.specs.List.{list_any, cons_option}
use Rattle.std.specs.Option.{option_map_or}
use Rattle.sector_model.specs.Disk.{Write as Replacement}
use Rattle.sector_model.specs.Run.{in_runs, in_blocks, areas_of, touched_blocks, touches}
use Rattle.sector_model.specs.declared.run.Run.{Run}
use Rattle.log_model.specs.declared.entry.Entry.{Entry}
use Rattle.log_model.specs.Entry.{writes_of, write_to}
use Rattle.log_model.specs.Touched.{is_touched}
use Rattle.sector_model.proofs.Among.{among, in_areas}

-- a test of the writes is one of the entries
any_write_at : (d sector : ℕ) (o : Option Replacement) (ws : List Replacement) (b : Bool)
    → list_any (touches (sector / 128)) ws ≡ b
    → list_any (touches (sector / 128)) (cons_option o ws)
    ≡ (option_map_or (touches (sector / 128)) o false || b)
any_write_at d sector None ws b h = h
any_write_at d sector (Some w) ws b h = ap (λ x. touches (sector / 128) w || x) h

pub any_write : (d sector : ℕ) (log : List Entry)
    → list_any (touches (sector / 128)) (writes_of d log) ≡ is_touched d sector log
any_write d sector [] = refl
any_write d sector (e ∷ log) =
    any_write_at d sector (write_to d e.act) (writes_of d log) (is_touched d sector log)
    (any_write d sector log)

abbrev pub touched_runs : ℕ → ℕ → List Entry → List Run
touched_runs c d log = areas_of c (touched_blocks c (writes_of d log))

-- a sector of the disk is in the touched blocks exactly where an entry touches its block
pub in_touched_blocks : (c d s : ℕ) (log : List Entry) → s < c
    → in_blocks (touched_blocks c (writes_of d log)) s ≡ is_touched d s log
in_touched_blocks c d s log less =
    among c (λ b. list_any (touches b) (writes_of d log)) (s / 128) (omega arith)
    ∙ any_write d s log

-- a sector is in the touched areas exactly where an entry touches its block
pub in_touched_runs : (c d s : ℕ) (log : List Entry) → s < c
    → in_runs (touched_runs c d log) s ≡ is_touched d s log
in_touched_runs c d s log less =
    in_areas c s (λ b. list_any (touches b) (writes_of d log)) less ∙ any_write d s log
