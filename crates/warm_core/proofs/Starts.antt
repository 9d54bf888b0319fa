-- A world in which nothing was done is sound.
use Rattle.std.proofs.Common.{◌≡◌, ℕ, List, [], length, Option, sym, subst, ◌∙◌, arith}
use Rattle.std.proofs.lemmas.Bool.{false≢true}
use Rattle.std.proofs.lemmas.Option.{none-some}
use Rattle.basics.proofs.Options.{none-is_some}
use Rattle.sector_model.specs.VolumeContents.{IsSized}
use Rattle.sector_model.specs.LooseRuns.{volume_of}
use Rattle.sector_model.specs.declared.run.Run.{Run}
use Rattle.sector_model.specs.declared.sector.Sector.{Sector}
use Rattle.std.proofs.lemmas.List.FromFn.{length-map-range_with_len}
use Rattle.sector_model.specs.Run.{in_runs}
use Rattle.log_model.specs.declared.entry.Entry.{Entry}
use Rattle.log_model.specs.Legal.{Disks, Legal}
use Rattle.warm_core.specs.World.{World, IsStart, IsSound}
use Rattle.warm_core.specs.Staged.{Staged}
use Rattle.warm_core.specs.declared.disk_world.Base.{Base}

pub legal-none : (disks : Disks) (log : List Entry) → log ≡ [] → Legal disks log
legal-none disks log is = subst (λ (xs : List Entry). Legal disks xs) (sym is) (record {
  short = omega arith;
  each = λ place e read. absurd (none-some e read);
})

pub sized-of : (sectors : List Sector) (loose : List Run) (c : ℕ) → length sectors ≡ c
    → IsSized c (volume_of sectors loose)
sized-of sectors loose c is =
    (is, length-map-range_with_len (in_runs loose) 0 (length sectors) ∙ is)

pub start-sound : (w : World) → IsStart w → IsSound w
start-sound w start = record {
  legal = start.legal;
  sized = start.sized;
  base_is = λ base is. absurd (none-some base (sym start.no_base ∙ is));
  base_has_snap = λ some. absurd (none-is_some w.base start.no_base some);
  snap_is = λ snap is. absurd (none-some snap (sym start.no_snap ∙ is));
  snap_from_base = λ snap is. absurd (none-some snap (sym start.no_snap ∙ is));
  snap_lives = λ snap is. absurd (none-some snap (sym start.no_snap ∙ is));
  last_is_off = λ last. absurd (false≢true (sym start.not_last ∙ last));
  stage_has_snap = λ some. absurd (none-is_some w.stage start.no_stage some);
  stage_is = λ snap is. absurd (none-some snap (sym start.no_snap ∙ is));
  complete_is = λ p is. absurd (none-some p (sym start.incomplete ∙ is));
  staged = subst (λ (o : Option Base). Staged w.capacity w.disk w.log o w.snap w.volume)
      (sym start.no_base) tt;
}
