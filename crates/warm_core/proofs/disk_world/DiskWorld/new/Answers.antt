use Rattle.std.proofs.Common.{◌≤◌, List, length, refl, sym, ap, subst, arith}
use Rattle.std.specs.List.{All}
use Rattle.sector_model.specs.Run.{end_of}
use Rattle.sector_model.specs.declared.run.Run.{Run}
use Rattle.sector_model.specs.declared.sector.Sector.{Sector}
use Rattle.log_model.specs.Legal.{only}
use Rattle.warm_core.proofs.Starts.{legal-none, sized-of, start-sound}
use Rattle.warm_core.proofs.disk_world.DiskWorld.new.Goals as goal

pub returns-clause-start : goal.returns-clause-start
returns-clause-start c = record {
  legal = legal-none (only c.args.disk (length c.as_slice.result.now)) c.in_ok-of.field-0
      (c.in_ok-of.ensures);
  sized = sized-of c.args.volume c.new.result (length c.as_slice.result.now)
      (ap (λ (xs : List Sector). length xs) (sym c.as_slice.ensures));
  no_base = refl;
  no_snap = refl;
  no_stage = refl;
  not_last = refl;
  running = refl;
  not_cancelled = refl;
  incomplete = refl;
}

pub returns-clause-sound : goal.returns-clause-sound
returns-clause-sound c = record {
  within = subst (λ (rs : List Run). All (λ r. end_of r ≤ length c.as_slice.result.now) rs)
      (sym c.new.ensures) (λ k d less. absurd (omega (arith, less)));
  sound = start-sound _ (record {
    legal = legal-none (only c.args.disk (length c.as_slice.result.now)) c.in_ok-of.field-0
        (c.in_ok-of.ensures);
    sized = sized-of c.args.volume c.new.result (length c.as_slice.result.now)
        (ap (λ (xs : List Sector). length xs) (sym c.as_slice.ensures));
    no_base = refl;
    no_snap = refl;
    no_stage = refl;
    not_last = refl;
    running = refl;
    not_cancelled = refl;
    incomplete = refl;
  });
}
