use Rattle.std.proofs.Common.{rules, subst}
use Rattle.std.proofs.KnownBytes.{Appends-trans}
use Rattle.std.specs.Io.KnownBytes.{Appends}
use Rattle.migrate_main.proofs.Fronts.{take-two}
use Rattle.migrate_main.proofs.output.write_whole.Goals as goal

pub loop-done-preserved : goal.loop-done-preserved
loop-done-preserved g c = record {
  within = search rules;
  given = subst (Appends _ _) (take-two c.args.bytes.now c.loop-done.done c.in-Ok.count)
      (Appends-trans _ _ _ _ _ c.loop-done.invariant.given c.in-Ok.ensures.bytes);
}
