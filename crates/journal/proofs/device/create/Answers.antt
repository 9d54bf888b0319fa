use Rattle.std.proofs.Common.{◌≡◌, length, arith}
use Rattle.std.specs.Prelude.{option_map}
use Rattle.std.proofs.lemmas.Grind.{common_steps}
use Rattle.edge_traits.specs.Disk.{WhereTold, IsBrokenWrite, after_write, after_cut}
use Rattle.journal.specs.Opening.{empty_file}
use Rattle.journal.specs.declared.format.TheConstants.{EMPTY_BYTES}
use Rattle.basics.proofs.Results.{on_err}
use Rattle.journal.proofs.Results.{on_err_or}
use Rattle.journal.proofs.OpenSteps.{write_few, sync_few}
use Rattle.journal.proofs.device.create.Goals as goal

pub returns-in_err-or-2-clause-cut : goal.returns-in_err-or-2-clause-cut
returns-in_err-or-2-clause-cut g c =
    let cut : (g.D.Disk.state c.cut.new.self).contents
    ≡ option_map (after_cut 0) (g.D.Disk.state c.args.disk.now).contents =
    grind (arith, common_steps, c.cut.ensures.cut) in
    let broken : WhereTold (IsBrokenWrite 0 EMPTY_BYTES)
    (g.D.Disk.state c.cut.new.self).contents (g.D.Disk.state c.write_at.new.self).contents =
    grind (arith, common_steps, c.write_at.ensures.broken, c.empty_file.ensures) in
    on_err _ (write_few _ _ _ EMPTY_BYTES EMPTY_BYTES (omega arith) c.requires.settled
    c.requires.short cut broken)

pub returns-clause-cut : goal.returns-clause-cut
returns-clause-cut g c =
    let cut : (g.D.Disk.state c.cut.new.self).contents
    ≡ option_map (after_cut 0) (g.D.Disk.state c.args.disk.now).contents =
    grind (arith, common_steps, c.cut.ensures.cut) in
    let written : (g.D.Disk.state c.write_at.new.self).contents
    ≡ option_map (after_write 0 empty_file) (g.D.Disk.state c.cut.new.self).contents =
    grind (arith, common_steps, c.write_at.ensures.written, c.empty_file.ensures) in
    on_err_or c.sync.result c.or-3.result _ _ _ c.or-3.ensures c.sync.ensures.kept
    (λ kept.
    sync_few _ _ _ _ empty_file EMPTY_BYTES (omega arith) c.requires.settled c.requires.short cut
    written kept)
