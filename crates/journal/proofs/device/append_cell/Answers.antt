use Rattle.std.proofs.Common.{◌≡◌, ◌-◌, [], ◌∷◌, length, arith}
use Rattle.std.specs.Prelude.{option_map}
use Rattle.std.proofs.lemmas.Grind.{common_steps}
use Rattle.edge_traits.specs.Disk.{WhereTold, IsBrokenWrite, after_write, after_sync}
use Rattle.journal.specs.declared.format.TheConstants.{OPEN_GATE}
use Rattle.basics.proofs.Results.{on_err}
use Rattle.journal.proofs.Results.{on_err_or}
use Rattle.journal.proofs.AppendSteps.{with_cell, write_cut, sync_cut, gate_cut, last_cut, gate_within, synced_is}
use Rattle.journal.proofs.device.append_cell.Goals as goal

pub returns-in_err-or-clause-cut : goal.returns-in_err-or-clause-cut
returns-in_err-or-clause-cut g c =
    let broken : WhereTold (IsBrokenWrite c.args.len (length c.args.cell.now))
    (g.D.Disk.state c.args.disk.now).contents (g.D.Disk.state c.write_at.new.self).contents =
    grind (arith, common_steps, c.write_at.ensures.broken) in
    on_err _ (write_cut _ _ c.args.len c.args.cell.now c.requires.settled c.requires.long broken)

pub returns-in_err-or-2-clause-cut : goal.returns-in_err-or-2-clause-cut
returns-in_err-or-2-clause-cut g c =
    let written : (g.D.Disk.state c.write_at.new.self).contents
    ≡ option_map (after_write c.args.len c.args.cell.now) (g.D.Disk.state c.args.disk.now).contents
    =
    grind (arith, common_steps, c.write_at.ensures.written) in
    let kept : (g.D.Disk.state c.sync.new.self).contents
    ≡ (g.D.Disk.state c.write_at.new.self).contents =
    grind (arith, common_steps, c.sync.ensures.kept) in
    on_err _ (sync_cut _ _ _ c.args.len c.args.cell.now c.requires.settled c.requires.long written
    kept)

pub returns-in_err-or-3-clause-cut : goal.returns-in_err-or-3-clause-cut
returns-in_err-or-3-clause-cut g c =
    let written : (g.D.Disk.state c.write_at.new.self).contents
    ≡ option_map (after_write c.args.len c.args.cell.now) (g.D.Disk.state c.args.disk.now).contents
    =
    grind (arith, common_steps, c.write_at.ensures.written) in
    let synced : (g.D.Disk.state c.sync.new.self).contents
    ≡ option_map after_sync (g.D.Disk.state c.write_at.new.self).contents =
    grind (arith, common_steps, c.sync.ensures.synced) in
    let broken : WhereTold (IsBrokenWrite (c.args.len - 1) 1)
    (g.D.Disk.state c.sync.new.self).contents (g.D.Disk.state c.write_at-2.new.self).contents =
    grind (arith, common_steps, c.write_at-2.ensures.broken) in
    on_err _ (gate_cut _ _ _ c.args.len c.args.cell.now c.requires.long c.requires.some
    (synced_is _ _ _ c.args.len c.args.cell.now written synced) broken)

pub returns-clause-cut : goal.returns-clause-cut
returns-clause-cut g c =
    let written : (g.D.Disk.state c.write_at.new.self).contents
    ≡ option_map (after_write c.args.len c.args.cell.now) (g.D.Disk.state c.args.disk.now).contents
    =
    grind (arith, common_steps, c.write_at.ensures.written) in
    let synced : (g.D.Disk.state c.sync.new.self).contents
    ≡ option_map after_sync (g.D.Disk.state c.write_at.new.self).contents =
    grind (arith, common_steps, c.sync.ensures.synced) in
    let opened : (g.D.Disk.state c.write_at-2.new.self).contents
    ≡ option_map (after_write (c.args.len - 1) (OPEN_GATE ∷ []))
    (g.D.Disk.state c.sync.new.self).contents =
    grind (arith, common_steps, c.write_at-2.ensures.written) in
    on_err_or c.sync-2.result c.or-4.result _ _ _ c.or-4.ensures c.sync-2.ensures.kept
    (λ kept.
    last_cut _ _ _ _ c.args.len c.args.cell.now c.requires.long c.requires.some
    (synced_is _ _ _ c.args.len c.args.cell.now written synced) opened kept)
