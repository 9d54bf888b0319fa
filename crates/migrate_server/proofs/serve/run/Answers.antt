use Rattle.std.proofs.Common.{refl}
use Rattle.migrate_server.specs.Session.{serving}
use Rattle.migrate_server.proofs.Carrying.{taken_unfailed}
use Rattle.migrate_server.proofs.Taking.{taken_behind}
use Rattle.migrate_server.proofs.serve.run.Goals as goal

pub returns-in_ok-run_other-in_default : goal.returns-in_ok-run_other-in_default
returns-in_ok-run_other-in_default g c =
    let S = g.T.VolumeStore.state in
    let j = c.args.controller.now.journal in
    let old = serving c.args.fleet.now j.records (S c.args.controller.now.store) in
    let new = serving c.run_other.new.fleet j.records (S c.run_other.new.store) in
    let answers = c.in_ok-run_other-in_default.ensures.answer j.records in
    record {
      answer = answers;
      ready = c.requires.ready;
      unfailed = record { failure = c.requires.ready.unfailed; faults = refl };
      taken = taken_unfailed c.run_other.new.fleet j c.requires.ready.unfailed
          (taken_behind c.args.command c.in_ok-run_other-in_default.field-0 old new j.records
          c.fleet_is_sound.ensures c.requires.all_in answers c.requires.taken.0);
      unanswered = tt;
    }
