use Rattle.std.proofs.Common.{◌≡◌, ◌<◌, List, length, sym, ap, subst, arith}
use Rattle.log_model.specs.declared.entry.Entry.{Entry}
use Rattle.log_model.specs.declared.entry.TheConstants.{MAX_LOG_ENTRIES}
use Rattle.log_model.specs.Legal.{only, MayStand}
use Rattle.log_model.proofs.LegalLogs.{legal_grows, legal_last}
use Rattle.warm_core.proofs.conditions.is_legal.Goals as goal

pub returns-then-log-lt-MAX_LOG_ENTRIES : goal.returns-then-log-lt-MAX_LOG_ENTRIES
returns-then-log-lt-MAX_LOG_ENTRIES c =
    let w = c.args.world.now in
    let e = c.args.entry.now in
    let is : c.as_slice-log.result.now ≡ w.log = c.as_slice-log.ensures in
    let n = ap (λ (xs : List Entry). length xs) is in
    let short : length w.log < MAX_LOG_ENTRIES =
    omega (arith, n, c.if-log-lt-MAX_LOG_ENTRIES.true) in (
      λ stands. legal_grows (only w.disk w.capacity) w.log e c.requires.sound.legal short
          (subst (λ (xs : List Entry). MayStand (only w.disk w.capacity) xs e) is
          (c.may_stand_alone.ensures.0 stands)),
      λ legal. c.may_stand_alone.ensures.1
          (subst (λ (xs : List Entry). MayStand (only w.disk w.capacity) xs e) (sym is)
          (legal_last (only w.disk w.capacity) w.log e legal)),
    )
