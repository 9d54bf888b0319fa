use Rattle.std.proofs.Common.{◌≤◌, arith, refl, subst}
use Rattle.std.proofs.lemmas.Grind.{common_steps}
use Rattle.std.proofs.lemmas.Result.{on_err_weaker}
use Rattle.basics.specs.Calls.{FailsNext}
use Rattle.basics.specs.Faults.{last_count}
use Rattle.target_volume.proofs.VolumeLemmas.{breaks_by}
use Rattle.target_volume.specs.MemVolume.{MemVolumeState}
use Rattle.target_volume.proofs.mem_volume.MemVolumeVolume.zero.Goals as goal

pub returns-in_err-next-clause-left_broken : goal.returns-in_err-next-clause-left_broken
returns-in_err-next-clause-left_broken c = grind (arith, common_steps)

pub returns-in_err-next-clause-broken : goal.returns-in_err-next-clause-broken
returns-in_err-next-clause-broken c =
    let few : c.self.inside.held.written ≤ last_count = omega arith in
    on_err_weaker _
    (breaks_by _ _ _ _
    (subst (λ (v : MemVolumeState). v.held.written ≤ last_count) c.self.view_is few)
    (subst (λ (v : MemVolumeState). v.held.calls.faults ≤ c.next.new.self.faults) c.self.view_is
    c.in_err-next.ensures.cause.later))
    (returns-in_err-next-clause-left_broken c)

pub returns-in_err-next-clause-fails : goal.returns-in_err-next-clause-fails
returns-in_err-next-clause-fails c = (
  λ _. subst (λ (v : MemVolumeState). FailsNext v.held.calls) c.self.view_is
      (c.in_err-next.ensures.fails.0 refl),
  λ _. c.from_residual.ensures.0,
)
