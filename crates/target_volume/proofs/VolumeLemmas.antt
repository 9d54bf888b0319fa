-- What a failed call leaves of a volume in memory, as a volume.
use Rattle.std.proofs.Common.{◌≡◌, ℕ, ◌≤◌, ap, refl, sym, subst, arith}
use Rattle.basics.specs.Faults.{counted_by, last_count}
use Rattle.target_volume.specs.MemVolume.{MemVolumeState, volume_state, held_broken}
use Rattle.target_volume.specs.Volume.{Breaks}

-- a write or a zeroing that failed
pub breaks_by : (old new : MemVolumeState) (first count : ℕ)
    → old.held.written ≤ last_count → old.held.calls.faults ≤ new.held.calls.faults
    → new ≡ record old { held = held_broken first count old.held }
    → Breaks first count (volume_state old) (volume_state new)
breaks_by old new first count few counted is =
    let counted_now : new.held.calls.faults ≡ counted_by 1 old.held.calls.faults =
    ap (λ (v : MemVolumeState). v.held.calls.faults) is in
    subst (λ (v : MemVolumeState). Breaks first count (volume_state old) (volume_state v)) (sym is)
    (record {
      kept = refl;
      contents = record { before = refl; behind = refl; long = refl; loose = refl };
      no_less = omega arith;
      no_more = omega arith;
      rises = (omega arith, omega arith);
    })
