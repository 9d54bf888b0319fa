use Rattle.std.proofs.Common.{refl}
use Rattle.change_id.proofs.tellings_are_read.Goals as goal

pub returns : goal.returns
returns g c = λ to inner. record {
  is_snap = λ e. refl;
  takes = λ snapshot e. refl;
  resets = λ e. refl;
  enables = λ e. refl;
}
