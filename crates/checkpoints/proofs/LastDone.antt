-- A write to the last checkpoint.
use Rattle.std.proofs.Common.{◌≡◌, ℕ, suc, zero, List, [], ◌∷◌, length, slice_index_or, slice_set, ap, arith}
use Rattle.checkpoints.specs.declared.checkpoint.Checkpoint.{Checkpoint}
use Rattle.checkpoints.specs.DataVolume.{finished_checkpoint, with_last_done}

pub set_last : (xs : List Checkpoint) (c : Checkpoint) (k : ℕ) → suc k ≡ length xs
    → c ≡ slice_index_or xs k c → slice_set xs k (finished_checkpoint c) ≡ with_last_done xs
set_last [] c k h e = absurd (omega arith)
set_last (x ∷ []) c zero h e =
    ap (λ (y : Checkpoint). finished_checkpoint y ∷ []) e
set_last (x ∷ []) c (suc k) h e = absurd (omega arith)
set_last (x ∷ y ∷ rest) c zero h e = absurd (omega arith)
set_last (x ∷ y ∷ rest) c (suc k) h e =
    ap (λ (ys : List Checkpoint). x ∷ ys) (set_last (y ∷ rest) c k (omega arith) e)
