-- A list of 512 bytes that repeats eight.
use Rattle.std.proofs.Common.{◌≡◌, ℕ, ◌<◌, ◌%◌, List, length, get_or, ap}
use Rattle.std.specs.Int.{w64, to_be_bytes}
use Rattle.std.proofs.lemmas.List.FromFn.{fill_by_all}
use Rattle.sector_model.specs.Sector.{stamped}
use Rattle.sector_model.specs.declared.sector.Sector.{Sector}

pub stamped_by_bytes : (xs : List ℕ) (stamp : ℕ) → length xs ≡ 512
    → ((k : ℕ) → k < 512 → get_or xs k 0 ≡ get_or (to_be_bytes w64 stamp) (k % 8) 0)
    → ◌≡◌ {A = Sector} (record { 0 = xs }) (stamped stamp)
unfolding stamped
stamped_by_bytes xs stamp long each =
    let bytes : List ℕ → Sector = λ ys. record { 0 = ys } in
    ap bytes (fill_by_all (λ k. get_or (to_be_bytes w64 stamp) (k % 8) 0) xs 512 0 long each)
