-- The live snapshots, in the order in which they were taken, and what an act makes of them.
use Rattle.std.specs.Prelude.{◌≡◌, ℕ, ◌<◌, ◌==◌, List, [], ◌∷◌, ◌++◌, filter, AllPairs, not, Option, Some, option_map}
use Rattle.std.specs.List.{find}
use Rattle.log_model.specs.declared.entry.Owner.{Owner}
use Rattle.log_model.specs.declared.entry.Act.{Act}
use Rattle.log_model.specs.declared.entry.Act.TheVariants.{Write, Snap, Remove, Reset, Enable, Off, On}
use Rattle.log_model.specs.Link.{IsLeastWhere}
use Rattle.source_vm.specs.declared.live.LiveSnap.{LiveSnap}

-- those that are left without this one
abbrev pub without : (snapshot : ℕ) → List LiveSnap → List LiveSnap
without snapshot live = filter (λ s. not (s.id == snapshot)) live

abbrev pub live_after : Act → List LiveSnap → List LiveSnap
live_after (Write disk first sectors) live = live
live_after (Snap id owner) live = live ++ record { id = id; owner = owner } ∷ []
live_after (Remove id) live = without id live
live_after (Reset disk) live = live
live_after Enable live = live
live_after Off live = live
live_after On live = live

-- the owner of a snapshot, where it is one of them
abbrev pub owner_in : (snapshot : ℕ) → List LiveSnap → Option Owner
owner_in snapshot live = option_map (λ s. s.owner) (find (λ s. s.id == snapshot) live)

-- their numbers ascend
abbrev pub AreAscending : List LiveSnap → Type 0
AreAscending live = AllPairs (λ s later. s.id < later.id) live

-- the least one of the owner from `from` on, or none where there is none
abbrev pub IsLeastIn : Owner → (from : ℕ) → List LiveSnap → Option ℕ → Type 0
IsLeastIn owner from live found =
    IsLeastWhere (λ s. owner_in s live ≡ Some owner) from found
