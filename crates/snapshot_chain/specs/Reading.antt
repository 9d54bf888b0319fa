-- Words of a read, sector by sector: what the layers down to one have found, and the numbers of
-- layers and blocks that bound its look-ups.
use Rattle.std.specs.Prelude.{◌≡◌, ℕ, ◌+◌, ◌-◌, ◌/◌, ◌%◌, List, length, nat_eq, Bool, true, false, Option, Some, None, IsSome, option_map}
use Rattle.std.specs.List.{position}
use Rattle.sector_model.specs.Sector.{zero_sector}
use Rattle.sector_model.specs.declared.run.TheConstants.{BLOCK_SECTORS}
use Rattle.sector_model.specs.declared.sector.Sector.{Sector}

-- how many layers a snapshot sees, or all without a snapshot
abbrev pub layers_seen : Option ℕ → List ℕ → Option ℕ
layers_seen None ids = Some (length ids + 1)
layers_seen (Some id) ids = option_map (λ index. index + 1) (position (nat_eq id) ids)

-- what is found stays; else the page's sector is taken, where it has one
abbrev pub TakesMissing : (sector : Option Sector) (was : Bool) (old : Option Sector)
    (now : Bool) (new : Option Sector) → Type 0
TakesMissing sector true old now new = (now ≡ true) × (new ≡ old)
TakesMissing (Some sector) false old now new = (now ≡ true) × (new ≡ Some sector)
TakesMissing None false old now new = (now ≡ false) × (new ≡ old)

-- how many blocks a range of `count` sectors from `first` on meets
abbrev pub blocks_met : (first count : ℕ) → ℕ
blocks_met first count =
    (first % BLOCK_SECTORS + count + (BLOCK_SECTORS - 1)) / BLOCK_SECTORS

-- what the layers down to one have is found and read; else zero stands there, and nothing was found
abbrev pub IsRead : (sector : Option Sector) (found : Bool) (read : Option Sector) → Type 0
IsRead sector true read = (IsSome sector) × (read ≡ sector)
IsRead sector false read = (sector ≡ None) × (read ≡ Some zero_sector)
