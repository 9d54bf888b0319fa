use Rattle.std.proofs.Common.{◌≡◌, map, take}
use Rattle.sector_model.specs.declared.sector.Sector.{Sector}
use Rattle.fleet_commands.proofs.read.bytes_of.Given as goal

abbrev pub invariant-loop-sector : goal.invariant-loop-sector
invariant-loop-sector l =
    l.all.items ≡ map (λ (sector : Sector). sector.0) (take l.sector-index l.sectors)
