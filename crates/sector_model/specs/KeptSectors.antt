-- What a list of sectors holds, by how it keeps them.
use Rattle.std.specs.Prelude.{List, [], ◌∷◌}
use Rattle.sector_model.specs.declared.sector.KeptSectors.{KeptSectors}
use Rattle.sector_model.specs.declared.sector.KeptSectors.TheVariants.{Single, Several}
use Rattle.sector_model.specs.declared.sector.Sector.{Sector}

abbrev pub sectors_of : KeptSectors → List Sector
sectors_of (Single sector) = sector.value ∷ []
sectors_of (Several sectors) = sectors.value.items
