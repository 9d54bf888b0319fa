use Rattle.std.proofs.Common.{◌∙◌, ap}
use Rattle.fleet.specs.NameMap.{place_of}
use Rattle.fleet.proofs.Places.{place_of-keys}
use Rattle.fleet.proofs.name_map.NameMap.place_of.Goals as goal

pub returns : goal.returns
returns g c =
    c.get_index_of.ensures.index
    ∙ place_of-keys c.args.name.now c.self.inside.entries.entries
    ∙ ap (place_of c.args.name.now) c.self.view_is
