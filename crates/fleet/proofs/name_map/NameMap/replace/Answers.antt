-- The list that callers see is that of the map, with names as their bytes.
use Rattle.std.proofs.Common.{Some, ap, ◌∙◌, sym}
use Rattle.fleet.specs.NameMap.{with_value_at, value_at}
use Rattle.fleet.proofs.Places.{with_bytes-set, value_at-values}
use Rattle.fleet.proofs.name_map.NameMap.replace.Goals as goal

pub returns-clause-was : goal.returns-clause-was
returns-clause-was g c =
    ap (value_at c.args.place) (sym c.self.view_is)
    ∙ value_at-values c.self.inside.entries.entries c.args.place
    ∙ c.index_mut.ensures.value
    ∙ ap Some (sym c.replace.ensures.value)

pub returns-clause-after : goal.returns-clause-after
returns-clause-after g c =
    with_bytes-set c.self.inside.entries.entries c.args.place c.replace.new.dest
    ∙ ap (with_value_at c.args.place c.replace.new.dest) c.self.view_is
    ∙ ap (λ value. with_value_at c.args.place value c.args.self.now) c.replace.ensures.after
