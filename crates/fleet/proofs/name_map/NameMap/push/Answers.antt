use Rattle.std.proofs.Common.{◌≡◌, List, ℕ, [], ◌∷◌, ◌++◌, None, ap, ◌∙◌, refl, string_bytes}
use Rattle.fleet.specs.NameMap.{with_bytes, place_of}
use Rattle.fleet.proofs.Places.{with_bytes-insert}
use Rattle.fleet.proofs.name_map.NameMap.push.Goals as goal

pub returns-clause-ok : goal.returns-clause-ok
returns-clause-ok g c =
    let key = c.in_ok-name.name in
    let entries = c.self.inside.entries.entries in
    let named : string_bytes key ≡ c.args.name.now = c.in_ok-name.ensures.ok in
    let absent : place_of (string_bytes key) (with_bytes entries) ≡ None =
    rw (named, c.self.view_is) c.requires in
    ap with_bytes c.in_ok-insert.ensures.entries
    ∙ with_bytes-insert entries key c.args.value absent
    ∙ (rw (named, c.self.view_is) refl)
