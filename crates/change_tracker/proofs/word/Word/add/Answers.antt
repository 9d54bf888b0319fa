use Rattle.std.proofs.Common.{◌≡◌, Bool, true, false, ◌||◌, ◌&&◌, subst, ap, ◌∙◌, refl, bit_or}
use Rattle.basics.specs.Bits.{has_bit}
use Rattle.change_tracker.specs.Touches.{WordState, is_inside, is_of, touched_at}
use Rattle.std.specs.List.{list_any}
use Rattle.change_tracker.proofs.Bits.{or_has}
use Rattle.change_tracker.proofs.word.Word.add.Goals as goal

spread : (i x y e : Bool) → ((i && (x || y)) || e) ≡ (((i && x) || e) || (i && y))
spread true true y e = refl
spread true false true true = refl
spread true false true false = refl
spread true false false true = refl
spread true false false false = refl
spread false x y true = refl
spread false x y false = refl

pub returns-clause-added : goal.returns-clause-added
returns-clause-added c = λ window place.
    let was = c.self.inside in
    let new : WordState =
    record {
      latest = record
          { freezes = was.latest.freezes; bits = bit_or was.latest.bits c.args.bits };
      earlier =
          was.earlier.items;
    } in
    let old : WordState = record { latest = was.latest; earlier = was.earlier.items } in
    let P : WordState → Type 0 =
    λ s. touched_at window place new
    ≡ (touched_at window place s ||
    (is_inside window s.latest.freezes && has_bit c.args.bits place)) in
    subst P c.self.view_is
    (ap (λ x. (is_inside window was.latest.freezes && x) || list_any (is_of window place)
    was.earlier.items) (or_has was.latest.bits c.args.bits place)
    ∙ spread (is_inside window was.latest.freezes) (has_bit was.latest.bits place)
    (has_bit c.args.bits place) (list_any (is_of window place) was.earlier.items))
