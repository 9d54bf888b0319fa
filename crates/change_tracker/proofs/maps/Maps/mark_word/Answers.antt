use Rattle.std.proofs.Common.{◌≡◌, subst, sym, ap, bit_and, w64}
use Rattle.std.specs.Int.{bit_not}
use Rattle.change_tracker.specs.declared.maps.Maps.{Maps}
use Rattle.change_tracker.specs.Touches.{TouchState, IsAdded}
use Rattle.change_tracker.proofs.Marking.{AreNewBits, room_for_new, none_added, first_marked, changes_marked}
use Rattle.change_tracker.proofs.maps.Maps.mark_word.Goals as goal
use Rattle.change_tracker.proofs.maps.Maps.mark_word.Goals.{then-new-ne0, else-new-ne0}

pub add-requires : goal.add-requires
add-requires c =
    let told : AreNewBits c.args.self.now c.args.run c.args.freezes c.args.word
    c.bits_of-bits.result
    c.known.result = record
    { met = c.bits_of-bits.ensures; old = c.known.ensures; fits = c.known.type_inv } in
    room_for_new c.args.self.now c.args.run c.args.freezes c.args.word c.bits_of-bits.result
    c.known.result told c.bits_of-bits.type_inv c.if-new-ne0.true c.requires.room

pub returns-clause-touched : goal.returns-clause-touched
returns-clause-touched c =
    let told : AreNewBits c.args.self.now c.args.run c.args.freezes c.args.word
    c.bits_of-bits.result
    c.known.result = record
    { met = c.bits_of-bits.ensures; old = c.known.ensures; fits = c.known.type_inv } in
    let new : IsAdded c.args.self.now.first c.if-new-ne0.self.first c.args.word c.args.freezes
    (bit_and c.bits_of-bits.result (bit_not w64 c.known.result)) =
    (elim c.if-new-ne0.branch [
      | then-new-ne0 w ↦ let P : TouchState → Type 0 =
          λ t. IsAdded c.args.self.now.first t c.args.word c.args.freezes
          (bit_and c.bits_of-bits.result (bit_not w64 c.known.result)) in
          subst P (sym (ap (λ (m : Maps). m.first) w.self-is)) w.add.ensures.added
      | else-new-ne0 w ↦ let P : TouchState → Type 0 =
          λ t. IsAdded c.args.self.now.first t c.args.word c.args.freezes
          (bit_and c.bits_of-bits.result (bit_not w64 c.known.result)) in
          subst P (sym (ap (λ (m : Maps). m.first) w.self-is))
          (none_added c.args.self.now.first c.args.word c.args.freezes
          (bit_and c.bits_of-bits.result (bit_not w64 c.known.result)) w.if-new-ne0.false)
    ]) in
    let same : c.if-new-ne0.self.changes ≡ c.args.self.now.changes =
    (elim c.if-new-ne0.branch [
      | then-new-ne0 w ↦ ap (λ (m : Maps). m.changes) w.self-is
      | else-new-ne0 w ↦ ap
          (λ (m : Maps). m.changes) w.self-is
    ]) in
    let Q : TouchState → Type 0 =
    λ t. IsAdded t c.add-2.new.self c.args.word c.args.freezes c.bits_of-bits.result in
    record {
      first = first_marked c.args.self.now c.if-new-ne0.self.first c.args.run c.args.freezes
          c.args.word c.bits_of-bits.result c.known.result told new;
      changes = changes_marked c.args.self.now.changes c.add-2.new.self c.args.run c.args.freezes
          c.args.word c.bits_of-bits.result c.bits_of-bits.ensures
          (subst Q same c.add-2.ensures.added);
    }
