use Rattle.std.proofs.Common.{◌≢◌, subst, sym, refl, ap, bit_and, w64}
use Rattle.std.specs.Int.{bit_not}
use Rattle.std.proofs.lemmas.Result.{on_ok_weaker}
use Rattle.change_tracker.specs.declared.maps.Maps.{Maps}
use Rattle.change_tracker.specs.Touches.{TouchState, HasSame, HasRoom}
use Rattle.change_tracker.proofs.Marking.{AreNewBits, word_room}
use Rattle.change_tracker.proofs.maps.Maps.reserve_word.Goals as goal
use Rattle.change_tracker.proofs.maps.Maps.reserve_word.Goals.{then-bits-known-ne0+in_ok-reserve, else-bits-known-ne0}

pub returns-clause-room : goal.returns-clause-room
returns-clause-room c =
    let told : AreNewBits c.args.self.now c.args.run c.args.freezes c.args.word
    c.bits_of-bits.result
    c.known.result = record
    { met = c.bits_of-bits.ensures; old = c.known.ensures; fits = c.known.type_inv } in
    let P : TouchState → Type 0 = λ t. HasSame c.args.self.now.first t in
    let same : HasSame c.args.self.now.first c.if-bits-known-ne0.self.first =
    (elim c.if-bits-known-ne0.branch [
      | then-bits-known-ne0+in_ok-reserve w ↦ subst P (sym (ap (λ (m : Maps). m.first) w.self-is))
          w.in_ok-reserve.ensures.same
      | else-bits-known-ne0 w ↦ subst P (sym (ap (λ (m : Maps). m.first) w.self-is)) (λ v b. refl)
    ]) in
    let Q : TouchState → Type 0 = λ t. HasRoom t c.args.word c.args.freezes in
    let first : bit_and c.bits_of-bits.result (bit_not w64 c.known.result) ≢ 0
    → HasRoom c.if-bits-known-ne0.self.first c.args.word c.args.freezes =
    (elim c.if-bits-known-ne0.branch [
      | then-bits-known-ne0+in_ok-reserve w ↦ λ _. subst Q
          (sym (ap (λ (m : Maps). m.first) w.self-is)) w.in_ok-reserve.ensures.room
      | else-bits-known-ne0 w ↦ λ some. absurd (some w.if-bits-known-ne0.false)
    ]) in
    on_ok_weaker c.reserve-2.result
    (λ room. word_room c.args.self.now c.if-bits-known-ne0.self.first c.reserve-2.new.self
    c.args.run c.args.freezes c.args.word c.bits_of-bits.result c.known.result told same first
    room)
    c.reserve-2.ensures.room
