use Rattle.std.proofs.Common.{◌≡◌, ◌<◌, ◌≤◌, ◌++◌, ◌∷◌, [], List, subst, sym, arith, rules}
use Rattle.change_tracker.specs.declared.word.Touch.{Touch}
use Rattle.change_tracker.specs.Touches.{WordState}
use Rattle.change_tracker.specs.Rising.{AreRising}
use Rattle.change_tracker.proofs.Windows.{rising_push, rising_more}
use Rattle.change_tracker.proofs.word.Word.reserve.Goals as goal
use Rattle.change_tracker.proofs.word.Word.reserve.Goals.{then-self-ne0+in_ok-push, else-self-ne0}

pub invariant_of-self-then-self-freezes : goal.invariant_of-self-then-self-freezes
invariant_of-self-then-self-freezes c =
    let was = c.self.inside in
    let before : was.latest.freezes ≤ c.args.freezes =
    subst (λ (s : WordState). s.latest.freezes ≤ c.args.freezes) (sym c.self.view_is) c.requires
    in
    let less : was.latest.freezes < c.args.freezes = omega arith in
    let P : List Touch → Type 0 = λ xs. AreRising 0 c.args.freezes xs in
    elim c.if-self-ne0.branch [
      | then-self-ne0+in_ok-push w ↦
          let items : w.push.new.self.items ≡ was.earlier.items ++ was.latest ∷ [] = search rules in
          rw w.self-inside-is (subst P (sym items)
          (rising_push 0 was.latest.freezes was.earlier.items was.latest c.args.freezes
          c.self.invariant (omega arith) less))
      | else-self-ne0 w ↦ rw w.self-inside-is
          (rising_more 0 was.latest.freezes c.args.freezes was.earlier.items before
          c.self.invariant)
    ]
