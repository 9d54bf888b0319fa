use Rattle.std.proofs.Common.{◌≡◌, ℕ, ◌+◌, ◌<◌, Bool, true, false, ◌||◌, bit_or, get_or, take, length, List, ◌∷◌, [], ap, sym, ◌∙◌, refl, arith}
use Rattle.std.specs.List.{list_any}
use Rattle.std.proofs.Math.Bool.{or-false}
use Rattle.std.proofs.lemmas.List.{take_more, take_all}
use Rattle.std.proofs.lemmas.List.Folds.{list_any-append}
use Rattle.change_tracker.specs.declared.word.Touch.{Touch}
use Rattle.change_tracker.specs.declared.word.Window.{Window}
use Rattle.basics.specs.Bits.{has_bit}
use Rattle.change_tracker.specs.Touches.{is_of}
use Rattle.change_tracker.proofs.Bits.{or_has}
use Rattle.change_tracker.proofs.word.Word.bits_in.Goals as goal

more : (w : Window) (p bits now i : ℕ) (first : Bool) (xs : List Touch) (d : Touch) → i < length xs
    → has_bit now p ≡ is_of w p (get_or xs i d)
    → has_bit bits p ≡ (first || list_any (is_of w p) (take i xs))
    → has_bit (bit_or bits now) p ≡ (first || list_any (is_of w p) (take (i + 1) xs))
more w p bits now i first xs d less is before =
    or_has bits now p ∙ (λ j. before j || is j)
    ∙ assoc first (list_any (is_of w p) (take i xs)) (is_of w p (get_or xs i d))
    ∙ ap (λ x. first || x)
    (ap (λ x. list_any (is_of w p) (take i xs) || x)
    (sym (or-false (is_of w p (get_or xs i d))))
    ∙ sym (list_any-append (is_of w p) (take i xs) (get_or xs i d ∷ []))
    ∙ ap (list_any (is_of w p)) (sym (take_more xs i d less)))
  where
    assoc : (a b c : Bool) → ((a || b) || c) ≡ (a || (b || c))
    assoc true b c = refl
    assoc false b c = refl

pub loop-touch-preserved : goal.loop-touch-preserved
loop-touch-preserved c =
    λ place. more c.args.window place c.loop-touch.bits c.bits_in-bits-in-loop-touch.result
    c.loop-touch.touch-index (is_of c.args.window place c.args.self.now.latest)
    c.earlier_in-touch-items.result.now (record { freezes = 0; bits = 0 }) c.loop-touch-test.true
    (c.bits_in-bits-in-loop-touch.ensures place) (c.loop-touch.invariant place)

pub returns : goal.returns
returns c = λ place. c.loop-touch.invariant place
    ∙ ap (λ (xs : List Touch). is_of c.args.window place c.args.self.now.latest || list_any
    (is_of c.args.window place) xs)
    (take_all c.loop-touch.touch-index c.earlier_in-touch-items.result.now (omega arith))
    ∙ ap (λ x. is_of c.args.window place c.args.self.now.latest || x)
    (c.earlier_in-touch-items.ensures place)
