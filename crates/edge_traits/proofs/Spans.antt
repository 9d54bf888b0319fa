-- Copying the bytes of spans, one span after another.
use Rattle.std.proofs.Common.{◌≡◌, ℕ, ◌+◌, ◌-◌, ◌<◌, ◌≤◌, min, Bool, true, false, ◌||◌, if◌then◌else◌, List, [], ◌∷◌, ◌++◌, length, get_or, take, drop, refl, sym, ◌∙◌, ap, ◌⊎◌, inl, inr, arith, length-take, length-drop}
use Rattle.std.specs.List.{list_any}
use Rattle.std.proofs.lemmas.List.{take_more, get_or-take, get_or-drop}
use Rattle.std.proofs.lemmas.List.Folds.{list_any-append}
use Rattle.std.proofs.Math.Bool.{or-false}
use Rattle.std.proofs.lemmas.Bool.{cases_lt}
use Rattle.std.proofs.lemmas.Bool.Decides.{nat_tests}
use Rattle.edge_traits.specs.declared.span.Span.{Span}
use Rattle.basics.specs.Replaced.{replaced}
use Rattle.edge_traits.specs.Disk.{covers}
use Rattle.basics.proofs.Replaced.{get_or-replaced_before, get_or-replaced_within, get_or-replaced_behind}

covered : (offset : ℕ) (span : Span) → span.first ≤ offset → offset < span.first + span.count
    → covers offset span ≡ true
covered offset span from to = grind (arith, nat_tests)

uncovered_before : (offset : ℕ) (span : Span) → offset < span.first → covers offset span ≡ false
uncovered_before offset span before = grind (arith, nat_tests)

uncovered_behind : (offset : ℕ) (span : Span) → span.first + span.count ≤ offset
    → covers offset span ≡ false
uncovered_behind offset span behind = grind (arith, nat_tests)

if_so : (b : Bool) (x y new : ℕ) → b ≡ true → new ≡ x → new ≡ (if b then x else y)
if_so b x y new so same = rw so same

if_not : (b : Bool) (x y new : ℕ) → b ≡ false → new ≡ y → new ≡ (if b then x else y)
if_not b x y new not_so same = rw not_so same

piece_at : (f n : ℕ) (from : List ℕ) (offset : ℕ) → f ≤ offset → offset < f + n
    → get_or (take (f + n - f) (drop f from)) (offset - f) 0 ≡ get_or from offset 0
piece_at f n from offset begun within =
    let inside : offset - f < f + n - f = omega arith in
    let same : f + (offset - f) ≡ offset = omega arith in
    get_or-take (f + n - f) (drop f from) (offset - f) 0 inside
    ∙ get_or-drop f from (offset - f) 0
    ∙ ap (λ k. get_or from k 0) same

pub span_copied : (span : Span) (from to : List ℕ) (f n : ℕ) → length from ≡ length to
    → f ≡ min span.first (length to) → n ≡ min span.count (length to - f)
    → (offset : ℕ) → offset < length from
    → get_or (replaced to f (take (f + n - f) (drop f from))) offset 0
    ≡ (if covers offset span then get_or from offset 0 else get_or to offset 0)
span_copied span from to f n same first count offset within =
    let begins : f ≤ length to = omega arith in
    let long : length (take (f + n - f) (drop f from)) ≡ n =
    omega (arith, length-take (f + n - f) (drop f from), length-drop f from) in
    elim (cases_lt offset f) [
      | inl before ↦
          let outside : offset < span.first = omega arith in
          if_not _ _ _ _ (uncovered_before offset span outside)
          (get_or-replaced_before to _ f begins offset 0 before)
      | inr begun ↦
          elim (cases_lt offset (f + n)) [
            | inl inside ↦
                let from_first : span.first ≤ offset = omega arith in
                let to_end : offset < span.first + span.count = omega arith in
                let in_piece : offset < f + length (take (f + n - f) (drop f from)) = omega arith in
                if_so _ _ _ _ (covered offset span from_first to_end)
                (get_or-replaced_within to _ f begins offset 0 begun in_piece
                ∙ piece_at f n from offset begun inside)
            | inr behind ↦
                let past : span.first + span.count ≤ offset = omega arith in
                let past_piece : f + length (take (f + n - f) (drop f from)) ≤ offset =
                omega arith in
                if_not _ _ _ _ (uncovered_behind offset span past)
                (get_or-replaced_behind to _ f begins offset 0 past_piece)
          ]
    ]

if_either : (a b : Bool) (x y now new : ℕ) → now ≡ (if a then x else y)
    → new ≡ (if b then x else now)
    → new ≡ (if a || b then x else y)
if_either true true x y now new before after = after
if_either true false x y now new before after = after ∙ before
if_either false true x y now new before after = after
if_either false false x y now new before after = after ∙ before

-- one more of the spans
pub one_span_more : (spans : List Span) (i : ℕ) (d : Span) (offset x y now new : ℕ)
    → i < length spans
    → now ≡ (if list_any (covers offset) (take i spans) then x else y)
    → new ≡ (if covers offset (get_or spans i d) then x else now)
    → new ≡ (if list_any (covers offset) (take (i + 1) spans) then x else y)
one_span_more spans i d offset x y now new less before after =
    let span : Span = get_or spans i d in
    let split : list_any (covers offset) (take (i + 1) spans)
    ≡ (list_any (covers offset) (take i spans) || covers offset span) =
    ap (λ (xs : List Span). list_any (covers offset) xs) (take_more spans i d less)
    ∙ list_any-append (covers offset) (take i spans) (span ∷ [])
    ∙ ap (λ (b : Bool). list_any (covers offset) (take i spans) || b)
    (or-false (covers offset span)) in
    if_either _ _ x y now new before after
    ∙ ap (λ (b : Bool). if b then x else y) (sym split)
