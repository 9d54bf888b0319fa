-- What marking a run changes in the maps, word by word.
use Rattle.std.proofs.Common.{◌≡◌, ◌≢◌, ℕ, ◌+◌, ◌-◌, ◌*◌, ◌/◌, ◌%◌, ◌^◌, ◌<◌, ◌≤◌, List, [], ◌∷◌, Bool, true, false, not, ◌&&◌, ◌||◌, eqb, ltb, leb, bit_and, w64, Option, Some, None, sym, ap, subst, refl, ◌∙◌, arith, inl, inr}
use Rattle.std.specs.List.{list_any}
use Rattle.std.specs.Int.{bit_not, trailing_zeros}
use Rattle.std.proofs.lemmas.Bool.{and_parts, cases_eq, cases_lt, eq-eqb, ne_eqb, eqb-true, lt-ltb, ltb-true, le-ltb, le-leb, leb-true, false≢true, and_from, and_right, or_parts, not-true}
use Rattle.std.proofs.lemmas.Nat.{and_le_l}
use Rattle.sector_model.specs.Run.{meets}
use Rattle.sector_model.specs.declared.run.Run.{Run}
use Rattle.change_tracker.specs.declared.word.Touch.{Touch}
use Rattle.change_tracker.specs.declared.word.Window.{Window}
use Rattle.change_tracker.specs.declared.maps.Maps.{Maps}
use Rattle.basics.specs.Bits.{has_bit}
use Rattle.change_tracker.specs.Touches.{WordState, TouchState, is_inside, is_of, touched_in, word_of, is_touched_in, HasSame, HasRoom, IsAdded}
use Rattle.change_tracker.specs.Maps.{window, KeepsPlaces, IsTouchedWhere, is_met_in, HasBlockRoom, HasRoomWhere}
use Rattle.change_tracker.proofs.Bits.{and_has, not_has, met_iff}
use Rattle.change_tracker.proofs.Walks.{Lowest, lowest, no_bits}

-- ---- a longer window from the beginning has more

of_longer : (p e f : ℕ) (x : Touch) → e ≤ f → is_of (window 0 e) p x ≡ true
    → is_of (window 0 f) p x ≡ true
of_longer p e f x le is =
    let parts = and_parts _ _ is in
    let inside = and_parts _ _ parts.0 in
    and_from _ _ (and_from _ _ inside.0
    (lt-ltb x.freezes f (omega (arith, ltb-true x.freezes e inside.1, le)))) parts.1

any_longer : (p e f : ℕ) (xs : List Touch) → e ≤ f → list_any (is_of (window 0 e) p) xs ≡ true
    → list_any (is_of (window 0 f) p) xs ≡ true
any_longer p e f [] le is = is
any_longer p e f (x ∷ xs) le is =
    either (is_of (window 0 e) p x) (is_of (window 0 f) p x) (list_any (is_of (window 0 f) p) xs)
    (of_longer p e f x le) (λ rest. any_longer p e f xs le rest) is
  where
    either : (a b d : Bool) {c : Bool} → (a ≡ true → b ≡ true) → (c ≡ true → d ≡ true)
        → (a || c) ≡ true → (b || d) ≡ true
    either true b d f g h = ap (λ x. x || d) (f refl)
    either false true d f g h = refl
    either false false d f g h = g h

at_longer : (p e f : ℕ) (o : Option WordState) → e ≤ f → touched_in (window 0 e) p o ≡ true
    → touched_in (window 0 f) p o ≡ true
at_longer p e f None le is = is
at_longer p e f (Some x) le is = any_longer p e f (x.latest ∷ x.earlier) le is

pub longer : (t : TouchState) (b e f : ℕ) → e ≤ f → is_touched_in t (window 0 e) b ≡ true
    → is_touched_in t (window 0 f) b ≡ true
longer t b e f le is = at_longer (b % 64) e f (word_of t (b / 64)) le is

-- ---- the bits of a word that are new among the first touches

pub record AreNewBits (maps : Maps) (run : Run) (freezes word bits known : ℕ) : Type 0 where
  pub met : (p : ℕ) → p < 64 → has_bit bits p ≡ meets (64 * word + p) run.first run.count
  pub old : (p : ℕ) → has_bit known p
      ≡ touched_in (window 0 (freezes + 1)) p (word_of maps.first word)
  pub fits : known < 2 ^ 64

place_is : (b word : ℕ) → b / 64 ≡ word → 64 * word + b % 64 ≡ b
place_is b word is = omega (arith, is)

pub new_has : (maps : Maps) (run : Run) (freezes word bits known b : ℕ)
    → AreNewBits maps run freezes word bits known → b / 64 ≡ word
    → has_bit (bit_and bits (bit_not w64 known)) (b % 64)
    ≡ (meets b run.first run.count && not (is_touched_in maps.first (window 0 (freezes + 1)) b))
new_has maps run freezes word bits known b told is =
    and_has bits (bit_not w64 known) (b % 64)
    ∙ (λ i. (told.met (b % 64) (omega arith)
    ∙ ap (λ n. meets n run.first run.count) (place_is b word is)) i
    && (not_has known (b % 64) told.fits (omega arith)
    ∙ ap not (told.old (b % 64)
    ∙ ap (λ n. touched_in (window 0 (freezes + 1)) (b % 64) (word_of maps.first n)) (sym is)))
    i)

pub new_fits : (bits known : ℕ) → bits < 2 ^ 64 → bit_and bits (bit_not w64 known) < 2 ^ 64
new_fits bits known less = omega (arith, less, and_le_l bits (bit_not w64 known))

-- the block of the lowest new bit
pub a_new_block : (maps : Maps) (run : Run) (freezes word bits known : ℕ)
    → AreNewBits maps run freezes word bits known → bits < 2 ^ 64
    → bit_and bits (bit_not w64 known) ≢ 0
    → (b : ℕ) × (b / 64 ≡ word) × (is_met_in word run b ≡ true)
    × (is_touched_in maps.first (window 0 (freezes + 1)) b ≡ false)
a_new_block maps run freezes word bits known told less some =
    let n : ℕ = bit_and bits (bit_not w64 known) in
    let k : ℕ = trailing_zeros w64 n in
    let low : Lowest n k = lowest n k some (new_fits bits known less) refl in
    let inside = low.within in
    let b : ℕ = 64 * word + k in
    let at : b / 64 ≡ word = omega (arith, inside) in
    let place : b % 64 ≡ k = omega (arith, inside) in
    let parts = and_parts _ _ (sym (new_has maps run freezes word bits known b told at)
    ∙ ap (has_bit n) place ∙ low.here) in (
      b,
      at,
      and_from _ _ (eq-eqb (b / 64) word at) parts.0,
      not-true
          (is_touched_in maps.first (window 0 (freezes + 1)) b) parts.1,
    )

pub room_for_new : (maps : Maps) (run : Run) (freezes word bits known : ℕ)
    → AreNewBits maps run freezes word bits known → bits < 2 ^ 64
    → bit_and bits (bit_not w64 known) ≢ 0
    → HasRoomWhere (is_met_in word run) maps freezes → HasRoom maps.first word freezes
room_for_new maps run freezes word bits known told less some room =
    let new = a_new_block maps run freezes word bits known told less some in
    let P : ℕ → Type 0 = λ n. HasRoom maps.first n freezes in
    subst P new.1 ((room new.0 new.2).first new.3)

-- a word from the run's first one up to its last one has a block that the run meets
pub a_met_block : (run : Run) (word : ℕ) → 0 < run.count → run.first / 128 / 64 ≤ word
    → word ≤ (run.first + run.count - 1) / 128 / 64
    → (b : ℕ) × (b / 64 ≡ word) × (is_met_in word run b ≡ true)
a_met_block run word some from upto = elim (cases_lt (run.first / 128) (64 * word)) [
  | inl before ↦ let at : 64 * word / 64 ≡ word = omega arith in (
    64 * word,
    at,
    and_from _ _ (eq-eqb (64 * word / 64) word at)
        (met_iff (64 * word) run.first run.count some
        ∙ and_from _ _ (le-leb (run.first / 128) (64 * word) (omega arith))
        (le-leb (64 * word) ((run.first + run.count - 1) / 128) (omega arith))),
  )
  | inr late ↦ let at : run.first / 128 / 64 ≡ word = omega arith in (
    run.first / 128,
    at,
    and_from _ _ (eq-eqb (run.first / 128 / 64) word at)
        (met_iff (run.first / 128) run.first run.count some
        ∙ and_from _ _ (le-leb (run.first / 128) (run.first / 128) (omega arith))
        (le-leb (run.first / 128) ((run.first + run.count - 1) / 128) (omega arith))),
  )
]

pub room_for_changes : (maps : Maps) (run : Run) (freezes word : ℕ) → 0 < run.count
    → run.first / 128 / 64 ≤ word → word ≤ (run.first + run.count - 1) / 128 / 64
    → HasRoomWhere (is_met_in word run) maps freezes → HasRoom maps.changes word freezes
room_for_changes maps run freezes word some from upto room =
    let met = a_met_block run word some from upto in
    let P : ℕ → Type 0 = λ n. HasRoom maps.changes n freezes in
    subst P met.1 (room met.0 met.2).changes

-- ---- one word is marked

fold_new : (o k m i : Bool) → (i ≡ true → k ≡ true → o ≡ true)
    → (o || (i && (m && not k))) ≡ (o || (i && m))
fold_new true k m i h = refl
fold_new false k m false h = refl
fold_new false true m true h = absurd (false≢true (h refl refl))
fold_new false false true true h = refl
fold_new false false false true h = refl

none_new : (o i m : Bool) → m ≡ false → (o || (i && m)) ≡ o
none_new true i m none = refl
none_new false true m none = none
none_new false false m none = refl

-- the first touches, whether the new bits were added or there were none
pub record FirstAdded (old new : TouchState) (word freezes bits : ℕ) : Type 0 where
  pub is : IsAdded old new word freezes bits

pub none_added : (old : TouchState) (word freezes bits : ℕ) → bits ≡ 0
    → IsAdded old old word freezes bits
none_added old word freezes bits none = λ w b.
    sym (none_new (is_touched_in old w b) (is_inside w freezes)
    (eqb (b / 64) word && has_bit bits (b % 64))
    (and_right (eqb (b / 64) word) (has_bit bits (b % 64)) (no_bits bits (b % 64) none)))

pub first_marked : (maps : Maps) (new : TouchState) (run : Run) (freezes word bits known : ℕ)
    → AreNewBits maps run freezes word bits known
    → IsAdded maps.first new word freezes (bit_and bits (bit_not w64 known))
    → (end b : ℕ) → is_touched_in new (window 0 end) b
    ≡ (is_touched_in maps.first (window 0 end) b || (ltb freezes end && is_met_in word run b))
first_marked maps new run freezes word bits known told added end b =
    added (window 0 end) b ∙ (elim (cases_eq (b / 64) word) [
      | inl at ↦
          ap (λ x. is_touched_in maps.first (window 0 end) b ||
          ((leb 0 freezes && ltb freezes end) &&
          (x && has_bit (bit_and bits (bit_not w64 known)) (b % 64)))) (eq-eqb (b / 64) word at)
          ∙ ap (λ x. is_touched_in maps.first (window 0 end) b ||
          ((x && ltb freezes end) && has_bit (bit_and bits (bit_not w64 known)) (b % 64)))
          (le-leb 0 freezes (omega arith))
          ∙ ap (λ x. is_touched_in maps.first (window 0 end) b || (ltb freezes end && x))
          (new_has maps run freezes word bits known b told at)
          ∙ fold_new (is_touched_in maps.first (window 0 end) b)
          (is_touched_in maps.first (window 0 (freezes + 1)) b) (meets b run.first run.count)
          (ltb freezes end)
          (λ early touched. longer maps.first b (freezes + 1) end
          (omega (arith, ltb-true freezes end early)) touched)
          ∙ ap (λ x. is_touched_in maps.first (window 0 end) b ||
          (ltb freezes end && (x && meets b run.first run.count)))
          (sym (eq-eqb (b / 64) word at))
      | inr other ↦
          ap (λ x. is_touched_in maps.first (window 0 end) b ||
          ((leb 0 freezes && ltb freezes end) &&
          (x && has_bit (bit_and bits (bit_not w64 known)) (b % 64))))
          (ne_eqb (b / 64) word other)
          ∙ none_new (is_touched_in maps.first (window 0 end) b) (leb 0 freezes && ltb freezes end)
          false refl
          ∙ sym (ap (λ x. is_touched_in maps.first (window 0 end) b ||
          (ltb freezes end && (x && meets b run.first run.count))) (ne_eqb (b / 64) word other)
          ∙ none_new (is_touched_in maps.first (window 0 end) b) (ltb freezes end) false refl)
    ])

pub changes_marked : (old new : TouchState) (run : Run) (freezes word bits : ℕ)
    → ((p : ℕ) → p < 64 → has_bit bits p ≡ meets (64 * word + p) run.first run.count)
    → IsAdded old new word freezes bits
    → (w : Window) (b : ℕ)
    → is_touched_in new w b ≡ (is_touched_in old w b ||
    (is_inside w freezes && is_met_in word run b))
changes_marked old new run freezes word bits told added w b =
    added w b ∙ ap (λ x. is_touched_in old w b || (is_inside w freezes && x))
    (elim (cases_eq (b / 64) word) [
      | inl at ↦ ap (λ x. eqb (b / 64) word && x) (told (b % 64) (omega arith)
          ∙ ap (λ n. meets n run.first run.count) (place_is b word at))
      | inr other ↦ ap (λ x. x && has_bit bits (b % 64)) (ne_eqb (b / 64) word other)
          ∙ sym (ap (λ x. x && meets b run.first run.count) (ne_eqb (b / 64) word other))
    ])

-- ---- rooms

pub room_kept : (freezes b : ℕ) (old new : Maps)
    → (is_touched_in new.first (window 0 (freezes + 1)) b ≡ false
    → is_touched_in old.first (window 0 (freezes + 1)) b ≡ false) → KeepsPlaces freezes old new
    → HasBlockRoom old freezes b → HasBlockRoom new freezes b
room_kept freezes b old new less kept room = record {
  first = λ none. kept.first (b / 64) (room.first (less none));
  changes = kept.changes (b / 64) room.changes;
}

-- the places of one word were made
pub word_room : (old : Maps) (first changes : TouchState) (run : Run) (freezes word bits known : ℕ)
    → AreNewBits old run freezes word bits known → HasSame old.first first
    → (bit_and bits (bit_not w64 known) ≢ 0 → HasRoom first word freezes)
    → HasRoom changes word freezes
    → HasRoomWhere (is_met_in word run) (record { first = first; changes = changes }) freezes
word_room old first changes run freezes word bits known told same first_room change_room = λ b met.
    let parts = and_parts _ _ met in
    let at : b / 64 ≡ word = eqb-true (b / 64) word parts.0 in
    record {
      first = λ none. (let P : ℕ → Type 0 = λ n. HasRoom first n freezes in
          subst P (sym at) (first_room
          (λ empty. false≢true (sym (no_bits (bit_and bits (bit_not w64 known)) (b % 64) empty)
          ∙ new_has old run freezes word bits known b told at
          ∙ and_from _ _ parts.1 (ap not (sym (same (window 0 (freezes + 1)) b) ∙ none))))));
      changes = (let P : ℕ → Type 0 = λ n. HasRoom changes n freezes in
          subst P (sym at) change_room);
    }

-- ---- one word more

-- the block is met, and in a word before this one
abbrev pub met_before : (word : ℕ) (run : Run) (b : ℕ) → Bool
met_before word run b = ltb (b / 64) word && meets b run.first run.count

met_in_range : (run : Run) (b : ℕ) → 0 < run.count → meets b run.first run.count ≡ true
    → (run.first / 128 ≤ b) × (b ≤ (run.first + run.count - 1) / 128)
met_in_range run b some met =
    let parts = and_parts _ _ (sym (met_iff b run.first run.count some) ∙ met) in
    (leb-true (run.first / 128) b parts.0, leb-true b ((run.first + run.count - 1) / 128) parts.1)

pub none_met_before : (run : Run) (b : ℕ) → 0 < run.count
    → met_before (run.first / 128 / 64) run b ≡ false
none_met_before run b some = by (meets b run.first run.count) refl
  where
    by : (m : Bool) → meets b run.first run.count ≡ m
        → (ltb (b / 64) (run.first / 128 / 64) && meets b run.first run.count) ≡ false
    by true is = let range = met_in_range run b some is in
        ap (λ x. x && meets b run.first run.count)
        (le-ltb (b / 64) (run.first / 128 / 64) (omega (arith, range.0)))
    by false is = ap (λ x. ltb (b / 64) (run.first / 128 / 64) && x) is
        ∙ and_right (ltb (b / 64) (run.first / 128 / 64)) false refl

pub all_met_before : (run : Run) (b word : ℕ) → 0 < run.count
    → word ≡ (run.first + run.count - 1) / 128 / 64 + 1
    → met_before word run b ≡ meets b run.first run.count
all_met_before run b word some is = by (meets b run.first run.count) refl
  where
    by : (m : Bool) → meets b run.first run.count ≡ m
        → (ltb (b / 64) word && meets b run.first run.count) ≡ meets b run.first run.count
    by true met = let range = met_in_range run b some met in
        ap (λ x. x && meets b run.first run.count)
        (lt-ltb (b / 64) word (omega (arith, range.1, is)))
    by false not_met = ap (λ x. ltb (b / 64) word && x) not_met
        ∙ and_right (ltb (b / 64) word) false refl ∙ sym not_met

pub met_before_more : (run : Run) (word b : ℕ)
    → met_before (word + 1) run b ≡ (met_before word run b || is_met_in word run b)
met_before_more run word b = elim (cases_lt (b / 64) word) [
  | inl early ↦ ap (λ x. x && meets b run.first run.count)
      (lt-ltb (b / 64) (word + 1) (omega (arith, early)))
      ∙ sym ((λ i. (lt-ltb (b / 64) word early i && meets b run.first run.count) ||
      (ne_eqb (b / 64) word (λ e. absurd (omega (arith, early, e))) i && meets b run.first
      run.count)) ∙ or_false (meets b run.first run.count))
  | inr late ↦ elim (cases_eq (b / 64) word) [
    | inl here ↦ ap (λ x. x && meets b run.first run.count)
        (lt-ltb (b / 64) (word + 1) (omega (arith, here)))
        ∙ sym (λ i. (le-ltb (b / 64) word late i && meets b run.first run.count) ||
        (eq-eqb (b / 64) word here i && meets b run.first run.count))
    | inr other ↦ ap (λ x. x && meets b run.first run.count)
        (le-ltb (b / 64) (word + 1) (omega (arith, late, other)))
        ∙ sym (λ i. (le-ltb (b / 64) word late i && meets b run.first run.count) ||
        (ne_eqb (b / 64) word other i && meets b run.first run.count))
  ]
]
  where
    or_false : (x : Bool) → (x || false) ≡ x
    or_false true = refl
    or_false false = refl

spread : (o i a b : Bool) → ((o || (i && a)) || (i && b)) ≡ (o || (i && (a || b)))
spread true i a b = refl
spread false true a b = refl
spread false false a b = refl

-- what is touched by one test and then by another
pub touched_then : (p q r : ℕ → Bool) (freezes : ℕ) (a b c : Maps) → IsTouchedWhere p freezes a b
    → IsTouchedWhere q freezes b c → ((n : ℕ) → r n ≡ (p n || q n)) → IsTouchedWhere r freezes a c
touched_then p q r freezes a b c early late same = record {
  first = λ end n. late.first end n ∙ ap (λ x. x || (ltb freezes end && q n)) (early.first end n)
      ∙ spread (is_touched_in a.first (window 0 end) n) (ltb freezes end) (p n) (q n)
      ∙ ap (λ x. is_touched_in a.first (window 0 end) n || (ltb freezes end && x)) (sym (same n));
  changes = λ w n. late.changes w n
      ∙ ap (λ x. x || (is_inside w freezes && q n)) (early.changes w n)
      ∙ spread (is_touched_in a.changes w n) (is_inside w freezes) (p n) (q n)
      ∙ ap (λ x. is_touched_in a.changes w n || (is_inside w freezes && x)) (sym (same n));
}

pub touched_same : (p q : ℕ → Bool) (freezes : ℕ) (a b : Maps) → IsTouchedWhere p freezes a b
    → ((n : ℕ) → p n ≡ q n) → IsTouchedWhere q freezes a b
touched_same p q freezes a b is same = record {
  first = λ end n. is.first end n
      ∙ ap (λ x. is_touched_in a.first (window 0 end) n || (ltb freezes end && x)) (same n);
  changes = λ w n. is.changes w n
      ∙ ap (λ x. is_touched_in a.changes w n || (is_inside w freezes && x)) (same n);
}

pub touched_none : (p : ℕ → Bool) (freezes : ℕ) (a : Maps) → ((n : ℕ) → p n ≡ false)
    → IsTouchedWhere p freezes a a
touched_none p freezes a none = record {
  first = λ end n. sym (none_new (is_touched_in a.first (window 0 end) n) (ltb freezes end) (p n)
      (none n));
  changes = λ w n. sym (none_new (is_touched_in a.changes w n) (is_inside w freezes) (p n)
      (none n));
}

-- a block that isn't touched by now wasn't before
pub untouched_before : (p : ℕ → Bool) (freezes : ℕ) (a b : Maps) (end n : ℕ)
    → IsTouchedWhere p freezes a b → is_touched_in b.first (window 0 end) n ≡ false
    → is_touched_in a.first (window 0 end) n ≡ false
untouched_before p freezes a b end n is none =
    (or_parts (is_touched_in a.first (window 0 end) n) (ltb freezes end && p n)
    (sym (is.first end n) ∙ none)).0
