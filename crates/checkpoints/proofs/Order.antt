-- The order of checkpoints under adding and finishing, and the last of them.
use Rattle.std.proofs.Common.{◌≡◌, ℕ, zero, suc, ◌+◌, ◌-◌, ◌<◌, ◌≤◌, Bool, true, false, not, List, [], ◌∷◌, ◌++◌, length, Option, Some, None, refl, sym, ap, ◌∙◌, arith, add-one, add_assoc, cond}
use Rattle.std.specs.Prelude.{◌==◌, ◌&&◌, ◌||◌, nat_lt, map, slice_get, slice_index, option_map, if◌then◌else◌}
use Rattle.std.proofs.lemmas.Bool.{not-false, not-true}
use Rattle.std.proofs.lemmas.Bool.Decides.{nat_tests}
use Rattle.std.proofs.lemmas.List.Sums.{sum_by-cons, sum_by_push}
use Rattle.checkpoints.specs.declared.checkpoint.Checkpoint.{Checkpoint}
use Rattle.checkpoints.specs.declared.checkpoint.DvPhase.TheVariants.{InProgress, Paused, Succeeded}
use Rattle.checkpoints.specs.declared.checkpoint.CheckRefused.TheVariants.{Order, Final}
use Rattle.checkpoints.specs.DataVolume.{last_checkpoint, reached_from, is_unfinished, goes_on, checkpoint_of, finished_checkpoint, finished_count, with_last_done, phase_with_last, IsChainFrom, IsSound}
use Rattle.checkpoints.specs.Laws.{NewIsSound, AddKeepsSound, DoneKeepsSound, LastIsFinished, OnlyTheLastIsFinished, AddLeavesTheCount, DoneAddsOne, Joined, NeighboursJoin, SnapshotsRise, FinishedIsPausedOrSucceeded, SucceededStays}

abbrev last_of : List Checkpoint → Option Checkpoint
last_of [] = None
last_of (x ∷ []) = Some x
last_of (x ∷ y ∷ rest) = last_of (y ∷ rest)

last_at : (xs : List Checkpoint) (k : ℕ) → suc k ≡ length xs → slice_get xs k ≡ last_of xs
last_at [] k h = absurd (omega arith)
last_at (x ∷ []) zero h = refl
last_at (x ∷ []) (suc k) h = absurd (omega arith)
last_at (x ∷ y ∷ rest) zero h = absurd (omega arith)
last_at (x ∷ y ∷ rest) (suc k) h = last_at (y ∷ rest) k (omega arith)

pub last_is : (xs : List Checkpoint) → last_checkpoint xs ≡ last_of xs
last_is [] = refl
last_is (x ∷ xs) = last_at (x ∷ xs) (length (x ∷ xs) - 1) (omega arith)

last_of_done : (xs : List Checkpoint)
    → last_of (with_last_done xs) ≡ option_map finished_checkpoint (last_of xs)
last_of_done [] = refl
last_of_done (x ∷ []) = refl
last_of_done (x ∷ y ∷ []) = refl
last_of_done (x ∷ y ∷ z ∷ rest) = last_of_done (y ∷ z ∷ rest)

pub last_is_finished : LastIsFinished
last_is_finished xs =
    last_is (with_last_done xs) ∙ last_of_done xs
    ∙ ap (λ (o : Option Checkpoint). option_map finished_checkpoint o) (sym (last_is xs))

pub only_the_last_is_finished : OnlyTheLastIsFinished
only_the_last_is_finished [] last = refl
only_the_last_is_finished (x ∷ []) last = refl
only_the_last_is_finished (x ∷ y ∷ front) last =
    ap (λ (ys : List Checkpoint). x ∷ ys) (only_the_last_is_finished (y ∷ front) last)

done_chain : (reached : ℕ) (xs : List Checkpoint)
    → IsChainFrom reached xs → IsChainFrom reached (with_last_done xs)
done_chain reached [] h = tt
done_chain reached (x ∷ []) h = h
done_chain reached (x ∷ y ∷ []) h = h
done_chain reached (x ∷ y ∷ z ∷ rest) h = (h.0, h.1, h.2, done_chain x.current (y ∷ z ∷ rest) h.3)

pub length-done : (xs : List Checkpoint) → length (with_last_done xs) ≡ length xs
length-done [] = refl
length-done (x ∷ []) = refl
length-done (x ∷ y ∷ rest) = ap (λ (n : ℕ). suc n) (length-done (y ∷ rest))

pub new_is_sound : NewIsSound
new_is_sound = record { in_order = tt; final_is_there = λ e. cc }

pub done_keeps_sound : DoneKeepsSound
done_keeps_sound state sound = record {
  in_order = done_chain 0 state.checkpoints sound.in_order;
  final_is_there = λ e.
      let some = sound.final_is_there e in omega (arith, length-done state.checkpoints);
}

reach_any : (a b : ℕ) (y : Checkpoint) (rest : List Checkpoint)
    → reached_from a (last_of (y ∷ rest)) ≡ reached_from b (last_of (y ∷ rest))
reach_any a b y [] = refl
reach_any a b y (z ∷ rest) = reach_any a b z rest

add_chain : (reached : ℕ) (xs : List Checkpoint) (added : Checkpoint) → IsChainFrom reached xs
    → is_unfinished (last_of xs) ≡ false → added.previous ≡ reached_from reached (last_of xs)
    → added.previous < added.current → IsChainFrom reached (xs ++ added ∷ [])
add_chain reached [] added h u e lt = (e, omega arith)
add_chain reached (x ∷ []) added h u e lt = (h.0, h.1, not-false x.done u, (e, omega arith))
add_chain reached (x ∷ y ∷ rest) added h u e lt = (
  h.0,
  h.1,
  h.2,
  add_chain x.current (y ∷ rest) added h.3 u (e ∙ reach_any reached x.current y rest) lt,
)

goes : (has_final on : Bool)
    → (if has_final then Some Final else if on then None else Some Order) ≡ None → on ≡ true
goes true on e = cc
goes false true e = refl
goes false false e = cc

unrefused : (b : Bool) → (if b then None else Some Order) ≡ None → b ≡ true
unrefused true e = refl
unrefused false e = cc

not_on : (u on : Bool) → (not u && on) ≡ true → (u ≡ false) × (on ≡ true)
not_on true on e = cc
not_on false on e = (refl, e)

same_and_below : (p r q : ℕ) → (p == r && nat_lt p q) ≡ true → (p ≡ r) × (p < q)
same_and_below p r q e = grind (arith, nat_tests)

length-added : (xs : List Checkpoint) (added : Checkpoint) → 1 ≤ length (xs ++ added ∷ [])
length-added [] added = omega arith
length-added (x ∷ xs) added = omega arith

add_in_order : (xs : List Checkpoint) (previous current : ℕ) → IsChainFrom 0 xs
    → goes_on xs previous current ≡ true
    → IsChainFrom 0 (xs ++ checkpoint_of previous current false ∷ [])
add_in_order xs previous current h on =
    let last = last_checkpoint xs in
    let parts = not_on (is_unfinished last)
    (previous == reached_from 0 last && nat_lt previous current) on in
    let numbers = same_and_below previous (reached_from 0 last) current parts.1 in
    add_chain 0 xs (checkpoint_of previous current false) h
    (ap (λ (o : Option Checkpoint). is_unfinished o) (sym (last_is xs)) ∙ parts.0)
    (numbers.0 ∙ ap (λ (o : Option Checkpoint). reached_from 0 o) (last_is xs))
    numbers.1

-- what goes on is sound, the final one or not
pub added_is_sound : (xs : List Checkpoint) (previous current : ℕ) (has_final : Bool)
    → IsChainFrom 0 xs → goes_on xs previous current ≡ true
    → IsSound (record {
      checkpoints = xs ++ checkpoint_of previous current false ∷ [];
      has_final = has_final;
    })
added_is_sound xs previous current has_final h on = record {
  in_order = add_in_order xs previous current h on;
  final_is_there = λ e. length-added xs (checkpoint_of previous current false);
}

pub add_keeps_sound : AddKeepsSound
add_keeps_sound state previous current last sound none =
    added_is_sound state.checkpoints previous current (state.has_final || last) sound.in_order
    (goes state.has_final (goes_on state.checkpoints previous current) none)

-- counts of finished checkpoints
plus_zero : (n : ℕ) → n + 0 ≡ n
plus_zero n = omega arith

abbrev counted : Checkpoint → ℕ
counted x = cond x.done 1 0

pub add_leaves_the_count : AddLeavesTheCount
add_leaves_the_count state previous current last =
    sum_by_push counted state.checkpoints (checkpoint_of previous current false)
    ∙ plus_zero (finished_count state.checkpoints)

count_done_one : (x : Checkpoint) → is_unfinished (Some x) ≡ true
    → finished_count (finished_checkpoint x ∷ []) ≡ finished_count (x ∷ []) + 1
count_done_one x e = let not_done : x.done ≡ false = not-true x.done e in rw not_done refl

count_done : (xs : List Checkpoint) → is_unfinished (last_of xs) ≡ true
    → finished_count (with_last_done xs) ≡ finished_count xs + 1
count_done [] e = cc
count_done (x ∷ []) e = count_done_one x e
count_done (x ∷ y ∷ rest) e =
    sum_by-cons counted x (with_last_done (y ∷ rest))
    ∙ ap (λ (n : ℕ). counted x + n) (count_done (y ∷ rest) e)
    ∙ sym (add_assoc (counted x) (finished_count (y ∷ rest)) 1)
    ∙ ap (λ (n : ℕ). n + 1) (sym (sum_by-cons counted x (y ∷ rest)))

unfinished_is : (o : Option Checkpoint) → (if is_unfinished o then None else Some Order) ≡ None
    → is_unfinished o ≡ true
unfinished_is None e = cc
unfinished_is (Some x) e = unrefused (not x.done) e

pub done_adds_one : DoneAddsOne
done_adds_one xs none =
    count_done xs (ap (λ (o : Option Checkpoint). is_unfinished o) (sym (last_is xs))
    ∙ unfinished_is (last_checkpoint xs) none)

-- neighbours
joined_from : (reached : ℕ) (front rest : List Checkpoint) (earlier later : Checkpoint)
    → IsChainFrom reached (front ++ earlier ∷ later ∷ rest) → Joined earlier later
joined_from reached [] [] earlier later h =
    record { same_snapshot = h.3.0; rising = h.3.1; finished = h.2 }
joined_from reached [] (x ∷ rest) earlier later h =
    record { same_snapshot = h.3.0; rising = h.3.1; finished = h.2 }
joined_from reached (x ∷ []) rest earlier later h =
    joined_from x.current [] rest earlier later h.3
joined_from reached (x ∷ y ∷ front) rest earlier later h =
    joined_from x.current (y ∷ front) rest earlier later h.3

pub neighbours_join : NeighboursJoin
neighbours_join front rest earlier later h = joined_from 0 front rest earlier later h

abbrev snapshots : List Checkpoint → List ℕ
snapshots xs = map (λ checkpoint. checkpoint.current) xs

second : (reached : ℕ) (xs : List Checkpoint) → IsChainFrom reached xs → 1 ≤ length xs
    → reached < slice_index (snapshots xs) 0
second reached [] h some = absurd (omega arith)
second reached (x ∷ []) h some = h.1
second reached (x ∷ y ∷ rest) h some = h.1

rise_at : (reached : ℕ) (xs : List Checkpoint) (k : ℕ) → IsChainFrom reached xs
    → k + 1 < length (snapshots xs)
    → slice_index (snapshots xs) k < slice_index (snapshots xs) (k + 1)
rise_at reached [] k h inside = absurd (omega arith)
rise_at reached (x ∷ []) k h inside = absurd (omega arith)
rise_at reached (x ∷ y ∷ rest) zero h inside = second x.current (y ∷ rest) h.3 (omega arith)
rise_at reached (x ∷ y ∷ rest) (suc k) h inside =
    rw add-one (let more = rise_at x.current (y ∷ rest) k h.3 (omega arith) in rw add-one at more)

pub snapshots_rise : SnapshotsRise
snapshots_rise xs h k inside = rise_at 0 xs k h inside

behind_done : (o : Option Checkpoint) (has_final : Bool)
    → (if is_unfinished o then None else Some Order) ≡ None
    → phase_with_last (option_map finished_checkpoint o) has_final
    ≡ (if has_final then Succeeded else Paused)
behind_done None has_final e = cc
behind_done (Some x) has_final e = refl

pub finished_is_paused_or_succeeded : FinishedIsPausedOrSucceeded
finished_is_paused_or_succeeded state e =
    ap (λ (o : Option Checkpoint). phase_with_last o state.has_final)
    (last_is_finished state.checkpoints)
    ∙ behind_done (last_checkpoint state.checkpoints) state.has_final e

succeeded_where : (done has_final : Bool)
    → (if not done then InProgress else if has_final then Succeeded else Paused) ≡ Succeeded
    → (has_final ≡ true) × (not done ≡ false)
succeeded_where true true e = (refl, refl)
succeeded_where true false e = cc
succeeded_where false has_final e = cc

succeeded_is : (o : Option Checkpoint) (has_final : Bool) → phase_with_last o has_final ≡ Succeeded
    → (has_final ≡ true) × (is_unfinished o ≡ false)
succeeded_is None has_final e = cc
succeeded_is (Some x) has_final e = succeeded_where x.done has_final e

pub succeeded_stays : SucceededStays
succeeded_stays state previous current e =
    let is = succeeded_is (last_checkpoint state.checkpoints) state.has_final e in
    (rw is.0 refl, rw is.1 refl)
