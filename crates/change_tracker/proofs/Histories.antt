-- What a tracker that stands for some steps stands for after one step more.
use Rattle.std.proofs.Common.{◌≡◌, ℕ, zero, suc, ◌+◌, ◌-◌, ◌<◌, ◌≤◌, List, [], ◌∷◌, ◌++◌, length, take, drop, map, Bool, true, false, cond, ◌==◌, ◌||◌, eqb, nat_eq, Option, Some, None, is_some, unwrap_or, option_map, ◌↔◌, sym, ap, subst, refl, ◌∙◌, arith, inl, inr, ◌⊎◌, length-append, length-drop, slice_range}
use Rattle.std.specs.List.{list_any, find, slice_get, filter_map, range_with_len, filter}
use Rattle.std.specs.Option.{option_or}
use Rattle.std.proofs.Math.Bool.{or-false}
use Rattle.std.proofs.lemmas.Bool.{cases_lt, eq-eqb, eqb-true, false≢true, or_right}
use Rattle.std.proofs.lemmas.Option.{same_Some, none-some, slice_get_within}
use Rattle.std.proofs.lemmas.List.{take-append-le, drop-append-le, take_all, append-nil}
use Rattle.std.proofs.lemmas.List.Sums.{sum_by-take-le}
use Rattle.std.proofs.lemmas.List.Folds.{list_any-append, find-append}
use Rattle.sector_model.specs.Run.{meets, met_blocks, block_count, with_met}
use Rattle.sector_model.specs.declared.run.Run.{Run}
use Rattle.basics.proofs.ItemAt.{slice_get-front, slice_get-last, slice_get-pushed}
use Rattle.change_id.specs.ChangeId.{id_of, packed}
use Rattle.change_id.specs.declared.ChangeId.{ChangeId}
use Rattle.change_id.proofs.Counts.{epoch-append, counted-last}
use Rattle.change_id.proofs.IdMarks.{in_force-parts, same-epochs, mark-stays, later_entries_keep}
use Rattle.change_tracker.specs.Tracker.{TrackerState, Snapshot, snapshot_of, fresh, next_id, after_marking, after_freezing, after_enabling, after_reset, without_changes}
use Rattle.change_tracker.specs.History.{TrackStep, Marked, Frozen, Enabled, Reset, reading, freezes, is_reset, run_in, runs_between, mark, id_at, is_met, IsFrozenAs, IsOfEpoch, changed_in, TellsChanges, AreNumbered, StandsFor, Takes}
use Rattle.sector_model.proofs.Among.{among, same_blocks, met_more, none_pass}
use Rattle.change_tracker.proofs.Steps.{place_new, epoch_of, counted_of, number_of, counts_mark, counts_freeze, counts_enable, counts_reset, runs_stay, runs_push, runs_none, force, force_some}

-- ---- parts of a list

pub at_front : {X : Type 0} (xs ys : List X) (i : ℕ) (x : X) → slice_get xs i ≡ Some x
    → slice_get (xs ++ ys) i ≡ Some x
at_front xs ys i x is = slice_get-front xs ys i (slice_get_within xs i x is) ∙ is

range-front : {X : Type 0} (xs ys : List X) (a b : ℕ) → b ≤ length xs
    → slice_range (xs ++ ys) a b ≡ slice_range xs a b
range-front {X = X} xs ys a b le = elim (cases_lt (length xs) a) [
  | inl past ↦ let none : b - a ≡ 0 = omega (arith, le, past) in
      ap (λ n. take n (drop a (xs ++ ys))) none ∙ sym (ap (λ n. take n (drop a xs)) none)
  | inr within ↦ ap (λ (zs : List X). take (b - a) zs) (drop-append-le a xs ys within)
      ∙ take-append-le (b - a) (drop a xs) ys (omega (arith, length-drop a xs, le))
]

range-push : {X : Type 0} (xs : List X) (y : X) (a : ℕ) → a ≤ length xs
    → slice_range (xs ++ y ∷ []) a (length xs + 1) ≡ slice_range xs a (length xs) ++ y ∷ []
range-push {X = X} xs y a le =
    ap (λ (zs : List X). take (length xs + 1 - a) zs) (drop-append-le a xs (y ∷ []) le)
    ∙ take_all (length xs + 1 - a) (drop a xs ++ y ∷ [])
    (omega (arith, length-append (drop a xs) (y ∷ []), length-drop a xs, le))
    ∙ ap (λ (zs : List X). zs ++ y ∷ [])
    (sym (take_all (length xs - a) (drop a xs) (omega (arith, length-drop a xs))))

range-none : {X : Type 0} (xs : List X) (n m : ℕ) → m ≤ n → slice_range xs n m ≡ []
range-none xs n m le = let none : m - n ≡ 0 = omega (arith, le) in ap (λ k. take k (drop n xs)) none

-- ---- blocks that runs meet

pub met_push : (c : ℕ) (rs : List Run) (r : Run)
    → with_met c r (met_blocks c rs) ≡ met_blocks c (rs ++ r ∷ [])
met_push c rs r = met_more c r (λ b. is_met b rs)
    ∙ same_blocks c (λ b. is_met b rs || meets b r.first r.count) (λ b. is_met b (rs ++ r ∷ []))
    (λ b less. sym (list_any-append (λ x. meets b x.first x.count) rs (r ∷ [])
    ∙ ap (λ x. is_met b rs || x) (or-false (meets b r.first r.count))))

in_met : (c : ℕ) (b : ℕ) (r : Run) (xs : List ℕ) → b < block_count c
    → list_any (nat_eq b) (with_met c r xs) ≡ (list_any (nat_eq b) xs || meets b r.first r.count)
in_met c b r xs less = among c (λ k. list_any (nat_eq k) xs || meets k r.first r.count) b less

-- ---- what a snapshot was frozen as

pub record Facts (machine disk capacity id : ℕ) (change_id : Option ChangeId) (blocks : List ℕ)
    (h : List TrackStep) : Type 0 where
  pub within : mark id h < length h
  pub told : change_id ≡ id_at machine disk id h
  pub touched : blocks ≡ met_blocks capacity (runs_between 0 (mark id h) h)
  pub epoch : epoch_of (take (mark id h + 1) h) ≡ epoch_of (take (mark id h) h)

pub facts_of : (t : TrackerState) (h : List TrackStep) (k : Snapshot) → IsFrozenAs t h k
    → Facts t.machine t.disk t.capacity k.id k.change_id k.blocks h
facts_of t h k is = record
    { within = is.within; told = is.change_id; touched = is.blocks; epoch = is.epoch }

pub frozen_by : (t : TrackerState) (h : List TrackStep) (k : Snapshot)
    → Facts t.machine t.disk t.capacity k.id k.change_id k.blocks h → IsFrozenAs t h k
frozen_by t h k is = record
    { within = is.within; change_id = is.told; blocks = is.touched; epoch = is.epoch }

pub facts_stay : (machine disk capacity id : ℕ) (change_id : Option ChangeId) (blocks : List ℕ)
    (h more : List TrackStep) → Facts machine disk capacity id change_id blocks h
    → Facts machine disk capacity id change_id blocks (h ++ more)
facts_stay machine disk capacity id change_id blocks h more is =
    let inside = is.within in
    let same : mark id (h ++ more) ≡ mark id h = mark-stays freezes id h more inside in
    record {
      within = omega (arith, same, inside, length-append h more);
      told = is.told ∙ sym ((later_entries_keep reading id h more inside).id_stays machine disk);
      touched = is.touched ∙ ap (met_blocks capacity)
          (sym (ap (λ n. runs_between 0 n (h ++ more)) same
          ∙ runs_stay 0 (mark id h) h more (omega (arith, inside))));
      epoch = ap (λ n. epoch_of (take (n + 1) (h ++ more))) same
          ∙ ap epoch_of (take-append-le (mark id h + 1) h more (omega (arith, inside))) ∙ is.epoch
          ∙ sym (ap (λ n. epoch_of (take n (h ++ more))) same
          ∙ ap epoch_of (take-append-le (mark id h) h more (omega (arith, inside))));
    }

-- ---- what a step that freezes nothing leaves

known_stays : (t : TrackerState) (h : List TrackStep) (x : TrackStep) (s : ℕ) → StandsFor t h
    → freezes s x ≡ false → is_some (snapshot_of s t) ≡ list_any (freezes s) (h ++ x ∷ [])
known_stays t h x s stands none =
    stands.known s ∙ sym (list_any-append (freezes s) h (x ∷ [])
    ∙ ap (λ b. list_any (freezes s) h || (b || false)) none ∙ or-false (list_any (freezes s) h))

free_stays : (t : TrackerState) (h : List TrackStep) (x : TrackStep) → StandsFor t h
    → ((s : ℕ) → freezes s x ≡ false) → (id : ℕ)
    → (t.free_from ≤ id) ↔ ((s : ℕ) → list_any (freezes s) (h ++ x ∷ []) ≡ true → s < id)
free_stays t h x stands none id = (
  (λ le s is. (stands.free id).0 le s (sym (same s) ∙ is)),
  (λ all. (stands.free id).1 (λ s is. all s (same s ∙ is))),
)
  where
    same : (s : ℕ) → list_any (freezes s) (h ++ x ∷ []) ≡ list_any (freezes s) h
    same s = list_any-append (freezes s) h (x ∷ [])
        ∙ ap (λ b. list_any (freezes s) h || (b || false)) (none s)
        ∙ or-false (list_any (freezes s) h)

epoch_same : (h : List TrackStep) (x : TrackStep) → epoch_of (x ∷ []) ≡ 0
    → epoch_of (h ++ x ∷ []) ≡ epoch_of h
epoch_same h x none = epoch-append reading h (x ∷ []) ∙ omega (arith, none)

-- the runs between the marks of snapshots stay
marks_stay : (h more : List TrackStep) (a b : ℕ) → mark a h < length h → mark b h < length h
    → runs_between (mark a (h ++ more)) (mark b (h ++ more)) (h ++ more)
    ≡ runs_between (mark a h) (mark b h) h
marks_stay h more a b first last =
    (λ i. runs_between (mark-stays freezes a h more first i) (mark-stays freezes b h more last i)
    (h ++ more)) ∙ runs_stay (mark a h) (mark b h) h more (omega (arith, last))

now_is : (h : List TrackStep) (x : TrackStep) (a : ℕ) → mark a h < length h
    → runs_between (mark a (h ++ x ∷ [])) (length (h ++ x ∷ [])) (h ++ x ∷ [])
    ≡ runs_between (mark a h) (length h) h ++ filter_map run_in (x ∷ [])
now_is h x a within =
    ap (λ n. runs_between n (length (h ++ x ∷ [])) (h ++ x ∷ []))
    (mark-stays freezes a h (x ∷ []) within) ∙ runs_push (mark a h) h x (omega (arith, within))

-- ---- a run is marked

pub stands_marked : (r : Run) (old : TrackerState) → Takes (Marked r) old (after_marking r old)
stands_marked r old h stands = record {
  epoch = stands.epoch ∙ sym (epoch_same h (Marked r) refl);
  counted = stands.counted ∙ sym (counted-last reading h (Marked r) ∙ counts_mark (counted_of h) r);
  blocks = ap (with_met old.capacity r) stands.blocks
      ∙ met_push old.capacity (runs_between 0 (length h) h) r
      ∙ ap (met_blocks old.capacity) (sym (runs_push 0 h (Marked r) (omega arith)));
  known = λ s. known_stays old h (Marked r) s stands refl;
  frozen = λ place k at. frozen_by (after_marking r old) (h ++ Marked r ∷ []) k
      (facts_stay old.machine old.disk old.capacity k.id k.change_id k.blocks h (Marked r ∷ [])
      (facts_of old h k (stands.frozen place k at)));
  numbers = λ place k id at is. let n = stands.numbers place k id at is in
      record { enough = n.enough; each = n.each };
  present = let n = stands.present in record { enough = n.enough; each = n.each };
  changes = λ place k at of.
      let was = stands.changes place k at of in
      let inside = (stands.frozen place k at).within in
      record {
        upto = λ later other le at_other b less. was.upto later other le at_other b less
            ∙ ap (is_met b) (sym (marks_stay h (Marked r ∷ []) k.id other.id inside
            (stands.frozen later other at_other).within));
        now = λ b less.
            ap (λ x. changed_in old (place + 1) (length old.snapshots) b || x)
            (in_met old.capacity b r old.changes less)
            ∙ assoc (changed_in old (place + 1) (length old.snapshots) b)
            (list_any (nat_eq b) old.changes) (meets b r.first r.count)
            ∙ ap (λ x. x || meets b r.first r.count) (was.now b less)
            ∙ sym (ap (is_met b) (now_is h (Marked r) k.id inside)
            ∙ list_any-append (λ x. meets b x.first x.count)
            (runs_between (mark k.id h) (length h) h) (r ∷ [])
            ∙ ap (λ x. is_met b (runs_between (mark k.id h) (length h) h) || x)
            (or-false (meets b r.first r.count)));
      };
  free = free_stays old h (Marked r) stands (λ s. refl);
}
  where
    assoc : (a b c : Bool) → (a || (b || c)) ≡ ((a || b) || c)
    assoc true b c = refl
    assoc false b c = refl

-- ---- tracking is enabled

pub stands_enabled : (old : TrackerState) → Takes Enabled old (after_enabling old)
stands_enabled old h stands = record {
  epoch = stands.epoch ∙ sym (epoch_same h Enabled refl);
  counted = ap (λ (o : Option ℕ). Some (unwrap_or o 0)) stands.counted
      ∙ sym (counted-last reading h Enabled ∙ counts_enable (counted_of h));
  blocks = stands.blocks
      ∙ ap (met_blocks old.capacity)
      (sym (runs_push 0 h Enabled (omega arith) ∙ append-nil (runs_between 0 (length h) h)));
  known = λ s. known_stays old h Enabled s stands refl;
  frozen = λ place k at. frozen_by (after_enabling old) (h ++ Enabled ∷ []) k
      (facts_stay old.machine old.disk old.capacity k.id k.change_id k.blocks h (Enabled ∷ [])
      (facts_of old h k (stands.frozen place k at)));
  numbers = λ place k id at is. let n = stands.numbers place k id at is in
      record { enough = n.enough; each = n.each };
  present = let n = stands.present in record { enough = n.enough; each = n.each };
  changes = λ place k at of.
      let was = stands.changes place k at of in
      let inside = (stands.frozen place k at).within in
      record {
        upto = λ later other le at_other b less. was.upto later other le at_other b less
            ∙ ap (is_met b) (sym (marks_stay h (Enabled ∷ []) k.id other.id inside
            (stands.frozen later other at_other).within));
        now = λ b less. was.now b less
            ∙ ap (is_met b) (sym (now_is h Enabled k.id inside
            ∙ append-nil (runs_between (mark k.id h) (length h) h)));
      };
  free = free_stays old h Enabled stands (λ s. refl);
}

-- ---- tracking is reset

mapped_at : (xs : List Snapshot) (i : ℕ) (x : Snapshot)
    → slice_get (map without_changes xs) i ≡ Some x
    → (y : Snapshot) × (slice_get xs i ≡ Some y) × (without_changes y ≡ x)
mapped_at [] i x is = absurd (none-some x is)
mapped_at (z ∷ xs) zero x is = (z, refl, same_Some (without_changes z) x is)
mapped_at (z ∷ xs) (suc i) x is = mapped_at xs i x is

at_mapped : (xs : List Snapshot) (i : ℕ) (x : Snapshot) → slice_get xs i ≡ Some x
    → slice_get (map without_changes xs) i ≡ Some (without_changes x)
at_mapped [] i x is = absurd (none-some x is)
at_mapped (z ∷ xs) zero x is = ap (λ (o : Option Snapshot). option_map without_changes o) is
at_mapped (z ∷ xs) (suc i) x is = at_mapped xs i x is

find_mapped : (xs : List Snapshot) (s : ℕ)
    → is_some (find (λ x. x.id == s) (map without_changes xs)) ≡ is_some (find (λ x. x.id == s) xs)
find_mapped [] s = refl
find_mapped (x ∷ xs) s = by (eqb x.id s) refl (find_mapped xs s)
  where
    by : (b : Bool) → eqb x.id s ≡ b
        → is_some (find (λ y. y.id == s) (map without_changes xs))
        ≡ is_some (find (λ y. y.id == s) xs)
        → is_some (cond (eqb x.id s) (Some (without_changes x))
        (find (λ y. y.id == s) (map without_changes xs)))
        ≡ is_some (cond (eqb x.id s) (Some x) (find (λ y. y.id == s) xs))
    by true is rest = rw is refl
    by false is rest = rw is rest

epoch-take-le : (n : ℕ) (h : List TrackStep) → epoch_of (take n h) ≤ epoch_of h
epoch-take-le n h = sum_by-take-le (λ e. cond (is_reset e) 1 0) h n

pub stands_reset : (old : TrackerState) → Takes Reset old (after_reset old)
stands_reset old h stands = record {
  epoch = ap (λ n. n + 1) stands.epoch ∙ sym (epoch-append reading h (Reset ∷ []));
  counted = ap (λ (o : Option ℕ). option_map (λ n. 0) o) stands.counted
      ∙ sym (counted-last reading h Reset ∙ counts_reset (counted_of h));
  blocks = stands.blocks
      ∙ ap (met_blocks old.capacity)
      (sym (runs_push 0 h Reset (omega arith) ∙ append-nil (runs_between 0 (length h) h)));
  known = λ s. find_mapped old.snapshots s ∙ known_stays old h Reset s stands refl;
  frozen = λ place k at.
      let was = mapped_at old.snapshots place k at in
      let P : Snapshot → Type 0 = λ x. IsFrozenAs (after_reset old) (h ++ Reset ∷ []) x in
      subst P was.2 (frozen_by (after_reset old) (h ++ Reset ∷ []) (without_changes was.0)
      (facts_stay old.machine old.disk old.capacity (was.0).id (was.0).change_id (was.0).blocks
      h (Reset ∷ []) (facts_of old h was.0 (stands.frozen place was.0 was.1))));
  numbers = λ place k id at is.
      let was = mapped_at old.snapshots place k at in
      let n = stands.numbers place was.0 id was.1 (ap (λ (x : Snapshot). x.change_id) was.2 ∙ is) in
      record {
        enough = n.enough;
        each = λ seq low high. let e = n.each seq low high in (
          without_changes e.0,
          at_mapped old.snapshots (place + 1 - (id.seq - seq) - 1) e.0 e.1,
          e.2,
        );
      };
  present = record {
    enough = none_counted old.counted (length (map without_changes old.snapshots));
    each = λ seq low high. absurd (no_number old.counted seq low high);
  };
  changes = λ place k at of.
      let was = mapped_at old.snapshots place k at in
      let facts = stands.frozen place was.0 was.1 in
      let parts = in_force-parts reading old.machine old.disk of.0 (take (mark (was.0).id h + 1) h)
      (sym facts.change_id ∙ ap (λ (x : Snapshot). x.change_id) was.2 ∙ of.1) in
      let same = same-epochs old.machine old.disk (epoch_of (take (mark (was.0).id h + 1) h))
      (old.epoch + 1) (sym parts.uuid ∙ of.2) in
      absurd (omega (arith, same, stands.epoch, epoch-take-le (mark (was.0).id h + 1) h));
  free = free_stays old h Reset stands (λ s. refl);
}
  where
    none_counted : (o : Option ℕ) (n : ℕ) → unwrap_or (option_map (λ n. 0) o) 0 ≤ n
    none_counted None n = omega arith
    none_counted (Some m) n = omega arith

    no_number : (o : Option ℕ) (seq : ℕ) → 1 ≤ seq → seq ≤ unwrap_or (option_map (λ n. 0) o) 0 → ⊥
    no_number None seq low high = omega arith
    no_number (Some m) seq low high = omega arith

-- ---- a snapshot is frozen

pub fresh_id : (id : ℕ) (old : TrackerState) (h : List TrackStep) → StandsFor old h
    → old.free_from ≤ id → list_any (freezes id) h ≡ false
fresh_id id old h stands le = by (list_any (freezes id) h) refl
  where
    by : (b : Bool) → list_any (freezes id) h ≡ b → b ≡ false
    by true is = let less = (stands.free id).0 le id is in absurd (omega (arith, less))
    by false is = refl

-- the identifier that is told is the one in force then
pub next_is : (id : ℕ) (old : TrackerState) (h : List TrackStep) → StandsFor old h
    → next_id old ≡ force old.machine old.disk (h ++ Frozen id ∷ [])
next_is id old h stands = by (counted_of h) refl
  where
    same_epoch : epoch_of (h ++ Frozen id ∷ []) ≡ epoch_of h
    same_epoch = epoch_same h (Frozen id) refl

    counts : counted_of (h ++ Frozen id ∷ []) ≡ option_map (λ n. n + 1) (counted_of h)
    counts = counted-last reading h (Frozen id) ∙ counts_freeze (counted_of h) id

    by : (o : Option ℕ) → counted_of h ≡ o
        → next_id old ≡ force old.machine old.disk (h ++ Frozen id ∷ [])
    by None is =
        let zero_now : number_of (h ++ Frozen id ∷ []) ≡ 0 =
        ap (λ (o : Option ℕ). unwrap_or o 0)
        (counts ∙ ap (λ (o : Option ℕ). option_map (λ n. n + 1) o) is) in
        ap (λ (o : Option ℕ). option_map
        (λ n. record { uuid = packed old.machine old.disk old.epoch; seq = n + 1 }) o)
        (stands.counted ∙ is)
        ∙ sym (ap (λ b. cond b None
        (Some (record {
          uuid = packed old.machine old.disk (epoch_of (h ++ Frozen id ∷ []));
          seq
              = number_of (h ++ Frozen id ∷ []);
        })))
        (eq-eqb (number_of (h ++ Frozen id ∷ [])) 0 zero_now))
    by (Some n) is =
        let now : number_of (h ++ Frozen id ∷ []) ≡ n + 1 =
        ap (λ (o : Option ℕ). unwrap_or o 0)
        (counts ∙ ap (λ (o : Option ℕ). option_map (λ n. n + 1) o) is) in
        ap (λ (o : Option ℕ). option_map
        (λ n. record { uuid = packed old.machine old.disk old.epoch; seq = n + 1 }) o)
        (stands.counted ∙ is)
        ∙ (λ i. Some (record {
          uuid = packed old.machine old.disk
              ((stands.epoch ∙ sym same_epoch) i);
          seq = sym now i;
        }))
        ∙ sym (force_some old.machine old.disk (h ++ Frozen id ∷ []) (omega (arith, now)))

id_at_new : (machine disk id : ℕ) (h : List TrackStep) → list_any (freezes id) h ≡ false
    → id_at machine disk id (h ++ Frozen id ∷ []) ≡ force machine disk (h ++ Frozen id ∷ [])
id_at_new machine disk id h none =
    let at = place_new id h (Frozen id) none (eq-eqb id id refl) in
    ap (force machine disk)
    (take_all (mark id (h ++ Frozen id ∷ []) + 1) (h ++ Frozen id ∷ [])
    (omega (arith, at, length-append h (Frozen id ∷ []))))

pub named : (id : ℕ) (old : TrackerState) (h : List TrackStep) → old.free_from ≤ id
    → StandsFor old h → next_id old ≡ id_at old.machine old.disk id (h ++ Frozen id ∷ [])
named id old h le stands =
    next_is id old h stands
    ∙ sym (id_at_new old.machine old.disk id h (fresh_id id old h stands le))

new_facts : (id : ℕ) (old : TrackerState) (h : List TrackStep) → old.free_from ≤ id
    → StandsFor old h → Facts old.machine old.disk old.capacity id (next_id old) old.blocks
    (h ++ Frozen id ∷ [])
new_facts id old h le stands =
    let none = fresh_id id old h stands le in
    let at = place_new id h (Frozen id) none (eq-eqb id id refl) in
    let whole : List TrackStep = h ++ Frozen id ∷ [] in
    record {
      within = omega (arith, at, length-append h (Frozen id ∷ []));
      told = named id old h le stands;
      touched = stands.blocks
          ∙ ap (met_blocks old.capacity)
          (sym (ap (λ n. runs_between 0 n whole) at
          ∙ runs_stay 0 (length h) h (Frozen id ∷ []) (omega arith)));
      epoch = ap epoch_of (take_all (mark id whole + 1) whole
          (omega (arith, at, length-append h (Frozen id ∷ [])))) ∙ epoch_same h (Frozen id) refl
          ∙ sym (ap (λ n. epoch_of (take n whole)) at
          ∙ ap epoch_of (take-append-le (length h) h (Frozen id ∷ []) (omega arith)
          ∙ take_all (length h) h (omega arith)));
    }

abbrev frozen_snapshot : (id : ℕ) (old : TrackerState) → Snapshot
frozen_snapshot id old =
    record { id = id; change_id = next_id old; blocks = old.blocks; changes = old.changes }

-- the last snapshots are numbered from 1 on, the new one among them
numbered_new : (old : TrackerState) (y : Snapshot) (n uuid : ℕ)
    → AreNumbered old (length old.snapshots) n uuid
    → y.change_id ≡ Some (record { uuid = uuid; seq = n + 1 })
    → (new : TrackerState) → new.snapshots ≡ old.snapshots ++ y ∷ []
    → AreNumbered new (length old.snapshots + 1) (n + 1) uuid
numbered_new old y n uuid was told new grown = record {
  enough = omega (arith, was.enough);
  each = λ seq low high. elim (cases_lt n seq) [
    | inl last ↦
        let is : seq ≡ n + 1 = omega (arith, last, high) in
        let place : length old.snapshots + 1 - (n + 1 - seq) - 1 ≡ length old.snapshots =
        omega (arith, is) in (
          y,
          ap (λ (xs : List Snapshot). slice_get xs (length old.snapshots + 1 - (n + 1 - seq) - 1))
              grown ∙ ap (slice_get (old.snapshots ++ y ∷ [])) place
              ∙ slice_get-last old.snapshots y,
          told ∙ ap (λ (k : ℕ). Some (id_of uuid k)) (sym is),
        )
    | inr early ↦
        let e = was.each seq low early in
        let place : length old.snapshots + 1 - (n + 1 - seq) - 1
        ≡ length old.snapshots - (n - seq) - 1 = omega (arith, early, low, was.enough) in (
          e.0,
          ap (λ (xs : List Snapshot). slice_get xs
              (length old.snapshots + 1 - (n + 1 - seq) - 1)) grown
              ∙ ap (slice_get (old.snapshots ++ y ∷ [])) place
              ∙ at_front old.snapshots (y ∷ []) (length old.snapshots - (n - seq) - 1) e.0 e.1,
          e.2,
        )
  ];
}

numbered_old : (old : TrackerState) (y : Snapshot) (end count uuid : ℕ)
    → AreNumbered old end count uuid → (new : TrackerState)
    → new.snapshots ≡ old.snapshots ++ y ∷ [] → AreNumbered new end count uuid
numbered_old old y end count uuid was new grown = record {
  enough = was.enough;
  each = λ seq low high. let e = was.each seq low high in (
    e.0,
    ap (λ (xs : List Snapshot). slice_get xs (end - (count - seq) - 1)) grown
        ∙ at_front old.snapshots (y ∷ []) (end - (count - seq) - 1) e.0 e.1,
    e.2,
  );
}

told_seq : (old : TrackerState) (told : ChangeId) (o : Option ℕ) → old.counted ≡ o
    → next_id old ≡ Some told
    → (n : ℕ) × (o ≡ Some n) × (told ≡ id_of (packed old.machine old.disk old.epoch) (n + 1))
told_seq old told None is next =
    absurd (none-some told
    (sym (ap (λ (o : Option ℕ). option_map
    (λ n. id_of (packed old.machine old.disk old.epoch) (n + 1)) o) is) ∙ next))
told_seq old told (Some n) is next = (
  n,
  refl,
  sym (same_Some (id_of (packed old.machine old.disk old.epoch) (n + 1)) told
      (sym (ap (λ (o : Option ℕ). option_map
      (λ n. id_of (packed old.machine old.disk old.epoch) (n + 1)) o) is) ∙ next)),
)

next_told : (old : TrackerState) (n : ℕ) → old.counted ≡ Some n
    → next_id old ≡ Some (id_of (packed old.machine old.disk old.epoch) (n + 1))
next_told old n is = ap
    (λ (o : Option ℕ). option_map (λ n. id_of (packed old.machine old.disk old.epoch) (n + 1)) o) is

present_of : (old : TrackerState) (n : ℕ) (h : List TrackStep) → StandsFor old h
    → old.counted ≡ Some n
    → AreNumbered old (length old.snapshots) n (packed old.machine old.disk old.epoch)
present_of old n h stands is =
    let P : ℕ → Type 0 = λ m. AreNumbered old (length old.snapshots) m
    (packed old.machine old.disk old.epoch) in
    subst P (ap (λ (o : Option ℕ). unwrap_or o 0) is) stands.present

new_numbers : (id : ℕ) (old : TrackerState) (n : ℕ) (h : List TrackStep) → StandsFor old h
    → old.counted ≡ Some n
    → AreNumbered (after_freezing id old) (length old.snapshots + 1) (n + 1)
    (packed old.machine old.disk old.epoch)
new_numbers id old n h stands is =
    numbered_new old (frozen_snapshot id old) n (packed old.machine old.disk old.epoch)
    (present_of old n h stands is) (next_told old n is) (after_freezing id old) refl

numbered_last : (id : ℕ) (old : TrackerState) (place : ℕ) (told : ChangeId) (h : List TrackStep)
    → StandsFor old h → place ≡ length old.snapshots → next_id old ≡ Some told
    → AreNumbered (after_freezing id old) (place + 1) told.seq told.uuid
numbered_last id old place told h stands at next =
    let n = told_seq old told old.counted refl next in
    let made = new_numbers id old n.0 h stands n.1 in
    let P : ℕ → Type 0 = λ m. AreNumbered (after_freezing id old) (m + 1) (n.0 + 1)
    (packed old.machine old.disk old.epoch) in
    let Q : ChangeId → Type 0 = λ x. AreNumbered (after_freezing id old) (place + 1) x.seq x.uuid in
    subst Q (sym n.2) (subst P (sym at) made)

present_new : (id : ℕ) (old : TrackerState) (h : List TrackStep) (o : Option ℕ) → StandsFor old h
    → old.counted ≡ o
    → AreNumbered (after_freezing id old) (length (old.snapshots ++ frozen_snapshot id old ∷ []))
    (unwrap_or (option_map (λ n. n + 1) old.counted) 0) (packed old.machine old.disk old.epoch)
present_new id old h None stands is =
    let P : Option ℕ → Type 0 =
    λ o. AreNumbered (after_freezing id old)
    (length (old.snapshots ++ frozen_snapshot id old ∷ []))
    (unwrap_or (option_map (λ n. n + 1) o) 0) (packed old.machine old.disk old.epoch) in
    subst P (sym is) (record { enough = omega arith; each = λ seq low high. absurd (omega arith) })
present_new id old h (Some n) stands is =
    let P : Option ℕ → Type 0 =
    λ o. AreNumbered (after_freezing id old)
    (length (old.snapshots ++ frozen_snapshot id old ∷ []))
    (unwrap_or (option_map (λ n. n + 1) o) 0) (packed old.machine old.disk old.epoch) in
    let Q : ℕ → Type 0 = λ m. AreNumbered (after_freezing id old) m (n + 1)
    (packed old.machine old.disk old.epoch) in
    let long : length old.snapshots + 1 ≡ length (old.snapshots ++ frozen_snapshot id old ∷ []) =
    omega (arith, length-append old.snapshots (frozen_snapshot id old ∷ [])) in
    subst P (sym is) (subst Q long (new_numbers id old n h stands is))

either : (s : Option Snapshot) (y : Snapshot) (b : Bool)
    → is_some (option_or s (cond b (Some y) None)) ≡ (is_some s || b)
either None y true = refl
either None y false = refl
either (Some x) y b = refl

-- the changes of earlier snapshots, up to the new one, and those behind it
changed_upto : (id : ℕ) (old : TrackerState) (place b : ℕ) → place < length old.snapshots
    → changed_in (after_freezing id old) (place + 1) (length old.snapshots + 1) b
    ≡ (changed_in old (place + 1) (length old.snapshots) b || list_any (nat_eq b) old.changes)
changed_upto id old place b less =
    ap (λ (xs : List Snapshot). list_any (λ s. list_any (nat_eq b) s.changes) xs)
    (range-push old.snapshots (frozen_snapshot id old) (place + 1) (omega (arith, less)))
    ∙ list_any-append (λ s. list_any (nat_eq b) s.changes)
    (slice_range old.snapshots (place + 1) (length old.snapshots)) (frozen_snapshot id old ∷ [])
    ∙ ap (λ x. changed_in old (place + 1) (length old.snapshots) b || x)
    (or-false (list_any (nat_eq b) old.changes))

old_changes : (id : ℕ) (old : TrackerState) (h : List TrackStep) (place : ℕ) (k : Snapshot)
    → old.free_from ≤ id → StandsFor old h → slice_get old.snapshots place ≡ Some k
    → IsOfEpoch old k
    → TellsChanges (after_freezing id old) (h ++ Frozen id ∷ []) place k
old_changes id old h place k le stands was of =
    let tells = stands.changes place k was of in
    let inside = (stands.frozen place k was).within in
    let less = slice_get_within old.snapshots place k was in
    let at = place_new id h (Frozen id) (fresh_id id old h stands le) (eq-eqb id id refl) in
    let long : length (old.snapshots ++ frozen_snapshot id old ∷ []) ≡ length old.snapshots + 1 =
    omega (arith, length-append old.snapshots (frozen_snapshot id old ∷ [])) in
    record {
      upto = λ later other upward at_other b in_disk. elim
          (slice_get-pushed old.snapshots (frozen_snapshot id old) later other at_other) [
            | inl early ↦
                ap (λ (xs : List Snapshot). list_any (λ s. list_any (nat_eq b) s.changes) xs)
                (range-front old.snapshots (frozen_snapshot id old ∷ []) (place + 1) (later + 1)
                (omega (arith, slice_get_within old.snapshots later other early.1)))
                ∙ tells.upto later other upward early.1 b in_disk
                ∙ ap (is_met b) (sym (marks_stay h (Frozen id ∷ []) k.id other.id inside
                (stands.frozen later other early.1).within))
            | inr last ↦
                ap (λ n. changed_in (after_freezing id old) (place + 1) (n + 1) b) last.0
                ∙ changed_upto id old place b less ∙ tells.now b in_disk
                ∙ ap (is_met b) (sym ((λ i. runs_between
                (mark-stays freezes k.id h (Frozen id ∷ []) inside i)
                ((ap (λ (x : Snapshot). mark x.id (h ++ Frozen id ∷ [])) (sym last.1) ∙ at) i)
                (h ++ Frozen id ∷ []))
                ∙ runs_stay (mark k.id h) (length h) h (Frozen id ∷ []) (omega arith)))
          ];
      now = λ b in_disk.
          or-false (changed_in (after_freezing id old) (place + 1)
          (length (old.snapshots ++ frozen_snapshot id old ∷ [])) b)
          ∙ ap (λ n. changed_in (after_freezing id old) (place + 1) n b) long
          ∙ changed_upto id old place b less ∙ tells.now b in_disk
          ∙ ap (is_met b) (sym (now_is h (Frozen id) k.id inside
          ∙ append-nil (runs_between (mark k.id h) (length h) h)));
    }

new_changes : (id : ℕ) (old : TrackerState) (h : List TrackStep) (place : ℕ) → old.free_from ≤ id
    → StandsFor old h → place ≡ length old.snapshots
    → TellsChanges (after_freezing id old) (h ++ Frozen id ∷ []) place (frozen_snapshot id old)
new_changes id old h place le stands is =
    let at = place_new id h (Frozen id) (fresh_id id old h stands le) (eq-eqb id id refl) in
    let long : length (old.snapshots ++ frozen_snapshot id old ∷ []) ≡ length old.snapshots + 1 =
    omega (arith, length-append old.snapshots (frozen_snapshot id old ∷ [])) in
    record {
      upto = λ later other upward at_other b in_disk.
          let bound = slice_get_within (old.snapshots ++ frozen_snapshot id old ∷ []) later other
          at_other in
          let same : later ≡ length old.snapshots = omega (arith, bound, long, upward, is) in
          let other_is = slice_get-pushed old.snapshots
          (frozen_snapshot id old) later other at_other in
          ap (λ (xs : List Snapshot). list_any (λ s. list_any (nat_eq b) s.changes) xs)
          (range-none (old.snapshots ++ frozen_snapshot id old ∷ []) (place + 1) (later + 1)
          (omega (arith, same, is)))
          ∙ sym (let empty : runs_between (mark id (h ++ Frozen id ∷ []))
          (mark other.id (h ++ Frozen id ∷ [])) (h ++ Frozen id ∷ []) ≡ [] =
          (elim other_is [
            | inl early ↦ absurd (omega
                (arith, slice_get_within old.snapshots later other early.1, same))
            | inr last ↦ ap (λ (x : Snapshot). runs_between (mark id (h ++ Frozen id ∷ []))
                (mark x.id (h ++ Frozen id ∷ [])) (h ++ Frozen id ∷ [])) (sym last.1)
                ∙ runs_none (mark id (h ++ Frozen id ∷ [])) (h ++ Frozen id ∷ [])
          ]) in ap (is_met b) empty);
      now = λ b in_disk.
          or-false (changed_in (after_freezing id old) (place + 1)
          (length (old.snapshots ++ frozen_snapshot id old ∷ [])) b)
          ∙ ap (λ (xs : List Snapshot). list_any (λ s. list_any (nat_eq b) s.changes) xs)
          (range-none (old.snapshots ++ frozen_snapshot id old ∷ []) (place + 1)
          (length (old.snapshots ++ frozen_snapshot id old ∷ [])) (omega (arith, long, is)))
          ∙ sym (ap (is_met b) (ap
          (λ n. runs_between n (length (h ++ Frozen id ∷ [])) (h ++ Frozen id ∷ [])) at
          ∙ runs_push (length h) h (Frozen id) (omega arith)
          ∙ append-nil (runs_between (length h) (length h) h) ∙ runs_none (length h) h));
    }

below : (id : ℕ) (old : TrackerState) (h : List TrackStep) → old.free_from ≤ id → StandsFor old h
    → (n : ℕ) → id + 1 ≤ n → (s : ℕ) → list_any (freezes s) (h ++ Frozen id ∷ []) ≡ true → s < n
below id old h le stands n above s is = by (list_any (freezes s) h) refl
  where
    by : (b : Bool) → list_any (freezes s) h ≡ b → s < n
    by true was = let less = (stands.free id).0 le s was in omega (arith, less, above)
    by false none =
        let here : eqb id s ≡ true =
        sym (list_any-append (freezes s) h (Frozen id ∷ [])
        ∙ ap (λ b. b || (eqb id s || false)) none ∙ or-false (eqb id s)) ∙ is in
        omega (arith, eqb-true id s here, above)

pub stands_frozen : (id : ℕ) (old : TrackerState) → old.free_from ≤ id
    → Takes (Frozen id) old (after_freezing id old)
stands_frozen id old le h stands = record {
  epoch = stands.epoch ∙ sym (epoch_same h (Frozen id) refl);
  counted = ap (λ (o : Option ℕ). option_map (λ n. n + 1) o) stands.counted
      ∙ sym (counted-last reading h (Frozen id) ∙ counts_freeze (counted_of h) id);
  blocks = stands.blocks
      ∙ ap (met_blocks old.capacity)
      (sym (runs_push 0 h (Frozen id) (omega arith) ∙ append-nil (runs_between 0 (length h) h)));
  known = λ s. ap is_some (find-append (λ x. x.id == s) old.snapshots (frozen_snapshot id old ∷ []))
      ∙ either (snapshot_of s old) (frozen_snapshot id old) (eqb id s)
      ∙ ap (λ b. b || eqb id s) (stands.known s)
      ∙ sym (list_any-append (freezes s) h (Frozen id ∷ [])
      ∙ ap (λ b. list_any (freezes s) h || b) (or-false (eqb id s)));
  frozen = λ place k at. elim
      (slice_get-pushed old.snapshots (frozen_snapshot id old) place k at) [
        | inl was ↦ frozen_by (after_freezing id old) (h ++ Frozen id ∷ []) k
            (facts_stay old.machine old.disk old.capacity k.id k.change_id k.blocks h
            (Frozen id ∷ [])
            (facts_of old h k (stands.frozen place k was.1)))
        | inr last ↦ let P : Snapshot → Type 0 =
            λ x. IsFrozenAs (after_freezing id old) (h ++ Frozen id ∷ []) x in
            subst P last.1 (frozen_by (after_freezing id old) (h ++ Frozen id ∷ [])
            (frozen_snapshot id old) (new_facts id old h le stands))
      ];
  numbers = λ place k told at is. elim
      (slice_get-pushed old.snapshots (frozen_snapshot id old) place k at) [
        | inl was ↦ numbered_old old (frozen_snapshot id old) (place + 1) told.seq told.uuid
            (stands.numbers place k told was.1 is) (after_freezing id old) refl
        | inr last ↦ numbered_last id old place told h stands last.0
            (ap (λ (x : Snapshot). x.change_id) last.1 ∙ is)
      ];
  present = present_new id old h old.counted stands refl;
  changes = λ place k at of. elim
      (slice_get-pushed old.snapshots (frozen_snapshot id old) place k at) [
        | inl was ↦ old_changes id old h place k le stands was.1 of
        | inr last ↦ let P : Snapshot → Type 0 =
            λ x. TellsChanges (after_freezing id old) (h ++ Frozen id ∷ []) place x in
            subst P last.1 (new_changes id old h place le stands last.0)
      ];
  free = λ n. (
    (λ above. below id old h le stands n above),
    (λ all. let less = all id (list_any-append (freezes id) h (Frozen id ∷ [])
        ∙ or_right (list_any (freezes id) h) (eqb id id || false)
        (ap (λ b. b || false) (eq-eqb id id refl))) in omega (arith, less)),
  );
}

-- ---- nothing was told yet

pub stands_fresh : (machine disk capacity : ℕ) → StandsFor (fresh machine disk capacity) []
stands_fresh machine disk capacity = record {
  epoch = refl;
  counted = refl;
  blocks = sym (none_pass (range_with_len 0 (block_count capacity)));
  known = λ s. refl;
  frozen = λ place k at. absurd (none-some k at);
  numbers = λ place k id at is. absurd (none-some k at);
  present = record { enough = omega arith; each = λ seq low high. absurd (omega arith) };
  changes = λ place k at of. absurd (none-some k at);
  free = λ id. ((λ le s is. absurd (false≢true is)), (λ all. omega arith));
}

-- ---- the room is no part

pub room_is_no_part : (t : TrackerState) (h : List TrackStep) (mark_room : Option Run)
    (freeze_room : Bool) → StandsFor t h
    → StandsFor (record t { mark_room = mark_room; freeze_room = freeze_room }) h
room_is_no_part t h mark_room freeze_room stands = record {
  epoch = stands.epoch;
  counted = stands.counted;
  blocks = stands.blocks;
  known = stands.known;
  frozen = λ place k at. frozen_by (record t { mark_room = mark_room; freeze_room = freeze_room }) h
      k (facts_of t h k (stands.frozen place k at));
  numbers = λ place k id at is. let n = stands.numbers place k id at is in
      record { enough = n.enough; each = n.each };
  present = let n = stands.present in record { enough = n.enough; each = n.each };
  changes = λ place k at of. let was = stands.changes place k at of in
      record { upto = was.upto; now = was.now };
  free = stands.free;
}
