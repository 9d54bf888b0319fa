-- What the state of a tracker is for the maps and the snapshots that it keeps.
use Rattle.std.proofs.Common.{◌≡◌, ℕ, zero, suc, ◌+◌, ◌-◌, ◌/◌, ◌%◌, ◌<◌, ◌≤◌, List, [], ◌∷◌, ◌++◌, length, take, drop, map, Bool, true, false, cond, ◌&&◌, ◌||◌, ◌==◌, eqb, ltb, leb, nat_eq, Option, Some, None, is_some, IfSome, option_map, sym, ap, refl, ◌∙◌, arith, inl, inr, length-append, length-drop, slice_range}
use Rattle.std.specs.List.{list_any, find, filter, slice_get, enumerate_from, range_with_len}
use Rattle.std.proofs.Math.Bool.{or-false, and-or_distrib_right}
use Rattle.std.proofs.lemmas.Bool.{cases_lt, lt-ltb, le-ltb, le-leb, lt-leb, and_right}
use Rattle.std.proofs.lemmas.Option.{none-some}
use Rattle.sector_model.specs.Run.{meets, block_count, with_met}
use Rattle.sector_model.specs.declared.run.Run.{Run}
use Rattle.change_id.specs.declared.ChangeId.{ChangeId}
use Rattle.change_id.specs.ChangeId.{packed}
use Rattle.change_tracker.specs.declared.frozen_snapshot.FrozenSnapshot.{FrozenSnapshot}
use Rattle.change_tracker.specs.declared.maps.Maps.{Maps}
use Rattle.change_tracker.specs.declared.word.Touch.{Touch}
use Rattle.change_tracker.specs.declared.word.Window.{Window}
use Rattle.change_tracker.specs.Tracker.{Snapshot, fresh, after_marking, after_freezing, after_reset, without_changes}
use Rattle.basics.specs.Bits.{has_bit}
use Rattle.change_tracker.specs.Touches.{WordState, TouchState, is_of, touched_in, word_of, is_touched_in, HasSame, blocks_touched_in}
use Rattle.change_tracker.specs.Maps.{window, HasSameTouches, IsTouchedWhere, NoneTouchedLater, is_met_by}
use Rattle.change_tracker.specs.Fields.{snapshot_at, state_of, IdsAscend, NoLater, IsByNow}
use Rattle.sector_model.proofs.Among.{among, same_blocks, met_more, none_pass}

-- ---- windows

inside_joins : (a m c n : ℕ) → a ≤ m → m ≤ c
    → (leb a n && ltb n c) ≡ ((leb a n && ltb n m) || (leb m n && ltb n c))
inside_joins a m c n low high = elim (cases_lt n m) [
  | inl early ↦ (λ i. leb a n && lt-ltb n c (omega (arith, early, high)) i)
      ∙ sym ((λ i. (leb a n && lt-ltb n m early i) || (lt-leb m n early i && ltb n c))
      ∙ or-false (leb a n && true))
  | inr late ↦ (λ i. le-leb a n (omega (arith, low, late)) i && ltb n c)
      ∙ sym ((λ i. (leb a n && le-ltb n m late i) || (le-leb m n late i && ltb n c))
      ∙ ap (λ b. b || ltb n c) (and_right (leb a n) false refl))
]

of_joins : (a m c p : ℕ) (x : Touch) → a ≤ m → m ≤ c
    → is_of (window a c) p x ≡ (is_of (window a m) p x || is_of (window m c) p x)
of_joins a m c p x low high =
    ap (λ b. b && has_bit x.bits p) (inside_joins a m c x.freezes low high)
    ∙ and-or_distrib_right (leb a x.freezes && ltb x.freezes m) (leb m x.freezes && ltb x.freezes c)
    (has_bit x.bits p)

any_joins : (a m c p : ℕ) (xs : List Touch) → a ≤ m → m ≤ c
    → list_any (is_of (window a c) p) xs
    ≡ (list_any (is_of (window a m) p) xs || list_any (is_of (window m c) p) xs)
any_joins a m c p [] low high = refl
any_joins a m c p (x ∷ xs) low high =
    (λ i. of_joins a m c p x low high i || any_joins a m c p xs low high i)
    ∙ four (is_of (window a m) p x) (is_of (window m c) p x) (list_any (is_of (window a m) p) xs)
    (list_any (is_of (window m c) p) xs)
  where
    four : (a b c d : Bool) → ((a || b) || (c || d)) ≡ ((a || c) || (b || d))
    four true b c d = refl
    four false true true d = refl
    four false true false d = refl
    four false false c d = refl

at_joins : (a m c p : ℕ) (o : Option WordState) → a ≤ m → m ≤ c
    → touched_in (window a c) p o ≡ (touched_in (window a m) p o || touched_in (window m c) p o)
at_joins a m c p None low high = refl
at_joins a m c p (Some x) low high = any_joins a m c p (x.latest ∷ x.earlier) low high

pub joins : (t : TouchState) (a m c b : ℕ) → a ≤ m → m ≤ c
    → is_touched_in t (window a c) b
    ≡ (is_touched_in t (window a m) b || is_touched_in t (window m c) b)
joins t a m c b low high = at_joins a m c (b % 64) (word_of t (b / 64)) low high

none_inside : (a n : ℕ) → (leb a n && ltb n a) ≡ false
none_inside a n = elim (cases_lt n a) [
  | inl early ↦ ap (λ b. b && ltb n a) (lt-leb a n early)
  | inr late ↦ ap (λ b. leb a n && b) (le-ltb n a late) ∙ and_right (leb a n) false refl
]

any_none : (a p : ℕ) (xs : List Touch) → list_any (is_of (window a a) p) xs ≡ false
any_none a p [] = refl
any_none a p (x ∷ xs) = (λ i. (none_inside a x.freezes i && has_bit x.bits p) || any_none a p xs i)

at_none : (a p : ℕ) (o : Option WordState) → touched_in (window a a) p o ≡ false
at_none a p None = refl
at_none a p (Some x) = any_none a p (x.latest ∷ x.earlier)

pub empty_window : (t : TouchState) (a b : ℕ) → is_touched_in t (window a a) b ≡ false
empty_window t a b = at_none a (b % 64) (word_of t (b / 64))

-- ---- the snapshots

abbrev pub view : (c : ℕ) (maps : Maps) (from : ℕ) → List FrozenSnapshot → List Snapshot
view c maps from ks = map (snapshot_at c maps) (enumerate_from from ks)

pub view_get : (c : ℕ) (maps : Maps) (from : ℕ) (ks : List FrozenSnapshot) (n : ℕ)
    (k : FrozenSnapshot)
    → slice_get ks n ≡ Some k
    → slice_get (view c maps from ks) n ≡ Some (snapshot_at c maps (from + n, k))
view_get c maps from [] n k is = absurd (none-some k is)
view_get c maps from (x ∷ ks) zero k is =
    (let e : from ≡ from + 0 = omega arith in ap (λ (m : ℕ). Some (snapshot_at c maps (m, x))) e)
    ∙ ap (λ (o : Option FrozenSnapshot). option_map (λ y. snapshot_at c maps (from + 0, y)) o) is
view_get c maps from (x ∷ ks) (suc n) k is =
    view_get c maps (from + 1) ks n k is
    ∙ (let e : from + 1 + n ≡ from + suc n = omega arith in
    ap (λ (m : ℕ). Some (snapshot_at c maps (m, k))) e)

pub view_same : (c bound : ℕ) (a b : Maps) (from : ℕ) (ks : List FrozenSnapshot)
    → from + length ks ≤ bound
    → ((n : ℕ) (k : FrozenSnapshot) → n < bound → snapshot_at c a (n, k) ≡ snapshot_at c b (n, k))
    → view c a from ks ≡ view c b from ks
view_same c bound a b from [] le same = refl
view_same c bound a b from (k ∷ ks) le same =
    (λ i. same from k (omega (arith, le)) i ∷ view_same c bound a b (from + 1) ks
    (omega (arith, le)) same i)

pub view_push : (c : ℕ) (maps : Maps) (from : ℕ) (ks : List FrozenSnapshot) (k : FrozenSnapshot)
    → view c maps from (ks ++ k ∷ [])
    ≡ view c maps from ks ++ snapshot_at c maps (from + length ks, k) ∷ []
view_push c maps from [] k =
    (let e : from ≡ from + 0 = omega arith in ap (λ (m : ℕ). snapshot_at c maps (m, k) ∷ []) e)
view_push c maps from (x ∷ ks) k =
    ap (λ (xs : List Snapshot). snapshot_at c maps (from, x) ∷ xs)
    (view_push c maps (from + 1) ks k)
    ∙ (let e : from + 1 + length ks ≡ from + suc (length ks) = omega arith in
    ap (λ (m : ℕ). snapshot_at c maps (from, x) ∷
    (view c maps (from + 1) ks ++ snapshot_at c maps (m, k) ∷ [])) e)

pub view_long : (c : ℕ) (maps : Maps) (from : ℕ) (ks : List FrozenSnapshot)
    → length (view c maps from ks) ≡ length ks
view_long c maps from [] = refl
view_long c maps from (k ∷ ks) = ap (λ n. suc n) (view_long c maps (from + 1) ks)

-- a snapshot is found by its id exactly where one with that id is kept
pub view_find : (c : ℕ) (maps : Maps) (from id : ℕ) (ks : List FrozenSnapshot)
    → is_some (find (λ s. s.id == id) (view c maps from ks)) ≡ list_any (λ k. k.id == id) ks
view_find c maps from id [] = refl
view_find c maps from id (k ∷ ks) = by (eqb k.id id) refl (view_find c maps (from + 1) id ks)
  where
    by : (b : Bool) → eqb k.id id ≡ b
        → is_some (find (λ s. s.id == id) (view c maps (from + 1) ks))
        ≡ list_any (λ x. x.id == id) ks
        → is_some (cond (eqb k.id id) (Some (snapshot_at c maps (from, k)))
        (find (λ s. s.id == id) (view c maps (from + 1) ks)))
        ≡ (eqb k.id id || list_any (λ x. x.id == id) ks)
    by true is rest = rw is refl
    by false is rest = rw is rest

-- ---- the changes of the snapshots of a part of the list

drop_view : (c : ℕ) (maps : Maps) (from n : ℕ) (ks : List FrozenSnapshot)
    → drop n (view c maps from ks) ≡ view c maps (from + n) (drop n ks)
drop_view c maps from zero ks =
    (let e : from ≡ from + 0 = omega arith in ap (λ (m : ℕ). view c maps m ks) e)
drop_view c maps from (suc n) [] = refl
drop_view c maps from (suc n) (k ∷ ks) =
    drop_view c maps (from + 1) n ks
    ∙ (let e : from + 1 + n ≡ from + suc n = omega arith in
    ap (λ (m : ℕ). view c maps m (drop n ks)) e)

take_changes : (c : ℕ) (maps : Maps) (from n b : ℕ) (ks : List FrozenSnapshot) → n ≤ length ks
    → b < block_count c
    → list_any (λ s. list_any (nat_eq b) s.changes) (take n (view c maps from ks))
    ≡ is_touched_in maps.changes (window from (from + n)) b
take_changes c maps from zero b ks le less =
    sym ((let e : from + 0 ≡ from = omega arith in
    ap (λ (m : ℕ). is_touched_in maps.changes (window from m) b) e)
    ∙ empty_window maps.changes from b)
take_changes c maps from (suc n) b [] le less = absurd (omega arith)
take_changes c maps from (suc n) b (k ∷ ks) le less =
    (λ i. among c (is_touched_in maps.changes (window from (from + 1))) b less i || take_changes c
    maps
    (from + 1) n b ks (omega (arith, le)) less i)
    ∙ (let e : from + 1 + n ≡ from + suc n = omega arith in
    ap (λ (m : ℕ). is_touched_in maps.changes
    (window from (from + 1)) b || is_touched_in maps.changes
    (window (from + 1) m) b) e)
    ∙ sym (joins maps.changes from (from + 1) (from + suc n) b (omega arith) (omega arith))

pub in_changes : (c : ℕ) (maps : Maps) (ks : List FrozenSnapshot) (from end b : ℕ) → from ≤ end
    → end ≤ length ks → b < block_count c
    → list_any (λ s. list_any (nat_eq b) s.changes) (slice_range (view c maps 0 ks) from end)
    ≡ is_touched_in maps.changes (window from end) b
in_changes c maps ks from end b low high less =
    ap (λ (xs : List Snapshot). list_any (λ s. list_any (nat_eq b) s.changes)
    (take (end - from) xs)) (drop_view c maps 0 from ks
    ∙ (let e : 0 + from ≡ from = omega arith in ap (λ (m : ℕ). view c maps m (drop from ks)) e))
    ∙ take_changes c maps from (end - from) b (drop from ks)
    (omega (arith, length-drop from ks, low, high)) less
    ∙ (let e : from + (end - from) ≡ end = omega (arith, low) in
    ap (λ (m : ℕ). is_touched_in maps.changes (window from m) b) e)

-- ---- states

blocks_same : (c : ℕ) (s t : TouchState) (w : Window)
    → ((b : ℕ) → is_touched_in t w b ≡ is_touched_in s w b) → blocks_touched_in c t w
    ≡ blocks_touched_in c s w
blocks_same c s t w same = same_blocks c (is_touched_in t w) (is_touched_in s w) (λ b less. same b)

abbrev snapshot : (id : ℕ) (told : Option ChangeId) (blocks changes : List ℕ) → Snapshot
snapshot id told blocks changes =
    record { id = id; change_id = told; blocks = blocks; changes = changes }

-- maps with the same touches
pub same_state : (m d c r : ℕ) (counted : Option ℕ) (old new : Maps) (ks : List FrozenSnapshot)
    (free : ℕ)
    (room : Option Run) (freeze_room : Bool) → HasSameTouches old new
    → state_of m d c r counted new ks free room freeze_room
    ≡ state_of m d c r counted old ks free room freeze_room
same_state m d c r counted old new ks free room freeze_room same =
    let F : ℕ = length ks in
    let first = blocks_same c old.first new.first (window 0 (F + 1)) (same.first (window 0 (F + 1)))
    in
    let changes = blocks_same c old.changes new.changes (window F (F + 1))
    (same.changes (window F (F + 1))) in
    let snaps = view_same c F new old 0 ks (omega arith)
    (λ n k less. (λ i. snapshot k.id k.change_id
    (blocks_same c old.first new.first (window 0 (n + 1)) (same.first (window 0 (n + 1))) i)
    (blocks_same c old.changes new.changes (window n (n + 1)) (same.changes (window n (n + 1)))
    i))) in
    (λ i. record {
      machine = m;
      disk = d;
      capacity = c;
      epoch = r;
      counted = counted;
      blocks = first i;
      changes = changes i;
      snapshots = snaps i;
      free_from = free;
      mark_room = room;
      freeze_room = freeze_room;
    })

-- a run is marked after the last snapshot
pub marked_state : (m d c r : ℕ) (counted : Option ℕ) (old new : Maps) (ks : List FrozenSnapshot)
    (free : ℕ)
    (room : Option Run) (freeze_room : Bool) (run : Run)
    → IsTouchedWhere (is_met_by run) (length ks) old new
    → state_of m d c r counted new ks free None freeze_room
    ≡ after_marking run (state_of m d c r counted old ks free room freeze_room)
marked_state m d c r counted old new ks free room freeze_room run is =
    let F : ℕ = length ks in
    let first : blocks_touched_in c new.first (window 0 (F + 1))
    ≡ with_met c run (blocks_touched_in c old.first (window 0 (F + 1))) =
    same_blocks c (is_touched_in new.first (window 0 (F + 1)))
    (λ b. is_touched_in old.first (window 0 (F + 1)) b || meets b run.first run.count)
    (λ b less. is.first (F + 1) b
    ∙ ap (λ x. is_touched_in old.first (window 0 (F + 1)) b || (x && meets b run.first run.count))
    (lt-ltb F (F + 1) (omega arith)))
    ∙ sym (met_more c run (is_touched_in old.first (window 0 (F + 1)))) in
    let changes : blocks_touched_in c new.changes (window F (F + 1))
    ≡ with_met c run (blocks_touched_in c old.changes (window F (F + 1))) =
    same_blocks c (is_touched_in new.changes (window F (F + 1)))
    (λ b. is_touched_in old.changes (window F (F + 1)) b || meets b run.first run.count)
    (λ b less. is.changes (window F (F + 1)) b
    ∙ (λ i. is_touched_in old.changes (window F (F + 1)) b ||
    ((le-leb F F (omega arith) i && lt-ltb F (F + 1) (omega arith) i) && meets b run.first
    run.count)))
    ∙ sym (met_more c run (is_touched_in old.changes (window F (F + 1)))) in
    let snaps : view c new 0 ks ≡ view c old 0 ks =
    view_same c F new old 0 ks (omega arith) (λ n k less. (λ i. snapshot k.id k.change_id
    (blocks_same c old.first new.first (window 0 (n + 1))
    (λ b. is.first (n + 1) b
    ∙ ap (λ x. is_touched_in old.first (window 0 (n + 1)) b || (x && meets b run.first run.count))
    (le-ltb F (n + 1) (omega (arith, less)))
    ∙ or-false (is_touched_in old.first (window 0 (n + 1)) b)) i)
    (blocks_same c old.changes new.changes (window n (n + 1)) (λ b. is.changes (window n (n + 1)) b
    ∙ ap (λ x. is_touched_in old.changes (window n (n + 1)) b ||
    ((leb n F && x) && meets b run.first run.count)) (le-ltb F (n + 1) (omega (arith, less)))
    ∙ gone (is_touched_in old.changes (window n (n + 1)) b) (leb n F)
    (meets b run.first run.count)) i))) in
    (λ i. record {
      machine = m;
      disk = d;
      capacity = c;
      epoch = r;
      counted = counted;
      blocks = first i;
      changes = changes i;
      snapshots = snaps i;
      free_from = free;
      mark_room = None;
      freeze_room = freeze_room;
    })
  where
    gone : (o a m : Bool) → (o || ((a && false) && m)) ≡ o
    gone true a m = refl
    gone false true m = refl
    gone false false m = refl

-- a snapshot is added
pub frozen_state : (m d c r : ℕ) (counted : Option ℕ) (maps : Maps) (ks : List FrozenSnapshot)
    (free : ℕ)
    (room : Option Run) (freeze_room : Bool) (k : FrozenSnapshot)
    → IsByNow maps.first (length ks) → NoLater maps.changes (length ks)
    → k.change_id ≡ option_map (λ n. record { uuid = packed m d r; seq = n + 1 }) counted
    → state_of m d c r (option_map (λ n. n + 1) counted) maps (ks ++ k ∷ []) (k.id + 1) None false
    ≡ after_freezing k.id (state_of m d c r counted maps ks free room freeze_room)
frozen_state m d c r counted maps ks free room freeze_room k first_past changes_past told =
    let F : ℕ = length ks in
    let long : length (ks ++ k ∷ []) ≡ F + 1 = length-append ks (k ∷ []) in
    let first : blocks_touched_in c maps.first (window 0 (length (ks ++ k ∷ []) + 1))
    ≡ blocks_touched_in c maps.first (window 0 (F + 1)) =
    ap (λ n. blocks_touched_in c maps.first (window 0 (n + 1))) long
    ∙ same_blocks c (is_touched_in maps.first (window 0 (F + 1 + 1)))
    (is_touched_in maps.first (window 0 (F + 1)))
    (λ b less. first_past (F + 1 + 1) b (omega arith)) in
    let changes : blocks_touched_in c maps.changes
    (window (length (ks ++ k ∷ [])) (length (ks ++ k ∷ []) + 1)) ≡ [] =
    ap (λ n. blocks_touched_in c maps.changes (window n (n + 1))) long
    ∙ same_blocks c (is_touched_in maps.changes (window (F + 1) (F + 1 + 1))) (λ b. false)
    (λ b less. changes_past (window (F + 1) (F + 1 + 1)) b (omega arith))
    ∙ none_pass (range_with_len 0 (block_count c)) in
    let last : snapshot_at c maps (0 + F, k)
    ≡ snapshot k.id (option_map (λ n. record { uuid = packed m d r; seq = n + 1 }) counted)
    (blocks_touched_in c maps.first (window 0 (F + 1)))
    (blocks_touched_in c maps.changes (window F (F + 1))) =
    (let e : 0 + F ≡ F = omega arith in ap (λ (n : ℕ). snapshot_at c maps (n, k)) e)
    ∙ (λ i. snapshot k.id (told i) (blocks_touched_in c maps.first (window 0 (F + 1)))
    (blocks_touched_in c maps.changes (window F (F + 1)))) in
    let snaps = view_push c maps 0 ks k ∙ ap (λ (s : Snapshot). view c maps 0 ks ++ s ∷ []) last in
    (λ i. record {
      machine = m;
      disk = d;
      capacity = c;
      epoch = r;
      counted = option_map (λ n. n + 1) counted;
      blocks = first i;
      changes = changes i;
      snapshots = snaps i;
      free_from = k.id + 1;
      mark_room = None;
      freeze_room = false;
    })

-- the changes are forgotten
pub reset_state : (m d c r : ℕ) (counted : Option ℕ) (old new : Maps) (ks : List FrozenSnapshot)
    (free : ℕ)
    (room : Option Run) (freeze_room : Bool) → new.first ≡ old.first → new.changes ≡ []
    → state_of m d c (r + 1) (option_map (λ n. 0) counted) new ks free None freeze_room
    ≡ after_reset (state_of m d c r counted old ks free room freeze_room)
reset_state m d c r counted old new ks free room freeze_room first empty =
    let F : ℕ = length ks in
    (λ i. record {
      machine = m;
      disk = d;
      capacity = c;
      epoch = r + 1;
      counted = option_map (λ n. 0) counted;
      blocks = blocks_touched_in c (first i) (window 0 (F + 1));
      changes = (ap (λ (t : TouchState). blocks_touched_in c t (window F (F + 1))) empty
          ∙ none_pass (range_with_len 0 (block_count c))) i;
      snapshots = forgotten 0 ks i;
      free_from = free;
      mark_room = None;
      freeze_room = freeze_room;
    })
  where
    forgotten : (from : ℕ) (ks : List FrozenSnapshot)
        → view c new from ks ≡ map without_changes (view c old from ks)
    forgotten from [] = refl
    forgotten from (k ∷ ks) =
        (λ i. snapshot k.id k.change_id (blocks_touched_in c (first i) (window 0 (from + 1)))
        ((ap (λ (t : TouchState). blocks_touched_in c t (window from (from + 1))) empty
        ∙ none_pass (range_with_len 0 (block_count c))) i) ∷ forgotten (from + 1) ks i)

-- nothing was touched
pub fresh_state : (m d c : ℕ) (maps : Maps) → maps.first ≡ [] → maps.changes ≡ []
    → state_of m d c 0 None maps [] 0 None false ≡ fresh m d c
fresh_state m d c maps first changes =
    (λ i. record {
      machine = m;
      disk = d;
      capacity = c;
      epoch = 0;
      counted = None;
      blocks = (ap (λ (t : TouchState). blocks_touched_in c t (window 0 (0 + 1))) first
          ∙ none_pass (range_with_len 0 (block_count c))) i;
      changes = (ap (λ (t : TouchState). blocks_touched_in c t (window 0 (0 + 1))) changes
          ∙ none_pass (range_with_len 0 (block_count c))) i;
      snapshots = [];
      free_from = 0;
      mark_room = None;
      freeze_room = false;
    })

-- ---- touches that came by now

pub no_later_same : (old new : TouchState) (n : ℕ) → HasSame old new → NoLater old n → NoLater new n
no_later_same old new n same past = λ w b less. same w b ∙ past w b less

pub no_later_more : (t : TouchState) (n m : ℕ) → n ≤ m → NoLater t n → NoLater t m
no_later_more t n m le past = λ w b less. past w b (omega (arith, le, less))

at_most_more : (o : Option WordState) (n m : ℕ) → n ≤ m → IfSome o (λ w. w.latest.freezes ≤ n)
    → IfSome o (λ w. w.latest.freezes ≤ m)
at_most_more None n m le is = tt
at_most_more (Some w) n m le is = omega (arith, le, is)

pub none_later_more : (maps : Maps) (n m : ℕ) → n ≤ m → NoneTouchedLater maps n
    → NoneTouchedLater maps m
none_later_more maps n m le is = record {
  first = λ word. at_most_more (word_of maps.first word) n m le (is.first word);
  changes = λ word. at_most_more (word_of maps.changes word) n m le (is.changes word);
}

pub changes_marked_now : (p : ℕ → Bool) (n : ℕ) (old new : Maps) → IsTouchedWhere p n old new
    → NoLater old.changes n → NoLater new.changes n
changes_marked_now p n old new is past =
    λ w b less. is.changes w b
    ∙ (λ i. past w b less i || ((lt-leb w.from n less i && ltb n w.end) && p b))

pub by_now_same : (old new : TouchState) (n : ℕ) → HasSame old new → IsByNow old n → IsByNow new n
by_now_same old new n same past = λ end b less. same (window 0 end) b ∙ past end b less
    ∙ sym (same (window 0 (n + 1)) b)

pub by_now_more : (t : TouchState) (n m : ℕ) → n ≤ m → IsByNow t n → IsByNow t m
by_now_more t n m le past = λ end b less. past end b (omega (arith, le, less))
    ∙ sym (past (m + 1) b (omega (arith, le)))

pub by_now_marked : (p : ℕ → Bool) (n : ℕ) (old new : Maps) → IsTouchedWhere p n old new
    → IsByNow old.first n → IsByNow new.first n
by_now_marked p n old new is past = λ end b less.
    is.first end b ∙ (λ i. past end b less i || (lt-ltb n end less i && p b))
    ∙ sym (is.first (n + 1) b
    ∙ ap (λ x. is_touched_in old.first (window 0 (n + 1)) b || (x && p b))
    (lt-ltb n (n + 1) (omega arith)))

-- ---- ids

pub ids_push : (from free : ℕ) (ks : List FrozenSnapshot) (k : FrozenSnapshot)
    → IdsAscend from free ks → free ≤ k.id
    → IdsAscend from (k.id + 1) (ks ++ k ∷ [])
ids_push from free [] k are le = (omega (arith, are, le), omega arith)
ids_push from free (x ∷ ks) k are le = (are.0, ids_push (x.id + 1) free ks k are.1 le)
