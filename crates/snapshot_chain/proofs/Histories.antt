-- What a chain that stands for a history stands for after one event more.
use Rattle.std.proofs.Common.{◌≡◌, ℕ, zero, suc, ◌+◌, ◌<◌, ◌≤◌, List, [], ◌∷◌, ◌++◌, length, map, take, get_or, subst, Bool, true, false, Option, Some, None, is_some, IfSome, ◌↔◌, sym, ap, refl, ◌∙◌, arith, inl, inr, ◌⊎◌, cond, eqb, ◌==◌, not, ◌||◌}
use Rattle.std.specs.Option.{option_or}
use Rattle.std.specs.List.{fold, list_any, range_with_len, filter, find, position_or_len, All, AllPairs}
use Rattle.std.proofs.Math.Bool.{or-true}
use Rattle.std.proofs.lemmas.Bool.{eq-eqb, cases_eq, ne_eqb, false≢true, false_from_ne_true, or_right}
use Rattle.std.proofs.lemmas.List.{take-append-le, append-nil, map-append}
use Rattle.std.proofs.lemmas.List.Kept.{AllPairs-filter}
use Rattle.std.proofs.lemmas.List.Quantifiers.{all_pairs_push}
use Rattle.std.proofs.lemmas.List.Sums.{fold-append}
use Rattle.std.proofs.lemmas.List.Elements.{filter_map-append, All-push}
use Rattle.std.proofs.lemmas.List.Folds.{list_any-append, find-append}
use Rattle.basics.proofs.ItemAt.{position_or_len-le}
use Rattle.sector_model.specs.Disk.{Write, after_write, fold_writes, fresh_disk}
use Rattle.sector_model.specs.Run.{touched_blocks, block_count, range_of, with_met}
use Rattle.sector_model.proofs.Among.{none_pass}
use Rattle.sector_model.specs.declared.sector.Sector.{Sector}
use Rattle.snapshot_chain.specs.Chain.{ChainState, Snapshot, snapshot_of, fresh, after_writing, after_freezing, after_merging}
use Rattle.snapshot_chain.specs.History.{DiskEvent, Written, Frozen, Merged, write_in, freezes, writes_in, present, before_freeze, live_after, live_snapshots, is_live, frozen_in, frozen_ids, IsFrozenAs, StandsFor, Takes}
use Rattle.snapshot_chain.proofs.Touching.{touched_push}

writes-append : (xs ys : List DiskEvent) → writes_in (xs ++ ys) ≡ writes_in xs ++ writes_in ys
writes-append xs ys = filter_map-append write_in xs ys

-- which ids were frozen
any_frozen : (s : ℕ) (history : List DiskEvent)
    → list_any (freezes s) history ≡ list_any (λ id. id == s) (frozen_ids history)
any_frozen s [] = refl
any_frozen s (Written write ∷ history) = any_frozen s history
any_frozen s (Frozen id ∷ history) = ap (λ x. (id == s) || x) (any_frozen s history)
any_frozen s (Merged id ∷ history) = any_frozen s history

frozen-append : (xs ys : List DiskEvent) → frozen_ids (xs ++ ys) ≡ frozen_ids xs ++ frozen_ids ys
frozen-append xs ys = filter_map-append frozen_in xs ys

any_kept : (p q : ℕ → Bool) (ids : List ℕ) → list_any p (filter q ids) ≡ true
    → list_any p ids ≡ true
any_kept p q [] is = is
any_kept p q (id ∷ ids) is = by (q id) (filter q ids) (any_kept p q ids) is
  where
    both : (x y z : Bool) → (y ≡ true → z ≡ true) → (x || y) ≡ true → (x || z) ≡ true
    both true y z more is = refl
    both false y z more is = more is

    by : (kept : Bool) (rest : List ℕ) → (list_any p rest ≡ true → list_any p ids ≡ true)
        → list_any p (cond kept (id ∷ rest) rest) ≡ true → (p id || list_any p ids) ≡ true
    by true rest more is = both (p id) (list_any p rest) (list_any p ids) more is
    by false rest more is = or_right (p id) (list_any p ids) (more is)

-- a snapshot that is live was frozen
live_was_frozen : (s : ℕ) (live : List ℕ) (history : List DiskEvent)
    → list_any (λ id. id == s) (fold live_after live history) ≡ true
    → (list_any (λ id. id == s) live ≡ true)
    ⊎ (list_any (λ id. id == s) (frozen_ids history) ≡ true)
live_was_frozen s live [] is = inl is
live_was_frozen s live (Written write ∷ history) is = live_was_frozen s live history is
live_was_frozen s live (Frozen id ∷ history) is =
    elim (live_was_frozen s (live ++ id ∷ []) history is) [
      | inl was ↦ now (list_any (λ k. k == s) live) refl
          (sym (list_any-append (λ k. k == s) live (id ∷ [])) ∙ was)
      | inr later ↦ inr (or_right (id == s) (list_any (λ k. k == s) (frozen_ids history)) later)
    ]
  where
    here : (x y : Bool) → (x || false) ≡ true → (x || y) ≡ true
    here true y h = refl
    here false y h = absurd (false≢true h)

    now : (b : Bool) → list_any (λ k. k == s) live ≡ b
        → (list_any (λ k. k == s) live || ((id == s) || false)) ≡ true
        → (list_any (λ k. k == s) live ≡ true)
        ⊎ ((id == s) || list_any (λ k. k == s) (frozen_ids history)) ≡ true
    now true at is = inl at
    now false at is = inr
        (here (id == s) (list_any (λ k. k == s) (frozen_ids history)) (rw at at is))
live_was_frozen s live (Merged id ∷ history) is =
    elim (live_was_frozen s (filter (λ k. not (k == id)) live) history is) [
      | inl was ↦ inl (any_kept (λ k. k == s) (λ k. not (k == id)) live was)
      | inr later ↦ inr later
    ]

-- the snapshot that a chain has is one of the ids
found_live : (s : ℕ) (xs : List Snapshot)
    → is_some (find (λ x. x.id == s) xs) ≡ list_any (λ id. id == s) (map (λ x. x.id) xs)
found_live s [] = refl
found_live s (x ∷ xs) = by (x.id == s) (found_live s xs)
  where
    by : (b : Bool) → is_some (find (λ y. y.id == s) xs)
        ≡ list_any (λ id. id == s) (map (λ y. y.id) xs)
        → is_some (cond b (Some x) (find (λ y. y.id == s) xs))
        ≡ (b || list_any (λ id. id == s) (map (λ y. y.id) xs))
    by true rest = refl
    by false rest = rest

pub live_at : (chain : ChainState) (history : List DiskEvent) (s : ℕ) → StandsFor chain history
    → is_some (snapshot_of s chain) ≡ is_live s history
live_at chain history s stands =
    found_live s chain.snapshots ∙ ap (list_any (λ id. id == s)) stands.live

-- an item of a list is in it
in_itself : (ids : List ℕ) (k d : ℕ) → k < length ids
    → list_any (λ id. id == get_or ids k d) ids ≡ true
in_itself [] k d less = absurd (omega (arith, less))
in_itself (id ∷ ids) zero d less = ap (λ x. x || list_any (λ j. j == id) ids) (eq-eqb id id refl)
in_itself (id ∷ ids) (suc k) d less =
    ap (λ x. (id == get_or ids k d) || x) (in_itself ids k d (omega (arith, less)))
    ∙ or-true (id == get_or ids k d)

in_all : (n s : ℕ) (ids : List ℕ) → All (λ id. id < n) ids → list_any (λ id. id == s) ids ≡ true
    → s < n
in_all n s [] all is = absurd (false≢true is)
in_all n s (id ∷ ids) all is = elim (cases_eq id s) [
  | inl same ↦ rw (← same) (all 0 0 (omega arith))
  | inr other ↦ in_all n s ids (λ k d less. all (suc k) d (omega (arith, less)))
      (rw (ne_eqb id s other) at is)
]

-- what was frozen before stays so
place_stays : (p : DiskEvent → Bool) (xs ys : List DiskEvent) → list_any p xs ≡ true
    → position_or_len p (xs ++ ys) ≡ position_or_len p xs
place_stays p [] ys some = absurd (false≢true some)
place_stays p (x ∷ xs) ys some = met p x xs ys (p x) refl (λ later. place_stays p xs ys later) some
  where
    met : (p : DiskEvent → Bool) (x : DiskEvent) (xs ys : List DiskEvent) (b : Bool) → p x ≡ b
        → (list_any p xs ≡ true → position_or_len p (xs ++ ys) ≡ position_or_len p xs)
        → list_any p (x ∷ xs) ≡ true
        → position_or_len p ((x ∷ xs) ++ ys) ≡ position_or_len p (x ∷ xs)
    met p x xs ys true is rest some = rw is refl
    met p x xs ys false is rest some = rw is (ap (λ (n : ℕ). 1 + n) (rest (rw is at some)))

pub before_stays : (s : ℕ) (xs ys : List DiskEvent) → list_any (freezes s) xs ≡ true
    → before_freeze s (xs ++ ys) ≡ before_freeze s xs
before_stays s xs ys some =
    ap (λ (n : ℕ). take n (xs ++ ys)) (place_stays (freezes s) xs ys some)
    ∙ take-append-le (position_or_len (freezes s) xs) xs ys (position_or_len-le (freezes s) xs)

pub before_new : (s : ℕ) (xs : List DiskEvent) → list_any (freezes s) xs ≡ false
    → before_freeze s (xs ++ Frozen s ∷ []) ≡ xs
before_new s [] none = rw (eq-eqb s s refl) refl
before_new s (x ∷ xs) none = passed (freezes s x) refl (before_new s xs) none
  where
    passed : (b : Bool) → freezes s x ≡ b
        → (list_any (freezes s) xs ≡ false → before_freeze s (xs ++ Frozen s ∷ []) ≡ xs)
        → (freezes s x || list_any (freezes s) xs) ≡ false
        → before_freeze s ((x ∷ xs) ++ Frozen s ∷ []) ≡ x ∷ xs
    passed true is rest none = absurd (false≢true (sym (rw is at none)))
    passed false is rest none =
        let next : ◌≡◌ {A = ℕ} (1 + position_or_len (freezes s) (xs ++ Frozen s ∷ []))
        (suc (position_or_len (freezes s) (xs ++ Frozen s ∷ []))) = omega arith in
        rw is (ap (λ (n : ℕ). take n (x ∷ (xs ++ Frozen s ∷ []))) next
        ∙ ap (λ (ys : List DiskEvent). x ∷ ys) (rest (rw is at none)))

-- ---- what a live snapshot froze stays

was_frozen : (chain : ChainState) (history : List DiskEvent) (s : ℕ) → StandsFor chain history
    → is_some (snapshot_of s chain) ≡ true → list_any (freezes s) history ≡ true
was_frozen chain history s stands some =
    elim (live_was_frozen s [] history (sym (live_at chain history s stands) ∙ some))
    [ inl was ↦ absurd (false≢true was) | inr before ↦ any_frozen s history ∙ before ]

stays_as : (c s : ℕ) (history more : List DiskEvent) (snapshot : Snapshot)
    → list_any (freezes s) history ≡ true → IsFrozenAs c s history snapshot
    → IsFrozenAs c s (history ++ more) snapshot
stays_as c s history more snapshot was is = record {
  contents = is.contents ∙ ap (present c) (sym (before_stays s history more was));
  blocks = is.blocks ∙ ap (λ (h : List DiskEvent). touched_blocks c (writes_in h))
      (sym (before_stays s history more was));
}

frozen_stays : (chain : ChainState) (history more : List DiskEvent) (s : ℕ)
    → StandsFor chain history
    → IfSome (snapshot_of s chain) (IsFrozenAs chain.capacity s (history ++ more))
frozen_stays chain history more s stands = by (snapshot_of s chain) refl (stands.frozen s)
  where
    by : (o : Option Snapshot) → snapshot_of s chain ≡ o
        → IfSome o (IsFrozenAs chain.capacity s history)
        → IfSome o (IsFrozenAs chain.capacity s (history ++ more))
    by None is was = tt
    by (Some snapshot) is was =
        stays_as chain.capacity s history more snapshot
        (was_frozen chain history s stands (ap is_some is)) was

-- no snapshot had an id that is free
unused_at : (chain : ChainState) (history : List DiskEvent) (s : ℕ) → StandsFor chain history
    → chain.free_from ≤ s → list_any (freezes s) history ≡ false
unused_at chain history s stands le =
    false_from_ne_true (list_any (freezes s) history)
    (λ is. let less : s < s = in_all s s (frozen_ids history) ((stands.free s).0 le)
    (sym (any_frozen s history) ∙ is) in omega (arith, less))

-- each live snapshot is below an id that is free
live_below : (chain : ChainState) (history : List DiskEvent) (id : ℕ) → StandsFor chain history
    → chain.free_from ≤ id → All (λ s. s < id) (live_snapshots history)
live_below chain history id stands le k d less =
    elim (live_was_frozen (get_or (live_snapshots history) k d) [] history
    (in_itself (live_snapshots history) k d less)) [
      | inl was ↦ absurd (false≢true was)
      | inr before ↦ in_all id (get_or (live_snapshots history) k d) (frozen_ids history)
          ((stands.free id).0 le) before
    ]

-- an event that freezes nothing leaves which ids were frozen
same_ids : (P : List ℕ → Type 0) (history : List DiskEvent) (event : DiskEvent)
    → frozen_ids (event ∷ []) ≡ [] → P (frozen_ids history) → P (frozen_ids (history ++ event ∷ []))
same_ids P history event none is =
    subst P (sym (frozen-append history (event ∷ [])
    ∙ ap (λ (ids : List ℕ). frozen_ids history ++ ids) none ∙ append-nil (frozen_ids history))) is

free_stays : (chain : ChainState) (history : List DiskEvent) (event : DiskEvent)
    → StandsFor chain history → frozen_ids (event ∷ []) ≡ [] → (id : ℕ)
    → (chain.free_from ≤ id) ↔ All (λ s. s < id) (frozen_ids (history ++ event ∷ []))
free_stays chain history event stands none id =
    same_ids (λ (ids : List ℕ). (chain.free_from ≤ id) ↔ All (λ s. s < id) ids) history event none
    (stands.free id)

-- ---- a write

pub stands_written : (w : Write) (old : ChainState) → Takes (Written w) old (after_writing w old)
stands_written w old history stands = record {
  present = ap (λ (disk : List Sector). after_write disk w) stands.present
      ∙ sym (ap (fold after_write (fresh_disk old.capacity))
      (writes-append history (Written w ∷ []))
      ∙ fold-append after_write (fresh_disk old.capacity) (writes_in history) (w ∷ []));
  blocks = ap (with_met old.capacity (range_of w)) stands.blocks
      ∙ touched_push old.capacity (writes_in history) w
      ∙ ap (touched_blocks old.capacity) (sym (writes-append history (Written w ∷ [])));
  ascending = same_ids (AllPairs (λ earlier later. earlier < later)) history (Written w) refl
      stands.ascending;
  distinct = subst (AllPairs (λ earlier later. earlier < later))
      (sym (fold-append live_after [] history (Written w ∷ []))) stands.distinct;
  live = stands.live ∙ sym (fold-append live_after [] history (Written w ∷ []));
  frozen = λ s. frozen_stays old history (Written w ∷ []) s stands;
  free = free_stays old history (Written w) stands refl;
}

-- ---- a freeze

unwritten : (history : List DiskEvent) (id : ℕ)
    → writes_in (history ++ Frozen id ∷ []) ≡ writes_in history
unwritten history id = writes-append history (Frozen id ∷ []) ∙ append-nil (writes_in history)

unmerged : (history : List DiskEvent) (id : ℕ)
    → writes_in (history ++ Merged id ∷ []) ≡ writes_in history
unmerged history id = writes-append history (Merged id ∷ []) ∙ append-nil (writes_in history)

module _ (id : ℕ) (old : ChainState) (history : List DiskEvent) (stands : StandsFor old history)
    (unused : old.free_from ≤ id) where
  now : Snapshot
  now = record { id = id; contents = old.present; blocks = old.blocks }

  found_now : (s : ℕ) → snapshot_of s (after_freezing id old)
      ≡ option_or (snapshot_of s old)
      (cond (eqb id s) (Some (record { id = id; contents = old.present; blocks = old.blocks }))
      None)
  found_now s = find-append (λ x. x.id == s) old.snapshots
      (record { id = id; contents = old.present; blocks = old.blocks } ∷ [])

  live_now : map (λ x. x.id) (after_freezing id old).snapshots
      ≡ live_snapshots (history ++ Frozen id ∷ [])
  live_now = map-append (λ x. x.id) old.snapshots
      (record { id = id; contents = old.present; blocks = old.blocks } ∷ [])
      ∙ ap (λ (ids : List ℕ). ids ++ id ∷ []) stands.live
      ∙ sym (fold-append live_after [] history (Frozen id ∷ []))

  froze_now : (s : ℕ) → IfSome (snapshot_of s (after_freezing id old))
      (IsFrozenAs old.capacity s (history ++ Frozen id ∷ []))
  froze_now s = rw (found_now s)
      (by (snapshot_of s old) refl (frozen_stays old history (Frozen id ∷ []) s stands)
      (cases_eq id s))
    where
      by : (o : Option Snapshot) → snapshot_of s old ≡ o
          → IfSome o (IsFrozenAs old.capacity s (history ++ Frozen id ∷ []))
          → (id ≡ s) ⊎ (id ≡ s → ⊥)
          → IfSome (option_or o
          (cond (eqb id s) (Some
          (record { id = id; contents = old.present; blocks = old.blocks })) None))
          (IsFrozenAs old.capacity s (history ++ Frozen id ∷ []))
      by (Some snapshot) is was case = was
      by None is was (inr other) = rw (ne_eqb id s other) tt
      by None is was (inl same) = rw (eq-eqb id s same)
          (let none : list_any (freezes s) history
          ≡ false = unused_at old history s stands (omega (arith, same, unused)) in
          let before : before_freeze s (history ++ Frozen id ∷ []) ≡ history =
          rw same (before_new s history none) in
          record {
            contents = stands.present ∙ ap (present old.capacity) (sym before);
            blocks = stands.blocks
                ∙ ap (λ (h : List DiskEvent). touched_blocks old.capacity (writes_in h))
                (sym before);
          })

  below_both : (n : ℕ) → id + 1 ≤ n → All (λ s. s < n) (frozen_ids history ++ id ∷ [])
  below_both n le = All-push (λ s. s < n) (frozen_ids history) id
      (λ k d less. let low : get_or (frozen_ids history) k d < id = (stands.free id).0 unused k d
      less in omega (arith, low, le)) (omega (arith, le))

  last_below : (n : ℕ) (ids : List ℕ) → All (λ s. s < n) (ids ++ id ∷ []) → id < n
  last_below n [] all = all 0 0 (omega arith)
  last_below n (j ∷ ids) all = last_below n ids (λ k d less. all (suc k) d (omega (arith, less)))

  pub stands_frozen : StandsFor (after_freezing id old) (history ++ Frozen id ∷ [])
  stands_frozen = record {
    present = stands.present ∙ ap (fold_writes old.capacity) (sym (unwritten history id));
    blocks = stands.blocks ∙ ap (touched_blocks old.capacity) (sym (unwritten history id));
    ascending = subst (AllPairs (λ earlier later. earlier < later))
        (sym (frozen-append history (Frozen id ∷ [])))
        (all_pairs_push (λ earlier later. earlier < later) (frozen_ids history) id stands.ascending
        ((stands.free id).0 unused));
    distinct = subst (AllPairs (λ earlier later. earlier < later))
        (sym (fold-append live_after [] history (Frozen id ∷ [])))
        (all_pairs_push (λ earlier later. earlier < later) (live_snapshots history) id
        stands.distinct (live_below old history id stands unused));
    live = live_now;
    frozen = froze_now;
    free = λ n. (
      (λ le. subst (λ (ids : List ℕ). All (λ s. s < n) ids)
          (sym (frozen-append history (Frozen id ∷ []))) (below_both n le)),
      (λ all. let less : id < n = last_below n (frozen_ids history)
          (subst (λ (ids : List ℕ). All (λ s. s < n) ids) (frozen-append history (Frozen id ∷ []))
          all) in omega (arith, less)),
    );
  }

-- ---- a merge

find-filter : (s id : ℕ) (xs : List Snapshot)
    → find (λ x. x.id == s) (filter (λ x. not (x.id == id)) xs)
    ≡ cond (eqb id s) None (find (λ x. x.id == s) xs)
find-filter s id [] =
    elim (cases_eq id s) [
      | inl same ↦ rw (eq-eqb id s same) refl
      | inr other ↦ rw
          (ne_eqb id s other) refl
    ]
find-filter s id (x ∷ xs) = elim (cases_eq x.id id) [
  | inl gone ↦ rw (eq-eqb x.id id gone) (find-filter s id xs ∙ (elim (cases_eq id s) [
    | inl same ↦ rw (eq-eqb id s same) refl
    | inr other ↦ rw (ne_eqb id s other, ne_eqb x.id s (λ e. other (sym gone ∙ e))) refl
  ]))
  | inr kept ↦ rw (ne_eqb x.id id kept) (elim (cases_eq x.id s) [
    | inl same ↦ rw (eq-eqb x.id s same, ne_eqb id s (λ e. kept (same ∙ sym e))) refl
    | inr other ↦ rw (ne_eqb x.id s other) (find-filter s id xs)
  ])
]

map-kept : (id : ℕ) (xs : List Snapshot)
    → map (λ x. x.id) (filter (λ x. not (x.id == id)) xs)
    ≡ filter (λ s. not (s == id)) (map (λ x. x.id) xs)
map-kept id [] = refl
map-kept id (x ∷ xs) = by (not (x.id == id)) (map-kept id xs)
  where
    by : (b : Bool) → map (λ y. y.id) (filter (λ y. not (y.id == id)) xs)
        ≡ filter (λ s. not (s == id)) (map (λ y. y.id) xs)
        → map (λ y. y.id) (cond b (x ∷ filter (λ y. not (y.id == id)) xs)
        (filter (λ y. not (y.id == id)) xs))
        ≡ cond b (x.id ∷ filter (λ s. not (s == id)) (map (λ y. y.id) xs))
        (filter (λ s. not (s == id)) (map (λ y. y.id) xs))
    by true rest = ap (λ (ids : List ℕ). x.id ∷ ids) rest
    by false rest = rest

pub stands_merged : (id : ℕ) (old : ChainState) → Takes (Merged id) old (after_merging id old)
stands_merged id old history stands = record {
  present = stands.present ∙ ap (fold_writes old.capacity) (sym (unmerged history id));
  blocks = stands.blocks ∙ ap (touched_blocks old.capacity) (sym (unmerged history id));
  ascending = same_ids (AllPairs (λ earlier later. earlier < later)) history (Merged id) refl
      stands.ascending;
  distinct = subst (AllPairs (λ earlier later. earlier < later))
      (sym (fold-append live_after [] history (Merged id ∷ [])))
      (AllPairs-filter (λ earlier later. earlier < later) (λ s. not (s == id))
      (live_snapshots history) stands.distinct);
  live = map-kept id old.snapshots ∙ ap (filter (λ s. not (s == id))) stands.live
      ∙ sym (fold-append live_after [] history (Merged id ∷ []));
  frozen = λ s. rw (find-filter s id old.snapshots)
      (kept s (cases_eq id s) (frozen_stays old history (Merged id ∷ []) s stands));
  free = free_stays old history (Merged id) stands refl;
}
  where
    kept : (s : ℕ) → (id ≡ s) ⊎ (id ≡ s → ⊥)
        → IfSome (snapshot_of s old) (IsFrozenAs old.capacity s (history ++ Merged id ∷ []))
        → IfSome (cond (eqb id s) None (snapshot_of s old))
        (IsFrozenAs old.capacity s (history ++ Merged id ∷ []))
    kept s (inl same) was = rw (eq-eqb id s same) tt
    kept s (inr other) was = rw (ne_eqb id s other) was

-- ---- a fresh chain

pub stands_fresh : (c : ℕ) → StandsFor (fresh c) []
stands_fresh c = record {
  present = refl;
  blocks = sym (none_pass (range_with_len 0 (block_count c)));
  ascending = λ i j d less within. absurd (omega (arith, within));
  distinct = λ i j d less within. absurd (omega (arith, within));
  live = refl;
  frozen = λ s. tt;
  free = λ id. ((λ le k d less. absurd (omega (arith, less))), (λ all. omega arith));
}
