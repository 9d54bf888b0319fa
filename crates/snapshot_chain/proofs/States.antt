-- What a chain holds after a call, in terms of what it held.
use Rattle.std.proofs.Common.{◌≡◌, ℕ, zero, suc, ◌+◌, ◌-◌, ◌*◌, ◌/◌, ◌%◌, ◌<◌, ◌≤◌, List, [], ◌∷◌, ◌++◌, length, take, drop, set, get_or, map, Bool, true, false, Option, Some, None, is_some, sym, ap, subst, refl, ◌∙◌, arith, inl, inr, ◌⊎◌, append_assoc, length-take, length-drop, cond, eqb, ltb, nat_eq, ◌==◌, ◌||◌}
use Rattle.std.specs.Option.{option_or, unwrap_or, option_map}
use Rattle.std.specs.List.{list_any, range_with_len, filter, remove, position, position_or_len, find, slice_get}
use Rattle.std.proofs.lemmas.Bool.{eq-eqb, cases_eq, cases_lt, ne_eqb, lt-ltb, le-ltb, false≢true}
use Rattle.std.proofs.lemmas.List.{take_all, ext_get_or, get_or-take, get_or-drop}
use Rattle.std.proofs.lemmas.List.FromFn.{length-map-range_with_len, get_or-map-range_with_len}
use Rattle.std.proofs.lemmas.Option.{slice_get_past, slice_get-get_or, get_or_from_slice_get, unwrap_or-slice_get}
use Rattle.basics.proofs.Replaced.{length-replaced, replaced-before, replaced-within, replaced-behind}
use Rattle.sector_model.proofs.Touched.{filter-range_same}
use Rattle.snapshot_chain.proofs.Writes.{run_before, run_from}
use Rattle.sector_model.proofs.Ranges.{map-range_same, map-range_alike}
use Rattle.sector_model.proofs.Among.{among_range}
use Rattle.snapshot_chain.proofs.Touching.{has_more}
use Rattle.sector_model.specs.Sector.{zero_sector}
use Rattle.sector_model.specs.Run.{block_count, range_of, touches, with_met}
use Rattle.basics.specs.Replaced.{replaced}
use Rattle.sector_model.specs.declared.sector.Sector.{Sector}
use Rattle.snapshot_chain.specs.Page128.{run_at}
use Rattle.snapshot_chain.specs.Layer.{LayerState, sector_in, HasSame, IsWritten, IsMerged}
use Rattle.snapshot_chain.specs.Chain.{contents_of, after_writing, after_freezing, after_merging, fresh}
use Rattle.snapshot_chain.specs.Layers.{found, sector_found, contents_in, has_found, blocks_in, snapshot_in, snapshots_in, layer_at}
use Rattle.snapshot_chain.specs.Fields.{state_of, IdsDiffer}
use Rattle.snapshot_chain.specs.Reading.{layers_seen}
use Rattle.snapshot_chain.proofs.Options.{or_assoc}
use Rattle.snapshot_chain.proofs.Stacks.{HoldsSame, found-append, any-same, contents-same, blocks-same, snapshots-newest, snapshots-push, snapshots-merged, holds-merged}

-- ---- where an id stands

first_place : {X : Type 0} (p : X → Bool) (x : X) (xs : List X) (b : Bool) → p x ≡ b
    → position p (x ∷ xs) ≡ cond b (Some 0) (option_map (λ i. i + 1) (position p xs))
first_place p x xs true passes = rw (passes, lt-ltb 0 (suc (length xs)) (omega arith)) refl
first_place p x xs false fails = rw fails (shifted (position_or_len p xs) (length xs))
  where
    shifted : (n m : ℕ) → cond (ltb (1 + n) (suc m)) (Some (1 + n)) None
        ≡ option_map (λ i. i + 1) (cond (ltb n m) (Some n) None)
    shifted n m = elim (cases_lt n m) [
      | inl less ↦ rw (lt-ltb n m less, lt-ltb (1 + n) (suc m) (omega (arith, less)))
          (let e : 1 + n ≡ n + 1 = omega arith in ap (λ (k : ℕ). Some k) e)
      | inr le ↦ rw (le-ltb n m le, le-ltb (1 + n) (suc m) (omega (arith, le))) refl
    ]

pub position-cons : {X : Type 0} (p : X → Bool) (x : X) (xs : List X)
    → position p (x ∷ xs) ≡ cond (p x) (Some 0) (option_map (λ i. i + 1) (position p xs))
position-cons p x xs = first_place p x xs (p x) refl

pub find-in : (c id : ℕ) (below : List LayerState) (ids : List ℕ) (layers : List LayerState)
    → length layers ≡ length ids + 1
    → find (λ s. s.id == id) (snapshots_in c below ids layers)
    ≡ option_map (λ i. snapshot_in c id (below ++ take (i + 1) layers))
    (position (nat_eq id) ids)
find-in c id below [] layers long = refl
find-in c id below (j ∷ ids) [] long = absurd (omega (arith, long))
find-in c id below (j ∷ ids) (l ∷ layers) long = rw position-cons (elim (cases_eq j id) [
  | inl same ↦ rw (eq-eqb j id same, eq-eqb id j (sym same), same) refl
  | inr other ↦
      rw (ne_eqb j id other, ne_eqb id j (λ e. other (sym e)))
      (find-in c id (below ++ l ∷ []) ids layers (omega (arith, long))
      ∙ shifted (position (nat_eq id) ids))
])
  where
    shifted : (o : Option ℕ)
        → option_map (λ i. snapshot_in c id ((below ++ l ∷ []) ++ take (i + 1) layers)) o
        ≡ option_map (λ i. snapshot_in c id (below ++ take (i + 1) (l ∷ layers)))
        (option_map (λ i. i + 1) o)
    shifted None = refl
    shifted (Some i) =
        let more : take (i + 1 + 1) (l ∷ layers) ≡ l ∷ take (i + 1) layers =
        let e : i + 1 + 1 ≡ suc (i + 1) = omega arith in
        ap (λ (n : ℕ). take n (l ∷ layers)) e in
        let same : (below ++ l ∷ []) ++ take (i + 1) layers
        ≡ below ++ take (i + 1 + 1) (l ∷ layers) =
        append_assoc below (l ∷ []) (take (i + 1) layers)
        ∙ ap (λ (xs : List LayerState). below ++ xs) (sym more) in
        ap (λ (xs : List LayerState). Some (snapshot_in c id xs)) same

placed : (id j : ℕ) (ids : List ℕ) (i : ℕ) (o : Option ℕ) → position (nat_eq id) ids ≡ o
    → ((k : ℕ) → position (nat_eq id) ids ≡ Some k → (slice_get ids k ≡ Some id) × (k < length ids))
    → (id ≡ j) ⊎ (id ≡ j → ⊥)
    → cond (eqb id j) (Some 0) (option_map (λ k. k + 1) (position (nat_eq id) ids)) ≡ Some i
    → (slice_get (j ∷ ids) i ≡ Some id) × (i < suc (length ids))
placed id j ids i o was rest (inl same) is =
    let first : 0 ≡ i = (let e : ◌≡◌ {A = Option ℕ} (Some 0) (Some i) = rw (eq-eqb id j same) at is
    in cc) in
    rw (← first) (ap (λ (k : ℕ). Some k) (sym same), omega arith)
placed id j ids i None was rest (inr other) is = let e : ◌≡◌ {A = Option ℕ} None (Some i) =
    rw (ne_eqb id j other, was) at is in absurd (cc)
placed id j ids i (Some k) was rest (inr other) is =
    let e : ◌≡◌ {A = Option ℕ} (Some (k + 1)) (Some i) = rw (ne_eqb id j other, was) at is in
    let at : suc k ≡ i = (let n : k + 1 ≡ i = cc in omega (arith, n)) in
    rw (← at) ((rest k was).0, omega (arith, (rest k was).1))

pub at_position : (id : ℕ) (ids : List ℕ) (i : ℕ) → position (nat_eq id) ids ≡ Some i
    → (slice_get ids i ≡ Some id) × (i < length ids)
at_position id [] i at = absurd (cc)
at_position id (j ∷ ids) i at =
    placed id j ids i (position (nat_eq id) ids) refl (λ k was. at_position id ids k was)
    (cases_eq id j) (sym (position-cons (nat_eq id) j ids) ∙ at)

-- ---- a freeze

opened : (layers : List LayerState) → HoldsSame layers (layers ++ [] ∷ [])
opened layers = record { at = λ block offset within. found-append layers ([] ∷ []) block offset }

pub frozen_state : (c : ℕ) (layers : List LayerState) (ids : List ℕ) (free : ℕ) (freeze_room : Bool)
    (merge_room : Option ℕ) (id : ℕ) → length layers ≡ length ids + 1
    → state_of c (layers ++ [] ∷ []) (ids ++ id ∷ []) (id + 1) false None
    ≡ after_freezing id (state_of c layers ids free freeze_room merge_room)
frozen_state c layers ids free freeze_room merge_room id long =
    rw (
      contents-same c layers (layers ++ [] ∷ []) (opened layers),
      blocks-same c layers
          (layers ++ [] ∷ []) (opened layers),
      snapshots-push c [] ids layers id [] long,
    ) refl

-- ---- a reserve and a merge

pub merged_state : (c bound : ℕ) (layers : List LayerState) (ids : List ℕ) (free : ℕ)
    (freeze_room : Bool) (merge_room : Option ℕ) (id i : ℕ) (new : LayerState)
    → length layers ≡ length ids + 1 → IdsDiffer bound ids → position (nat_eq id) ids ≡ Some i
    → IsMerged (layer_at layers i) (layer_at layers (i + 1)) new
    → state_of c (set (remove layers i) i new) (remove ids i) free freeze_room None
    ≡ after_merging id (state_of c layers ids free freeze_room merge_room)
merged_state c bound layers ids free freeze_room merge_room id i new long are at merged =
    let next : i + 1 ≡ suc i = omega arith in
    let here : (slice_get ids i ≡ Some id) × (i < length ids) = at_position id ids i at in
    let one : IsMerged (layer_at layers i) (layer_at layers (suc i)) new =
    (let P : ℕ → Type 0 = λ n. IsMerged (layer_at layers i) (layer_at layers n) new in
    subst P next merged) in
    let same : HoldsSame layers (set (remove layers i) i new) =
    holds-merged layers i new one (omega (arith, long, here.1)) in
    rw (
      contents-same c layers (set (remove layers i) i new) same,
      blocks-same c layers
          (set (remove layers i) i new) same,
      snapshots-merged c bound id [] ids layers i new here.0
          are long one,
    ) refl

-- ---- a write

raised-newest : (layers : List LayerState) (n first : ℕ) (sectors : List Sector) (new : LayerState)
    → length layers ≡ n + 1 → IsWritten (layer_at layers n) new first sectors
    → (block offset : ℕ) → offset < 128
    → found (set layers n new) block offset
    ≡ option_or (run_at first sectors (128 * block + offset)) (found layers block offset)
raised-newest [] n first sectors new long written block offset within = absurd (omega (arith, long))
raised-newest (l ∷ []) zero first sectors new long written block offset within =
    written block offset within
raised-newest (l ∷ m ∷ layers) zero first sectors new long written block offset within =
    absurd (omega (arith, long))
raised-newest (l ∷ layers) (suc n) first sectors new long written block offset within =
    ap (λ (o : Option Sector). option_or o (sector_in l block offset))
    (raised-newest layers n first sectors new (omega (arith, long)) written block offset within)
    ∙ or_assoc (run_at first sectors (128 * block + offset)) (found layers block offset)
    (sector_in l block offset)

-- a made list in which a run is replaced
replaced-made : (f : ℕ → Sector) (first : ℕ) (ys : List Sector) (c : ℕ) → first + length ys ≤ c
    → replaced (map f (range_with_len 0 c)) first ys
    ≡ map (λ s. unwrap_or (run_at first ys s) (f s)) (range_with_len 0 c)
replaced-made f first ys c fits =
    let old : List Sector = map f (range_with_len 0 c) in
    let new : List Sector = map (λ s. unwrap_or (run_at first ys s) (f s)) (range_with_len 0 c) in
    let within : first + length ys ≤ length old =
    omega (arith, fits, length-map-range_with_len f 0 c) in
    let long : length (replaced old first ys) ≡ c =
    length-replaced old ys first within ∙ length-map-range_with_len f 0 c in
    ext_get_or zero_sector (replaced old first ys) new
    (long ∙ sym (length-map-range_with_len (λ s. unwrap_or (run_at first ys s) (f s)) 0 c))
    (λ s less. sym (unwrap_or-slice_get (replaced old first ys) s zero_sector)
    ∙ ap (λ (o : Option Sector). unwrap_or o zero_sector) (at s (omega (arith, less, long)))
    ∙ sym (get_or-map-range_with_len (λ k. unwrap_or (run_at first ys k) (f k)) 0 c s s zero_sector
    (omega (arith, less, long)) (omega arith)))
  where
    made : (s : ℕ) → s < c → slice_get (map f (range_with_len 0 c)) s ≡ Some (f s)
    made s less =
        slice_get-get_or (map f (range_with_len 0 c)) s zero_sector
        (omega (arith, less, length-map-range_with_len f 0 c))
        ∙ ap (λ (x : Sector). Some x)
        (get_or-map-range_with_len f 0 c s s zero_sector less (omega arith))

    inside : (o : Option Sector) (d : Sector) → is_some o ≡ true → o ≡ Some (unwrap_or o d)
    inside None d some = absurd (false≢true some)
    inside (Some x) d some = refl

    at : (s : ℕ) → s < c → slice_get (replaced (map f (range_with_len 0 c)) first ys) s
        ≡ Some (unwrap_or (run_at first ys s) (f s))
    at s less =
        let within : first + length ys ≤ length (map f (range_with_len 0 c)) =
        omega (arith, fits, length-map-range_with_len f 0 c) in
        elim (cases_lt s first) [
          | inl before ↦ replaced-before (map f (range_with_len 0 c)) ys first
              (omega (arith, within)) s before ∙ made s less
              ∙ sym (ap (λ (o : Option Sector). Some (unwrap_or o (f s)))
              (run_before first ys s before))
          | inr from ↦ elim (cases_lt s (first + length ys)) [
            | inl mid ↦
                let there : slice_get ys (s - first) ≡ Some (get_or ys (s - first) (f s)) =
                slice_get-get_or ys (s - first) (f s) (omega (arith, from, mid)) in
                replaced-within (map f (range_with_len 0 c)) ys first (omega (arith, within)) s from
                mid ∙ there
                ∙ sym (ap (λ (o : Option Sector). Some (unwrap_or o (f s)))
                (run_from first ys s from ∙ there))
            | inr past ↦
                replaced-behind (map f (range_with_len 0 c)) ys first (omega (arith, within)) s past
                ∙ made s less
                ∙ sym (ap (λ (o : Option Sector). Some (unwrap_or o (f s)))
                (run_from first ys s from
                ∙ slice_get_past ys (s - first) (omega (arith, past))))
          ]
        ]

pub written_state : (c : ℕ) (layers : List LayerState) (ids : List ℕ) (free : ℕ)
    (freeze_room : Bool) (merge_room : Option ℕ) (first : ℕ) (sectors : List Sector)
    (new : LayerState)
    → length layers ≡ length ids + 1 → first + length sectors ≤ c
    → IsWritten (layer_at layers (length ids)) new first sectors
    → state_of c (set layers (length ids) new) ids free freeze_room None
    ≡ after_writing (record { first = first; sectors = sectors })
    (state_of c layers ids free freeze_room merge_room)
written_state c layers ids free freeze_room merge_room first sectors new long fits written =
    rw (contents, blocks, snapshots-newest c [] ids layers new) refl
  where
    more : (block offset : ℕ) → offset < 128
        → found (set layers (length ids) new) block offset
        ≡ option_or (run_at first sectors (128 * block + offset)) (found layers block offset)
    more = raised-newest layers (length ids) first sectors new long written

    each : (s : ℕ) → sector_found (set layers (length ids) new) s
        ≡ unwrap_or (run_at first sectors s) (sector_found layers s)
    each s =
        let at : 128 * (s / 128) + s % 128 ≡ s = omega arith in
        ap (λ (o : Option Sector). unwrap_or o zero_sector) (more (s / 128) (s % 128) (omega arith)
        ∙ ap (λ (n : ℕ). option_or (run_at first sectors n) (found layers (s / 128) (s % 128)))
        at)
        ∙ either (run_at first sectors s) (found layers (s / 128) (s % 128))
      where
        either : (a b : Option Sector)
            → unwrap_or (option_or a b) zero_sector ≡ unwrap_or a (unwrap_or b zero_sector)
        either None b = refl
        either (Some x) b = refl

    contents : contents_in c (set layers (length ids) new)
        ≡ replaced (contents_in c layers) first sectors
    contents = map-range_same (sector_found (set layers (length ids) new))
        (λ s. unwrap_or (run_at first sectors s) (sector_found layers s)) 0 c (λ s _ _. each s)
        ∙ sym (replaced-made (sector_found layers) first sectors c fits)

    blocks : blocks_in c (set layers (length ids) new)
        ≡ with_met c (range_of (record { first = first; sectors = sectors })) (blocks_in c layers)
    blocks = filter-range_same (has_found (set layers (length ids) new))
        (λ b. list_any (nat_eq b) (blocks_in c layers) || touches b
        (record { first = first; sectors = sectors })) 0 (block_count c)
        (λ b from less. any-same (λ offset. is_some (found (set layers (length ids) new) b offset))
        (λ offset. is_some (option_or (run_at first sectors (128 * b + offset))
        (found layers b offset))) 0 128
        (λ offset low within. ap is_some (more b offset (omega (arith, within))))
        ∙ has_more first sectors b (found layers b)
        ∙ ap (λ x. x || touches b (record { first = first; sectors = sectors }))
        (sym (among_range (has_found layers) b (block_count c) (omega (arith, less)))))

-- a write that was refused for want of memory
same-newest : (layers : List LayerState) (n : ℕ) (new : LayerState) → length layers ≡ n + 1
    → HasSame (layer_at layers n) new → HoldsSame layers (set layers n new)
same-newest [] n new long same = absurd (omega (arith, long))
same-newest (l ∷ []) zero new long same =
    record { at = λ block offset within. same block offset within }
same-newest (l ∷ m ∷ layers) zero new long same = absurd (omega (arith, long))
same-newest (l ∷ layers) (suc n) new long same =
    let tail : HoldsSame layers (set layers n new) =
    same-newest layers n new (omega (arith, long)) same in
    record {
      at = λ block offset within. ap
          (λ (o : Option Sector). option_or o (sector_in l block offset))
          (tail.at block offset within);
    }

pub unwritten_state : (c : ℕ) (layers : List LayerState) (ids : List ℕ) (free : ℕ)
    (freeze_room : Bool) (merge_room : Option ℕ) (new : LayerState)
    → length layers ≡ length ids + 1 → HasSame (layer_at layers (length ids)) new
    → state_of c (set layers (length ids) new) ids free freeze_room merge_room
    ≡ state_of c layers ids free freeze_room merge_room
unwritten_state c layers ids free freeze_room merge_room new long same =
    let held : HoldsSame layers (set layers (length ids) new) =
    same-newest layers (length ids) new long same in
    rw (
      contents-same c layers (set layers (length ids) new) held,
      blocks-same c layers
          (set layers (length ids) new) held,
      snapshots-newest c [] ids layers new,
    ) refl

-- ---- what is read

-- a part of a made list, sector for sector
pub read_part : (f : ℕ → Sector) (c first : ℕ) (buf old : List Sector) → length buf ≡ length old
    → first + length old ≤ c → ((k : ℕ) → k < length old → slice_get buf k ≡ Some (f (first + k)))
    → buf ≡ take (first + length old - first) (drop first (map f (range_with_len 0 c)))
read_part f c first buf old same fits each =
    let n : ℕ = first + length old - first in
    let made : List Sector = map f (range_with_len 0 c) in
    let long : length (take n (drop first made)) ≡ length buf =
    omega (
      arith,
      same,
      fits,
      length-take n (drop first made),
      length-drop first made,
      length-map-range_with_len f 0 c,
    ) in
    ext_get_or zero_sector buf (take n (drop first made)) (sym long)
    (λ k less. get_or_from_slice_get buf k (f (first + k)) zero_sector
    (each k (omega (arith, less, same)))
    ∙ sym (get_or-take n (drop first made) k zero_sector (omega (arith, less, same))
    ∙ get_or-drop first made k zero_sector
    ∙ get_or-map-range_with_len f 0 c (first + k) (first + k) zero_sector
    (omega (arith, less, fits, same)) (omega arith)))

pub live_in : (c id : ℕ) (ids : List ℕ) (layers : List LayerState) → length layers ≡ length ids + 1
    → is_some (find (λ s. s.id == id) (snapshots_in c [] ids layers))
    ≡ is_some (position (nat_eq id) ids)
live_in c id ids layers long =
    ap is_some (find-in c id [] ids layers long) ∙ kept (position (nat_eq id) ids)
  where
    kept : (o : Option ℕ)
        → is_some (option_map (λ i. snapshot_in c id ([] ++ take (i + 1) layers)) o) ≡ is_some o
    kept None = refl
    kept (Some i) = refl

no_blocks : (xs : List ℕ) → filter (λ b. list_any (λ offset. false) (range_with_len 0 128)) xs ≡ []
no_blocks [] = refl
no_blocks (x ∷ xs) = no_blocks xs

pub fresh_state : (c : ℕ) → state_of c ([] ∷ []) [] 0 false None ≡ fresh c
fresh_state c =
    rw (
      map-range_alike (λ s. zero_sector) zero_sector 0 c (λ k. refl),
      no_blocks (range_with_len 0 (block_count c)),
    ) refl

-- what a snapshot sees, or what all layers hold
pub contents_seen : (c : ℕ) (layers : List LayerState) (ids : List ℕ) (free : ℕ)
    (freeze_room : Bool) (merge_room : Option ℕ) (id : Option ℕ) → length layers ≡ length ids + 1
    → contents_of id (state_of c layers ids free freeze_room merge_room)
    ≡ option_map (λ n. contents_in c (take n layers)) (layers_seen id ids)
contents_seen c layers ids free freeze_room merge_room None long =
    ap (λ (ls : List LayerState). Some (contents_in c ls))
    (sym (take_all (length ids + 1) layers (omega (arith, long))))
contents_seen c layers ids free freeze_room merge_room (Some id) long =
    ap (option_map (λ s. s.contents)) (find-in c id [] ids layers long)
    ∙ read (position (nat_eq id) ids)
  where
    read : (o : Option ℕ)
        → option_map (λ s. s.contents)
        (option_map (λ i. snapshot_in c id ([] ++ take (i + 1) layers)) o)
        ≡ option_map (λ n. contents_in c (take n layers)) (option_map (λ i. i + 1) o)
    read None = refl
    read (Some i) = refl

pub seen_few : (id : Option ℕ) (ids : List ℕ) (n : ℕ) → layers_seen id ids ≡ Some n
    → n ≤ length ids + 1
seen_few None ids n is = let e : length ids + 1 ≡ n = cc in omega (arith, e)
seen_few (Some id) ids n is = by (position (nat_eq id) ids) refl is
  where
    by : (o : Option ℕ) → position (nat_eq id) ids ≡ o → option_map (λ i. i + 1) o ≡ Some n
        → n ≤ length ids + 1
    by None was is = absurd (cc)
    by (Some i) was is = let e : i + 1 ≡ n = cc in omega (arith, e, (at_position id ids i was).1)

pub snapshots_long : (c : ℕ) (below : List LayerState) (ids : List ℕ) (layers : List LayerState)
    → length layers ≡ length ids + 1 → length (snapshots_in c below ids layers) ≡ length ids
snapshots_long c below [] layers long = refl
snapshots_long c below (id ∷ ids) [] long = absurd (omega (arith, long))
snapshots_long c below (id ∷ ids) (l ∷ layers) long =
    ap suc (snapshots_long c (below ++ l ∷ []) ids layers (omega (arith, long)))

pub snapshot_seen : (c id : ℕ) (layers : List LayerState) (ids : List ℕ) (i : ℕ)
    → length layers ≡ length ids + 1 → position (nat_eq id) ids ≡ Some i
    → find (λ s. s.id == id) (snapshots_in c [] ids layers)
    ≡ Some (snapshot_in c id (take (i + 1) layers))
snapshot_seen c id layers ids i long at =
    find-in c id [] ids layers long
    ∙ ap (option_map (λ k. snapshot_in c id (take (k + 1) layers))) at
