-- What lists of layers hold when one of them changes.
use Rattle.std.proofs.Common.{◌≡◌, ℕ, zero, suc, ◌+◌, ◌/◌, ◌%◌, ◌<◌, ◌≤◌, List, [], ◌∷◌, ◌++◌, length, set, Bool, false, Option, Some, is_some, sym, ap, refl, ◌∙◌, arith, append_assoc, eqb, nat_eq, ◌==◌, not}
use Rattle.std.specs.Option.{option_or, unwrap_or}
use Rattle.std.proofs.lemmas.Bool.{eq-eqb, or_parts}
use Rattle.std.proofs.lemmas.Bool.Decides.{nat_tests}
use Rattle.std.proofs.lemmas.List.Elements.{filter_agree}
use Rattle.sector_model.proofs.Ranges.{map-range_same}
use Rattle.snapshot_chain.specs.Fields.{IdsDiffer}
use Rattle.std.specs.List.{list_any, range_with_len, filter, remove, slice_get}
use Rattle.sector_model.specs.Sector.{zero_sector}
use Rattle.sector_model.specs.Run.{block_count}
use Rattle.sector_model.specs.declared.sector.Sector.{Sector}
use Rattle.snapshot_chain.specs.Layer.{LayerState, sector_in, IsMerged}
use Rattle.snapshot_chain.specs.Chain.{Snapshot}
use Rattle.snapshot_chain.specs.Layers.{found, sector_found, contents_in, has_found, blocks_in, snapshot_in, snapshots_in, layer_at}
use Rattle.basics.proofs.Options.{or_none}
use Rattle.snapshot_chain.proofs.Options.{or_assoc}

-- both lists hold the same sectors
pub record HoldsSame (xs ys : List LayerState) : Type 0 where
  pub at : (block offset : ℕ) → offset < 128 → found ys block offset ≡ found xs block offset

pub found-append : (xs ys : List LayerState) (block offset : ℕ)
    → found (xs ++ ys) block offset ≡ option_or (found ys block offset) (found xs block offset)
found-append [] ys block offset = sym (or_none (found ys block offset))
found-append (x ∷ xs) ys block offset =
    ap (λ (o : Option Sector). option_or o (sector_in x block offset))
    (found-append xs ys block offset)
    ∙ or_assoc (found ys block offset) (found xs block offset) (sector_in x block offset)

pub holds_append : (xs ys zs : List LayerState) → HoldsSame xs ys → HoldsSame (xs ++ zs) (ys ++ zs)
holds_append xs ys zs same = record {
  at = λ block offset within.
      found-append ys zs block offset
      ∙ ap (option_or (found zs block offset)) (same.at block offset within)
      ∙ sym (found-append xs zs block offset);
}

pub any-same : (p q : ℕ → Bool) (a n : ℕ) → ((k : ℕ) → a ≤ k → k < a + n → p k ≡ q k)
    → list_any p (range_with_len a n) ≡ list_any q (range_with_len a n)
any-same p q a zero same = refl
any-same p q a (suc n) same =
    rw (
      same a (omega arith) (omega arith),
      any-same p q (a + 1) n
          (λ k from less. same k (omega (arith, from)) (omega (arith, less))),
    ) refl

pub contents-same : (c : ℕ) (xs ys : List LayerState) → HoldsSame xs ys
    → contents_in c ys ≡ contents_in c xs
contents-same c xs ys same =
    map-range_same (sector_found ys) (sector_found xs) 0 c
    (λ s _ _. ap (λ (o : Option Sector). unwrap_or o zero_sector)
    (same.at (s / 128) (s % 128) (omega arith)))

pub has-same : (xs ys : List LayerState) (block : ℕ) → HoldsSame xs ys
    → has_found ys block ≡ has_found xs block
has-same xs ys block same =
    any-same (λ offset. is_some (found ys block offset)) (λ offset. is_some (found xs block offset))
    0 128 (λ offset from less. ap is_some (same.at block offset (omega (arith, less))))

pub blocks-same : (c : ℕ) (xs ys : List LayerState) → HoldsSame xs ys
    → blocks_in c ys ≡ blocks_in c xs
blocks-same c xs ys same =
    filter_agree (has_found ys) (has_found xs) (λ b. has-same xs ys b same)
    (range_with_len 0 (block_count c))

snapshot-same : (c id : ℕ) (xs ys : List LayerState) → HoldsSame xs ys
    → snapshot_in c id ys ≡ snapshot_in c id xs
snapshot-same c id xs ys same = rw (contents-same c xs ys same, blocks-same c xs ys same) refl

pub snapshots-same : (c : ℕ) (xs ys : List LayerState) (ids : List ℕ) (layers : List LayerState)
    → HoldsSame xs ys → snapshots_in c ys ids layers ≡ snapshots_in c xs ids layers
snapshots-same c xs ys [] layers same = refl
snapshots-same c xs ys (id ∷ ids) [] same = refl
snapshots-same c xs ys (id ∷ ids) (l ∷ layers) same =
    rw (
      snapshot-same c id (xs ++ l ∷ []) (ys ++ l ∷ []) (holds_append xs ys (l ∷ []) same),
      snapshots-same c (xs ++ l ∷ []) (ys ++ l ∷ []) ids layers
          (holds_append xs ys (l ∷ []) same),
    ) refl

-- the newest layer is in no snapshot
pub snapshots-newest : (c : ℕ) (below : List LayerState) (ids : List ℕ) (layers : List LayerState)
    (layer : LayerState)
    → snapshots_in c below ids (set layers (length ids) layer) ≡ snapshots_in c below ids layers
snapshots-newest c below [] layers layer = refl
snapshots-newest c below (id ∷ ids) [] layer = refl
snapshots-newest c below (id ∷ ids) (l ∷ layers) layer =
    ap (λ (ss : List Snapshot). snapshot_in c id (below ++ l ∷ []) ∷ ss)
    (snapshots-newest c (below ++ l ∷ []) ids layers layer)

-- one snapshot more
pub snapshots-push : (c : ℕ) (below : List LayerState) (ids : List ℕ) (layers : List LayerState)
    (id : ℕ) (layer : LayerState) → length layers ≡ length ids + 1
    → snapshots_in c below (ids ++ id ∷ []) (layers ++ layer ∷ [])
    ≡ snapshots_in c below ids layers ++ snapshot_in c id (below ++ layers) ∷ []
snapshots-push c below [] [] id layer long = absurd (omega arith)
snapshots-push c below [] (l ∷ []) id layer long = refl
snapshots-push c below [] (l ∷ m ∷ layers) id layer long = absurd (omega (arith, long))
snapshots-push c below (i ∷ ids) [] id layer long = absurd (omega (arith, long))
snapshots-push c below (i ∷ ids) (l ∷ layers) id layer long =
    ap (λ (ss : List Snapshot). snapshot_in c i (below ++ l ∷ []) ∷ ss)
    (snapshots-push c (below ++ l ∷ []) ids layers id layer (omega (arith, long)))
    ∙ (let all : (below ++ l ∷ []) ++ layers ≡ below ++ l ∷ layers = append_assoc below (l ∷ [])
    layers in
    ap (λ (xs : List LayerState). snapshot_in c i (below ++ l ∷ []) ∷
    (snapshots_in c (below ++ l ∷ []) ids layers ++ snapshot_in c id xs ∷ [])) all)

two : {x y : Snapshot} {xs ys : List Snapshot} → x ≡ y → xs ≡ ys → x ∷ xs ≡ y ∷ ys
two e h = cc

eqb_sym : (a b : ℕ) → eqb a b ≡ eqb b a
eqb_sym a b = grind (arith, nat_tests)

not_among : (j id : ℕ) (ids : List ℕ) (i : ℕ) → list_any (nat_eq j) ids ≡ false
    → slice_get ids i ≡ Some id → eqb j id ≡ false
not_among j id [] i apart at = absurd (cc)
not_among j id (k ∷ ids) zero apart at = let same : k ≡ id = cc in
    rw (← same) ((or_parts (nat_eq j k) (list_any (nat_eq j) ids) apart).0)
not_among j id (k ∷ ids) (suc i) apart at =
    not_among j id ids i ((or_parts (nat_eq j k) (list_any (nat_eq j) ids) apart).1) at

-- two layers that became one
merged_pair : (below : List LayerState) (lower upper new : LayerState) → IsMerged lower upper new
    → HoldsSame ((below ++ lower ∷ []) ++ upper ∷ []) (below ++ new ∷ [])
merged_pair below lower upper new merged = record {
  at = λ block offset within.
      found-append below (new ∷ []) block offset
      ∙ ap (λ (o : Option Sector). option_or o (found below block offset))
      (merged block offset within)
      ∙ or_assoc (sector_in upper block offset) (sector_in lower block offset)
      (found below block offset)
      ∙ sym (found-append (below ++ lower ∷ []) (upper ∷ []) block offset
      ∙ ap (option_or (sector_in upper block offset))
      (found-append below (lower ∷ []) block offset));
}

pub holds-merged : (layers : List LayerState) (i : ℕ) (new : LayerState)
    → IsMerged (layer_at layers i) (layer_at layers (suc i)) new → suc i < length layers
    → HoldsSame layers (set (remove layers i) i new)
holds-merged [] i new merged less = absurd (omega (arith, less))
holds-merged (lower ∷ []) i new merged less = absurd (omega (arith, less))
holds-merged (lower ∷ up ∷ rest) zero new merged less = record {
  at = λ block offset within.
      ap (option_or (found rest block offset)) (merged block offset within)
      ∙ sym (or_assoc (found rest block offset) (sector_in up block offset)
      (sector_in lower block offset));
}
holds-merged (l ∷ m ∷ rest) (suc i) new merged less =
    let tail : HoldsSame (m ∷ rest) (set (remove (m ∷ rest) i) i new) =
    holds-merged (m ∷ rest) i new merged (omega (arith, less)) in
    record {
      at = λ block offset within. ap
          (λ (o : Option Sector). option_or o (sector_in l block offset))
          (tail.at block offset within);
    }

filter-apart : (c id : ℕ) (below : List LayerState) (ids : List ℕ) (layers : List LayerState)
    → list_any (nat_eq id) ids ≡ false
    → filter (λ s. not (s.id == id)) (snapshots_in c below ids layers)
    ≡ snapshots_in c below ids layers
filter-apart c id below [] layers apart = refl
filter-apart c id below (j ∷ ids) [] apart = refl
filter-apart c id below (j ∷ ids) (l ∷ layers) apart =
    rw (
      eqb_sym j id,
      (or_parts (nat_eq id j) (list_any (nat_eq id) ids) apart).0,
      filter-apart c id
          (below ++ l ∷ []) ids layers
          ((or_parts (nat_eq id j) (list_any (nat_eq id) ids) apart).1),
    )
    refl

head_merged : (c id : ℕ) (below : List LayerState) (ids : List ℕ) (lower up : LayerState)
    (rest : List LayerState) (new : LayerState) → list_any (nat_eq id) ids ≡ false
    → IsMerged lower up new
    → snapshots_in c below ids (new ∷ rest)
    ≡ filter (λ s. not (s.id == id)) (snapshots_in c (below ++ lower ∷ []) ids (up ∷ rest))
head_merged c id below [] lower up rest new apart merged = refl
head_merged c id below (k ∷ ids) lower up rest new apart merged =
    let both : HoldsSame ((below ++ lower ∷ []) ++ up ∷ []) (below ++ new ∷ []) =
    merged_pair below lower up new merged in
    two (snapshot-same c k ((below ++ lower ∷ []) ++ up ∷ []) (below ++ new ∷ []) both)
    (snapshots-same c ((below ++ lower ∷ []) ++ up ∷ []) (below ++ new ∷ []) ids rest both)
    ∙ sym (filter-apart c id (below ++ lower ∷ []) (k ∷ ids) (up ∷ rest) apart)

pub snapshots-merged : (c bound id : ℕ) (below : List LayerState) (ids : List ℕ)
    (layers : List LayerState) (i : ℕ) (new : LayerState) → slice_get ids i ≡ Some id
    → IdsDiffer bound ids
    → length layers ≡ length ids + 1 → IsMerged (layer_at layers i) (layer_at layers (suc i)) new
    → snapshots_in c below (remove ids i) (set (remove layers i) i new)
    ≡ filter (λ s. not (s.id == id)) (snapshots_in c below ids layers)
snapshots-merged c bound id below [] layers i new at are long merged = absurd (cc)
snapshots-merged c bound id below (j ∷ ids) [] i new at are long merged =
    absurd (omega (arith, long))
snapshots-merged c bound id below (j ∷ ids) (l ∷ []) i new at are long merged =
    absurd (omega (arith, long))
snapshots-merged c bound id below (j ∷ ids) (lower ∷ up ∷ rest) zero new at are long merged =
    let same : j ≡ id = cc in
    let apart : list_any (nat_eq id) ids ≡ false = rw same at are.1 in
    head_merged c id below ids lower up rest new apart merged ∙ sym (rw (eq-eqb j id same) refl)
snapshots-merged c bound id below (j ∷ ids) (l ∷ m ∷ rest) (suc i) new at are long merged =
    let other : eqb j id ≡ false = not_among j id ids i are.1 at in
    rw other (ap (λ (ss : List Snapshot). snapshot_in c j (below ++ l ∷ []) ∷ ss)
    (snapshots-merged c bound id (below ++ l ∷ []) ids (m ∷ rest) i new at are.2
    (omega (arith, long)) merged))
