-- What a merge leaves of the list of layers, and what a read that is refused answers.
use Rattle.std.proofs.Common.{◌≡◌, ℕ, zero, suc, ◌+◌, ◌<◌, ◌≤◌, List, [], ◌∷◌, length, set, get_or, Bool, true, false, cond, ◌&&◌, leb, nat_eq, Option, Some, None, Ok, Err, length-set, sym, ap, subst, refl, ◌∙◌, arith}
use Rattle.std.specs.List.{remove, position, AllByRecursion}
use Rattle.basics.specs.Refusal.{IsRefusedBy, IsRefusedOr}
use Rattle.sector_model.specs.declared.sector.Sector.{Sector}
use Rattle.snapshot_chain.specs.declared.chain.ChainRefused.TheVariants.{UnknownSnap, Range, NoMemory}
use Rattle.snapshot_chain.specs.Chain.{ChainState, after_merging, contents_of, read_refusal}
use Rattle.sector_model.specs.Run.{is_within}
use Rattle.snapshot_chain.specs.Fields.{state_of, IdsDiffer}
use Rattle.snapshot_chain.proofs.Keeping.{all-set, all-at, all-remove}
use Rattle.snapshot_chain.proofs.States.{merged_state}
use Rattle.std.proofs.lemmas.List.{get_or-set_same, get_or_default}
use Rattle.std.proofs.lemmas.List.Edits.{length-remove}
use Rattle.std.proofs.lemmas.Bool.{and_parts, leb-true, false≢true}
use Rattle.snapshot_chain.specs.Layer.{LayerState, IsWithin, IsMerged}
use Rattle.snapshot_chain.specs.Layers.{layer_at, MergedAt}

pub fits : (c first count : ℕ) → (leb 1 count && leb (first + count) c) ≡ true → first + count ≤ c
fits c first count is =
    leb-true (first + count) c (and_parts (leb 1 count) (leb (first + count) c) is).1

-- the layer behind the one that is taken out
behind : (xs : List LayerState) (i : ℕ) → layer_at (remove xs i) i ≡ layer_at xs (suc i)
behind [] zero = refl
behind [] (suc i) = refl
behind (x ∷ xs) zero = refl
behind (x ∷ xs) (suc i) = behind xs i

pub rest_long : (xs rest : List LayerState) (i : ℕ) → i + 1 < length xs → rest ≡ remove xs i
    → i < length rest
rest_long xs rest i less cut =
    omega (arith, less, ap length cut, length-remove xs i (omega (arith, less)))

pub upper_is : (xs rest : List LayerState) (i : ℕ) (upper : LayerState) → i + 1 < length xs
    → rest ≡ remove xs i → upper ≡ get_or rest i upper → upper ≡ layer_at xs (i + 1)
upper_is xs rest i upper less cut up =
    let long : i < length (remove xs i) =
    omega (arith, less, length-remove xs i (omega (arith, less))) in
    up ∙ ap (λ (ls : List LayerState). get_or ls i upper) cut
    ∙ get_or_default (remove xs i) i upper [] long ∙ behind xs i
    ∙ (let next : suc i ≡ i + 1 = omega arith in ap (layer_at xs) next)

pub lower_is : (xs : List LayerState) (i : ℕ) (lower : LayerState) → i + 1 < length xs
    → lower ≡ get_or xs i lower → lower ≡ layer_at xs i
lower_is xs i lower less low = low ∙ get_or_default xs i lower [] (omega (arith, less))

pub merged_at : (xs rest : List LayerState) (i : ℕ) (lower upper new : LayerState)
    → i + 1 < length xs → rest ≡ remove xs i → lower ≡ get_or xs i lower
    → upper ≡ get_or rest i upper
    → IsMerged lower upper new → ((c : ℕ) → IsWithin c lower → IsWithin c upper → IsWithin c new)
    → MergedAt i xs (set rest i new)
merged_at xs rest i lower upper new less cut low up merged within =
    let long : i < length (remove xs i) =
    omega (arith, less, length-remove xs i (omega (arith, less))) in
    let lower_same : lower ≡ layer_at xs i = lower_is xs i lower less low in
    let upper_same : upper ≡ layer_at xs (i + 1) = upper_is xs rest i upper less cut up in
    let all : set rest i new ≡ set (remove xs i) i new =
    ap (λ (ls : List LayerState). set ls i new) cut in
    let at : layer_at (set rest i new) i ≡ new =
    ap (λ (ls : List LayerState). layer_at ls i) all
    ∙ get_or-set_same (remove xs i) i new [] long in
    record {
      others = all ∙ ap (set (remove xs i) i) (sym at);
      merged = rw (at, ← lower_same, ← upper_same) merged;
      within = λ c low_within up_within. rw at
          (within c (rw (← lower_same) at low_within) (rw (← upper_same) at up_within));
    }

pub element : (xs : List LayerState) (n m : ℕ) (x : LayerState) → n ≡ m → m < length xs
    → x ≡ get_or xs n x → x ≡ layer_at xs m
element xs n m x same less is =
    is ∙ ap (λ (k : ℕ). get_or xs k x) same ∙ get_or_default xs m x [] less

-- ---- what a merge leaves

pub merged_long : (i : ℕ) (old new : List LayerState) → MergedAt i old new → i < length old
    → length new + 1 ≡ length old
merged_long i old new merged less =
    let cut : length new ≡ length (remove old i) =
    ap length merged.others ∙ length-set (remove old i) i (layer_at new i) in
    omega (arith, cut, length-remove old i less)

pub merged_within : (c i : ℕ) (old new : List LayerState) → MergedAt i old new → i + 1 < length old
    → AllByRecursion (IsWithin c) old → AllByRecursion (IsWithin c) new
merged_within c i old new merged less within =
    let made : AllByRecursion (IsWithin c) (set (remove old i) i (layer_at new i)) =
    all-set (IsWithin c) (remove old i) i (layer_at new i) (all-remove (IsWithin c) old i within)
    (merged.within c (all-at (IsWithin c) old i [] within (omega (arith, less)))
    (all-at (IsWithin c) old (i + 1) [] within less)) in
    let P : List LayerState → Type 0 = λ ls. AllByRecursion (IsWithin c) ls in
    subst P (sym merged.others) made

pub merged_holds : (c bound : ℕ) (ids : List ℕ) (free : ℕ) (freeze_room : Bool)
    (merge_room : Option ℕ) (id i : ℕ) (old new : List LayerState) → MergedAt i old new
    → length old ≡ length ids + 1 → IdsDiffer bound ids → position (nat_eq id) ids ≡ Some i
    → state_of c new (remove ids i) free freeze_room None
    ≡ after_merging id (state_of c old ids free freeze_room merge_room)
merged_holds c bound ids free freeze_room merge_room id i old new merged long are at =
    ap (λ (ls : List LayerState). state_of c ls (remove ids i) free freeze_room None) merged.others
    ∙ merged_state c bound old ids free freeze_room merge_room id i (layer_at new i) long are at
    merged.merged

-- ---- refusals

pub refuse_unknown : (T : Type 0) (live : Bool) → live ≡ false
    → IsRefusedOr {T = T} (cond live None (Some UnknownSnap)) NoMemory (Err UnknownSnap)
refuse_unknown T true is = absurd (false≢true (sym is))
refuse_unknown T false is = refl

pub read_unknown : (T : Type 0) (chain : ChainState) (id : Option ℕ) (first count : ℕ)
    → contents_of id chain ≡ None
    → IsRefusedBy {T = T} (read_refusal chain id first count) (Err UnknownSnap)
read_unknown T chain id first count none = rw none refl

pub read_outside : (T : Type 0) (chain : ChainState) (id : Option ℕ) (first count : ℕ)
    (contents : List Sector) → contents_of id chain ≡ Some contents
    → is_within chain.capacity first count ≡ false
    → IsRefusedBy {T = T} (read_refusal chain id first count) (Err Range)
read_outside T chain id first count contents some outside = rw (some, outside) refl

pub read_taken : {T : Type 0} (answer : T) (chain : ChainState) (id : Option ℕ) (first count : ℕ)
    (contents : List Sector) → contents_of id chain ≡ Some contents
    → is_within chain.capacity first count ≡ true
    → IsRefusedBy (read_refusal chain id first count) (Ok answer)
read_taken answer chain id first count contents some inside = rw (some, inside) refl
