-- The blocks of a layer, page by page.
use Rattle.std.proofs.Common.{◌≡◌, ℕ, zero, suc, ◌+◌, ◌*◌, ◌/◌, ◌<◌, IsSome, arith, length, take, get_or, List, [], ◌∷◌, ◌++◌, map, nat_cmp, nat_eq, eqb, Bool, true, false, cond, ◌||◌, ◌&&◌, is_some, Option, Some, None, Bor, sym, ap, ◌∙◌, refl, inl, inr, ◌⊎◌}
use Rattle.std.specs.List.{list_any, range_with_len, All, AllByRecursion}
use Rattle.std.specs.BTreeMap.{is_at}
use Rattle.std.specs.Map.Iter.{deref_pair}
use Rattle.std.proofs.Math.Bool.{or-false, and-false}
use Rattle.std.proofs.lemmas.Bool.{cases_eq, eq-eqb, ne_eqb, false≢true, or_right}
use Rattle.std.proofs.lemmas.List.Folds.{list_any-append}
use Rattle.snapshot_chain.specs.Page128.{PageState}
use Rattle.basics.proofs.ItemAt.{take-next_read}
use Rattle.std.specs.Option.{option_or}
use Rattle.sector_model.specs.declared.sector.Sector.{Sector}
use Rattle.snapshot_chain.specs.Layers.{found, has_found, blocks_in}
use Rattle.sector_model.specs.Run.{areas_of, in_blocks, block_count}
use Rattle.sector_model.proofs.Among.{at_is, among_range as in_range}
use Rattle.sector_model.proofs.RunsOf.{runs_of-same}
use Rattle.snapshot_chain.proofs.Keys.{same_block, at_key}
use Rattle.snapshot_chain.proofs.Touching.{any-or, either_found}
use Rattle.snapshot_chain.proofs.Stacks.{found-append}
use Rattle.snapshot_chain.specs.Layer.{LayerState, key_of, slot_of, sector_of, sector_in, has_sector, IsWithin}

abbrev pub Entry : Type 0
Entry = Bor ℕ × Bor PageState

abbrev pub among : LayerState → List Entry → ℕ → Bool
among layer seen b = list_any (λ e. nat_eq (key_of b) e.0.now && has_sector layer b) seen

pub block_passed : (layer : LayerState) (now was : Bool) (seen : List Entry) (e : Entry) (b : ℕ)
    → (key_of b ≡ e.0.now → has_sector layer b ≡ false) → now ≡ (was || among layer seen b)
    → now ≡ (was || among layer (seen ++ e ∷ []) b)
block_passed layer now was seen e b none before =
    before ∙ ap (λ x. was || x)
    (sym (list_any-append (λ x. nat_eq (key_of b) x.0.now && has_sector layer b) seen (e ∷ [])
    ∙ ap (λ x. among layer seen b || x) (or-false (nat_eq (key_of b) e.0.now && has_sector layer b)
    ∙ gone)
    ∙ or-false (among layer seen b)))
  where
    gone : (nat_eq (key_of b) e.0.now && has_sector layer b) ≡ false
    gone = elim (cases_eq (key_of b) e.0.now) [
      | inl same ↦ ap (λ x. nat_eq (key_of b) e.0.now && x) (none same)
          ∙ and-false (nat_eq (key_of b) e.0.now)
      | inr other ↦ ap (λ x. x && has_sector layer b) (ne_eqb (key_of b) e.0.now other)
    ]

pub block_added : (layer : LayerState) (now was new : Bool) (seen : List Entry) (e : Entry)
    (block b : ℕ) → key_of block ≡ e.0.now → has_sector layer block ≡ true
    → now ≡ (was || among layer seen b) → new ≡ cond (is_at (nat_cmp block) b) true now
    → new ≡ (was || among layer (seen ++ e ∷ []) b)
block_added layer now was new seen e block b is some before put =
    put ∙ ap (λ x. cond x true now) (at_is block b) ∙ by (cases_eq block b)
    ∙ sym (ap (λ x. was || x)
    (list_any-append (λ x. nat_eq (key_of b) x.0.now && has_sector layer b) seen (e ∷ [])
    ∙ ap (λ x. among layer seen b || x)
    (or-false (nat_eq (key_of b) e.0.now && has_sector layer b))))
  where
    late : (x y : Bool) → (x || (y || true)) ≡ true
    late true y = refl
    late false true = refl
    late false false = refl

    by : (block ≡ b) ⊎ (block ≡ b → ⊥)
        → cond (eqb block b) true now
        ≡ (was || (among layer seen b || (nat_eq (key_of b) e.0.now && has_sector layer b)))
    by (inl same) =
        ap (λ x. cond x true now) (eq-eqb block b same)
        ∙ sym (ap (λ x. was || (among layer seen b || (x && has_sector layer b)))
        (eq-eqb (key_of b) e.0.now (ap key_of (sym same) ∙ is))
        ∙ ap (λ x. was || (among layer seen b || x)) (ap (has_sector layer) (sym same) ∙ some)
        ∙ late was (among layer seen b))
    by (inr other) =
        ap (λ x. cond x true now) (ne_eqb block b other) ∙ before
        ∙ sym (ap (λ x. was || (among layer seen b || (x && has_sector layer b)))
        (ne_eqb (key_of b) e.0.now (λ q. other (sym (same_block b block (q ∙ sym is)))))
        ∙ ap (λ x. was || x) (or-false (among layer seen b)))

both : (h : Bool) (seen : List Entry) (key : ℕ)
    → list_any (λ e. nat_eq key e.0.now && h) seen
    ≡ (list_any (λ p. nat_eq key p.0) (map deref_pair seen) && h)
both h [] key = refl
both h (e ∷ seen) key = ap (λ x. (nat_eq key e.0.now && h) || x) (both h seen key)
    ∙ joined (nat_eq key e.0.now) (list_any (λ p. nat_eq key p.0) (map deref_pair seen)) h
  where
    joined : (x y h : Bool) → ((x && h) || (y && h)) ≡ ((x || y) && h)
    joined true true true = refl
    joined true true false = refl
    joined true false true = refl
    joined true false false = refl
    joined false y h = refl

keyed : (layer : LayerState) (key : ℕ)
    → list_any (λ p. nat_eq key p.0) layer ≡ is_some (at_key layer key)
keyed [] key = refl
keyed (p ∷ layer) key = by layer p key (eqb key p.0) refl (keyed layer key)
  where
    by : (layer : LayerState) (p : ℕ × PageState) (key : ℕ) (x : Bool) → eqb key p.0 ≡ x
        → list_any (λ q. nat_eq key q.0) layer ≡ is_some (at_key layer key)
        → (eqb key p.0 || list_any (λ q. nat_eq key q.0) layer)
        ≡ is_some (cond (is_at (nat_cmp key) p.0) (Some p.1) (at_key layer key))
    by layer p key true is rest = rw (at_is key p.0, is) refl
    by layer p key false is rest = rw (at_is key p.0, is) rest

held : (page : Option PageState)
    → (is_some page && list_any (λ k. is_some (sector_of page k)) (range_with_len 0 128))
    ≡ list_any (λ k. is_some (sector_of page k)) (range_with_len 0 128)
held None = refl
held (Some page) = refl

pub all_blocks : (layer : LayerState) (seen : List Entry) (b : ℕ) → map deref_pair seen ≡ layer
    → among layer seen b ≡ has_sector layer b
all_blocks layer seen b whole =
    both (has_sector layer b) seen (key_of b)
    ∙ ap (λ x. x && has_sector layer b)
    (ap (λ (l : LayerState). list_any (λ p. nat_eq (key_of b) p.0) l) whole
    ∙ keyed layer (key_of b))
    ∙ held (slot_of layer b)

-- one layer more
pub has_push : (layers : List LayerState) (layer : LayerState) (b : ℕ)
    → has_found (layers ++ layer ∷ []) b ≡ (has_found layers b || has_sector layer b)
has_push layers layer b =
    any-or (λ k. is_some (found layers b k)) (λ k. is_some (sector_in layer b k))
    (λ k. is_some (found (layers ++ layer ∷ []) b k)) (range_with_len 0 128)
    (λ k. ap is_some (found-append layers (layer ∷ []) b k)
    ∙ either_found (sector_in layer b k) (found layers b k))

pub has_more : (layers : List LayerState) (i : ℕ) (layer : LayerState) (b : ℕ) → i < length layers
    → layer ≡ get_or layers i layer
    → has_found (take (i + 1) layers) b ≡ (has_found (take i layers) b || has_sector layer b)
has_more layers i layer b less is =
    ap (λ (ls : List LayerState). has_found ls b) (take-next_read layers i layer less is)
    ∙ has_push (take i layers) layer b

-- a block that was found begins below the capacity
has_page : (page : Option PageState)
    → list_any (λ k. is_some (sector_of page k)) (range_with_len 0 128) ≡ true → IsSome page
has_page None is = absurd (false≢true is)
has_page (Some page) is = refl

pub found_within : (c : ℕ) (layers : List LayerState) (b : ℕ) → AllByRecursion (IsWithin c) layers
    → has_found layers b ≡ true → 128 * b < c
found_within c [] b within is = absurd (false≢true is)
found_within c (l ∷ layers) b within is =
    either (has_found layers b) (has_sector l b)
    (sym (any-or (λ k. is_some (found layers b k)) (λ k. is_some (sector_in l b k))
    (λ k. is_some (found (l ∷ layers) b k)) (range_with_len 0 128)
    (λ k. some (found layers b k) (sector_in l b k))) ∙ is)
    (λ early. found_within c layers b within.1 early)
    (λ here. within.0 b (has_page (slot_of l b) here))
  where
    some : (x y : Option Sector) → is_some (option_or x y) ≡ (is_some x || is_some y)
    some None y = refl
    some (Some x) y = refl

    either : {X : Type 0} (x y : Bool) → (x || y) ≡ true → (x ≡ true → X) → (y ≡ true → X) → X
    either true y h f g = f refl
    either false y h f g = g h

in_itself : (blocks : List ℕ) (k d : ℕ) → k < length blocks
    → list_any (nat_eq (get_or blocks k d)) blocks ≡ true
in_itself [] k d less = absurd (omega (arith, less))
in_itself (b ∷ blocks) zero d less = ap (λ x. x || list_any (nat_eq b) blocks) (eq-eqb b b refl)
in_itself (b ∷ blocks) (suc k) d less =
    ap (λ x. nat_eq (get_or blocks k d) b || x) (in_itself blocks k d (omega (arith, less)))
    ∙ or_right (nat_eq (get_or blocks k d) b) true refl

pub begin_below : (c : ℕ) (layers : List LayerState) (blocks : List ℕ)
    → AllByRecursion (IsWithin c) layers
    → ((b : ℕ) → list_any (nat_eq b) blocks ≡ has_found layers b) → All (λ b. 128 * b < c) blocks
begin_below c layers blocks within members =
    λ k d less. found_within c layers (get_or blocks k d) within (sym (members (get_or blocks k d))
    ∙ in_itself blocks k d less)

pub areas_same : (c : ℕ) (layers : List LayerState) (blocks : List ℕ)
    → ((b : ℕ) → list_any (nat_eq b) blocks ≡ has_found layers b)
    → areas_of c blocks ≡ areas_of c (blocks_in c layers)
areas_same c layers blocks members =
    runs_of-same (in_blocks blocks) (in_blocks (blocks_in c layers)) c
    (λ s less. members (s / 128)
    ∙ sym (in_range (has_found layers) (s / 128) (block_count c) (omega (arith, less))))
