-- The blocks that entries touch, one entry after another, and their areas.
use Rattle.std.proofs.Common.{◌≡◌, ℕ, ◌+◌, ◌*◌, ◌/◌, ◌<◌, ◌≤◌, min, max, List, [], ◌∷◌, ◌++◌, length, take, get_or, Bool, true, false, ◌||◌, ◌&&◌, ltb, leb, nat_cmp, Option, Some, None, sym, ap, refl, ◌∙◌, arith}
use Rattle.std.specs.List.{list_any, cons_option, All}
use Rattle.std.specs.Int.{div_ceil}
use Rattle.std.specs.Option.{option_map_or}
use Rattle.std.specs.BTreeSet.{BTreeSet, contains}
use Rattle.std.proofs.Math.Bool.{or-false, and-true}
use Rattle.std.proofs.lemmas.Bool.{and_parts, and_from, ltb-true, lt-ltb, leb-true, le-leb}
use Rattle.std.proofs.lemmas.List.Elements.{All-weaker}
use Rattle.std.proofs.lemmas.List.Folds.{list_any-append}
use Rattle.std.proofs.lemmas.Map.Views.{All-set_contains}
use Rattle.std.specs.Cmp.{nat_cmp_total}
use Rattle.basics.proofs.Truth.{and_or}
use Rattle.basics.proofs.ItemAt.{take-next_read}
use Rattle.sector_model.specs.Disk.{Write as Replacement}
use Rattle.sector_model.specs.declared.run.TheConstants.{BLOCK_SECTORS}
use Rattle.sector_model.specs.Run.{block_count, meets, touches, touched_blocks, in_blocks, areas_of}
use Rattle.sector_model.proofs.Touched.{in_touched, any_below}
use Rattle.sector_model.proofs.RunsOf.{runs_of-same}
use Rattle.sector_model.proofs.Among.{in_set}
use Rattle.log_model.specs.declared.entry.Entry.{Entry}
use Rattle.log_model.specs.Entry.{write_to, writes_of}
use Rattle.log_model.proofs.TouchedLaws.{writes-append}

-- ---- the blocks that a run meets

same_when : (x y : Bool) → (x ≡ true → y ≡ true) → (y ≡ true → x ≡ true) → x ≡ y
same_when true y f g = sym (f refl)
same_when false true f g = g refl
same_when false false f g = refl

pub met_between : (c first count block low end : ℕ) → 0 < count → low ≡ first / BLOCK_SECTORS
    → end ≡ min c (first + count)
    → (leb low block && ltb block (div_ceil end BLOCK_SECTORS))
    ≡ (ltb block (block_count c) && meets block first count)
met_between c first count block low end some low_is end_is = same_when _ _
    (λ h.
    let parts = and_parts (leb low block) (ltb block (div_ceil end BLOCK_SECTORS)) h in
    let from : low ≤ block = leb-true low block parts.0 in
    let below : block < div_ceil end BLOCK_SECTORS =
    ltb-true block (div_ceil end BLOCK_SECTORS) parts.1 in
    let ends : BLOCK_SECTORS * block < end = omega (arith, below) in
    let known : block < block_count c = omega (arith, ends, end_is) in
    let met : max (BLOCK_SECTORS * block) first < min (BLOCK_SECTORS * block + BLOCK_SECTORS)
    (first + count) = omega (arith, ends, end_is, from, low_is, some) in
    and_from (ltb block (block_count c)) (meets block first count)
    (lt-ltb block (block_count c) known)
    (lt-ltb (max (BLOCK_SECTORS * block) first)
    (min (BLOCK_SECTORS * block + BLOCK_SECTORS) (first + count)) met))
    (λ h.
    let parts = and_parts (ltb block (block_count c)) (meets block first count) h in
    let known : block < block_count c = ltb-true block (block_count c) parts.0 in
    let met : max (BLOCK_SECTORS * block) first < min (BLOCK_SECTORS * block + BLOCK_SECTORS)
    (first + count) = ltb-true (max (BLOCK_SECTORS * block) first)
    (min (BLOCK_SECTORS * block + BLOCK_SECTORS) (first + count)) parts.1 in
    let from : low ≤ block = omega (arith, met, low_is) in
    let ends : BLOCK_SECTORS * block < end = omega (arith, known, met, end_is) in
    let below : block < div_ceil end BLOCK_SECTORS = omega (arith, ends) in
    and_from (leb low block) (ltb block (div_ceil end BLOCK_SECTORS)) (le-leb low block from)
    (lt-ltb block (div_ceil end BLOCK_SECTORS) below))

-- a loop that goes on to the end has passed all of them
pub below_end : (low block at end : ℕ) → end ≤ at → at ≤ max low end
    → (leb low block && ltb block at) ≡ (leb low block && ltb block end)
below_end low block at end passed most = same_when _ _
    (λ h.
    let parts = and_parts (leb low block) (ltb block at) h in
    let from : low ≤ block = leb-true low block parts.0 in
    let below : block < at = ltb-true block at parts.1 in
    and_from (leb low block) (ltb block end) parts.0
    (lt-ltb block end (omega (arith, from, below, most))))
    (λ h.
    let parts = and_parts (leb low block) (ltb block end) h in
    let below : block < end = ltb-true block end parts.1 in
    and_from (leb low block) (ltb block at) parts.0
    (lt-ltb block at (omega (arith, below, passed))))

-- ---- the blocks that entries touch

touched_one : (b : ℕ) (o : Option Replacement)
    → list_any (touches b) (cons_option o []) ≡ option_map_or (touches b) o false
touched_one b None = refl
touched_one b (Some w) = or-false (touches b w)

touched_last : (d b : ℕ) (log : List Entry) (e : Entry)
    → list_any (touches b) (writes_of d (log ++ e ∷ []))
    ≡ (list_any (touches b) (writes_of d log) || option_map_or (touches b) (write_to d e.act) false)
touched_last d b log e =
    ap (list_any (touches b)) (writes-append d log (e ∷ []))
    ∙ list_any-append (touches b) (writes_of d log) (writes_of d (e ∷ []))
    ∙ ap (λ x. list_any (touches b) (writes_of d log) || x) (touched_one b (write_to d e.act))

pub touched_more : (c d b i : ℕ) (entries : List Entry) (e : Entry) (old new : Bool)
    → i < length entries → e ≡ get_or entries i e
    → old ≡ (ltb b (block_count c) && list_any (touches b) (writes_of d (take i entries)))
    → new ≡ (old || (ltb b (block_count c) && option_map_or (touches b) (write_to d e.act) false))
    → new ≡ (ltb b (block_count c) && list_any (touches b) (writes_of d (take (i + 1) entries)))
touched_more c d b i entries e old new less is was put =
    put ∙ ap (λ x. x || (ltb b (block_count c) && option_map_or (touches b)
    (write_to d e.act) false)) was
    ∙ and_or (ltb b (block_count c)) (list_any (touches b) (writes_of d (take i entries)))
    (option_map_or (touches b) (write_to d e.act) false)
    ∙ ap (λ x. ltb b (block_count c) && x) (sym (touched_last d b (take i entries) e))
    ∙ ap (λ (l : List Entry). ltb b (block_count c) && list_any (touches b) (writes_of d l))
    (sym (take-next_read entries i e less is))

-- ---- their areas

pub begin_below : (c : ℕ) (blocks : BTreeSet ℕ) (test : ℕ → Bool)
    → ((b : ℕ) → contains nat_cmp blocks b ≡ (ltb b (block_count c) && test b))
    → All (λ b. BLOCK_SECTORS * b < c) blocks.keys
begin_below c blocks test are =
    All-weaker (λ b. contains nat_cmp blocks b ≡ true) (λ b. BLOCK_SECTORS * b < c)
    (λ b inside. let below = ltb-true b (block_count c) (and_parts _ _ (sym (are b) ∙ inside)).0 in
    omega (arith, below)) blocks.keys (All-set_contains nat_cmp_total blocks)

pub areas_are : (c : ℕ) (blocks : BTreeSet ℕ) (ws : List Replacement)
    → ((b : ℕ) → contains nat_cmp blocks b ≡ (ltb b (block_count c) && list_any (touches b) ws))
    → areas_of c blocks.keys ≡ areas_of c (touched_blocks c ws)
areas_are c blocks ws are = runs_of-same (in_blocks blocks.keys) (in_blocks (touched_blocks c ws)) c
    (λ s less.
    let b : ℕ = s / BLOCK_SECTORS in
    let inside : b < block_count c = omega (arith, less) in
    in_set blocks.keys b ∙ are b
    ∙ ap (λ x. x && list_any (touches b) ws) (lt-ltb b (block_count c) inside)
    ∙ sym (in_touched c s ws
    ∙ ap (λ x. list_any (touches b) ws && x)
    (any_below b 0 (block_count c) (omega arith) (omega (arith, inside)))
    ∙ and-true (list_any (touches b) ws)))
