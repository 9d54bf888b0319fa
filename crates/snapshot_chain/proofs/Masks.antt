-- The mask of a page: what one more bit above the others changes, and where a sector stands.
use Rattle.std.proofs.Common.{Bor, set, not, eqb, is_some, ◌≡◌, ℕ, zero, suc, ◌+◌, ◌-◌, ◌*◌, ◌/◌, ◌%◌, ◌<◌, ◌≤◌, ◌^◌, Bool, true, false, cond, List, [], ◌∷◌, ◌++◌, length, ◌≢◌, Option, Some, None, pow_pos, length-append, sym, ap, refl, ◌∙◌, arith, inl, inr, get_or}
use Rattle.std.specs.Int.{bit_at, w128, trailing_zeros}
use Rattle.std.specs.Int.RustNames.{bit_and, bit_or, count_ones}
use Rattle.std.specs.List.{slice_get, list_any, range_with_len}
use Rattle.std.specs.Option.{option_copied, option_map, option_or}
use Rattle.std.proofs.Math.Pow.{pow_mono}
use native.Mathlib.Nat.{mod-eq_of_lt}
use Rattle.std.proofs.lemmas.Nat.{one_shl, and_mask, zero_from_ones, pow-add, div-add-mod'}
use Rattle.std.proofs.lemmas.Nat.Bits.{bit_at_cat_low, bit_at_above, bit_at-lt, and_pow, bit_at-trailing_zeros}
use Rattle.std.specs.Int.Bits.{or_shifted_r}
use Rattle.std.proofs.lemmas.Bool.{cases_eq, cases_lt, eqb-true, eq-eqb, ne_eqb}
use Rattle.std.proofs.lemmas.List.Folds.{list_any_none}
use Rattle.basics.proofs.ItemAt.{slice_get-front, slice_get-last, slice_get-set_same, slice_get-set_other}
use Rattle.sector_model.specs.declared.sector.Sector.{Sector}
use Rattle.sector_model.proofs.Touched.{any_at}
use Rattle.basics.specs.Bits.{has_bit}
use Rattle.snapshot_chain.proofs.MaskBits.{bit_below, bit_set, bit_is_set, clear_above, count_parts, count_more, rank_below, low_of_low}
use Rattle.snapshot_chain.specs.Page128.{PageState, no_sectors, rank, sector_at, with_sector, IsPage, IsReplaced}

-- one more bit above the others
pub set_bit : (m p : ℕ) → p < 128 → m < 2 ^ p → bit_or m (1 * 2 ^ p % 2 ^ 128) ≡ m + 2 ^ p
set_bit m p within above =
    ap (bit_or m) (one_shl p 128 within)
    ∙ (let once : 2 ^ p ≡ 1 * 2 ^ p = omega arith in ap (bit_or m) once) ∙ or_shifted_r 1 p m above
    ∙ omega arith

pub next_above : (m p : ℕ) → m < 2 ^ p → m + 2 ^ p < 2 ^ (p + 1)
next_above m p above = omega (arith, pow-add 2 p 1)

rank_here : (m p : ℕ) → m < 2 ^ p → rank (m + 2 ^ p) p ≡ count_ones m
rank_here m p above =
    rank_below m p p (omega arith) ∙ ap count_ones (mod-eq_of_lt above)

-- a sector's rank is below their number
pub zero_ones : count_ones 0 ≡ 0
unfolding count_ones
zero_ones = refl

some_above : (m k : ℕ) → bit_at m k ≡ 1 → 0 < count_ones (m / 2 ^ k)
some_above m k set = elim (cases_eq (count_ones (m / 2 ^ k)) 0) [
  | inl none ↦ let empty : m / 2 ^ k ≡ 0 = zero_from_ones (m / 2 ^ k) none in
      let low : bit_at m k ≡ 0 = ap (λ x. x % 2) empty in absurd (omega (arith, set, low))
  | inr some ↦ omega (arith, some)
]

pub rank_less : (m k : ℕ) → bit_at m k ≡ 1 → rank m k < count_ones m
rank_less m k set =
    omega (arith, count_parts m k, some_above m k set)

pub chosen : {X : Type 0} (b : Bool) (x y z : Option X) → (b ≡ true → x ≡ y)
    → cond b x z ≡ cond b y z
chosen true x y z h = h refl
chosen false x y z h = refl

pub grown-below : (page : PageState) (offset k : ℕ) (sector : Sector)
    → length page.sectors ≡ count_ones page.mask → page.mask < 2 ^ offset → k < offset
    → sector_at (with_sector page offset sector) k ≡ sector_at page k
grown-below page offset k sector long above less =
    rw (bit_below page.mask offset k less, rank_below page.mask offset k (omega arith))
    (chosen (has_bit page.mask k) (slice_get (page.sectors ++ sector ∷ []) (rank page.mask k))
    (slice_get page.sectors (rank page.mask k)) None
    (λ set. slice_get-front page.sectors (sector ∷ []) (rank page.mask k)
    (omega (arith, rank_less page.mask k (eqb-true (bit_at page.mask k) 1 set), long))))

pub grown-here : (page : PageState) (offset : ℕ) (sector : Sector)
    → length page.sectors ≡ count_ones page.mask → page.mask < 2 ^ offset
    → sector_at (with_sector page offset sector) offset ≡ Some sector
grown-here page offset sector long above =
    rw (
      bit_set page.mask offset (clear_above page.mask offset above),
      rank_here page.mask offset above,
      ← long,
    )
    (slice_get-last page.sectors sector)

pub above_none : (page : PageState) (offset k : ℕ) → page.mask < 2 ^ offset → offset ≤ k
    → sector_at page k ≡ None
above_none page offset k above le = rw (bit_at_above page.mask offset k above le) refl

pub empty_none : (page : PageState) (k : ℕ) → page.mask ≡ 0 → sector_at page k ≡ None
empty_none page k empty = above_none page 0 k (omega (arith, empty)) (omega arith)

-- the test of an offset and the index, as code computes them
pub test_bit : (m k : ℕ) → k < 128 → not (eqb (bit_and m (1 * 2 ^ k % 2 ^ 128)) 0) ≡ has_bit m k
test_bit m k within = ap (λ x. not (eqb x 0)) (ap (bit_and m) (one_shl k 128 within) ∙ and_pow m k)
    ∙ elim (cases_eq (bit_at m k) 0) [
      | inl none ↦ let clear : bit_at m k * 2 ^ k ≡ 0 = ap (λ x. x * 2 ^ k) none ∙ omega arith in
          ap not (eq-eqb (bit_at m k * 2 ^ k) 0 clear)
          ∙ sym (ne_eqb (bit_at m k) 1 (λ e. omega (arith, e, none)))
      | inr some ↦ let one_bit : bit_at m k ≡ 1 = omega (arith, some, bit_at-lt m k) in
          let set : bit_at m k * 2 ^ k ≡ 2 ^ k = ap (λ x. x * 2 ^ k) one_bit ∙ omega arith in
          ap not (ne_eqb (bit_at m k * 2 ^ k) 0 (λ e. omega (arith, e, set, pow_pos k)))
          ∙ sym (eq-eqb (bit_at m k) 1 one_bit)
    ]

pub rank_of : (m k : ℕ) → k < 128 → count_ones (bit_and m (1 * 2 ^ k % 2 ^ 128 - 1)) ≡ rank m k
rank_of m k within = rw (one_shl k 128 within, and_mask m k) refl

-- ranks of two of a page's offsets differ
pub rank_apart : (m j k : ℕ) → j < k → bit_at m j ≡ 1 → rank m j < rank m k
rank_apart m j k less set =
    let low : bit_at (m % 2 ^ k) j ≡ 1 = sym (bit_at_cat_low (m / 2 ^ k) k (m % 2 ^ k) j less)
    ∙ ap (λ n. bit_at n j) (div-add-mod' m (2 ^ k)) ∙ set in
    omega (
      arith,
      rank_less (m % 2 ^ k) j low,
      ap count_ones (low_of_low m j k (omega (arith, less))),
    )

pub here_some : {X : Type 0} (xs : List X) (i : ℕ) (x : X) → i < length xs
    → option_map (λ was. x) (slice_get xs i) ≡ Some x
here_some [] i x less = absurd (omega (arith, less))
here_some (y ∷ xs) zero x less = refl
here_some (y ∷ xs) (suc i) x less = here_some xs i x (omega (arith, less))

pub replaced_sector : (page : PageState) (offset : ℕ) (sector : Sector)
    → length page.sectors ≡ count_ones page.mask → has_bit page.mask offset ≡ true
    → IsReplaced page offset sector
    (record { mask = page.mask; sectors = set page.sectors (rank page.mask offset) sector })
replaced_sector page offset sector long has k within = elim (cases_eq k offset) [
  | inl same ↦
      let less : rank page.mask offset < length page.sectors =
      omega (arith, rank_less page.mask offset (bit_is_set page.mask offset has), long) in
      rw (same, has, eq-eqb offset offset refl)
      (slice_get-set_same page.sectors (rank page.mask offset) sector less
      ∙ sym (here_some page.sectors (rank page.mask offset) sector less))
  | inr other ↦
      rw (ne_eqb k offset other)
      (chosen (has_bit page.mask k)
      (slice_get (set page.sectors (rank page.mask offset) sector) (rank page.mask k))
      (slice_get page.sectors (rank page.mask k)) None
      (λ set_k. slice_get-set_other page.sectors (rank page.mask offset) (rank page.mask k) sector
      (apart k other set_k)))
]
  where
    apart : (k : ℕ) → k ≢ offset → has_bit page.mask k ≡ true
        → rank page.mask offset ≢ rank page.mask k
    apart k other set_k same = elim (cases_lt k offset) [
      | inl less ↦ omega (
        arith,
        rank_apart page.mask k offset less (bit_is_set page.mask k set_k),
        same,
      )
      | inr from ↦ let above : offset < k = omega (arith, from, other) in
          omega (arith, rank_apart page.mask offset k above (bit_is_set page.mask offset has), same)
    ]

-- without a sector at the offset nothing is replaced
pub kept_sector : (page : PageState) (offset : ℕ) (sector : Sector) → sector_at page offset ≡ None
    → IsReplaced page offset sector page
kept_sector page offset sector none k within = elim (cases_eq k offset) [
  | inl same ↦ rw (same, eq-eqb offset offset refl)
      (none ∙ sym (ap (option_map (λ was. sector)) none))
  | inr other ↦ rw (ne_eqb k offset other) refl
]

pub index_below : (page : PageState) (offset : ℕ) → IsPage page → has_bit page.mask offset ≡ true
    → rank page.mask offset < length page.sectors
index_below page offset is has =
    omega (arith, rank_less page.mask offset (bit_is_set page.mask offset has), is.1)

pub below_all : (m p : ℕ) → p < 128 → m < 2 ^ p → m + 2 ^ p < 2 ^ 128
below_all m p within above =
    omega (arith, next_above m p above, pow_mono {i = p + 1} {j = 128} (omega arith))

pub grown_count : (xs : List Sector) (x : Sector) (m p : ℕ) → m < 2 ^ p → length xs ≡ count_ones m
    → length (xs ++ x ∷ []) ≡ count_ones (m + 2 ^ p)
grown_count xs x m p above long =
    omega (arith, length-append xs (x ∷ []), long, count_more m p (clear_above m p above))

-- one offset more of a page that is made from the lowest offset up
pub more_some : (page : PageState) (offset : ℕ) (sector : Sector) (f : ℕ → Option Sector)
    → IsPage page → page.mask < 2 ^ offset → ((k : ℕ) → k < offset → sector_at page k ≡ f k)
    → f offset ≡ Some sector → (k : ℕ) → k < offset + 1
    → sector_at (with_sector page offset sector) k ≡ f k
more_some page offset sector f is above same here k less = elim (cases_lt k offset) [
  | inl below ↦ grown-below page offset k sector is.1 above below ∙ same k below
  | inr past ↦ let at : k ≡ offset = omega (arith, past, less) in
      rw at (grown-here page offset sector is.1 above ∙ sym here)
]

pub more_none : (page : PageState) (offset : ℕ) (f : ℕ → Option Sector) → page.mask < 2 ^ offset
    → ((k : ℕ) → k < offset → sector_at page k ≡ f k)
    → f offset ≡ None → (k : ℕ) → k < offset + 1 → sector_at page k ≡ f k
more_none page offset f above same here k less = elim (cases_lt k offset) [
  | inl below ↦ same k below
  | inr past ↦ let at : k ≡ offset = omega (arith, past, less) in
      rw at (above_none page offset offset above (omega arith) ∙ sym here)
]

pub wider : (m p : ℕ) → m < 2 ^ p → m < 2 ^ (p + 1)
wider m p above = omega (arith, above, pow-add 2 p 1)

-- a page with a bit has a sector
some_item : {X : Type 0} (xs : List X) (i : ℕ) → i < length xs → is_some (slice_get xs i) ≡ true
some_item [] i less = absurd (omega (arith, less))
some_item (x ∷ xs) zero less = refl
some_item (x ∷ xs) (suc i) less = some_item xs i (omega (arith, less))

pub has_some : (page : PageState) → IsPage page → page.mask ≢ 0
    → list_any (λ k. is_some (sector_at page k)) (range_with_len 0 128) ≡ true
has_some page is some =
    let low = bit_at-trailing_zeros w128 page.mask (omega (arith, some)) is.0 in
    let k : ℕ = trailing_zeros w128 page.mask in
    any_at (λ j. is_some (sector_at page j)) 0 128 k (omega arith) (omega (arith, low.0))
    (rw low.1 (some_item page.sectors (rank page.mask k)
    (omega (arith, is.1, rank_less page.mask k low.1))))

pub has_none : (page : PageState) → page.mask ≡ 0
    → list_any (λ k. is_some (sector_at page k)) (range_with_len 0 128) ≡ false
has_none page empty =
    list_any_none (λ k. is_some (sector_at page k)) (range_with_len 0 128)
    (λ i k less. ap is_some (empty_none page (get_or (range_with_len 0 128) i k) empty))

-- a page with one sector
pub lone_here : (offset : ℕ) (sector : Sector)
    → sector_at (with_sector no_sectors offset sector) offset ≡ Some sector
lone_here offset sector = grown-here no_sectors offset sector (sym zero_ones) (pow_pos offset)

pub lone_other : (offset k : ℕ) (sector : Sector) → k ≢ offset
    → sector_at (with_sector no_sectors offset sector) k ≡ None
lone_other offset k sector other = elim (cases_lt k offset) [
  | inl less ↦ grown-below no_sectors offset k sector (sym zero_ones) (pow_pos offset) less
      ∙ empty_none no_sectors k refl
  | inr from ↦ above_none (with_sector no_sectors offset sector) (offset + 1) k
      (next_above 0 offset (pow_pos offset)) (omega (arith, from, other))
]

-- another sector at an offset, where no other one changes
pub replaced_at : (old new : PageState) (offset : ℕ) (was sector : Sector)
    → sector_at old offset ≡ Some was → sector_at new offset ≡ Some sector
    → ((k : ℕ) → k ≢ offset → sector_at new k ≡ sector_at old k) → IsReplaced old offset sector new
replaced_at old new offset was sector had has others k within = elim (cases_eq k offset) [
  | inl same ↦ rw (same, eq-eqb offset offset refl)
      (has ∙ sym (ap (option_map (λ gone. sector)) had))
  | inr other ↦ rw (ne_eqb k offset other) (others k other)
]

pub lone_replaced : (offset : ℕ) (was sector : Sector)
    → IsReplaced (with_sector no_sectors offset was) offset sector
    (with_sector no_sectors offset sector)
lone_replaced offset was sector =
    replaced_at (with_sector no_sectors offset was) (with_sector no_sectors offset sector) offset
    was sector (lone_here offset was) (lone_here offset sector)
    (λ k other. lone_other offset k sector other ∙ sym (lone_other offset k was other))

pub lone_page : (offset : ℕ) (sector : Sector) → offset < 128
    → IsPage (with_sector no_sectors offset sector)
lone_page offset sector within = (
  below_all 0 offset within (pow_pos offset),
  grown_count [] sector 0 offset (pow_pos offset)
      (sym zero_ones),
)

-- a page that is made from the lowest offset up
pub record IsBuilt (page : PageState) (end : ℕ) (f : ℕ → Option Sector) : Type 0 where
  pub is_page : IsPage page
  pub above : page.mask < 2 ^ end
  pub same : (k : ℕ) → k < end → sector_at page k ≡ f k

pub built_some : (page : PageState) (offset : ℕ) (sector : Sector) (f : ℕ → Option Sector)
    → offset < 128 → IsBuilt page offset f → f offset ≡ Some sector
    → IsBuilt (with_sector page offset sector) (offset + 1) f
built_some page offset sector f within is here = record {
  is_page = (
    below_all page.mask offset within is.above,
    grown_count page.sectors sector page.mask
        offset is.above is.is_page.1,
  );
  above = next_above page.mask offset is.above;
  same = more_some page offset sector f is.is_page is.above is.same here;
}

pub built_none : (page : PageState) (offset : ℕ) (f : ℕ → Option Sector) → IsBuilt page offset f
    → f offset ≡ None → IsBuilt page (offset + 1) f
built_none page offset f is here = record {
  is_page = is.is_page;
  above = wider page.mask offset is.above;
  same = more_none page offset f is.above is.same here;
}

pub built_empty : (f : ℕ → Option Sector) → IsBuilt no_sectors 0 f
built_empty f = record {
  is_page = (pow_pos 128, sym zero_ones);
  above = pow_pos 0;
  same = λ k less. absurd (omega (arith, less));
}

pub copied_or : (a b : Option (Bor Sector))
    → option_copied (option_or a b) ≡ option_or (option_copied a) (option_copied b)
copied_or None b = refl
copied_or (Some x) b = refl
