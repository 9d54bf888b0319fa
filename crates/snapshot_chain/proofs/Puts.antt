-- Sectors that are put into a page, at offsets that have some and at others: what the page has at
-- each offset then.
use Rattle.std.proofs.Common.{◌≡◌, ◌≢◌, not, ℕ, ◌+◌, ◌-◌, ◌*◌, ◌%◌, ◌<◌, ◌≤◌, ◌^◌, nat_le, true, false, if◌then◌else◌, List, [], ◌∷◌, ◌++◌, length, drop, length-append, Some, None, sym, ap, refl, ◌∙◌, arith, inl, inr}
use Rattle.std.specs.List.{slice_get, insert}
use Rattle.std.specs.Option.{option_or}
use Rattle.std.specs.Int.RustNames.{bit_and}
use Rattle.std.proofs.lemmas.Bool.{cases_eq, cases_lt, eq-eqb, ne_eqb, le-leb, lt-leb}
use Rattle.std.proofs.lemmas.List.Edits.{length-insert, get_or-insert_below, get_or-insert_at, get_or-insert_above}
use Rattle.std.proofs.lemmas.Option.{slice_get-get_or}
use Rattle.basics.specs.Bits.{has_bit}
use Rattle.basics.specs.Prefix.{IsPrefix}
use Rattle.basics.proofs.Prefix.{prefix-trans, prefix-appended, prefix-parts}
use Rattle.basics.proofs.ItemAt.{slice_get-front, slice_get-last}
use Rattle.sector_model.specs.declared.sector.Sector.{Sector}
use Rattle.snapshot_chain.specs.Page128.{PageState, IsPage, rank, sector_at, run_at, IsReplaced, IsPut}
use Rattle.snapshot_chain.proofs.MaskBits.{bit_below, bit_set, bit_behind, bit_is_set, clear_bit, same_above, count_more, rank_below, rank_behind, rank_all, rank_grows}
use Rattle.snapshot_chain.proofs.Masks.{test_bit, rank_less, rank_apart, chosen, here_some, index_below}
use Rattle.snapshot_chain.proofs.Writes.{run_from}

-- ---- the list

insert_before : (xs : List Sector) (i j : ℕ) (x : Sector) → i ≤ length xs → j < i
    → slice_get (insert xs i x) j ≡ slice_get xs j
insert_before xs i j x le less =
    slice_get-get_or (insert xs i x) j x (omega (arith, length-insert xs i x le, le, less))
    ∙ ap Some (get_or-insert_below xs i x x j less le)
    ∙ sym (slice_get-get_or xs j x (omega (arith, le, less)))

insert_here : (xs : List Sector) (i : ℕ) (x : Sector) → i ≤ length xs
    → slice_get (insert xs i x) i ≡ Some x
insert_here xs i x le =
    slice_get-get_or (insert xs i x) i x (omega (arith, length-insert xs i x le, le))
    ∙ ap Some (get_or-insert_at xs i x x le)

insert_behind : (xs : List Sector) (i j : ℕ) (x : Sector) → i ≤ j → j < length xs
    → slice_get (insert xs i x) (j + 1) ≡ slice_get xs j
insert_behind xs i j x from within =
    let le : i ≤ length xs = omega (arith, from, within) in
    slice_get-get_or (insert xs i x) (j + 1) x (omega (arith, length-insert xs i x le, within))
    ∙ ap Some (get_or-insert_above xs i x x j from le) ∙ sym (slice_get-get_or xs j x within)

-- ---- the page

-- the test of an offset, as code makes it
pub bit_there : (m k : ℕ) → k < 128 → bit_and m (1 * 2 ^ k % 2 ^ 128) ≢ 0 → has_bit m k ≡ true
bit_there m k within some = sym (test_bit m k within) ∙ ap not (ne_eqb _ 0 some)

pub bit_free : (m k : ℕ) → k < 128 → bit_and m (1 * 2 ^ k % 2 ^ 128) ≡ 0 → has_bit m k ≡ false
bit_free m k within none = sym (test_bit m k within) ∙ ap not (eq-eqb _ 0 none)

-- the page and the sector of an offset that it lacked, between those of its own
abbrev pub with_inserted : PageState → (offset : ℕ) → Sector → PageState
with_inserted page offset sector = record {
  mask = page.mask + 2 ^ offset;
  sectors = insert page.sectors (rank page.mask offset) sector;
}

pub index_fits : (page : PageState) (offset : ℕ) → IsPage page
    → rank page.mask offset ≤ length page.sectors
index_fits page offset is = omega (arith, rank_all page.mask offset, is.1)

pub inserted_page : (page : PageState) (offset : ℕ) (sector : Sector) → IsPage page → offset < 128
    → has_bit page.mask offset ≡ false → IsPage (with_inserted page offset sector)
inserted_page page offset sector is within none = (
  omega (arith, is.0, same_above page.mask offset 128 (clear_bit page.mask offset none) within),
  length-insert page.sectors (rank page.mask offset) sector (index_fits page offset is)
      ∙ omega (arith, is.1, count_more page.mask offset (clear_bit page.mask offset none)),
)

before : (page : PageState) (offset k : ℕ) (sector : Sector) → IsPage page → k < offset
    → sector_at (with_inserted page offset sector) k ≡ sector_at page k
before page offset k sector is less =
    rw (bit_below page.mask offset k less, rank_below page.mask offset k (omega (arith, less)))
    (chosen (has_bit page.mask k)
    (slice_get (insert page.sectors (rank page.mask offset) sector) (rank page.mask k))
    (slice_get page.sectors (rank page.mask k)) None
    (λ set. insert_before page.sectors (rank page.mask offset) (rank page.mask k) sector
    (index_fits page offset is)
    (rank_apart page.mask k offset less (bit_is_set page.mask k set))))

here : (page : PageState) (offset : ℕ) (sector : Sector) → IsPage page
    → has_bit page.mask offset ≡ false
    → sector_at (with_inserted page offset sector) offset ≡ Some sector
here page offset sector is none =
    rw (
      bit_set page.mask offset (clear_bit page.mask offset none),
      rank_below page.mask offset offset (omega arith),
    )
    (insert_here page.sectors (rank page.mask offset) sector (index_fits page offset is))

behind : (page : PageState) (offset k : ℕ) (sector : Sector) → IsPage page
    → has_bit page.mask offset ≡ false → offset < k
    → sector_at (with_inserted page offset sector) k ≡ sector_at page k
behind page offset k sector is none less =
    let clear = clear_bit page.mask offset none in
    rw (bit_behind page.mask offset k clear less, rank_behind page.mask offset k clear less)
    (chosen (has_bit page.mask k)
    (slice_get (insert page.sectors (rank page.mask offset) sector) (rank page.mask k + 1))
    (slice_get page.sectors (rank page.mask k)) None
    (λ set. insert_behind page.sectors (rank page.mask offset) (rank page.mask k) sector
    (rank_grows page.mask offset k (omega (arith, less)))
    (omega (arith, rank_less page.mask k (bit_is_set page.mask k set), is.1))))

pub inserted_put : (page : PageState) (offset : ℕ) (sector : Sector) → IsPage page
    → has_bit page.mask offset ≡ false
    → IsPut page offset sector (with_inserted page offset sector)
inserted_put page offset sector is none k inside = elim (cases_eq k offset) [
  | inl this ↦ rw (this, eq-eqb offset offset refl) (here page offset sector is none)
  | inr other ↦ rw (ne_eqb k offset other) (elim (cases_lt k offset) [
    | inl less ↦ before page offset k sector is less
    | inr from ↦ behind page offset k sector is none (omega (arith, from, other))
  ])
]

-- where the page has one, another stands in its place
pub replaced_put : (page new : PageState) (offset : ℕ) (sector : Sector) → IsPage page
    → has_bit page.mask offset ≡ true → IsReplaced page offset sector new
    → IsPut page offset sector new
replaced_put page new offset sector is has replaced k inside = elim (cases_eq k offset) [
  | inl this ↦ replaced k inside ∙ rw (this, eq-eqb offset offset refl, has)
      (here_some page.sectors (rank page.mask offset) sector (index_below page offset is has))
  | inr other ↦ replaced k inside ∙ rw (ne_eqb k offset other) refl
]

-- ---- a run, put from its last sector down to its first

-- from a place of the run on the page has the run, and before it what was there
abbrev pub IsPutFrom : (old : PageState) (offset : ℕ) → List Sector → (from : ℕ) → PageState
    → Type 0
IsPutFrom old offset run from new = (k : ℕ) → k < 128
    → sector_at new k
    ≡ (if nat_le (offset + from) k then option_or (run_at offset run k) (sector_at old k)
    else sector_at old k)

pub one_more_put : (old now new : PageState) (offset from : ℕ) (run : List Sector)
    (sector : Sector) → slice_get run from ≡ Some sector
    → IsPutFrom old offset run (from + 1) now → IsPut now (offset + from) sector new
    → IsPutFrom old offset run from new
one_more_put old now new offset from run sector at was put k inside =
    elim (cases_eq k (offset + from)) [
      | inl this ↦ put k inside
          ∙ rw (
            this,
            eq-eqb (offset + from) (offset + from) refl,
            le-leb (offset + from) (offset + from) (omega arith),
            run_from offset run (offset + from) (omega arith),
            back,
            at,
          ) refl
      | inr other ↦ put k inside ∙ rw (ne_eqb k (offset + from) other) (was k inside ∙ border other)
    ]
  where
    back : offset + from - offset ≡ from
    back = omega arith

    border : k ≢ offset + from
        → (if nat_le (offset + (from + 1)) k then option_or (run_at offset run k) (sector_at old k)
        else sector_at old k)
        ≡ (if nat_le (offset + from) k then option_or (run_at offset run k) (sector_at old k)
        else sector_at old k)
    border other = elim (cases_lt k (offset + from)) [
      | inl less ↦
          rw (
            lt-leb (offset + (from + 1)) k (omega (arith, less)),
            lt-leb (offset + from) k less,
          ) refl
      | inr past ↦
          rw (
            le-leb (offset + (from + 1)) k (omega (arith, past, other)),
            le-leb (offset + from) k past,
          ) refl
    ]

-- the last of those that are left
pub last_left : (rest left run : List Sector) (x : Sector) → rest ≡ left ++ x ∷ []
    → IsPrefix rest run
    → IsPrefix left run × (slice_get run (length left) ≡ Some x) × (length rest ≡ length left + 1)
last_left rest left run x is front =
    let long : length rest ≡ length left + 1 = ap length is ∙ length-append left (x ∷ []) in (
      prefix-trans left rest run (rw is (prefix-appended left (x ∷ []))) front,
      ap (λ ys. slice_get ys (length left)) (prefix-parts rest run front)
          ∙ slice_get-front rest (drop (length rest) run) (length left) (omega (arith, long))
          ∙ ap (λ ys. slice_get ys (length left)) is ∙ slice_get-last left x,
      long,
    )
