-- A page of two sectors: what stands at each offset, and what another sector at one of them makes.
use Rattle.std.proofs.Common.{◌≡◌, ◌≢◌, ℕ, ◌+◌, ◌*◌, ◌%◌, ◌<◌, ◌^◌, [], ◌∷◌, Some, None, sym, ◌∙◌, arith, inl, inr}
use Rattle.std.proofs.Math.Pow.{pow_mono}
use Rattle.std.proofs.lemmas.Bool.{cases_eq, cases_lt}
use Rattle.std.proofs.lemmas.Nat.{one_shl, pow_below}
use Rattle.sector_model.specs.declared.sector.Sector.{Sector}
use Rattle.snapshot_chain.specs.Page128.{no_sectors, with_sector, sector_at, IsPage, IsReplaced}
use Rattle.snapshot_chain.specs.SectorPair.{pair_state, AreOffsets}
use Rattle.snapshot_chain.proofs.Masks.{grown-below, grown-here, above_none, next_above, lone_here, lone_other, lone_page, below_all, grown_count, replaced_at}

pub lone_below : (low high : ℕ) → low < high → 0 + 2 ^ low < 2 ^ high
lone_below low high less = omega (arith, pow_below low high less)

lone_is_page : (low high : ℕ) (lower : Sector) → AreOffsets low high
    → IsPage (with_sector no_sectors low lower)
lone_is_page low high lower are = lone_page low lower (omega (arith, are))

pub pair_low : (low high : ℕ) (lower upper : Sector) → AreOffsets low high
    → sector_at (pair_state low lower high upper) low ≡ Some lower
pair_low low high lower upper are =
    grown-below (with_sector no_sectors low lower) high low upper
    (lone_is_page low high lower are).1 (lone_below low high are.0) are.0
    ∙ lone_here low lower

pub pair_high : (low high : ℕ) (lower upper : Sector) → AreOffsets low high
    → sector_at (pair_state low lower high upper) high ≡ Some upper
pair_high low high lower upper are =
    grown-here (with_sector no_sectors low lower) high upper
    (lone_is_page low high lower are).1 (lone_below low high are.0)

pub pair_other : (low high k : ℕ) (lower upper : Sector) → AreOffsets low high → k ≢ low
    → k ≢ high → sector_at (pair_state low lower high upper) k ≡ None
pair_other low high k lower upper are other another = elim (cases_lt k high) [
  | inl less ↦
      grown-below (with_sector no_sectors low lower) high k upper
      (lone_is_page low high lower are).1 (lone_below low high are.0) less
      ∙ lone_other low k lower other
  | inr from ↦
      above_none (pair_state low lower high upper) (high + 1) k
      (next_above (0 + 2 ^ low) high (lone_below low high are.0)) (omega (arith, from, another))
]

pub pair_page : (low high : ℕ) (lower upper : Sector) → AreOffsets low high
    → IsPage (pair_state low lower high upper)
pair_page low high lower upper are = (
  below_all (0 + 2 ^ low) high are.1 (lone_below low high are.0),
  grown_count (lower ∷ []) upper (0 + 2 ^ low) high (lone_below low high are.0)
      (lone_is_page low high lower are).1,
)

pub low_replaced : (low high : ℕ) (lower upper sector : Sector) → AreOffsets low high
    → IsReplaced (pair_state low lower high upper) low sector (pair_state low sector high upper)
low_replaced low high lower upper sector are =
    replaced_at (pair_state low lower high upper) (pair_state low sector high upper) low lower
    sector (pair_low low high lower upper are) (pair_low low high sector upper are)
    (λ k other. elim (cases_eq k high) [
      | inl at ↦ rw at (pair_high low high sector upper are
          ∙ sym (pair_high low high lower upper are))
      | inr another ↦ pair_other low high k sector upper are other another
          ∙ sym (pair_other low high k lower upper are other another)
    ])

pub high_replaced : (low high : ℕ) (lower upper sector : Sector) → AreOffsets low high
    → IsReplaced (pair_state low lower high upper) high sector (pair_state low lower high sector)
high_replaced low high lower upper sector are =
    replaced_at (pair_state low lower high upper) (pair_state low lower high sector) high upper
    sector (pair_high low high lower upper are) (pair_high low high lower sector are)
    (λ k other. elim (cases_eq k low) [
      | inl at ↦ rw at (pair_low low high lower sector are
          ∙ sym (pair_low low high lower upper are))
      | inr another ↦ pair_other low high k lower sector are another other
          ∙ sym (pair_other low high k lower upper are another other)
    ])

-- the offset is above that of the lone sector
pub above_lone : (low high : ℕ) → 0 + 2 ^ low < 2 ^ high → low < high
above_lone low high above = elim (cases_lt low high) [
  | inl less ↦ less
  | inr from ↦ absurd (omega (arith, above, pow_mono {i = high} {j = low} from))
]

-- the mask as code computes it
pub pair_fits : (low high : ℕ) → AreOffsets low high
    → 1 * 2 ^ low % 2 ^ 128 + 1 * 2 ^ high % 2 ^ 128 < 2 ^ 128
pair_fits low high are =
    rw (one_shl low 128 (omega (arith, are)), one_shl high 128 are.1)
    (omega (arith, below_all (0 + 2 ^ low) high are.1 (lone_below low high are.0)))
