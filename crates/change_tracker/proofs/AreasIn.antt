-- The areas of the blocks that were touched inside a window, one after another.
use Rattle.std.proofs.Common.{◌≡◌, ℕ, ◌-◌, ◌*◌, ◌/◌, ◌^◌, ◌<◌, ◌≤◌, max, List, ◌++◌, length, get_or, true, false, ◌&&◌, Option, MatchOption, arith, inl, inr, sym, ap, ◌∙◌, refl, Some, None, ◌⊎◌}
use Rattle.std.specs.Int.{div_ceil}
use Rattle.std.proofs.lemmas.Bool.{cases_lt, le-leb, false≢true}
use Rattle.sector_model.specs.Run.{block_count, in_runs, end_of, next_run}
use Rattle.sector_model.specs.Page.{areas_from, page_from}
use Rattle.sector_model.specs.declared.run.Run.{Run}
use Rattle.sector_model.proofs.Spacing.{areas_of-spaced}
use Rattle.sector_model.proofs.Among.{in_areas, past_areas}
use Rattle.sector_model.proofs.NextRun.{next_area, next_some, next_none, true_false, areas_from-none}
use Rattle.sector_model.proofs.PageMade.{full_page, last_page}
use Rattle.sector_model.proofs.PageSectors.{areas_from_are_exact}
use Rattle.change_tracker.specs.declared.word.Window.{Window}
use Rattle.change_tracker.specs.Touches.{TouchState, is_touched_in, blocks_touched_in, areas_in, IsFirst}

pub count : (c blocks : ℕ) → blocks ≡ div_ceil c 128 → blocks ≡ block_count c
count c blocks is = omega (arith, is)

pub none_at_end : (c at : ℕ) (t : TouchState) (w : Window) → c < 2 ^ 64 → at ≡ c
    → next_run at (areas_in c t w) ≡ None
none_at_end c at t w fits is =
    next_none 0 (areas_in c t w) at (areas_of-spaced c (blocks_touched_in c t w) fits).spaced
    (λ s from. past_areas c s (blocks_touched_in c t w) (omega (arith, is, from)))

pub none_from : (c at blocks : ℕ) (t : TouchState) (w : Window) → c < 2 ^ 64
    → blocks ≡ block_count c → ((b : ℕ) → at / 128 ≤ b → b < blocks → is_touched_in t w b ≡ false)
    → next_run at (areas_in c t w) ≡ None
none_from c at blocks t w fits is none =
    next_none 0 (areas_in c t w) at (areas_of-spaced c (blocks_touched_in c t w) fits).spaced
    (λ s from. elim (cases_lt s c) [
      | inl less ↦ in_areas c s (is_touched_in t w) less
          ∙ none (s / 128) (omega (arith, from)) (omega (arith, less, is))
      | inr past ↦ past_areas c s (blocks_touched_in c t w) past
    ])

pub block_found : (c at blocks : ℕ) (t : TouchState) (w : Window) (o : Option ℕ) → c < 2 ^ 64
    → at < c → blocks ≡ block_count c
    → MatchOption o ((b : ℕ) → at / 128 ≤ b → b < blocks → is_touched_in t w b ≡ false)
    (λ b. IsFirst t w (at / 128) b × (b < blocks))
    → MatchOption o (next_run at (areas_in c t w) ≡ None) (λ b. IsFirst t w (at / 128) b
    × (128 * b < c) × (at < c))
block_found c at blocks t w None fits inside is none = none_from c at blocks t w fits is none
block_found c at blocks t w (Some b) fits inside is first =
    (first.0, omega (arith, first.1, is), inside)

pub found : (c : ℕ) (t : TouchState) (w : Window) (at block blocks behind f e : ℕ) → c < 2 ^ 64
    → at < c → blocks ≡ block_count c → f ≡ max at (128 * block)
    → IsFirst t w (at / 128) block → block < blocks → block ≤ behind → behind ≤ blocks
    → ((b : ℕ) → block ≤ b → b < behind → is_touched_in t w b ≡ true)
    → (behind < blocks → is_touched_in t w behind ≡ false)
    → ((behind < blocks) × (e ≡ 128 * behind)) ⊎ ((blocks ≤ behind) × (e ≡ c))
    → Some (record { first = f; count = e - f }) ≡ next_run at (areas_in c t w)
found c t w at block blocks behind f e fits start count is first inside from within touched free end
    =
    let low = first.from_on in
    let ends : e ≤ c = (elim end
    [ inl h ↦ omega (arith, h.0, h.1, count) | inr h ↦ omega (arith, h.1) ]) in
    let long : (f < e) × (block < behind) = (elim (cases_lt block behind) [
      | inl less ↦ (elim end [
        | inl h ↦ (omega (arith, h.1, less, is, low), less)
        | inr h ↦
            (omega (arith, h.0, h.1, is, low, start, inside, count), less)
      ])
      | inr same ↦ absurd (true_false (first.passes)
          (ap (is_touched_in t w) (omega (arith, same, from))
          ∙ free (omega (arith, same, from, inside))))
    ]) in
    sym (next_some 0 (areas_in c t w) at f e
    (areas_of-spaced c (blocks_touched_in c t w) fits).spaced
    (omega (arith, is)) long.0
    (λ s from_at less. in_areas c s (is_touched_in t w) (omega (arith, less, long.0, ends))
    ∙ first.earlier (s / 128) (omega (arith, from_at)) (omega (arith, less, is, from_at)))
    (λ s from_f less. in_areas c s (is_touched_in t w) (omega (arith, less, ends))
    ∙ touched (s / 128) (omega (arith, from_f, is))
    (elim end [
      | inl h ↦ omega (arith, less, h.1)
      | inr h ↦ omega
          (arith, less, h.0, h.1, count)
    ]))
    (elim end [
      | inl h ↦ elim (cases_lt e c) [
        | inl less ↦ in_areas c e (is_touched_in t w) less
            ∙ ap (is_touched_in t w) (omega (arith, h.1))
            ∙ free h.0
        | inr past ↦ past_areas c e (blocks_touched_in c t w) past
      ]
      | inr h ↦ past_areas c e (blocks_touched_in c t w) (omega (arith, h.1))
    ]))

-- a block that was touched behind a sector is in an area from there on
has_next : (c at b : ℕ) (t : TouchState) (w : Window) → at < c → 128 * b < c
    → IsFirst t w (at / 128) b → next_run at (areas_in c t w) ≡ None → ⊥
has_next c at b t w inside below first none =
    let s : ℕ = max at (128 * b) in
    let from : at ≤ s = omega arith in
    let less : s < c = omega (arith, inside, below) in
    let block : s / 128 ≡ b = (let low = first.from_on in omega (arith, low)) in
    let touched : in_runs (areas_in c t w) s ≡ true =
    in_areas c s (is_touched_in t w) less ∙ ap (is_touched_in t w) block ∙ first.passes in
    false≢true (ap (λ (rs : List Run). in_runs rs s)
    (sym (areas_from-none (areas_in c t w) at none))
    ∙ areas_from_are_exact (areas_in c t w) at s ∙ (λ i. le-leb at s from i && touched i))

some_next : (c at b : ℕ) (t : TouchState) (w : Window) (o : Option Run) → at < c → 128 * b < c
    → IsFirst t w (at / 128) b → next_run at (areas_in c t w) ≡ o → (r : Run) × (o ≡ Some r)
some_next c at b t w None inside below first is = absurd (has_next c at b t w inside below first is)
some_next c at b t w (Some r) inside below first is = (r, refl)

-- a page that is full, where more follows and where nothing does
pub full_then : (c start at b : ℕ) (t : TouchState) (w : Window) (told : List Run) → c < 2 ^ 64
    → IsFirst t w (at / 128) b → 128 * b < c → at < c
    → areas_from start (areas_in c t w) ≡ told ++ areas_from at (areas_in c t w)
    → length told ≡ 1024 → ((d : Run) → 0 < length told
    → end_of (get_or told (length told - 1) d) ≡ at)
    → record { start = start; length = at - start; areas = told }
    ≡ page_from c (areas_in c t w) start
full_then c start at b t w told fits first below inside joined long ended =
    let r = some_next c at b t w (next_run at (areas_in c t w)) inside below first refl in
    let facts = next_area c at (blocks_touched_in c t w) r.0 fits r.1 in
    full_page c start at (areas_in c t w) told (areas_from (end_of r.0) (areas_in c t w)) r.0
    (joined ∙ ap (λ (rest : List Run). told ++ rest) facts.areas) long ended

pub full_last : (c start at : ℕ) (t : TouchState) (w : Window) (told : List Run)
    → next_run at (areas_in c t w) ≡ None
    → areas_from start (areas_in c t w) ≡ told ++ areas_from at (areas_in c t w)
    → length told ≤ 1024
    → record { start = start; length = c - start; areas = told }
    ≡ page_from c (areas_in c t w) start
full_last c start at t w told none joined few =
    last_page c start (areas_in c t w) told
    (joined ∙ ap (λ (rest : List Run). told ++ rest) (areas_from-none (areas_in c t w) at none)) few
