-- What the entries say of the blocks that a stage asks for.
use Rattle.std.proofs.Common.{◌≡◌, ℕ, ◌+◌, ◌-◌, ◌/◌, ◌<◌, ◌≤◌, List, Bool, true, false, ◌||◌, refl, sym, ap, ◌∙◌, arith, inl, inr, IsTrue}
use Rattle.std.specs.List.{list_any}
use Rattle.std.specs.Option.{option_map_or}
use Rattle.std.specs.Bool.{MatchBool}
use Rattle.std.proofs.lemmas.Bool.{cases_eq, false≢true}
use Rattle.sector_model.specs.Run.{end_of, in_blocks, touches}
use Rattle.sector_model.specs.declared.run.Run.{Run}
use Rattle.log_model.specs.declared.entry.Entry.{Entry}
use Rattle.log_model.specs.Entry.{write_to}
use Rattle.log_model.specs.Touched.{is_touched, touched_by}
use Rattle.log_model.proofs.AreaLemmas.{in_touched_blocks}
use Rattle.warm_core.specs.declared.stage_state.StageState.{StageState}
use Rattle.warm_core.specs.Asked.{AreMet, AreMissed, AllAsked, NothingLeft}

-- a test that says one thing or the other
pub both-ways : (b : Bool) (P Q : Type 0) → MatchBool b P Q → (P → Q → ⊥)
    → (IsTrue b → P) × (P → IsTrue b)
both-ways true P Q h not = (λ _. h, λ _. refl)
both-ways false P Q h not = (λ is. absurd (false≢true is), λ p. absurd (not p h))

-- the range is clear exactly where none of its sectors is asked for
pub clear-asked : (c d from end : ℕ) (entries : List Entry) (b : Bool) → end ≤ c
    → MatchBool b (AreMissed d from end entries) (AreMet d from end entries)
    → (IsTrue b → (s : ℕ) → from ≤ s → s < end → in_blocks (touched_by c d entries) s ≡ false)
    × (((s : ℕ) → from ≤ s → s < end → in_blocks (touched_by c d entries) s ≡ false) → IsTrue b)
clear-asked c d from end entries true within h = (
  λ _ s low less. in_touched_blocks c d s entries (omega (arith, less, within))
      ∙ h s low less,
  λ _. refl,
)
clear-asked c d from end entries false within h = (
  λ is. absurd (false≢true is),
  λ none. absurd (false≢true
      (sym (none h.0 h.1 h.2) ∙ in_touched_blocks c d h.0 entries (omega (arith, h.2, within))
      ∙ h.3)),
)

-- and where a partial stage has nothing to write there
left-at : (full : Bool) (b : Bool) → full ≡ false → (full || b) ≡ b
left-at true b is = absurd (false≢true (sym is))
left-at false b is = refl

pub clear-left : (c d from end : ℕ) (entries : List Entry) (t : StageState) (b : Bool) → end ≤ c
    → t.full ≡ false → MatchBool b (AreMissed d from end entries) (AreMet d from end entries)
    → (IsTrue b → NothingLeft (touched_by c d entries) t from end)
    × (NothingLeft (touched_by c d entries) t from end → IsTrue b)
clear-left c d from end entries t b within partial h =
    let ways = clear-asked c d from end entries b within h in (
      λ is s low less. left-at t.full (in_blocks (touched_by c d entries) s) partial
          ∙ ways.0 is s low less,
      λ none. ways.1 (λ s low less. sym
          (left-at t.full (in_blocks (touched_by c d entries) s) partial) ∙ none s low less),
    )

-- sectors of one block are touched alike
same-block : (d s other : ℕ) (entries : List Entry) → s / 128 ≡ other / 128
    → is_touched d s entries ≡ is_touched d other entries
same-block d s other entries same =
    ap (λ b. list_any (λ (e : Entry). option_map_or (touches b) (write_to d e.act) false) entries)
    same

pub area-asked : (c d : ℕ) (run : Run) (entries : List Entry) → 1 ≤ run.count → run.count ≤ 128
    → end_of run ≤ c
    → is_touched d run.first entries ≡ true
    → is_touched d (run.first + (run.count - 1)) entries ≡ true
    → AllAsked (touched_by c d entries) run
area-asked c d run entries some few within first last s low less =
    in_touched_blocks c d s entries (omega (arith, less, within))
    ∙ elim (cases_eq (s / 128) (run.first / 128)) [
      | inl same ↦ same-block d s run.first entries same ∙ first
      | inr other ↦
          let same : s / 128 ≡ (run.first + (run.count - 1)) / 128 =
          omega (arith, other, low, less, some, few) in
          same-block d s (run.first + (run.count - 1)) entries same ∙ last
    ]

pub asked-touched : (c d : ℕ) (run : Run) (entries : List Entry) (s : ℕ) → end_of run ≤ c
    → AllAsked (touched_by c d entries) run → run.first ≤ s → s < end_of run
    → is_touched d s entries ≡ true
asked-touched c d run entries s within all low less =
    sym (in_touched_blocks c d s entries (omega (arith, less, within))) ∙ all s low less
