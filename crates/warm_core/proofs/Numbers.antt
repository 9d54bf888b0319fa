-- What the steps of a stage leave of its numbers.
use Rattle.std.proofs.Common.{◌≡◌, ℕ, ◌+◌, ◌-◌, ◌<◌, ◌≤◌, List, Bool, true, false, cond, ◌||◌, Option, Some, None, refl, sym, ap, subst, ◌∙◌, arith, inl, inr, IsSome}
use Rattle.std.proofs.lemmas.Bool.{cases_lt, false≢true}
use Rattle.sector_model.specs.Run.{end_of, in_blocks}
use Rattle.sector_model.specs.declared.run.Run.{Run}
use Rattle.log_model.specs.declared.entry.Entry.{Entry}
use Rattle.log_model.specs.declared.link.Snapped.{Snapped}
use Rattle.warm_core.specs.declared.disk_world.Base.{Base}
use Rattle.warm_core.specs.declared.stage_state.StageState.{StageState}
use Rattle.warm_core.specs.StageState.{IsInOrder, with_page, made_full, with_piece, at_its_end, IsPiece, MayAsk, MayFlush, has_to_write, sectors_below}
use Rattle.warm_core.specs.Staged.{blocks_asked, HasWritten, HasToBeFull, StageFits}
use Rattle.warm_core.proofs.Counting.{sectors_below-skip, sectors_below-run, sectors_below-rises}

-- the bound of what was written goes on with `at`
pub bound-goes_on : (full : Bool) (c at next written more : ℕ) → at + more ≤ next
    → written ≤ cond full (c + at) at → written + more ≤ cond full (c + next) next
bound-goes_on true c at next written more le bound = omega arith
bound-goes_on false c at next written more le bound = omega arith

-- a full stage is ready where it is done up to the end of its page
pub full-ready : (blocks : List ℕ) (full : Bool) (at covered : ℕ) → full ≡ true → at ≤ covered
    → ((s : ℕ) → at ≤ s → s < covered → (full || in_blocks blocks s) ≡ false) → at ≡ covered
full-ready blocks true at covered is le ready = elim (cases_lt at covered) [
  | inl less ↦ absurd (false≢true (sym (ready at (omega arith) less)))
  | inr from ↦ omega arith
]
full-ready blocks false at covered is le ready = absurd (false≢true is)

-- `at` passes over sectors that are nothing to the stage
pub written-passes : (c d : ℕ) (log : List Entry) (base : Option Base) (snap : Snapped)
    (full : Bool) (at next written : ℕ) → at ≤ next
    → ((s : ℕ) → at ≤ s → s < next
    → (full || in_blocks (blocks_asked c d log base snap full) s) ≡ false)
    → HasWritten c d log base snap full at written → HasWritten c d log base snap full next written
written-passes c d log base snap false at next written le none has =
    let same : at + (next - at) ≡ next = omega arith in
    has ∙ sym (sym (ap (sectors_below (blocks_asked c d log base snap false)) same)
    ∙ sectors_below-skip (blocks_asked c d log base snap false) at (next - at)
    (λ s from less. none s from (omega arith)))
written-passes c d log base snap true at next written le none has =
    subst (λ n. HasWritten c d log base snap true n written)
    (full-ready (blocks_asked c d log base snap true) true at next refl le none) has

-- and over a run that it writes
pub written-grows : (c d : ℕ) (log : List Entry) (base : Option Base) (snap : Snapped) (full : Bool)
    (at count written : ℕ)
    → (full ≡ false → (s : ℕ) → at ≤ s → s < at + count
    → in_blocks (blocks_asked c d log base snap full) s ≡ true)
    → HasWritten c d log base snap full at written
    → HasWritten c d log base snap full (at + count) (written + count)
written-grows c d log base snap false at count written all has =
    ap (λ n. n + count) has
    ∙ sym (sectors_below-run (blocks_asked c d log base snap false) at count (all refl))
written-grows c d log None snap true at count written all has = ap (λ n. n + count) has
written-grows c d log (Some base) snap true at count written all has =
    (omega (arith, has.0), omega (arith, has.1))

-- a stage that isn't at its end isn't flushed
not-ended : {t : StageState} → IsInOrder t → t.at < t.capacity → t.flushed ≡ true → ⊥
not-ended {t} order less flushed = let ended = order.ended flushed in omega (arith, ended, less)

-- ---- a page

pub answered-fits : (c d : ℕ) (log : List Entry) (base : Option Base) (snap : Snapped)
    (t : StageState) (end : ℕ)
    → StageFits c d log base snap t → MayAsk (blocks_asked c d log base snap t.full) t
    → t.covered ≤ end → end ≤ c
    → StageFits c d log base snap (with_page end t)
answered-fits c d log base snap t end fits ask low high =
    let order = fits.order in
    let sized = fits.sized in
    let more = ask.more in
    let passed = order.passed in
    record {
      unfinished = fits.unfinished;
      sized = sized;
      order = record {
        passed = low;
        within = omega (arith, sized, high);
        ended = λ flushed. absurd (not-ended order (omega (arith, passed, more)) flushed);
        counted = (let grown = bound-goes_on t.full t.capacity t.at t.covered t.written 0
            (omega (arith, passed)) order.counted in
            let same : t.written + 0 ≡ t.written = omega arith in
            subst (λ n. n ≤ cond t.full (t.capacity + t.covered) t.covered) same grown);
      };
      written = written-passes c d log base snap t.full t.at t.covered t.written passed ask.ready
          fits.written;
      full = fits.full;
      partial = fits.partial;
    }

-- ---- a page that is refused

refused-written : (c d : ℕ) (log : List Entry) (b : Base) (snap : Snapped) (at written : ℕ) → at ≤ c
    → HasWritten c d log (Some b) snap false at written
    → HasWritten c d log (Some b) snap true 0 written
refused-written c d log b snap at written le has =
    let up = sectors_below-rises (blocks_asked c d log (Some b) snap false) at c le in
    (omega arith, omega (arith, has, up))

partial-bound : (full : Bool) (c at written : ℕ) → full ≡ false → at ≤ c
    → written ≤ cond full (c + at) at → written ≤ c + 0
partial-bound true c at written is le bound = absurd (false≢true (sym is))
partial-bound false c at written is le bound = omega arith

refused-had : (c d : ℕ) (log : List Entry) (base : Option Base) (snap : Snapped) (full : Bool)
    (at written : ℕ) → full ≡ false → at ≤ c → IsSome base
    → HasWritten c d log base snap full at written → HasWritten c d log base snap true 0 written
refused-had c d log base snap true at written is le some has = absurd (false≢true (sym is))
refused-had c d log None snap false at written is le some has = absurd (false≢true some)
refused-had c d log (Some b) snap false at written is le some has =
    refused-written c d log b snap at written le has

pub refused-fits : (c d : ℕ) (log : List Entry) (base : Option Base) (snap : Snapped)
    (t : StageState)
    → StageFits c d log base snap t → t.covered < t.capacity → t.full ≡ false
    → HasToBeFull d log base snap
    → StageFits c d log base snap (made_full t)
refused-fits c d log base snap t fits more partial must =
    let order = fits.order in
    let sized = fits.sized in
    let passed = order.passed in
    record {
      unfinished = fits.unfinished;
      sized = sized;
      order = record {
        passed = omega arith;
        within = omega arith;
        ended = λ flushed. absurd (not-ended order (omega (arith, passed, more)) flushed);
        counted = partial-bound t.full t.capacity t.at t.written partial
            (omega (arith, passed, more)) order.counted;
      };
      written = refused-had c d log base snap t.full t.at t.written partial
          (omega (arith, passed, more, sized)) (fits.partial partial) fits.written;
      full = λ is. must;
      partial = λ is. absurd (false≢true (sym is));
    }

-- ---- a piece

pub piece-fits : (c d : ℕ) (log : List Entry) (base : Option Base) (snap : Snapped) (t : StageState)
    (run : Run)
    → StageFits c d log base snap t → IsPiece run t
    → ((s : ℕ) → t.at ≤ s → s < run.first
    → has_to_write (blocks_asked c d log base snap t.full) t s ≡ false)
    → (t.full ≡ false → (s : ℕ) → run.first ≤ s → s < end_of run
    → in_blocks (blocks_asked c d log base snap t.full) s ≡ true)
    → StageFits c d log base snap (with_piece run t)
piece-fits c d log base snap t run fits piece none all =
    let order = fits.order in
    let sized = fits.sized in
    let passed = order.passed in
    let within = order.within in
    let some = piece.some in
    let from = piece.from in
    let end = piece.within in
    record {
      unfinished = fits.unfinished;
      sized = sized;
      order = record {
        passed = end;
        within = within;
        ended = λ flushed. absurd
            (not-ended order (omega (arith, within, some, from, end)) flushed);
        counted = bound-goes_on t.full t.capacity t.at (end_of run) t.written run.count
            (omega (arith, from)) order.counted;
      };
      written = written-grows c d log base snap t.full run.first run.count t.written all
          (written-passes c d log base snap t.full t.at run.first t.written from none fits.written);
      full = fits.full;
      partial = fits.partial;
    }

-- ---- a flush

pub flushed-fits : (c d : ℕ) (log : List Entry) (base : Option Base) (snap : Snapped)
    (t : StageState)
    → StageFits c d log base snap t → MayFlush (blocks_asked c d log base snap t.full) t
    → StageFits c d log base snap (at_its_end t)
flushed-fits c d log base snap t fits may =
    let order = fits.order in
    let sized = fits.sized in
    let passed = order.passed in
    let all = may.all in
    record {
      unfinished = fits.unfinished;
      sized = sized;
      order = record {
        passed = omega (arith, all);
        within = order.within;
        ended = λ flushed. refl;
        counted = (let grown = bound-goes_on t.full t.capacity t.at t.capacity t.written 0
            (omega (arith, passed, all)) order.counted in
            let same : t.written + 0 ≡ t.written = omega arith in
            subst (λ n. n ≤ cond t.full (t.capacity + t.capacity) t.capacity) same grown);
      };
      written = subst (λ n. HasWritten c d log base snap t.full n t.written) all
          (written-passes c d log base snap t.full t.at t.covered t.written passed may.ready
          fits.written);
      full = fits.full;
      partial = fits.partial;
    }
