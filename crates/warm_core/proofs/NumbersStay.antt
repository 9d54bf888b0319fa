-- All steps of a stage leave what is known of its numbers.
use Rattle.std.proofs.Common.{ℕ, List, Option, Ok, sym, ◌∙◌, arith}
use Rattle.std.proofs.lemmas.Bool.{false≢true}
use Rattle.sector_model.specs.declared.run.Run.{Run}
use Rattle.log_model.specs.declared.entry.Entry.{Entry}
use Rattle.log_model.specs.declared.link.Snapped.{Snapped}
use Rattle.warm_core.specs.declared.disk_world.Base.{Base}
use Rattle.warm_core.specs.declared.stage_state.StageState.{StageState}
use Rattle.warm_core.specs.StageState.{MayZero, with_piece}
use Rattle.warm_core.specs.Staged.{blocks_asked, StageFits}
use Rattle.warm_core.specs.Events.{page_end_of}
use Rattle.warm_core.specs.Laws.{StageNumbersStay}
use Rattle.warm_core.proofs.Numbers.{answered-fits, refused-fits, piece-fits, flushed-fits}
use Rattle.warm_core.proofs.Answering.{page-ends, must-be-full, fits-later}

pub zeroed-fits : (c d : ℕ) (log : List Entry) (base : Option Base) (snap : Snapped)
    (t : StageState) (run : Run)
    → StageFits c d log base snap t → MayZero (blocks_asked c d log base snap t.full) run t
    → StageFits c d log base snap (with_piece run t)
zeroed-fits c d log base snap t run fits may =
    let next = may.is_next in
    piece-fits c d log base snap t run fits may.piece
    (λ s from less. absurd (omega (arith, next, from, less)))
    (λ partial. absurd (false≢true (sym partial ∙ may.full)))

pub numbers_stay : StageNumbersStay
numbers_stay machine c d log base snap t ground fits = record {
  answered = λ areas ask ok.
      let ends = page-ends machine c d log base snap t.full areas t.covered ground.small ok
      (let more = ask.more in let sized = fits.sized in omega (arith, more, sized)) in
      answered-fits c d log base snap t (page_end_of c t.covered (Ok areas)) fits ask
      (omega (arith, ends.0)) ends.1;
  refused = λ found ask partial err.
      refused-fits c d log base snap t fits ask.more partial
      (must-be-full machine c d log base snap t.full found ground fits.unfinished
      (fits.partial partial) partial err);
  copied = λ run may. piece-fits c d log base snap t run fits may.piece may.is_next
      (λ partial. may.in_area);
  zeroed = λ run may. zeroed-fits c d log base snap t run fits may;
  flushed = λ may. flushed-fits c d log base snap t fits may;
  entries = λ more legal. fits-later machine c d log more base snap t ground fits;
}
