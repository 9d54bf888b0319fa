-- What later entries leave of the places before them.
use Rattle.std.proofs.Common.{◌≡◌, ℕ, List, ◌++◌, take, drop, ap, arith}
use Rattle.std.proofs.lemmas.List.{take-append-le}
use Rattle.sector_model.specs.Run.{touched_blocks}
use Rattle.log_model.specs.declared.entry.Entry.{Entry}
use Rattle.log_model.specs.Entry.{writes_of, contents}
use Rattle.log_model.specs.Marks.{reading_of, epoch}
use Rattle.log_model.specs.Laws.{LaterEntriesKeepPlaces}
use Rattle.change_id.proofs.Counts.{epoch-append, epoch-le}

still-reset : (d place : ℕ) (log more : List Entry) → take place (log ++ more) ≡ take place log
    → (epoch d (take place log) ≡ epoch d log → ⊥)
    → epoch d (take place (log ++ more)) ≡ epoch d (log ++ more) → ⊥
still-reset d place log more front reset same =
    let low = epoch-le (reading_of d) place log in
    let longer = epoch-append (reading_of d) log more in
    let e : epoch d (take place (log ++ more)) ≡ epoch d (take place log) = ap (epoch d) front in
    reset (omega (arith, low, longer, e, same))

pub later_entries_keep_places : LaterEntriesKeepPlaces
later_entries_keep_places place log more le =
    let front : take place (log ++ more) ≡ take place log = take-append-le place log more le in
    record {
      contents_stay = λ c d. ap (contents c d) front;
      epoch_stays = λ d. ap (epoch d) front;
      touched_stay = λ c d from. ap
          (λ (xs : List Entry). touched_blocks c (writes_of d (drop from xs))) front;
      reset_stays = λ d reset. still-reset d place log more front reset;
    }
