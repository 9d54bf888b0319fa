-- What a log is to the tracking of a disk: the same epochs, identifiers and answers.
use Rattle.std.proofs.Common.{◌≡◌, ℕ, ◌<◌, List, [], ◌∷◌, length, Bool, true, false, ◌||◌, cond, eqb, Option, Some, None, is_some, sym, ap, refl, ◌∙◌}
use Rattle.std.specs.List.{filter_map, cons_option, list_any, position_or_len}
use Rattle.std.proofs.lemmas.Bool.{false≢true}
use Rattle.std.proofs.lemmas.List.Folds.{list_any_at}
use Rattle.std.proofs.lemmas.List.Sums.{passes_at_first}
use Rattle.basics.proofs.Options.{some_value}
use Rattle.sector_model.specs.Disk.{Write as Replacement}
use Rattle.sector_model.specs.Run.{touches, blocks_where, areas_of}
use Rattle.sector_model.specs.declared.run.Run.{Run}
use Rattle.change_id.specs.History as history
use Rattle.change_id.specs.Filtered.{passes, ReadsAs, ReadTheSame, place_in}
use Rattle.change_id.proofs.Filtered.{read_the_same, answer_the_same}
use Rattle.change_id.specs.declared.Since.{Since}
use Rattle.log_model.specs.declared.entry.Owner.{Owner}
use Rattle.log_model.specs.declared.entry.Act.{Act}
use Rattle.log_model.specs.declared.entry.Act.TheVariants.{Write, Snap, Remove, Reset, Enable, Off, On}
use Rattle.log_model.specs.declared.entry.Entry.{Entry}
use Rattle.log_model.specs.Entry.{write_to, writes_of, is_snap, takes, resets, is_enable}
use Rattle.log_model.specs.Legal.{owner_of}
use Rattle.log_model.specs.Marks.{reading_of, id_at, epoch}
use Rattle.log_model.specs.Touched.{between, touched_areas}
use Rattle.log_model.specs.Query.{changed_areas}
use Rattle.log_model.specs.Refusals.{is_live}
use Rattle.log_model.proofs.Live.{live_taken}
use Rattle.change_tracker.specs.History.{TrackStep, Marked, Frozen, Enabled, Reset as Restarted, run_in, is_frozen, freezes, is_enabled, is_reset, reading, runs_between, areas_between, is_met, answered}
use Rattle.change_tracker.specs.History as tracker
use Rattle.source_disk.specs.Parts.{track_step, steps_of}

-- ---- each act is to the tracking what its step is

-- a write is a mark of its disk and nothing else, a reset one of its disk
unmarked : (test : TrackStep → Bool) (r : Run) → test (Marked r) ≡ false → (b : Bool)
    → false ≡ passes test (cond b (Some (Marked r)) None)
unmarked test r none true = sym none
unmarked test r none false = refl

unreset : (test : TrackStep → Bool) → test Restarted ≡ false → (b : Bool)
    → false ≡ passes test (cond b (Some Restarted) None)
unreset test none true = sym none
unreset test none false = refl

reset_told : (b : Bool) → b ≡ passes is_reset (cond b (Some Restarted) None)
reset_told true = refl
reset_told false = refl

snap_read : (disk : ℕ) (act : Act) → is_snap act ≡ passes is_frozen (track_step disk act)
snap_read disk (Write other first sectors) =
    unmarked is_frozen (record { first = first; count = length sectors }) refl (eqb other disk)
snap_read disk (Snap id owner) = refl
snap_read disk (Remove id) = refl
snap_read disk (Reset other) = unreset is_frozen refl (eqb other disk)
snap_read disk Enable = refl
snap_read disk Off = refl
snap_read disk On = refl

takes_read : (disk s : ℕ) (act : Act) → takes s act ≡ passes (freezes s) (track_step disk act)
takes_read disk s (Write other first sectors) =
    unmarked (freezes s) (record { first = first; count = length sectors }) refl (eqb other disk)
takes_read disk s (Snap id owner) = refl
takes_read disk s (Remove id) = refl
takes_read disk s (Reset other) = unreset (freezes s) refl (eqb other disk)
takes_read disk s Enable = refl
takes_read disk s Off = refl
takes_read disk s On = refl

resets_read : (disk : ℕ) (act : Act) → resets disk act ≡ passes is_reset (track_step disk act)
resets_read disk (Write other first sectors) =
    unmarked is_reset (record { first = first; count = length sectors }) refl (eqb other disk)
resets_read disk (Snap id owner) = refl
resets_read disk (Remove id) = refl
resets_read disk (Reset other) = reset_told (eqb other disk)
resets_read disk Enable = refl
resets_read disk Off = refl
resets_read disk On = refl

enables_read : (disk : ℕ) (act : Act) → is_enable act ≡ passes is_enabled (track_step disk act)
enables_read disk (Write other first sectors) =
    unmarked is_enabled (record { first = first; count = length sectors }) refl (eqb other disk)
enables_read disk (Snap id owner) = refl
enables_read disk (Remove id) = refl
enables_read disk (Reset other) = unreset is_enabled refl (eqb other disk)
enables_read disk Enable = refl
enables_read disk Off = refl
enables_read disk On = refl

abbrev step : (disk : ℕ) → Entry → Option TrackStep
step disk e = track_step disk e.act

reads : (disk : ℕ) → ReadsAs (step disk) (reading_of disk) reading
reads disk = record {
  is_snap = λ e. snap_read disk e.act;
  takes = λ s e. takes_read disk s e.act;
  resets = λ e. resets_read disk e.act;
  enables = λ e. enables_read disk e.act;
}

told : (disk : ℕ) (log : List Entry) → ReadTheSame (step disk) (reading_of disk) reading log
told disk log = read_the_same (step disk) (reading_of disk) reading log (reads disk)

pub epoch_told : (disk : ℕ) (log : List Entry)
    → history.epoch reading (steps_of disk log) ≡ epoch disk log
epoch_told disk log = sym (told disk log).epoch

pub id_told : (machine disk s : ℕ) (log : List Entry)
    → tracker.id_at machine disk s (steps_of disk log) ≡ id_at machine disk s log
id_told machine disk s log = sym ((told disk log).id_at machine disk s)

-- ---- what changed

met_told : (block disk : ℕ) (log : List Entry)
    → is_met block (filter_map run_in (steps_of disk log))
    ≡ list_any (touches block) (writes_of disk log)
met_told block disk [] = refl
met_told block disk (e ∷ log) = by e.act (met_told block disk log)
  where
    at : (b : Bool) (w : Replacement)
        → is_met block (filter_map run_in (steps_of disk log))
        ≡ list_any (touches block) (writes_of disk log)
        → is_met block (filter_map run_in
        (cons_option (cond b (Some
        (Marked (record { first = w.first; count = length w.sectors }))) None)
        (steps_of disk log)))
        ≡ list_any (touches block) (cons_option (cond b (Some w) None) (writes_of disk log))
    at true w rest = ap (λ x. touches block w || x) rest
    at false w rest = rest

    after_reset : (b : Bool)
        → is_met block (filter_map run_in (steps_of disk log))
        ≡ list_any (touches block) (writes_of disk log)
        → is_met block (filter_map run_in
        (cons_option (cond b (Some Restarted) None) (steps_of disk log)))
        ≡ list_any (touches block) (writes_of disk log)
    after_reset true rest = rest
    after_reset false rest = rest

    by : (act : Act) → is_met block (filter_map run_in (steps_of disk log))
        ≡ list_any (touches block) (writes_of disk log)
        → is_met block (filter_map run_in (cons_option (track_step disk act) (steps_of disk log)))
        ≡ list_any (touches block) (cons_option (write_to disk act) (writes_of disk log))
    by (Write other first sectors) rest =
        at (eqb other disk) (record { first = first; sectors = sectors }) rest
    by (Snap id owner) rest = rest
    by (Remove id) rest = rest
    by (Reset other) rest = after_reset (eqb other disk) rest
    by Enable rest = rest
    by Off rest = rest
    by On rest = rest

areas_told : (c disk from end : ℕ) (log : List Entry)
    → touched_areas c disk from end log
    ≡ areas_between c (place_in (step disk) from log) (place_in (step disk) end log)
    (steps_of disk log)
areas_told c disk from end log =
    (λ i. areas_of c (blocks_where c (λ block. sym (met_told block disk (between from end log)) i)))
    ∙ ap (λ steps. areas_of c (blocks_where c (λ block. is_met block (filter_map run_in steps))))
    ((told disk log).between from end)

pub answer_told : (machine c disk s : ℕ) (since : Since) (log : List Entry)
    → answered machine disk c s since (steps_of disk log) ≡ changed_areas machine c disk s since log
answer_told machine c disk s since log =
    sym (answer_the_same (step disk) (reading_of disk) reading log (reads disk)
    (λ from end. touched_areas c disk from end log)
    (λ from end. areas_between c from end (steps_of disk log))
    (λ from end. areas_told c disk from end log) machine disk s since)

-- ---- a live snapshot is known to the tracking

known : (s : ℕ) (steps : List TrackStep) → position_or_len (freezes s) steps < length steps
    → list_any (freezes s) steps ≡ true
known s steps less = list_any_at (freezes s) steps (position_or_len (freezes s) steps) Enabled less
    (passes_at_first (freezes s) steps Enabled less)

pub live_known : (s disk : ℕ) (log : List Entry) → is_live s log ≡ true
    → list_any (freezes s) (steps_of disk log) ≡ true
live_known s disk log is =
    let owner = some_value (owner_of s log) is in
    known s (steps_of disk log) (((told disk log).taken s).0 (live_taken log s owner.0 owner.1))
