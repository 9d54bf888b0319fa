-- What a log is to the chain of a disk: the same writes, the same live snapshots, and the same
-- events before each snapshot.
use Rattle.std.proofs.Common.{◌≡◌, ℕ, List, [], ◌∷◌, ◌++◌, take, Bool, true, false, not, ◌||◌, ◌&&◌, ◌==◌, cond, eqb, Option, Some, None, is_some, sym, ap, refl, ◌∙◌, inl, inr}
use Rattle.std.specs.List.{fold, filter, filter_map, cons_option, list_any}
use Rattle.std.proofs.lemmas.Bool.{cases_eq, eq-eqb, ne_eqb, eqb-true}
use Rattle.std.proofs.lemmas.List.Folds.{list_any-append}
use Rattle.std.proofs.lemmas.Map.Views.{any-filter_same}
use Rattle.std.proofs.Math.Bool.{or-false, or-true}
use Rattle.sector_model.specs.Disk.{Write as Replacement, fold_writes}
use Rattle.sector_model.specs.Run.{touched_blocks, areas_of}
use Rattle.change_id.specs.History.{Reading}
use Rattle.change_id.specs.Filtered.{passes, ReadTheSame}
use Rattle.change_id.proofs.Filtered.{read_the_same}
use Rattle.log_model.specs.declared.entry.Owner.{Owner}
use Rattle.log_model.specs.declared.entry.Act.{Act}
use Rattle.log_model.specs.declared.entry.Act.TheVariants.{Write, Snap, Remove, Reset, Enable, Off, On}
use Rattle.log_model.specs.declared.entry.Entry.{Entry}
use Rattle.log_model.specs.Entry.{write_to, writes_of, takes, contents}
use Rattle.log_model.specs.Legal.{owner_after, owner_after_act}
use Rattle.log_model.specs.Marks.{mark, before, takes_in}
use Rattle.log_model.specs.Frozen as log_frozen
use Rattle.log_model.specs.Touched.{touched_areas}
use Rattle.log_model.specs.Refusals as log_model
use Rattle.snapshot_chain.specs.History.{DiskEvent, Written, Frozen, Merged, write_in, freezes, writes_in, present, before_freeze, frozen, allocated, live_after, is_live}
use Rattle.source_disk.specs.Parts.{chain_event, events_of}

-- ---- writes

pub writes_told : (disk : ℕ) (log : List Entry)
    → writes_in (events_of disk log) ≡ writes_of disk log
writes_told disk [] = refl
writes_told disk (e ∷ log) = by e.act (writes_told disk log)
  where
    at : (b : Bool) (w : Replacement) → writes_in (events_of disk log) ≡ writes_of disk log
        → filter_map write_in (cons_option (cond b (Some (Written w)) None) (events_of disk log))
        ≡ cons_option (cond b (Some w) None) (writes_of disk log)
    at true w rest = ap (λ (ws : List Replacement). w ∷ ws) rest
    at false w rest = rest

    by : (act : Act) → writes_in (events_of disk log) ≡ writes_of disk log
        → filter_map write_in (cons_option (chain_event disk act) (events_of disk log))
        ≡ cons_option (write_to disk act) (writes_of disk log)
    by (Write other first sectors) rest =
        at (eqb other disk) (record { first = first; sectors = sectors }) rest
    by (Snap id owner) rest = rest
    by (Remove id) rest = rest
    by (Reset other) rest = rest
    by Enable rest = rest
    by Off rest = rest
    by On rest = rest

pub present_told : (c disk : ℕ) (log : List Entry)
    → present c (events_of disk log) ≡ contents c disk log
present_told c disk log = ap (fold_writes c) (writes_told disk log)

-- ---- live snapshots

-- whether the snapshot is among the live ones
abbrev is_among : (s : ℕ) → List ℕ → Bool
is_among s live = list_any (λ id. id == s) live

taken_too : (s id : ℕ) (owner : Owner) (live : List ℕ) (has : Option Owner)
    → is_among s live ≡ is_some has
    → is_among s (live ++ id ∷ []) ≡ is_some (cond (eqb id s) (Some owner) has)
taken_too s id owner live has same = list_any-append (λ k. k == s) live (id ∷ []) ∙ by (eqb id s)
  where
    by : (b : Bool) → (is_among s live || (b || false)) ≡ is_some (cond b (Some owner) has)
    by true = or-true (is_among s live)
    by false = or-false (is_among s live) ∙ same

gone_too : (s id : ℕ) (live : List ℕ) (has : Option Owner) → is_among s live ≡ is_some has
    → is_among s (filter (λ k. not (k == id)) live) ≡ is_some (cond (eqb id s) None has)
gone_too s id live has same =
    any-filter_same (λ k. k == s) (λ k. not (k == id)) (not (eqb id s)) one live ∙ by (eqb id s)
  where
    one : (k : ℕ) → (k == s) ≡ true → not (k == id) ≡ not (eqb id s)
    one k is = elim (cases_eq id s) [
      | inl here ↦ ap not (eq-eqb k id (eqb-true k s is ∙ sym here) ∙ sym (eq-eqb id s here))
      | inr other ↦ ap not (ne_eqb k id (λ at. other (sym at ∙ eqb-true k s is))
          ∙ sym (ne_eqb id s other))
    ]

    by : (b : Bool) → (not b && is_among s live) ≡ is_some (cond b None has)
    by true = refl
    by false = same

live_on : (s disk : ℕ) (live : List ℕ) (has : Option Owner) (log : List Entry)
    → is_among s live ≡ is_some has
    → is_among s (fold live_after live (events_of disk log))
    ≡ is_some (fold (owner_after s) has log)
live_on s disk live has [] same = same
live_on s disk live has (e ∷ log) same =
    by e.act (λ live' has' same'. live_on s disk live' has' log same')
  where
    at : (b : Bool) (w : Replacement)
        → is_among s (fold live_after live (events_of disk log))
        ≡ is_some (fold (owner_after s) has log)
        → is_among s (fold live_after live
        (cons_option (cond b (Some (Written w)) None) (events_of disk log)))
        ≡ is_some (fold (owner_after s) has log)
    at true w rest = rest
    at false w rest = rest

    by : (act : Act) → ((live' : List ℕ) (has' : Option Owner) → is_among s live' ≡ is_some has'
        → is_among s (fold live_after live' (events_of disk log))
        ≡ is_some (fold (owner_after s) has' log))
        → is_among s (fold live_after live
        (cons_option (chain_event disk act) (events_of disk log)))
        ≡ is_some (fold (owner_after s) (owner_after_act s has act) log)
    by (Write other first sectors) rest =
        at (eqb other disk) (record { first = first; sectors = sectors }) (rest live has same)
    by (Snap id owner) rest =
        rest (live ++ id ∷ []) (cond (eqb id s) (Some owner) has)
        (taken_too s id owner live has same)
    by (Remove id) rest =
        rest (filter (λ k. not (k == id)) live) (cond (eqb id s) None has)
        (gone_too s id live has same)
    by (Reset other) rest = rest live has same
    by Enable rest = rest live has same
    by Off rest = rest live has same
    by On rest = rest live has same

pub live_told : (s disk : ℕ) (log : List Entry)
    → is_live s (events_of disk log) ≡ log_model.is_live s log
live_told s disk log = live_on s disk [] None log refl

-- ---- what stands before a snapshot

-- to the tracking of the disk, of which a chain knows nothing, its events are snapshots alone
abbrev is_freeze : DiskEvent → Bool
is_freeze (Written write) = false
is_freeze (Frozen id) = true
is_freeze (Merged id) = false

abbrev chain_reading : Reading DiskEvent
chain_reading = record
    { is_snap = is_freeze; takes = freezes; resets = λ e. false; enables = λ e. false }

abbrev event : (disk : ℕ) → Entry → Option DiskEvent
event disk e = chain_event disk e.act

abbrev log_reading : (disk : ℕ) → Reading Entry
log_reading disk = record {
  is_snap = λ e. passes is_freeze (event disk e);
  takes = takes_in;
  resets = λ e. passes (λ x. false) (event disk e);
  enables = λ e. passes (λ x. false) (event disk e);
}

takes_told : (disk s : ℕ) (act : Act) → takes s act ≡ passes (freezes s) (chain_event disk act)
takes_told disk s (Write other first sectors) = by (eqb other disk)
  where
    by : (b : Bool) → false
        ≡ passes (freezes s) (cond b (Some (Written (record { first = first; sectors = sectors })))
        None)
    by true = refl
    by false = refl
takes_told disk s (Snap id owner) = refl
takes_told disk s (Remove id) = refl
takes_told disk s (Reset other) = refl
takes_told disk s Enable = refl
takes_told disk s Off = refl
takes_told disk s On = refl

told : (disk : ℕ) (log : List Entry) → ReadTheSame (event disk) (log_reading disk) chain_reading log
told disk log = read_the_same (event disk) (log_reading disk) chain_reading log (record {
  is_snap = λ e. refl;
  takes = λ s e. takes_told disk s e.act;
  resets = λ e. refl;
  enables = λ e. refl;
})

before_told : (s disk : ℕ) (log : List Entry)
    → before_freeze s (events_of disk log) ≡ events_of disk (before s log)
before_told s disk log =
    let same = told disk log in
    sym (same.upto (mark s log) ∙ ap (λ n. take n (events_of disk log)) (same.mark s))

pub frozen_told : (c s disk : ℕ) (log : List Entry)
    → frozen c s (events_of disk log) ≡ log_frozen.frozen c disk s log
frozen_told c s disk log =
    ap (present c) (before_told s disk log) ∙ present_told c disk (before s log)

pub areas_told : (c s disk : ℕ) (log : List Entry)
    → allocated c s (events_of disk log) ≡ touched_areas c disk 0 (mark s log) log
areas_told c s disk log =
    ap (λ h. areas_of c (touched_blocks c (writes_in h))) (before_told s disk log)
    ∙ ap (λ ws. areas_of c (touched_blocks c ws)) (writes_told disk (before s log))
