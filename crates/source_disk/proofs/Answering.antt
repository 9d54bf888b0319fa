-- What a disk that stands for a log answers of its changes: what its tracker does, of which the
-- chain says which snapshots are live.
use Rattle.std.proofs.Common.{◌≡◌, ℕ, ◌+◌, nat_lt, slice_range, List, [], ◌∷◌, ◌++◌, true, false, not, cond, Option, Some, None, is_some, is_none, IfSome, Result, Ok, Err, IfOk, OnOk, subst, sym, ap, ◌∙◌}
use Rattle.std.specs.List.{list_any}
use Rattle.std.specs.Option.{option_map}
use Rattle.basics.specs.Refusal.{IsRefusedBy, IsRefusedOr}
use Rattle.sector_model.specs.Run.{areas_of}
use Rattle.sector_model.specs.declared.sector.Sector.{Sector}
use Rattle.sector_model.specs.Page.{PageContents, page_from}
use Rattle.sector_model.specs.declared.run.Run.{Run}
use Rattle.change_id.specs.declared.ChangeId.{ChangeId}
use Rattle.change_id.specs.declared.Since.{Since}
use Rattle.log_model.specs.declared.entry.Owner.{Owner}
use Rattle.log_model.specs.declared.entry.Act.TheVariants.{Snap}
use Rattle.log_model.specs.declared.entry.Entry.{Entry}
use Rattle.log_model.specs.Refusals.{is_live}
use Rattle.snapshot_chain.specs.Chain.{Snapshot, snapshot_of}
use Rattle.snapshot_chain.specs.Chain as chain
use Rattle.snapshot_chain.specs.declared.chain.ChainRefused.{ChainRefused}
use Rattle.snapshot_chain.specs.declared.chain.ChainRefused.TheVariants.{UnknownSnap as Unknown, NoMemory as ChainNoMemory}
use Rattle.change_tracker.specs.Tracker.{TrackerState}
use Rattle.change_tracker.specs.declared.refusals.TrackRefused.{TrackRefused}
use Rattle.change_tracker.specs.declared.refusals.TrackRefused.TheVariants.{UnknownSnap, Range}
use Rattle.change_tracker.specs.History as tracker
use Rattle.change_tracker.proofs.Histories as trackers
use Rattle.sector_model.specs.declared.NoMemory.{NoMemory}
use Rattle.source_disk.specs.Parts.{steps_of}
use Rattle.source_disk.specs.SourceDisk.{SourceDiskState, machine_of, number_of, capacity_of, has_snapshot, contents_of, with_freeze_room}
use Rattle.source_disk.specs.StandsFor.{StandsFor}
use Rattle.source_disk.specs.FromLog.{contents_told, allocated_told, id_told, changes_told}
use Rattle.source_disk.specs.Refusals.{read_refusal, snapshot_refusal, id_refusal, query_refusal}
use Rattle.source_disk.proofs.Steps as steps
use Rattle.std.proofs.lemmas.Result.{on_ok_weaker}
use Rattle.source_disk.proofs.Taking.{pushed_step}
use Rattle.source_disk.proofs.Holding.{IsTold, live_as, present_as, told_as}

-- ---- what is read

read_as : {T : Type 0} (d : SourceDiskState) (log : List Entry) (s first count : ℕ)
    (buf : List Sector) (result : Result T ChainRefused) (o : Option Snapshot)
    (rest : Option ChainRefused) → IfSome o (IsTold d log s)
    → IsRefusedBy (cond (is_none (option_map (λ x. x.contents) o)) (Some Unknown) rest) result
    → OnOk result (IfSome (option_map (λ x. x.contents) o)
    (λ xs. buf ≡ slice_range xs first (first + count)))
    → OnOk result (buf ≡ slice_range (contents_told (Some s) d log) first (first + count))
read_as d log s first count buf result None rest is refused ok = rw refused tt
read_as d log s first count buf result (Some x) rest is refused ok =
    on_ok_weaker result (λ same. same
    ∙ ap (λ (xs : List Sector). slice_range xs first (first + count)) is.contents) ok

pub read_told : {T : Type 0} (d : SourceDiskState) (id : Option ℕ) (first count : ℕ)
    (buf : List Sector) (result : Result T ChainRefused) (log : List Entry) → StandsFor d log
    → IsRefusedBy (read_refusal id first count d) result
    → OnOk result (IfSome (contents_of id d) (λ xs. buf ≡ slice_range xs first (first + count)))
    → OnOk result (buf ≡ slice_range (contents_told id d log) first (first + count))
read_told d None first count buf result log stands refused ok =
    on_ok_weaker result (λ same. same
    ∙ ap (λ (xs : List Sector). slice_range xs first (first + count)) (present_as d log stands))
    ok
read_told d (Some s) first count buf result log stands refused ok =
    read_as d log s first count buf result (snapshot_of s d.chain)
    (chain.write_refusal d.chain first count) (told_as d log s stands) refused ok

-- ---- what was allocated

pub blocks_as : {E : Type 0} (c : ℕ) (result : Result (List Run) E) (o : Option Snapshot)
    → IfOk result (λ runs. IfSome o (λ x. runs ≡ areas_of c x.blocks))
    → IfOk result (λ runs. IfSome (option_map (λ x. x.blocks) o)
    (λ blocks. runs ≡ areas_of c blocks))
blocks_as c (Ok runs) None ok = tt
blocks_as c (Ok runs) (Some x) ok = ok
blocks_as c (Err why) o ok = tt

allocated_as : (d : SourceDiskState) (log : List Entry) (s : ℕ)
    (result : Result (List Run) ChainRefused) (o : Option Snapshot) → IfSome o (IsTold d log s)
    → IsRefusedOr (cond (is_some o) None (Some Unknown)) ChainNoMemory result
    → IfOk result (λ runs. IfSome o (λ x. runs ≡ areas_of (capacity_of d) x.blocks))
    → IfOk result (λ runs. runs ≡ allocated_told s d log)
allocated_as d log s result None is refused ok = rw refused tt
allocated_as d log s (Ok runs) (Some x) is refused ok = ok ∙ is.areas
allocated_as d log s (Err why) (Some x) is refused ok = tt

pub allocated_by : (d : SourceDiskState) (s : ℕ) (result : Result (List Run) ChainRefused)
    (log : List Entry) → StandsFor d log
    → IsRefusedOr (snapshot_refusal s d) ChainNoMemory result
    → IfOk result (λ runs. IfSome (snapshot_of s d.chain)
    (λ x. runs ≡ areas_of (capacity_of d) x.blocks))
    → IfOk result (λ runs. runs ≡ allocated_told s d log)
allocated_by d s result log stands refused ok =
    allocated_as d log s result (snapshot_of s d.chain) (told_as d log s stands) refused ok

-- ---- a snapshot that isn't live

pub id_unknown : (d : SourceDiskState) (id : ℕ) (log : List Entry) → StandsFor d log
    → has_snapshot id d ≡ false → id_refusal id log ≡ Some UnknownSnap
id_unknown d id log stands gone =
    ap (λ live. cond live None (Some UnknownSnap)) (sym (live_as d log id stands) ∙ gone)

pub query_unknown : (d : SourceDiskState) (id : ℕ) (since : Since) (start : ℕ) (log : List Entry)
    → StandsFor d log → has_snapshot id d ≡ false
    → query_refusal id since start d log ≡ Some UnknownSnap
query_unknown d id since start log stands gone =
    ap (λ live. cond (not live) (Some UnknownSnap)
    (cond (not (nat_lt start (capacity_of d))) (Some Range)
    (tracker.strange_refusal (changes_told id since d log)))) (sym (live_as d log id stands)
    ∙ gone)

-- ---- a live one

module _ (d : SourceDiskState) (id : ℕ) (log : List Entry) (stands : StandsFor d log)
    (live : has_snapshot id d ≡ true) where
  live_now : is_live id log ≡ true
  live_now = sym (live_as d log id stands) ∙ live

  -- the tracker knows just what is live
  same_live : list_any (tracker.freezes id) (steps_of (number_of d) log) ≡ is_live id log
  same_live = steps.live_known id (number_of d) log live_now ∙ sym live_now

  pub id_refused : {T : Type 0} (result : Result T TrackRefused)
      → ((h : List tracker.TrackStep) → tracker.StandsFor d.tracker h
      → IsRefusedBy (tracker.snapshot_refusal id h) result)
      → IsRefusedBy (id_refusal id log) result
  id_refused result refused =
      let P : Option TrackRefused → Type 0 = λ why. IsRefusedBy why result in
      subst P (ap (λ live. cond live None (Some UnknownSnap)) same_live)
      (refused (steps_of (number_of d) log) stands.tracker)

  pub id_found : (result : Result (Option ChangeId) TrackRefused)
      → ((h : List tracker.TrackStep) → tracker.StandsFor d.tracker h
      → IfOk result (λ found. found ≡ tracker.id_at d.tracker.machine d.tracker.disk id h))
      → IfOk result (λ found. found ≡ id_told id d log)
  id_found result found =
      let P : Option ChangeId → Type 0 = λ is. IfOk result (λ found. found ≡ is) in
      subst P (steps.id_told (machine_of d) (number_of d) id log)
      (found (steps_of (number_of d) log) stands.tracker)

  module _ (since : Since) (start : ℕ) (result : Result (Unit {0}) TrackRefused) where
    same_answer : tracker.answered d.tracker.machine d.tracker.disk d.tracker.capacity id since
        (steps_of (number_of d) log) ≡ changes_told id since d log
    same_answer =
        ap (λ c. tracker.answered d.tracker.machine d.tracker.disk c id since
        (steps_of (number_of d) log)) stands.in_step.capacity
        ∙ steps.answer_told (machine_of d) (capacity_of d) (number_of d) id since log

    same_refusal : tracker.query_refusal d.tracker.machine d.tracker.disk d.tracker.capacity id
        since start (steps_of (number_of d) log) ≡ query_refusal id since start d log
    same_refusal i = cond (not (same_live i)) (Some UnknownSnap)
        (cond (not (nat_lt start (stands.in_step.capacity i))) (Some Range)
        (tracker.strange_refusal (same_answer i)))

    pub query_refused : ((h : List tracker.TrackStep) → tracker.StandsFor d.tracker h
        → IsRefusedBy (tracker.query_refusal d.tracker.machine d.tracker.disk d.tracker.capacity id
        since start h) result)
        → IsRefusedBy (query_refusal id since start d log) result
    query_refused refused =
        let P : Option TrackRefused → Type 0 = λ why. IsRefusedBy why result in
        subst P same_refusal (refused (steps_of (number_of d) log) stands.tracker)

    pub query_answers : (page : PageContents)
        → ((h : List tracker.TrackStep) → tracker.StandsFor d.tracker h
        → OnOk result (IfOk (tracker.answered d.tracker.machine d.tracker.disk d.tracker.capacity id
        since h) (λ areas. page ≡ page_from d.tracker.capacity areas start)))
        → OnOk result (IfOk (changes_told id since d log)
        (λ areas. page ≡ page_from (capacity_of d) areas start))
    query_answers page answers =
        let Sized : ℕ → Type 0 =
        λ c. OnOk result (IfOk
        (tracker.answered d.tracker.machine d.tracker.disk d.tracker.capacity id since
        (steps_of (number_of d) log)) (λ areas. page ≡ page_from c areas start)) in
        let Gives : Result (List Run) (Option ChangeId) → Type 0 =
        λ answer. OnOk result
        (IfOk answer (λ areas. page ≡ page_from (capacity_of d) areas start)) in
        subst Gives same_answer
        (subst Sized stands.in_step.capacity
        (answers (steps_of (number_of d) log) stands.tracker))

-- ---- the identifier that a freeze tells

pub named_by : (d : SourceDiskState) (id who : ℕ) (owner : Owner) (log : List Entry)
    → tracker.id_at d.tracker.machine d.tracker.disk id
    (steps_of (number_of d) log ++ tracker.Frozen id ∷ [])
    ≡ id_told id d (log ++ record { who = who; act = Snap id owner } ∷ [])
named_by d id who owner log =
    ap (tracker.id_at d.tracker.machine d.tracker.disk id)
    (sym (pushed_step (number_of d) log (record { who = who; act = Snap id owner })))
    ∙ steps.id_told (machine_of d) (number_of d) id
    (log ++ record { who = who; act = Snap id owner } ∷ [])

pub named_after : (d : SourceDiskState) (t : TrackerState) → t ≡ (with_freeze_room d).tracker
    → (id : ℕ) (result : Result (Option ChangeId) NoMemory)
    → ((h : List tracker.TrackStep) → tracker.StandsFor t h
    → IfOk result (λ told. told
    ≡ tracker.id_at t.machine t.disk id (h ++ tracker.Frozen id ∷ [])))
    → (log : List Entry) (who : ℕ) (owner : Owner) → StandsFor d log
    → IfOk result (λ told. told
    ≡ id_told id d (log ++ record { who = who; act = Snap id owner } ∷ []))
named_after d t reserved id result named log who owner stands =
    let h = steps_of (number_of d) log in
    let Stands : TrackerState → Type 0 = λ x. tracker.StandsFor x h in
    let Gives : Option ChangeId → Type 0 = λ is. IfOk result (λ told. told ≡ is) in
    subst Gives (ap (λ x. tracker.id_at x.machine x.disk id (h ++ tracker.Frozen id ∷ [])) reserved
    ∙ named_by d id who owner log)
    (named h (subst Stands (sym reserved)
    (trackers.room_is_no_part d.tracker h d.tracker.mark_room true stands.tracker)))
