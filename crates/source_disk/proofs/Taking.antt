-- What a disk that stands for a log stands for after one entry more, and that room is no part of
-- it.
use Rattle.std.proofs.Common.{◌≡◌, ℕ, ◌≤◌, List, [], ◌∷◌, ◌++◌, length, Bool, true, false, ◌||◌, cond, eqb, Option, Some, None, is_some, subst, sym, ap, refl, ◌∙◌, arith}
use Rattle.std.specs.List.{cons_option}
use Rattle.std.proofs.lemmas.Bool.{eq-eqb, false≢true, or_parts}
use Rattle.std.proofs.lemmas.List.{append-nil}
use Rattle.std.proofs.lemmas.List.Elements.{filter_map-append}
use Rattle.sector_model.specs.declared.sector.Sector.{Sector}
use Rattle.log_model.specs.declared.entry.Owner.{Owner}
use Rattle.log_model.specs.declared.entry.Act.{Act}
use Rattle.log_model.specs.declared.entry.Act.TheVariants.{Write, Snap, Remove, Reset, Enable}
use Rattle.log_model.specs.declared.entry.Entry.{Entry}
use Rattle.basics.proofs.Options.{none_is}
use Rattle.snapshot_chain.specs.Chain.{ChainState}
use Rattle.snapshot_chain.specs.History as chain
use Rattle.snapshot_chain.proofs.Histories as chains
use Rattle.change_tracker.specs.Tracker.{TrackerState}
use Rattle.change_tracker.specs.History as tracker
use Rattle.snapshot_chain.specs.Laws as chain_laws
use Rattle.change_tracker.specs.Laws as tracker_laws
use Rattle.change_tracker.proofs.Histories as trackers
use Rattle.source_disk.specs.Parts.{chain_event, track_step, events_of, steps_of}
use Rattle.source_disk.specs.SourceDisk.{SourceDiskState, number_of, after_writing, after_freezing, after_merging, after_enabling, after_reset, without_room, IsSameButRoom}
use Rattle.source_disk.specs.StandsFor.{StandsFor, Takes, concerns}

-- ---- the parts, after one entry more

pushed_event : (disk : ℕ) (log : List Entry) (e : Entry)
    → events_of disk (log ++ e ∷ []) ≡ events_of disk log ++ cons_option (chain_event disk e.act) []
pushed_event disk log e = filter_map-append (λ x. chain_event disk x.act) log (e ∷ [])

pub pushed_step : (disk : ℕ) (log : List Entry) (e : Entry)
    → steps_of disk (log ++ e ∷ []) ≡ steps_of disk log ++ cons_option (track_step disk e.act) []
pushed_step disk log e = filter_map-append (λ x. track_step disk x.act) log (e ∷ [])

chain_takes : (disk : ℕ) (log : List Entry) (e : Entry) (event : chain.DiskEvent)
    (old new : ChainState) → chain_event disk e.act ≡ Some event
    → chain.Takes event old new → chain.StandsFor old (events_of disk log)
    → chain.StandsFor new (events_of disk (log ++ e ∷ []))
chain_takes disk log e event old new is takes stands =
    subst (chain.StandsFor new)
    (sym (pushed_event disk log e
    ∙ ap (λ (o : Option chain.DiskEvent). events_of disk log ++ cons_option o []) is))
    (takes (events_of disk log) stands)

chain_passes : (disk : ℕ) (log : List Entry) (e : Entry) (chain' : ChainState)
    → chain_event disk e.act ≡ None
    → chain.StandsFor chain' (events_of disk log)
    → chain.StandsFor chain' (events_of disk (log ++ e ∷ []))
chain_passes disk log e chain' is stands =
    subst (chain.StandsFor chain')
    (sym (pushed_event disk log e
    ∙ ap (λ (o : Option chain.DiskEvent). events_of disk log ++ cons_option o []) is
    ∙ append-nil (events_of disk log))) stands

tracker_takes : (disk : ℕ) (log : List Entry) (e : Entry) (step : tracker.TrackStep)
    (old new : TrackerState) → track_step disk e.act ≡ Some step
    → tracker.Takes step old new → tracker.StandsFor old (steps_of disk log)
    → tracker.StandsFor new (steps_of disk (log ++ e ∷ []))
tracker_takes disk log e step old new is takes stands =
    subst (tracker.StandsFor new)
    (sym (pushed_step disk log e
    ∙ ap (λ (o : Option tracker.TrackStep). steps_of disk log ++ cons_option o []) is))
    (takes (steps_of disk log) stands)

tracker_passes : (disk : ℕ) (log : List Entry) (e : Entry) (tracker' : TrackerState)
    → track_step disk e.act ≡ None
    → tracker.StandsFor tracker' (steps_of disk log)
    → tracker.StandsFor tracker' (steps_of disk (log ++ e ∷ []))
tracker_passes disk log e tracker' is stands =
    subst (tracker.StandsFor tracker')
    (sym (pushed_step disk log e
    ∙ ap (λ (o : Option tracker.TrackStep). steps_of disk log ++ cons_option o []) is
    ∙ append-nil (steps_of disk log))) stands

-- ---- each act

own : {X : Type 0} (disk : ℕ) (x : X) → cond (eqb disk disk) (Some x) None ≡ Some x
own disk x = rw (eq-eqb disk disk refl) refl

pub takes_write : (first : ℕ) (sectors : List Sector) (old : SourceDiskState)
    → Takes (Write (number_of old) first sectors) old (after_writing first sectors old)
takes_write first sectors old log who stands =
    let e : Entry = record { who = who; act = Write (number_of old) first sectors } in
    record {
      in_step = record { capacity = stands.in_step.capacity; free_from = stands.in_step.free_from };
      chain = chain_takes (number_of old) log e
          (chain.Written (record { first = first; sectors = sectors })) old.chain
          (after_writing first sectors old).chain
          (own (number_of old) (chain.Written (record { first = first; sectors = sectors })))
          (chains.stands_written (record { first = first; sectors = sectors }) old.chain)
          stands.chain;
      tracker = tracker_takes (number_of old) log e
          (tracker.Marked (record { first = first; count = length sectors })) old.tracker
          (after_writing first sectors old).tracker
          (own (number_of old) (tracker.Marked (record { first = first; count = length sectors })))
          (trackers.stands_marked (record { first = first; count = length sectors })
          old.tracker) stands.tracker;
    }

pub takes_snap : (id : ℕ) (owner : Owner) (old : SourceDiskState) → old.chain.free_from ≤ id
    → Takes (Snap id owner) old (after_freezing id old)
takes_snap id owner old free log who stands =
    let e : Entry = record { who = who; act = Snap id owner } in
    let unused : old.tracker.free_from ≤ id = omega (arith, stands.in_step.free_from, free) in
    record {
      in_step = record { capacity = stands.in_step.capacity; free_from = refl };
      chain = chain_takes (number_of old) log e (chain.Frozen id) old.chain
          (after_freezing id old).chain refl (λ h was. chains.stands_frozen id old.chain h was free)
          stands.chain;
      tracker = tracker_takes (number_of old) log e (tracker.Frozen id) old.tracker
          (after_freezing id old).tracker refl (trackers.stands_frozen id old.tracker unused)
          stands.tracker;
    }

pub takes_remove : (id : ℕ) (old : SourceDiskState) → Takes (Remove id) old (after_merging id old)
takes_remove id old log who stands =
    let e : Entry = record { who = who; act = Remove id } in
    record {
      in_step = record { capacity = stands.in_step.capacity; free_from = stands.in_step.free_from };
      chain = chain_takes (number_of old) log e (chain.Merged id) old.chain
          (after_merging id old).chain refl (chains.stands_merged id old.chain) stands.chain;
      tracker = tracker_passes (number_of old) log e old.tracker refl stands.tracker;
    }

pub takes_enable : (old : SourceDiskState) → Takes Enable old (after_enabling old)
takes_enable old log who stands =
    let e : Entry = record { who = who; act = Enable } in
    record {
      in_step = record { capacity = stands.in_step.capacity; free_from = stands.in_step.free_from };
      chain = chain_passes (number_of old) log e old.chain refl stands.chain;
      tracker = tracker_takes (number_of old) log e tracker.Enabled old.tracker
          (after_enabling old).tracker refl (trackers.stands_enabled old.tracker) stands.tracker;
    }

pub takes_reset : (old : SourceDiskState) → Takes (Reset (number_of old)) old (after_reset old)
takes_reset old log who stands =
    let e : Entry = record { who = who; act = Reset (number_of old) } in
    record {
      in_step = record { capacity = stands.in_step.capacity; free_from = stands.in_step.free_from };
      chain = chain_passes (number_of old) log e old.chain refl stands.chain;
      tracker = tracker_takes (number_of old) log e tracker.Reset old.tracker
          (after_reset old).tracker (own (number_of old) tracker.Reset)
          (trackers.stands_reset old.tracker) stands.tracker;
    }

-- ---- an act that is none for the disk

pub others_pass : (d : SourceDiskState) (act : Act) → concerns (number_of d) act ≡ false
    → Takes act d d
others_pass d act none log who stands =
    let e : Entry = record { who = who; act = act } in
    let event = chain_event (number_of d) act in
    let step = track_step (number_of d) act in
    let neither = or_parts (is_some event) (is_some step) none in
    record {
      in_step = stands.in_step;
      chain = chain_passes (number_of d) log e d.chain (none_is event neither.0) stands.chain;
      tracker = tracker_passes (number_of d) log e d.tracker (none_is step neither.1)
          stands.tracker;
    }

-- ---- room

module _ (chain_room : chain_laws.RoomIsNoPart) (tracker_room : tracker_laws.RoomIsNoPart) where
  emptied : (d : SourceDiskState) (log : List Entry) → StandsFor d log
      → StandsFor (without_room d) log
  emptied d log stands = record {
    in_step = record { capacity = stands.in_step.capacity; free_from = stands.in_step.free_from };
    chain = chain_room d.chain (events_of (number_of d) log) false None stands.chain;
    tracker = tracker_room d.tracker (steps_of (number_of d) log) None false stands.tracker;
  }

  filled : (d : SourceDiskState) (log : List Entry) → StandsFor (without_room d) log
      → StandsFor d log
  filled d log stands = record {
    in_step = record { capacity = stands.in_step.capacity; free_from = stands.in_step.free_from };
    chain = chain_room (without_room d).chain (events_of (number_of d) log) d.chain.freeze_room
        d.chain.merge_room stands.chain;
    tracker = tracker_room (without_room d).tracker (steps_of (number_of d) log) d.tracker.mark_room
        d.tracker.freeze_room stands.tracker;
  }

  pub room_is_no_part : (old new : SourceDiskState) (log : List Entry) → IsSameButRoom old new
      → StandsFor old log → StandsFor new log
  room_is_no_part old new log same stands =
      let P : SourceDiskState → Type 0 = λ d. StandsFor d log in
      filled new log (subst P (sym same) (emptied old log stands))
