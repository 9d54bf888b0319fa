-- What the definitions say together. Each law is the contract of a public function of laws.rt whose
-- body does nothing. Those on stages speak of one stage and its volume at a log, so that whoever
-- has only these can use them; those on worlds are made of them.
use Rattle.std.specs.Prelude.{◌≡◌, ℕ, ◌<◌, ◌≤◌, ◌^◌, ◌⊎◌, List, ◌++◌, length, Bool, true, false, Option, Some, None, IsSome, is_none, Ok, Err, IsErr}
use Rattle.std.specs.Option.{ForSome}
use Rattle.std.specs.List.{list_any}
use Rattle.basics.specs.Prefix.{IsPrefix}
use Rattle.sector_model.specs.Run.{areas_of}
use Rattle.sector_model.specs.Page.{PageContents, page_from, LiesWithin}
use Rattle.sector_model.specs.VolumeContents.{VolumeContents, IsSized, IsFlushed, IsBrokenAt, DiffersOnlyWhereLoose, volume_flushed, volume_zeroed}
use Rattle.sector_model.specs.declared.run.Run.{Run}
use Rattle.change_id.specs.declared.ChangeId.{ChangeId}
use Rattle.log_model.specs.declared.entry.Entry.{Entry}
use Rattle.log_model.specs.declared.link.Snapped.{Snapped}
use Rattle.log_model.specs.Entry.{removes}
use Rattle.log_model.specs.Legal.{Legal, only}
use Rattle.log_model.specs.Marks.{HasId}
use Rattle.warm_core.specs.declared.disk_world.Base.{Base}
use Rattle.warm_core.specs.declared.event.Event.{Event}
use Rattle.warm_core.specs.declared.stage_state.StageState.{StageState}
use Rattle.warm_core.specs.StageState.{begun, IsInOrder, with_page, made_full, with_piece, at_its_end, IsPiece, MayAsk, MayCopy, MayZero, MayFlush, left_to_go}
use Rattle.warm_core.specs.Staged.{is_unfinished, disk_at, IsFullCopy, Staged, blocks_asked, answer, HasToBeFull, HasWritten, StageFits, StageHolds, with_copy}
use Rattle.warm_core.specs.World.{World, IsSnapOf, IsStart, IsSound, MayLose}
use Rattle.warm_core.specs.Events.{MayHappen, after, page_end_of, Follows}
use Rattle.warm_core.specs.Piece.{piece_of, Reaches, IsPageOf, MayBeNext}

-- ---- one stage and its volume

-- the log, the base and the snapshot that a stage works on fit one another
pub record IsGround (machine capacity disk : ℕ) (log : List Entry) (base : Option Base)
    (snap : Snapped) : Type 0 where
  pub small : capacity < 2 ^ 64
  pub legal : Legal (only disk capacity) log
  pub base_is : ForSome base (λ base. HasId machine disk base.id log base.mark)
  pub from_base : ForSome base (λ base. base.mark ≤ snap.mark)
  pub snap_is : IsSnapOf log snap

-- all that is known of a stage that runs and of its volume
pub record StageStands (capacity disk : ℕ) (log : List Entry) (base : Option Base) (snap : Snapped)
    (t : StageState) (v : VolumeContents) : Type 0 where
  pub sized : IsSized capacity v
  pub fits : StageFits capacity disk log base snap t
  pub holds : StageHolds capacity disk log base snap t v
  pub staged : Staged capacity disk log base (Some snap) v

-- what the steps of a stage leave of its numbers
pub record NumbersStay (machine capacity disk : ℕ) (log : List Entry) (base : Option Base)
    (snap : Snapped) (t : StageState) : Type 0 where
  pub answered : (areas : List Run) → MayAsk (blocks_asked capacity disk log base snap t.full) t
      → answer machine capacity disk log base snap t.full ≡ Ok areas
      → StageFits capacity disk log base snap
      (with_page (page_end_of capacity t.covered (Ok areas)) t)
  pub refused : (in_force : Option ChangeId)
      → MayAsk (blocks_asked capacity disk log base snap t.full) t → t.full ≡ false
      → answer machine capacity disk log base snap t.full ≡ Err in_force
      → StageFits capacity disk log base snap (made_full t)
  pub copied : (run : Run) → MayCopy (blocks_asked capacity disk log base snap t.full) run t
      → StageFits capacity disk log base snap (with_piece run t)
  pub zeroed : (run : Run) → MayZero (blocks_asked capacity disk log base snap t.full) run t
      → StageFits capacity disk log base snap (with_piece run t)
  pub flushed : MayFlush (blocks_asked capacity disk log base snap t.full) t
      → StageFits capacity disk log base snap (at_its_end t)
  pub entries : (more : List Entry) → Legal (only disk capacity) (log ++ more)
      → StageFits capacity disk (log ++ more) base snap t

abbrev pub StageNumbersStay : Type 0
StageNumbersStay = (machine capacity disk : ℕ) (log : List Entry) (base : Option Base)
    (snap : Snapped) (t : StageState) → IsGround machine capacity disk log base snap
    → StageFits capacity disk log base snap t
    → NumbersStay machine capacity disk log base snap t

-- and of all that is known of it and its volume
pub record StagesStay (machine capacity disk : ℕ) (log : List Entry) (base : Option Base)
    (snap : Snapped) (t : StageState) (v : VolumeContents) : Type 0 where
  pub answered : (areas : List Run) → MayAsk (blocks_asked capacity disk log base snap t.full) t
      → answer machine capacity disk log base snap t.full ≡ Ok areas
      → StageStands capacity disk log base snap
      (with_page (page_end_of capacity t.covered (Ok areas)) t) v
  pub refused : (in_force : Option ChangeId)
      → MayAsk (blocks_asked capacity disk log base snap t.full) t → t.full ≡ false
      → answer machine capacity disk log base snap t.full ≡ Err in_force
      → StageStands capacity disk log base snap (made_full t) v
  pub copied : (run : Run) → MayCopy (blocks_asked capacity disk log base snap t.full) run t
      → StageStands capacity disk log base snap (with_piece run t)
      (with_copy capacity disk snap.mark log run v)
  pub zeroed : (run : Run) → MayZero (blocks_asked capacity disk log base snap t.full) run t
      → StageStands capacity disk log base snap (with_piece run t)
      (volume_zeroed run.first run.count v)
  pub flushed : MayFlush (blocks_asked capacity disk log base snap t.full) t
      → StageStands capacity disk log base snap (at_its_end t) (volume_flushed v)
  pub entries : (more : List Entry) → Legal (only disk capacity) (log ++ more)
      → StageStands capacity disk (log ++ more) base snap t v
  -- a finished one is the base of what comes later
  pub done : (id : ChangeId) → t.flushed ≡ true
      → Staged capacity disk log (Some (record { mark = snap.mark; id = id })) (Some snap) v
  -- and a piece that broke leaves what a later stage begins with
  pub broken : (run : Run) (new : VolumeContents)
      → (MayCopy (blocks_asked capacity disk log base snap t.full) run t)
      ⊎ (MayZero (blocks_asked capacity disk log base snap t.full) run t)
      → IsBrokenAt run.first run.count v new
      → Staged capacity disk log base (Some snap) new

abbrev pub StagesWithVolumesStay : Type 0
StagesWithVolumesStay = (machine capacity disk : ℕ) (log : List Entry) (base : Option Base)
    (snap : Snapped) (t : StageState) (v : VolumeContents)
    → IsGround machine capacity disk log base snap
    → StageStands capacity disk log base snap t v
    → StagesStay machine capacity disk log base snap t v

-- a query answers a stage the areas of the blocks that it asks for, or that a partial one has to
-- become a full one: exactly where the disk was reset since the base. A page of the answer lies
-- within the disk.
abbrev pub IsAnswered : (machine capacity disk : ℕ) → List Entry → Option Base → Snapped
    → (full : Bool) → Type 0
IsAnswered machine capacity disk log base snap full =
    (answer machine capacity disk log base snap full
    ≡ Ok (areas_of capacity (blocks_asked capacity disk log base snap full)))
    ⊎ ((full ≡ false) × HasToBeFull disk log base snap
    × IsErr (answer machine capacity disk log base snap full))

pub record AnswersTell (machine capacity disk : ℕ) (log : List Entry) (base : Option Base)
    (snap : Snapped) (full : Bool) : Type 0 where
  pub answered : IsAnswered machine capacity disk log base snap full
  -- and not both
  pub told : (areas : List Run) → answer machine capacity disk log base snap full ≡ Ok areas
      → areas ≡ areas_of capacity (blocks_asked capacity disk log base snap full)
  pub strange : full ≡ false → HasToBeFull disk log base snap
      → IsErr (answer machine capacity disk log base snap full)
  pub pages : (start : ℕ) → start < capacity → LiesWithin capacity (page_from capacity
      (areas_of capacity (blocks_asked capacity disk log base snap full)) start)

abbrev pub StagesAreAnswered : Type 0
StagesAreAnswered = (machine capacity disk : ℕ) (log : List Entry) (base : Option Base)
    (snap : Snapped) (full : Bool) → IsGround machine capacity disk log base snap
    → is_unfinished base (Some snap) ≡ true → (full ≡ false → IsSome base)
    → AnswersTell machine capacity disk log base snap full

-- a stage that begins stands, over whatever is staged, where its snapshot is unfinished: a full one
-- where there is no base. Its numbers need nothing of a volume.
abbrev pub NumbersBegin : Type 0
NumbersBegin = (capacity disk : ℕ) (log : List Entry) (base : Option Base) (snap : Snapped)
    → is_unfinished base (Some snap) ≡ true
    → StageFits capacity disk log base snap (begun capacity (is_none base))

abbrev pub StagesBegin : Type 0
StagesBegin = (capacity disk : ℕ) (log : List Entry) (base : Option Base) (snap : Snapped)
    (v : VolumeContents) → IsSized capacity v
    → is_unfinished base (Some snap) ≡ true → Staged capacity disk log base (Some snap) v
    → StageStands capacity disk log base snap (begun capacity (is_none base)) v

-- what a stage that was flushed has written: as many sectors as it had to, and more only in a full
-- one that has a base, where the disk was reset since
pub record HasWrittenAll (capacity disk : ℕ) (log : List Entry) (base : Option Base)
    (snap : Snapped) (t : StageState) : Type 0 where
  pub written : HasWritten capacity disk log base snap t.full capacity t.written
  pub full : t.full ≡ true → HasToBeFull disk log base snap

abbrev pub WrittenAtEnd : Type 0
WrittenAtEnd = (capacity disk : ℕ) (log : List Entry) (base : Option Base) (snap : Snapped)
    (t : StageState) → StageFits capacity disk log base snap t → t.flushed ≡ true
    → HasWrittenAll capacity disk log base snap t

-- what a stage works on stays so under entries of the machine's log: it asks for the same blocks,
-- and its snapshot froze the same sectors
pub record GroundStays (machine capacity disk : ℕ) (log more : List Entry) (base : Option Base)
    (snap : Snapped) : Type 0 where
  pub ground : IsGround machine capacity disk (log ++ more) base snap
  pub asked : (full : Bool) → blocks_asked capacity disk (log ++ more) base snap full
      ≡ blocks_asked capacity disk log base snap full
  pub frozen : disk_at capacity disk snap.mark (log ++ more) ≡ disk_at capacity disk snap.mark log

abbrev pub GroundsStay : Type 0
GroundsStay = (machine capacity disk : ℕ) (log more : List Entry) (base : Option Base)
    (snap : Snapped) → IsGround machine capacity disk log base snap
    → Legal (only disk capacity) (log ++ more)
    → GroundStays machine capacity disk log more base snap

-- ---- what is staged, while no stage runs

-- entries of the machine's log leave it
abbrev pub EntriesStay : Type 0
EntriesStay = (capacity disk : ℕ) (log more : List Entry) (base : Option Base)
    (snap : Option Snapped) (v : VolumeContents)
    → ForSome base (λ base. base.mark ≤ length log)
    → ForSome snap (λ snap. snap.mark ≤ length log)
    → Staged capacity disk log base snap v → Staged capacity disk (log ++ more) base snap v

-- and so does a later snapshot that becomes the current one: where there was none, or one not
-- before the base, finished or not
abbrev pub LaterSnapshotsStay : Type 0
LaterSnapshotsStay = (capacity disk : ℕ) (log : List Entry) (base : Option Base)
    (old : Option Snapped) (new : Snapped) (v : VolumeContents)
    → is_unfinished base (Some new) ≡ true
    → ForSome old (λ old. ForSome base (λ base. base.mark ≤ old.mark) × (old.mark ≤ new.mark))
    → Staged capacity disk log base old v → Staged capacity disk log base (Some new) v

-- a snapshot that is finished may go
abbrev pub FinishedSnapshotsGo : Type 0
FinishedSnapshotsGo = (capacity disk : ℕ) (log : List Entry) (base : Base)
    (snap : Option Snapped) (v : VolumeContents) → is_unfinished (Some base) snap ≡ false
    → Staged capacity disk log (Some base) snap v → Staged capacity disk log (Some base) None v

-- over a finished snapshot the volume is just what the log up to the base leaves, and none of it is
-- loose
abbrev pub FinishedIsWhole : Type 0
FinishedIsWhole = (capacity disk : ℕ) (log : List Entry) (base : Base) (snap : Option Snapped)
    (v : VolumeContents) → Legal (only disk capacity) log → IsSized capacity v
    → is_unfinished (Some base) snap ≡ false → Staged capacity disk log (Some base) snap v
    → IsFlushed v × IsFullCopy capacity disk base.mark log v

-- and, of a snapshot taken while the machine was off, what the log up to the power-off leaves
abbrev pub WholeAtOffPlace : Type 0
WholeAtOffPlace = (capacity disk : ℕ) (log : List Entry) (snap : Snapped) (place : ℕ)
    (v : VolumeContents) → Legal (only disk capacity) log → IsSnapOf log snap
    → snap.off_place ≡ Some place → IsFullCopy capacity disk snap.mark log v
    → IsFullCopy capacity disk place log v

-- whatever the loose sectors hold, what is staged stays so
abbrev pub FillingsStay : Type 0
FillingsStay = (capacity disk : ℕ) (log : List Entry) (base : Option Base)
    (snap : Option Snapped) (old new : VolumeContents) → IsSized capacity old
    → Staged capacity disk log base snap old → DiffersOnlyWhereLoose old new
    → Staged capacity disk log base snap new

-- ---- how a stage goes on

-- at a page of its areas, what a stage does next may be done
abbrev pub PiecesMayBeNext : Type 0
PiecesMayBeNext = (blocks : List ℕ) (t : StageState) (page : PageContents)
    → t.capacity < 2 ^ 64 → IsInOrder t
    → (0 < t.covered → Reaches t page × IsPageOf blocks t page)
    → MayBeNext blocks t (piece_of t page)

-- each step of a stage leaves it less to go
pub record LeavesLess (t : StageState) : Type 0 where
  pub answered : (end : ℕ) → t.covered < end → end ≤ t.capacity
      → left_to_go (with_page end t) < left_to_go t
  pub refused : t.full ≡ false → left_to_go (made_full t) < left_to_go t
  pub piece : (run : Run) → IsPiece run t → left_to_go (with_piece run t) < left_to_go t
  pub flushed : t.flushed ≡ false → left_to_go (at_its_end t) < left_to_go t

abbrev pub StagesEnd : Type 0
StagesEnd = (t : StageState) → IsInOrder t → LeavesLess t

-- ---- worlds

abbrev pub StartsAreSound : Type 0
StartsAreSound = (w : World) → IsStart w → IsSound w

-- all that may happen to a sound world leaves it sound
abbrev pub EventsKeepSound : Type 0
EventsKeepSound = (event : Event) (w : World) → w.capacity < 2 ^ 64 → IsSound w
    → MayHappen event w → IsSound (after event w)

-- and so do entries at once
pub record MayAddAll (more : List Entry) (w : World) : Type 0 where
  pub legal : Legal (only w.disk w.capacity) (w.log ++ more)
  pub keeps : ForSome w.snap (λ snap. is_unfinished w.base (Some snap) ≡ true
      → list_any (λ entry. removes snap.id entry.act) more ≡ true → MayLose w)

abbrev pub EntriesKeepSound : Type 0
EntriesKeepSound = (more : List Entry) (w : World) → w.capacity < 2 ^ 64 → IsSound w
    → MayAddAll more w → IsSound (record w { log = w.log ++ more })

-- a world that was complete up to a place stays so: the volume is what the log up to that place
-- leaves, and nothing of it is loose
pub record StaysComplete (old new : World) (place : ℕ) : Type 0 where
  pub complete : new.complete ≡ Some place
  pub tight : IsFlushed new.volume
  pub same : IsFullCopy old.capacity old.disk place old.log new.volume

-- what events in a row leave
pub record GoesOn (old new : World) : Type 0 where
  pub machine : new.machine ≡ old.machine
  pub disk : new.disk ≡ old.disk
  pub capacity : new.capacity ≡ old.capacity
  pub log : IsPrefix old.log new.log
  pub complete : ForSome old.complete (StaysComplete old new)
  pub sound : IsSound new

-- whatever happens in a row to a sound world, it stays sound; a start world is one
abbrev pub LawOfTheCore : Type 0
LawOfTheCore = (events : List Event) (old new : World) → old.capacity < 2 ^ 64 → IsSound old
    → Follows events old new → GoesOn old new
