-- What the definitions say together. Each law is the contract of a public function of laws.rt whose
-- body does nothing. Laws on legal logs hold for a machine and for one disk alone.
use Rattle.std.specs.Prelude.{◌≡◌, ℕ, ◌+◌, ◌<◌, ◌≤◌, ◌^◌, List, Bool, [], ◌∷◌, ◌++◌, length, take, slice_get, true, false, ◌||◌, ◌&&◌, ◌⊎◌, ◌↔◌, Option, Some, None, Ok, Err}
use Rattle.std.specs.List.{flat_map, filter, list_any, All}
use Rattle.sector_model.specs.Run.{in_blocks, end_of, AreSpaced}
use Rattle.sector_model.specs.Page.{PageContents, page_from, ArePages, PagesTell, LiesWithin}
use Rattle.sector_model.specs.declared.run.Run.{Run}
use Rattle.sector_model.specs.declared.sector.Sector.{Sector}
use Rattle.change_id.specs.History as history
use Rattle.change_id.specs.HistoryLaws as laws
use Rattle.change_id.specs.declared.ChangeId.{ChangeId}
use Rattle.change_id.specs.declared.Since.{Since}
use Rattle.change_id.specs.declared.Since.TheVariants.{From}
use Rattle.log_model.specs.declared.entry.TheConstants.{MAX_LOG_ENTRIES, MIGRATION_CALLER}
use Rattle.log_model.specs.declared.entry.Owner.{Owner}
use Rattle.log_model.specs.declared.entry.Owner.TheVariants.{Migration}
use Rattle.log_model.specs.declared.entry.Act.{Act}
use Rattle.log_model.specs.declared.entry.Act.TheVariants.{Write, Snap, Remove, Reset, Enable, Off, On}
use Rattle.log_model.specs.declared.entry.Entry.{Entry}
use Rattle.log_model.specs.declared.folds.Tracking.TheVariants.{Active}
use Rattle.log_model.specs.Entry.{writes_of, contents, is_snap, is_off, takes, removes}
use Rattle.log_model.specs.Legal.{Disks, all_of, only, HasDisk, Legal, MayStand, ActsFor, machine_on, is_enabled, taken, owner_of}
use Rattle.log_model.specs.Marks.{reading_of, mark, before, epoch, number, tracking, in_force, id_at, mark_of_id, HasId}
use Rattle.log_model.specs.Frozen.{frozen, last_off, off_place}
use Rattle.log_model.specs.Touched.{between, touched, touched_areas}
use Rattle.log_model.specs.Query.{changed_areas, accepts}
use Rattle.log_model.specs.PlainMachine.{numbered_place}
use Rattle.log_model.specs.Refusals.{snap_refusal, remove_refusal, power_off_refusal, power_on_refusal, reset_refusal, enable_refusal, write_refusal}
use Rattle.log_model.specs.Link.{LinkState, IsCall, OnlyReads, FollowsFrom, is_by, with_entries}

-- a legal log stays legal under its prefixes, and grows by what may stand after it
abbrev pub PrefixesAreLegal : Type 0
PrefixesAreLegal = (disks : Disks) (log : List Entry) (n : ℕ)
    → Legal disks log → Legal disks (take n log)

abbrev pub LegalGrows : Type 0
LegalGrows = (disks : Disks) (log : List Entry) (e : Entry)
    → Legal disks log → length log < MAX_LOG_ENTRIES
    → MayStand disks log e → Legal disks (log ++ e ∷ [])

-- a log that is legal for a machine is legal for each of its disks
abbrev pub LegalForEachDisk : Type 0
LegalForEachDisk = (capacities : List ℕ) (disk capacity : ℕ) (log : List Entry)
    → HasDisk (all_of capacities) disk capacity
    → Legal (all_of capacities) log → Legal (only disk capacity) log

-- the last entry of a legal log might stand after those before it, and there was room for it
abbrev pub LegalGrew : Type 0
LegalGrew = (disks : Disks) (log : List Entry) (e : Entry) → Legal disks (log ++ e ∷ [])
    → MayStand disks log e × (length log < MAX_LOG_ENTRIES)

-- the act may stand after the log, and there is room for it
abbrev pub FitsBehind : (disks : Disks) (log : List Entry) (who : ℕ) → Act → Type 0
FitsBehind disks log who act =
    MayStand disks log (record { who = who; act = act }) × (length log < MAX_LOG_ENTRIES)

-- what no call refuses may stand
pub record AcceptedMayStand (capacities : List ℕ) (log : List Entry) (who : ℕ) : Type 0 where
  pub snap : (must_be_off : Bool) (owner : Owner) → ActsFor who owner
      → snap_refusal must_be_off log ≡ None
      → FitsBehind (all_of capacities) log who (Snap (taken log + 1) owner)
  pub remove : (owner : Owner) (id : ℕ) → remove_refusal who owner id log ≡ None
      → FitsBehind (all_of capacities) log who (Remove id)
  pub power_off : power_off_refusal log ≡ None → FitsBehind (all_of capacities) log who Off
  pub power_on : power_on_refusal log ≡ None → FitsBehind (all_of capacities) log who On
  pub reset : (disk : ℕ) → reset_refusal capacities disk log ≡ None
      → FitsBehind (all_of capacities) log who (Reset disk)
  pub enable : enable_refusal log ≡ None → FitsBehind (all_of capacities) log who Enable
  pub write : (disk first : ℕ) (sectors : List Sector)
      → write_refusal capacities disk first (length sectors) log ≡ None
      → FitsBehind (all_of capacities) log who (Write disk first sectors)

-- no write stands between the power-off place and its snapshot, so what the log up to it leaves is
-- what the snapshot froze
abbrev pub NoWriteWhileOff : Type 0
NoWriteWhileOff = (disks : Disks) (log : List Entry) (d s place : ℕ)
    → Legal disks log → off_place s log ≡ Some place
    → writes_of d (between place (mark s log) log) ≡ []

abbrev pub OffIsFrozen : Type 0
OffIsFrozen = (disks : Disks) (log : List Entry) (c d s place : ℕ)
    → Legal disks log → off_place s log ≡ Some place
    → contents c d (take place log) ≡ frozen c d s log

-- the number n has been given in the epoch that disk d has now, at this place, by a Snap entry
abbrev pub GivesNumber : (d n : ℕ) (log : List Entry) (place : ℕ) → Type 0
GivesNumber d n log place = history.GivesNumber (reading_of d) n log place

-- the numbers of one epoch are 1, 2 and so on: each of them up to the last is given, and none twice
abbrev pub NumbersHaveNoGap : Type 0
NumbersHaveNoGap = (d n : ℕ) (log : List Entry) → 1 ≤ n → n ≤ number d log
    → (place : ℕ) × GivesNumber d n log place

abbrev pub NumbersDiffer : Type 0
NumbersDiffer = (d n i k : ℕ) (log : List Entry) → 1 ≤ n
    → GivesNumber d n log i → GivesNumber d n log k → i ≡ k

-- so the place that is found for a number is that of the Snap entry that gave it
abbrev pub NumberedPlaceGives : Type 0
NumberedPlaceGives = (d n : ℕ) (log : List Entry) → 1 ≤ n → n ≤ number d log
    → GivesNumber d n log (numbered_place d n log)

-- of a snapshot that was taken, later entries leave the mark, the contents, the identifiers and the
-- power-off place
pub record LaterKeep (s : ℕ) (log more : List Entry) : Type 0 where
  pub mark_stays : mark s (log ++ more) ≡ mark s log
  pub contents_stay : (c d : ℕ) → frozen c d s (log ++ more) ≡ frozen c d s log
  pub id_stays : (machine d : ℕ) → id_at machine d s (log ++ more) ≡ id_at machine d s log
  pub off_place_stays : off_place s (log ++ more) ≡ off_place s log

abbrev pub LaterEntriesKeep : Type 0
LaterEntriesKeep = (s : ℕ) (log more : List Entry) → mark s log < length log
    → LaterKeep s log more

-- the places up to this one keep what was before them, whatever entries follow
pub record PlacesKeep (place : ℕ) (log more : List Entry) : Type 0 where
  pub contents_stay : (c d : ℕ)
      → contents c d (take place (log ++ more)) ≡ contents c d (take place log)
  pub epoch_stays : (d : ℕ) → epoch d (take place (log ++ more)) ≡ epoch d (take place log)
  pub touched_stay : (c d from : ℕ)
      → touched c d from place (log ++ more) ≡ touched c d from place log
  -- a disk that was reset since stays so
  pub reset_stays : (d : ℕ) → ¬ (epoch d (take place log) ≡ epoch d log)
      → ¬ (epoch d (take place (log ++ more)) ≡ epoch d (log ++ more))

abbrev pub LaterEntriesKeepPlaces : Type 0
LaterEntriesKeepPlaces = (place : ℕ) (log more : List Entry) → place ≤ length log
    → PlacesKeep place log more

-- the place of a Snap entry is its snapshot's mark, and the snapshot's number the next one there
pub record HasItsMark (s place : ℕ) (log : List Entry) : Type 0 where
  pub mark_is : mark s log ≡ place
  pub next : s ≡ taken (take place log) + 1

abbrev pub SnapsHaveTheirMarks : Type 0
SnapsHaveTheirMarks = (disks : Disks) (log : List Entry) (s place : ℕ) (e : Entry)
    → Legal disks log → slice_get log place ≡ Some e → takes s e.act ≡ true
    → HasItsMark s place log

-- each number up to that of the last snapshot was given to one, and marks ascend with numbers
abbrev pub EachWasTaken : Type 0
EachWasTaken = (disks : Disks) (log : List Entry) (s : ℕ) → Legal disks log
    → 1 ≤ s → s ≤ taken log → mark s log < length log

abbrev pub MarksAscend : Type 0
MarksAscend = (disks : Disks) (log : List Entry) (s t : ℕ) → Legal disks log
    → 1 ≤ s → s < t → t ≤ taken log → mark s log < mark t log

-- a live snapshot is one of those
pub record WasTaken (s : ℕ) (log : List Entry) : Type 0 where
  pub from : 1 ≤ s
  pub upto : s ≤ taken log
  pub within : mark s log < length log

abbrev pub LiveWasTaken : Type 0
LiveWasTaken = (disks : Disks) (log : List Entry) (s : ℕ) (owner : Owner)
    → Legal disks log → owner_of s log ≡ Some owner → WasTaken s log

-- where a machine is on, it has no power-off place; where it is off, it has one, of an Off entry
abbrev pub HasOffPlace : (on : Bool) (place : Option ℕ) (log : List Entry) → Type 0
HasOffPlace true place log = place ≡ None
HasOffPlace false place log = (p : ℕ) × (place ≡ Some p) × (p < length log)
    × ((e : Entry) → slice_get log p ≡ Some e → is_off e.act ≡ true)

abbrev pub OffHasPlace : Type 0
OffHasPlace = (log : List Entry) → HasOffPlace (machine_on log) (last_off log) log

-- a snapshot has an identifier for each disk exactly where an Enable entry stands before it
pub record IdsExist (s : ℕ) (log : List Entry) : Type 0 where
  pub enabled : (machine d : ℕ) → is_enabled (before s log) ≡ true
      → (id : ChangeId) × (id_at machine d s log ≡ Some id)
  pub never : (machine d : ℕ) → is_enabled (before s log) ≡ false
      → id_at machine d s log ≡ None

abbrev pub SnapshotsHaveIds : Type 0
SnapshotsHaveIds = (s : ℕ) (log : List Entry) → mark s log < length log → IdsExist s log

-- and so has one that is taken next, where tracking is enabled; where it is active, it is enabled
abbrev pub NextHasId : Type 0
NextHasId = (machine d : ℕ) (log : List Entry) (e : Entry) → is_enabled log ≡ true
    → is_snap e.act ≡ true → (id : ChangeId) × (in_force machine d (log ++ e ∷ []) ≡ Some id)

abbrev pub ActiveIsEnabled : Type 0
ActiveIsEnabled = (log : List Entry) → tracking log ≡ Active → is_enabled log ≡ true

-- a live snapshot of a migration stays live under its owner, whatever entries follow, unless one
-- under the number of the migrations' caller removes it
abbrev pub MigrationsKeepTheirs : Type 0
MigrationsKeepTheirs = (disks : Disks) (log more : List Entry) (s migration : ℕ)
    → Legal disks (log ++ more) → owner_of s log ≡ Some (Migration migration)
    → list_any (λ e. is_by MIGRATION_CALLER e && removes s e.act) more ≡ false
    → owner_of s (log ++ more) ≡ Some (Migration migration)

-- and none comes to be, unless one under that number takes it
abbrev pub MigrationsGetNone : Type 0
MigrationsGetNone = (disks : Disks) (log more : List Entry) (s migration : ℕ)
    → Legal disks (log ++ more) → owner_of s (log ++ more) ≡ Some (Migration migration)
    → list_any (λ e. is_by MIGRATION_CALLER e && takes s e.act) more ≡ false
    → owner_of s log ≡ Some (Migration migration)

-- so the live snapshots of a migration are the same after entries of others
abbrev pub OthersLeaveMigrations : Type 0
OthersLeaveMigrations = (disks : Disks) (log more : List Entry) (s migration : ℕ)
    → Legal disks (log ++ more) → filter (is_by MIGRATION_CALLER) more ≡ []
    → (owner_of s (log ++ more) ≡ Some (Migration migration))
    ↔ (owner_of s log ≡ Some (Migration migration))

-- what a query has answered it answers again, or says that the identifier is strange, whatever
-- entries follow
abbrev pub AnswersStay : Type 0
AnswersStay = (machine c d s : ℕ) (since : Since) (log more : List Entry) (areas : List Run)
    → mark s log < length log → changed_areas machine c d s since log ≡ Ok areas
    → (changed_areas machine c d s since (log ++ more) ≡ Ok areas)
    ⊎ (changed_areas machine c d s since (log ++ more) ≡ Err (in_force machine d (log ++ more)))

-- the identifier of the snapshot with this mark, asked at a snapshot s that isn't earlier
pub record AnswersBetween (machine c d place s : ℕ) (id : ChangeId) (log : List Entry)
    : Type 0 where
  -- answers what changed between the two marks, where the disk's epoch is still that of the mark
  pub accepted : epoch d (take place log) ≡ epoch d log
      → changed_areas machine c d s (From id) log
      ≡ Ok (touched_areas c d place (mark s log) log)
  -- and is strange where the disk was reset since
  pub strange : ¬ (epoch d (take place log) ≡ epoch d log)
      → changed_areas machine c d s (From id) log ≡ Err (in_force machine d log)

abbrev pub IdsAnswerBetween : Type 0
IdsAnswerBetween = (machine c d place s : ℕ) (id : ChangeId) (log : List Entry)
    → HasId machine d id log place → place ≤ mark s log → mark s log < length log
    → AnswersBetween machine c d place s id log

-- the place that a query since an accepted identifier starts from is the mark of its snapshot
abbrev pub NumberedPlaceIsMark : Type 0
NumberedPlaceIsMark = (machine d s : ℕ) (id : ChangeId) (log : List Entry)
    → accepts machine d s id log ≡ true
    → mark_of_id machine d id log ≡ Some (numbered_place d id.seq log)

-- the mark of an identifier is the one place of the snapshot that has it, and later entries leave
-- it
abbrev pub MarksOfIds : (machine d : ℕ) (id : ChangeId) (log : List Entry) → Type 0
MarksOfIds machine d id log = laws.MarksOfIds (reading_of d) machine d id log

-- the touched blocks between i and k are those between i and j and those between j and k
abbrev pub TouchedJoins : Type 0
TouchedJoins = (c d i j k : ℕ) (log : List Entry) (sector : ℕ) → i ≤ j → j ≤ k
    → in_blocks (touched c d i k log) sector
    ≡ (in_blocks (touched c d i j log) sector || in_blocks (touched c d j k log) sector)

-- a sector outside the touched blocks is the same before and after
abbrev pub UntouchedStays : Type 0
UntouchedStays = (disks : Disks) (c d i k : ℕ) (log : List Entry) (sector : ℕ)
    → Legal disks log → HasDisk disks d c → i ≤ k
    → in_blocks (touched c d i k log) sector ≡ false
    → slice_get (contents c d (take k log)) sector ≡ slice_get (contents c d (take i log)) sector

-- what a log leaves of a disk has the disk's capacity
abbrev pub ContentsAreSized : Type 0
ContentsAreSized = (disks : Disks) (c d : ℕ) (log : List Entry)
    → Legal disks log → HasDisk disks d c → length (contents c d log) ≡ c

-- the areas of an answer are ascending and apart, and end within the capacity; a page of them that
-- starts below the capacity lies within it
pub record AreAreas (c : ℕ) (areas : List Run) : Type 0 where
  pub spaced : AreSpaced areas
  pub within : All (λ r. end_of r ≤ c) areas
  pub pages : (start : ℕ) → start < c → LiesWithin c (page_from c areas start)

abbrev pub AnswersAreAreas : Type 0
AnswersAreAreas = (machine c d s : ℕ) (since : Since) (log : List Entry) (areas : List Run)
    → c < 2 ^ 64 → changed_areas machine c d s since log ≡ Ok areas → AreAreas c areas

-- the pages of an answer, each from the end of the one before, are the answer from the first one's
-- start on; from sector 0 on they are the answer
abbrev pub AnswerPagesJoin : Type 0
AnswerPagesJoin = (machine c d s : ℕ) (since : Since) (log : List Entry) (areas : List Run)
    → c < 2 ^ 64 → changed_areas machine c d s since log ≡ Ok areas → PagesTell c areas

abbrev pub AllPagesAreTheAnswer : Type 0
AllPagesAreTheAnswer = (machine c d s : ℕ) (since : Since) (log : List Entry)
    (areas : List Run) (pages : List PageContents)
    → c < 2 ^ 64 → changed_areas machine c d s since log ≡ Ok areas
    → ArePages c areas 0 pages → flat_map (λ p. p.areas) pages ≡ areas

-- calls in a row only go on, and what they add is the caller's
pub record CallsFollow (a b : LinkState) : Type 0 where
  pub no_call : FollowsFrom a a
  pub reads : OnlyReads a b → FollowsFrom a b
  pub call : (log added : List Entry) → filter (is_by a.caller) added ≡ added
      → IsCall log added a b → FollowsFrom a b
  pub in_a_row : (c : LinkState) → FollowsFrom a b → FollowsFrom b c → FollowsFrom a c

-- a call that only reads, before another, is part of that one
abbrev pub ReadsArePart : Type 0
ReadsArePart = (a b c : LinkState) (log added : List Entry)
    → OnlyReads a b → IsCall log added b c → IsCall log added a c

-- a call of a link to a machine that nobody else reaches meets the log as last seen, and what it
-- adds stands behind that
pub record CallsAlone (a b : LinkState) : Type 0 where
  pub met : (log added : List Entry) → IsCall log added a b → log ≡ a.seen
  pub adds : (log added : List Entry) → IsCall log added a b → b ≡ with_entries added a
  pub reads : OnlyReads a b → b ≡ a
