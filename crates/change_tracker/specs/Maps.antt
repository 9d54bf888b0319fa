-- The two maps of a tracker, and what marking a run changes in them.
use Rattle.std.specs.Prelude.{◌≡◌, ℕ, ◌+◌, ◌/◌, ◌==◌, ◌&&◌, ◌||◌, nat_lt, Bool, true, false}
use Rattle.sector_model.specs.Run.{meets}
use Rattle.sector_model.specs.declared.run.Run.{Run}
use Rattle.change_tracker.specs.declared.maps.Maps.{Maps}
use Rattle.change_tracker.specs.declared.word.TheConstants.{WORD_BLOCKS}
use Rattle.change_tracker.specs.declared.word.Window.{Window}
use Rattle.change_tracker.specs.Touches.{is_touched_in, is_inside, HasRoom, HasSame, KeepsRoom, NoneLater}

abbrev pub window : (from end : ℕ) → Window
window from end = record { from = from; end = end }

-- both maps have the same touches
pub record HasSameTouches (old new : Maps) : Type 0 where
  pub first : HasSame old.first new.first
  pub changes : HasSame old.changes new.changes

-- a touch after this many freezes that has a place in the old maps has it in the new ones
pub record KeepsPlaces (freezes : ℕ) (old new : Maps) : Type 0 where
  pub first : KeepsRoom old.first new.first freezes
  pub changes : KeepsRoom old.changes new.changes freezes

-- in neither map a word was touched or has a place after more than this many freezes
pub record NoneTouchedLater (maps : Maps) (freezes : ℕ) : Type 0 where
  pub first : NoneLater maps.first freezes
  pub changes : NoneLater maps.changes freezes

-- the blocks that pass a test are touched after this many freezes: among the changes, and among the
-- touches since the beginning
pub record IsTouchedWhere (test : ℕ → Bool) (freezes : ℕ) (old new : Maps) : Type 0 where
  pub first : (end block : ℕ) → is_touched_in new.first (window 0 end) block
      ≡ (is_touched_in old.first (window 0 end) block || (nat_lt freezes end && test block))
  pub changes : (w : Window) (block : ℕ) → is_touched_in new.changes w block
      ≡ (is_touched_in old.changes w block || (is_inside w freezes && test block))

-- the run meets the block
abbrev pub is_met_by : Run → (block : ℕ) → Bool
is_met_by run block = meets block run.first run.count

-- and the block is in this word
abbrev pub is_met_in : (word : ℕ) → Run → (block : ℕ) → Bool
is_met_in word run block = block / WORD_BLOCKS == word && meets block run.first run.count

-- touching the block after this many freezes takes no memory: its word has its place among the
-- changes, and among the first touches, where the block is new there
pub record HasBlockRoom (maps : Maps) (freezes block : ℕ) : Type 0 where
  pub first : is_touched_in maps.first (window 0 (freezes + 1)) block ≡ false
      → HasRoom maps.first (block / WORD_BLOCKS) freezes
  pub changes : HasRoom maps.changes (block / WORD_BLOCKS) freezes

-- and so for each block that passes a test
abbrev pub HasRoomWhere : (test : ℕ → Bool) (maps : Maps) (freezes : ℕ) → Type 0
HasRoomWhere test maps freezes =
    (block : ℕ) → test block ≡ true → HasBlockRoom maps freezes block
