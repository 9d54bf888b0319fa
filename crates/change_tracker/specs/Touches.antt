-- How touches are kept: under the number of each word, which is 64 blocks, the bits of the blocks
-- that were touched between two freezes, beside how many freezes came before.
use Rattle.std.specs.Prelude.{◌≡◌, ℕ, ◌/◌, ◌%◌, ◌<◌, ◌≤◌, ◌==◌, ◌&&◌, ◌||◌, nat_lt, nat_le, List, Bool, true, false, Option, Some, None, IsSomeAnd, IfSome}
use Rattle.std.specs.List.{list_any}
use Rattle.std.specs.Map.{lookup}
use Rattle.std.specs.Ordering.{nat_cmp}
use Rattle.std.specs.BTreeMap.{is_at}
use Rattle.basics.specs.Bits.{has_bit}
use Rattle.sector_model.specs.Run.{blocks_where, areas_of}
use Rattle.sector_model.specs.declared.run.Run.{Run}
use Rattle.change_tracker.specs.declared.word.Touch.{Touch}
use Rattle.change_tracker.specs.declared.word.Window.{Window}
use Rattle.change_tracker.specs.declared.word.TheConstants.{WORD_BLOCKS}

-- the touches of a word's blocks: those after the latest freeze for which a place was made, and the
-- earlier ones
pub record WordState : Type 0 where
  pub latest : Touch
  pub earlier : List Touch

-- the window has what is touched after this many freezes
abbrev pub is_inside : Window → (freezes : ℕ) → Bool
is_inside window freezes = nat_le window.from freezes && nat_lt freezes window.end

-- the touch is of the block at a place of the word, and inside the window
abbrev pub is_of : Window → (place : ℕ) → Touch → Bool
is_of window place touch = is_inside window touch.freezes && has_bit touch.bits place

-- the block at a place of the word was touched inside the window
abbrev pub touched_at : Window → (place : ℕ) → WordState → Bool
touched_at window place word =
    is_of window place word.latest || list_any (is_of window place) word.earlier

-- words under their numbers, in ascending order
abbrev pub TouchState : Type 0
TouchState = List (ℕ × WordState)

abbrev pub word_of : TouchState → (word : ℕ) → Option WordState
word_of touches word = lookup (is_at (nat_cmp word)) touches

abbrev pub touched_in : Window → (place : ℕ) → Option WordState → Bool
touched_in window place None = false
touched_in window place (Some word) = touched_at window place word

-- the block was touched inside the window
abbrev pub is_touched_in : TouchState → Window → (block : ℕ) → Bool
is_touched_in touches window block =
    touched_in window (block % WORD_BLOCKS) (word_of touches (block / WORD_BLOCKS))

-- the same blocks were touched, inside each window
abbrev pub HasSame : (old new : TouchState) → Type 0
HasSame old new = (window : Window) (block : ℕ)
    → is_touched_in new window block ≡ is_touched_in old window block

-- a touch of the word after this many freezes takes no memory
abbrev pub HasRoom : TouchState → (word freezes : ℕ) → Type 0
HasRoom touches word freezes =
    IsSomeAnd (word_of touches word) (λ w. w.latest.freezes ≡ freezes)

abbrev pub KeepsRoom : (old new : TouchState) (freezes : ℕ) → Type 0
KeepsRoom old new freezes = (word : ℕ) → HasRoom old word freezes → HasRoom new word freezes

-- no word was touched, and none has a place for touches, after more than this many freezes
abbrev pub NoneLater : TouchState → (freezes : ℕ) → Type 0
NoneLater touches freezes = (word : ℕ)
    → IfSome (word_of touches word) (λ w. w.latest.freezes ≤ freezes)

-- the blocks of a word that have these bits are touched too, after this many freezes
abbrev pub IsAdded : (old new : TouchState) (word freezes bits : ℕ) → Type 0
IsAdded old new word freezes bits = (window : Window) (block : ℕ)
    → is_touched_in new window block
    ≡ (is_touched_in old window block
    || (is_inside window freezes
    && (block / WORD_BLOCKS == word && has_bit bits (block % WORD_BLOCKS))))

-- a word was looked up: these are the bits of its blocks that were touched inside the window
abbrev pub IsSeen : TouchState → Window → (word bits : ℕ) → Type 0
IsSeen touches window word bits =
    (place : ℕ) → has_bit bits place ≡ touched_in window place (word_of touches word)

-- no word between the two has an entry
pub record IsAhead (touches : TouchState) (word next : ℕ) : Type 0 where
  pub from_on : word ≤ next
  pub between : (w : ℕ) → word ≤ w → w < next → word_of touches w ≡ None

-- the first block from one on that was touched inside the window
pub record IsFirst (touches : TouchState) (window : Window) (from block : ℕ) : Type 0 where
  pub from_on : from ≤ block
  pub passes : is_touched_in touches window block ≡ true
  pub earlier : (b : ℕ) → from ≤ b → b < block → is_touched_in touches window b ≡ false

-- the blocks of the disk that were touched inside the window
abbrev pub blocks_touched_in : (capacity : ℕ) → TouchState → Window → List ℕ
blocks_touched_in capacity touches window = blocks_where capacity (is_touched_in touches window)

-- their areas
abbrev pub areas_in : (capacity : ℕ) → TouchState → Window → List Run
areas_in capacity touches window = areas_of capacity (blocks_touched_in capacity touches window)
