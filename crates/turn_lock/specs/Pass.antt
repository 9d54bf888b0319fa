-- What a pass stands for, and what ties its fields to the view of its seat.
use Rattle.std.specs.Prelude.{◌≡◌, ◌⊎◌, ℕ, ◌+◌, ◌-◌, ◌≤◌, ◌==◌, List, [], ◌∷◌, ◌++◌, length, drop, Bool, true, false, Option, Some, None, if◌then◌else◌}
use Rattle.atomic_table.specs.Seated.{TableId}
use Rattle.atomic_table.specs.Table.{Me}
use Rattle.turn_lock.specs.declared.view.Beginning.{Beginning}
use Rattle.turn_lock.specs.declared.view.View.{View}
use Rattle.turn_lock.specs.declared.view.TurnState.{TurnState}
use Rattle.turn_lock.specs.declared.view.PassState.{PassState}
use Rattle.turn_lock.specs.Story.{longer, added_by}
use Rattle.turn_lock.specs.View.{start_of, is_among, left_by}
use Rattle.turn_lock.specs.Turn.{name_of}

-- the turn whose table has this identity; a seat whose pass was joined has none
abbrev pub turn_of : {F : Type 0} → TableId → Option (Beginning F) → Option (TurnState F)
turn_of z None = None
turn_of z (Some b) = Some (record { name = name_of z; frame = b.frame; start = b.start })

module _ {F E : Type 0} where
  abbrev pub pass_state : TableId → View F E → PassState F E
  pass_state z v = record {
    turn = turn_of z v.beginning;
    number = v.number;
    holds = v.holds;
    seen = v.seen;
    mine = v.mine;
    made = v.chief.made;
    out = v.chief.out;
    ended = v.chief.ended;
  }

  -- between two calls: no number is drawn and not given, nothing is left to check, and the slot
  -- is out empty with a holder, and else not with this seat
  pub record IsPass {X : Type 0} (who : E → ℕ) (me : Me (Option X) (View F E))
      (number made out : ℕ) (holds : Bool) : Type 0 where
    pub number_is : me.0.number ≡ number
    pub made_is : me.0.chief.made ≡ made
    pub out_is : me.0.chief.out ≡ out
    pub holds_is : me.0.holds ≡ holds
    pub nothing_due : me.0.chief.due ≡ None
    pub nothing_to_check : me.0.chief.joined ≡ None
    pub carries : me.1 ≡ (if holds then (0, None) ∷ [] else [])
    pub ticketless : holds ≡ false → me.0.ticket ≡ None
    -- it has seen all that it added, and what the story was at the start
    pub reach : start_of me.0.beginning ≤ length me.0.seen
    pub known : added_by who number (start_of me.0.beginning) me.0.seen ≡ me.0.mine

  -- the turn of the pass has this name
  abbrev pub IsPassOf : PassState F E → (name : List ℕ) → Type 0
  IsPassOf pass name = (turn : TurnState F) × (pass.turn ≡ Some turn) × (turn.name ≡ name)

  -- the pass is of this turn, and doesn't hold it
  abbrev pub IsFreeAt : PassState F E → TurnState F → Type 0
  IsFreeAt pass turn = (pass.turn ≡ Some turn) × (pass.holds ≡ false)

  -- the number is that of pass 0 or of a pass that was joined
  abbrev pub IsOneOf : (number : ℕ) → PassState F E → Type 0
  IsOneOf number first = (number ≡ 0) ⊎ (is_among number first.ended ≡ true)

  -- what each number has past the turn's start: pass 0 its own entries, a joined pass those that
  -- it had, and any other none
  abbrev pub entries_of : (number : ℕ) → PassState F E → List E
  entries_of number first = if number == 0 then first.mine else left_by number first.ended

  -- the first pass of a turn whose value had this story
  abbrev pub first_pass : TurnState F → (story : List E) → PassState F E
  first_pass turn story = record {
    turn = Some turn;
    number = 0;
    holds = false;
    seen = story;
    mine = [];
    made = 1;
    out = 0;
    ended = [];
  }

  -- pass 0 after a split, and the pass that came from it
  abbrev pub split_first : PassState F E → PassState F E
  split_first first = record first { made = first.made + 1; out = first.out + 1 }

  abbrev pub split_off : PassState F E → PassState F E
  split_off first = record {
    turn = first.turn;
    number = first.made;
    holds = false;
    seen = first.seen;
    mine = [];
    made = 0;
    out = 0;
    ended = [];
  }

  -- pass 0 after it took in another
  abbrev pub joined_with : PassState F E → PassState F E → PassState F E
  joined_with first other = record first {
    seen = longer first.seen other.seen;
    out = first.out - 1;
    ended = first.ended ++ record { number = other.number; mine = other.mine } ∷ [];
  }

  -- a pass that took the turn at this story
  abbrev pub holding : (story : List E) → PassState F E → PassState F E
  holding story pass = record pass { holds = true; seen = story }

  -- a pass that gave the turn back with this story
  abbrev pub gave_back : (story : List E) → PassState F E → PassState F E
  gave_back story pass = record pass {
    holds = false;
    seen = story;
    mine = pass.mine ++ drop (length pass.seen) story;
  }
