-- What holds of a lock between any two steps: one story, from which every pass has seen a
-- beginning, and in which each number has the entries of its own pass. Word 0 counts the numbers
-- drawn, word 1 the tickets drawn and word 2 the tickets served, both modulo 2^64.
use Rattle.std.specs.Prelude.{◌≡◌, ◌≢◌, ◌⊎◌, ◌↔◌, ℕ, ◌+◌, ◌%◌, ◌^◌, ◌<◌, ◌≤◌, List, [], ◌∷◌, length, Bool, true, false, ◌&&◌, not, Option, Some, None}
use Rattle.std.specs.List.{count_by}
use mathlib.Core.Option.{some, none}
use mathlib.Core.Option as maybe
use lib.ListN.{get_elem?}
use Rattle.atomic_table.specs.Table.{State}
use Rattle.basics.specs.Prefix.{IsPrefix}
use Rattle.turn_lock.specs.declared.pass.TheConstants.{MOST_NUMBERS}
use Rattle.turn_lock.specs.declared.view.Beginning.{Beginning}
use Rattle.turn_lock.specs.declared.view.EndedPass.{EndedPass}
use Rattle.turn_lock.specs.declared.view.JoinCheck.{JoinCheck}
use Rattle.turn_lock.specs.declared.view.Chief.{Chief}
use Rattle.turn_lock.specs.declared.view.View.{View}
use Rattle.turn_lock.specs.Story.{added_by}
use Rattle.turn_lock.specs.View.{newcomer, no_chief, is_live, waits, is_among, left_by}

-- where a number is: with a seat, among the joined, drawn and about to be given, or not drawn
pub data Whereabouts : Type 0 where
  seated : ℕ → Whereabouts
  ended : Whereabouts
  due : Whereabouts
  free : Whereabouts

module _ {E : Type 0} where
  -- no number is there twice
  abbrev pub are_different : List (EndedPass E) → Bool
  are_different [] = true
  are_different (p ∷ ps) = not (is_among p.number ps) && are_different ps

abbrev pub how_many : Option ℕ → ℕ
how_many None = 0
how_many (Some n) = 1

module _ {X F E : Type 0} (frame : X → F) (story_of : X → List E) where
  abbrev pub beginning_of : X → Beginning F
  beginning_of x = record { frame = frame x; start = length (story_of x) }

  -- the view of the first seat: one number is drawn, its own
  abbrev pub first_view : X → View F E
  first_view x =
      let chief : Chief E = no_chief in
      newcomer (Some (beginning_of x)) 0 (story_of x) (record chief { made = 1 })

module _ {X F E : Type 0} (frame : X → F) (story_of : X → List E) (who : E → ℕ) where
  module _ (b : Beginning F) (story : List E) where
    -- the live seat `id`, where so many tickets were served and so many seats wait
    pub record Fits (place : ℕ → Whereabouts) (line : ℕ → Option ℕ) (served waiting id : ℕ)
        (v : View F E) : Type 0 where
      pub begun : v.beginning ≡ Some b
      pub begins : IsPrefix v.seen story
      pub reach : b.start ≤ length v.seen
      -- the entries under its number are its own, and it has seen them all
      pub own : added_by who v.number b.start story ≡ v.mine
      pub known : added_by who v.number b.start v.seen ≡ v.mine
      pub sits : place v.number ≡ seated id
      -- no other seat has its ticket
      pub queues : (t : ℕ) → v.ticket ≡ Some t
          → (served ≤ t) × (t < served + waiting) × (line t ≡ Some id)
      pub holding : v.holds ≡ true → (v.ticket ≡ Some served) × (v.seen ≡ story)

    -- what pass 0 keeps of the others
    pub record Leads (place : ℕ → Whereabouts) (views : List (View F E))
        (c : Chief E) : Type 0 where
      pub limit : c.made ≤ MOST_NUMBERS
      pub room : c.out + 1 + how_many c.due ≤ c.made
      pub others : count_by is_live views ≡ c.out + 1
      pub undrawn : (n : ℕ) → (c.made ≤ n) ↔ (place n ≡ free)
      pub next : (n : ℕ) → (c.due ≡ Some n) ↔ (place n ≡ due)
      pub silent : (n : ℕ) → (place n ≡ free) ⊎ (place n ≡ due) → added_by who n b.start story ≡ []
      pub gone : (n : ℕ) → (is_among n c.ended ≡ true) ↔ (place n ≡ ended)
      pub once : are_different c.ended ≡ true
      pub left : (n : ℕ) → place n ≡ ended → added_by who n b.start story ≡ left_by n c.ended
      pub keeps : (j : JoinCheck E) → c.joined ≡ Some j
          → IsPrefix j.first story × IsPrefix j.other story × (j.out ≡ c.out + 1)
          × (j.number ≢ 0) × (is_among j.number j.ended ≡ false)

    -- the slot has a value with this story, or a seat that holds the turn has taken it out
    abbrev pub InSlot : List (maybe.Option (Option X)) → List (View F E) → Type 0
    InSlot homes views =
        ((x : X) × (homes ≡ some (Some x) ∷ []) × (frame x ≡ b.frame) × (story_of x ≡ story))
        ⊎ ((homes ≡ none ∷ [])
        × ((id : ℕ) × (v : View F E) × (get_elem? views id ≡ some v)
        × (is_live v ≡ true) × (v.holds ≡ true)))

  pub record RuleHolds (b : Beginning F) (s : State (Option X) (View F E)) : Type 0 where
    pub story : List E
    -- where each number is, which seat has each ticket, and how many tickets were served
    pub place : ℕ → Whereabouts
    pub line : ℕ → Option ℕ
    pub served : ℕ
    pub chief : Chief E
    pub words : s.words
        ≡ chief.made ∷ (served + count_by waits s.views) % 2 ^ 64 ∷ served % 2 ^ 64 ∷ []
    pub slot : InSlot b story s.homes s.views
    pub reaches : b.start ≤ length story
    -- seat 0 is that of pass 0
    pub some_seat : 0 < length s.views
    pub heads : (v : View F E) → get_elem? s.views 0 ≡ some v
        → (is_live v ≡ true) × (v.number ≡ 0) × (v.chief ≡ chief)
    pub seats : (id : ℕ) (v : View F E) → get_elem? s.views id ≡ some v → is_live v ≡ true
        → Fits b story place line served (count_by waits s.views) id v
    pub taken : (n id : ℕ) → place n ≡ seated id
        → (v : View F E) × (get_elem? s.views id ≡ some v) × (is_live v ≡ true) × (v.number ≡ n)
    pub leads : Leads b story place s.views chief
