-- What a seat at the table of a lock knows, and what each kind of step makes of it.
-- A holder has the value out of the slot between two of its steps; its view stays as it is then.
use Rattle.std.specs.Prelude.{◌≡◌, ◌≢◌, ℕ, ◌+◌, ◌-◌, ◌%◌, ◌^◌, ◌<◌, List, [], ◌∷◌, ◌++◌, length, drop, Bool, true, false, ◌&&◌, ◌||◌, ◌==◌, if◌then◌else◌, Option, Some, None, is_some, unwrap_or}
use Rattle.atomic_table.specs.Table.{Step, Me}
use Rattle.basics.specs.Prefix.{IsPrefix}
use Rattle.turn_lock.specs.declared.view.Beginning.{Beginning}
use Rattle.turn_lock.specs.declared.view.EndedPass.{EndedPass}
use Rattle.turn_lock.specs.declared.view.JoinCheck.{JoinCheck}
use Rattle.turn_lock.specs.declared.view.Chief.{Chief}
use Rattle.turn_lock.specs.declared.view.View.{View}
use Rattle.turn_lock.specs.Story.{longer, added_by}

module _ {E : Type 0} where
  abbrev pub is_among : (number : ℕ) → List (EndedPass E) → Bool
  is_among number [] = false
  is_among number (p ∷ ps) = (p.number == number) || is_among number ps

  -- what the ended pass with this number had added, and nothing where none has it
  abbrev pub left_by : (number : ℕ) → List (EndedPass E) → List E
  left_by number [] = []
  left_by number (p ∷ ps) = if p.number == number then p.mine else left_by number ps

abbrev pub no_chief : {E : Type 0} → Chief E
no_chief = record { made = 0; out = 0; ended = []; due = None; joined = None }

-- how long the story was when the turn was made
abbrev pub start_of : {F : Type 0} → Option (Beginning F) → ℕ
start_of None = 0
start_of (Some b) = b.start

module _ {F E : Type 0} where
  -- a seat with this number whose pass has seen this much and added nothing
  abbrev pub newcomer : Option (Beginning F) → (number : ℕ) → (seen : List E) → Chief E → View F E
  newcomer beginning number seen chief = record {
    beginning = beginning;
    number = number;
    seen = seen;
    mine = [];
    ticket = None;
    holds = false;
    chief = chief;
  }

  -- the seat of a pass that was joined
  abbrev pub spent : View F E
  spent = newcomer None 0 [] no_chief

  abbrev pub is_live : View F E → Bool
  is_live v = is_some v.beginning

  abbrev pub waits : View F E → Bool
  waits v = is_live v && is_some v.ticket

  -- the steps of pass 0

  abbrev pub drawn : (number : ℕ) → View F E → View F E
  drawn number v =
      let c = v.chief in
      record v { chief = record c { made = c.made + 1; due = Some number } }

  abbrev pub parted : View F E → View F E
  parted v = let c = v.chief in record v { chief = record c { out = c.out + 1; due = None } }

  -- the new seat beside it, with the number that was drawn
  abbrev pub split_view : View F E → View F E
  split_view v = newcomer v.beginning (unwrap_or v.chief.due 0) v.seen no_chief

  -- a holder has seen the whole story already
  abbrev pub united_seen : View F E → View F E → List E
  united_seen v w = if v.holds then v.seen else longer v.seen w.seen

  -- pass 0 takes in another view, and keeps what is left to check
  abbrev pub united : View F E → View F E → View F E
  united v w = let c = v.chief in record v {
    seen = united_seen v w;
    chief = record c {
      out = c.out - 1;
      ended = c.ended ++ record { number = w.number; mine = w.mine } ∷ [];
      joined = Some (record {
        first = v.seen;
        other = w.seen;
        number = w.number;
        out = c.out;
        ended = c.ended;
      });
    };
  }

  abbrev pub checked : View F E → View F E
  checked v = let c = v.chief in record v { chief = record c { joined = None } }

  -- the steps of every pass

  abbrev pub queued : (ticket : ℕ) → View F E → View F E
  queued ticket v = record v { ticket = Some ticket }

  abbrev pub took : (story : List E) → View F E → View F E
  took story v = record v { seen = story; holds = true }

  abbrev pub gave : (story : List E) → View F E → View F E
  gave story v = record v {
    seen = story;
    mine = v.mine ++ drop (length v.seen) story;
    ticket = None;
    holds = false;
  }

-- What each step tells the thread that makes it. The slot 0 holds the value.
module _ {X F E : Type 0} (frame : X → F) (story : X → List E) (who : E → ℕ) where
  abbrev pub Knows : Type 1
  Knows = Step (Option X) → Me (Option X) (View F E) → ℕ → Me (Option X) (View F E) → Type 0

  -- the number is how many were drawn before, nobody has added an entry under it, and fewer
  -- passes are out
  abbrev pub DrawsNumber : Knows
  DrawsNumber step before found after =
      (before.0.chief.made ≡ found)
      × (after ≡ (drawn found before.0, before.1))
      × (before.0.chief.out < found)
      × (added_by who found (start_of before.0.beginning) before.0.seen ≡ [])

  -- both stories that were put together begin the longer one, in which the pass has its own
  -- entries and no others
  abbrev pub Compares : Knows
  Compares step before found after =
      (after ≡ (checked before.0, before.1))
      × ((j : JoinCheck E) → before.0.chief.joined ≡ Some j
      → IsPrefix j.first before.0.seen
      × IsPrefix j.other before.0.seen
      × (j.out ≡ before.0.chief.out + 1)
      × (j.number ≢ 0)
      × (is_among j.number j.ended ≡ false)
      × (added_by who before.0.number (start_of before.0.beginning) before.0.seen ≡ before.0.mine))

  -- tickets count without end, and the word shows them modulo 2^64
  abbrev pub DrawsTicket : Knows
  DrawsTicket step before found after =
      (ticket : ℕ) × (ticket % 2 ^ 64 ≡ found) × (after ≡ (queued ticket before.0, before.1))

  -- the value is out of the slot: it has the frame of the turn, its story goes on from what was
  -- seen, and the entries under the number of the pass are its own
  abbrev pub Holds : Me (Option X) (View F E) → Me (Option X) (View F E) → Type 0
  Holds before after =
      (x : X) × (b : Beginning F)
      × (after ≡ (took (story x) before.0, (0, Some x) ∷ before.1))
      × (before.0.beginning ≡ Some b)
      × (frame x ≡ b.frame)
      × IsPrefix before.0.seen (story x)
      × (added_by who before.0.number b.start (story x) ≡ before.0.mine)

  abbrev pub LooksAtServed : Knows
  LooksAtServed step before found after =
      (ticket : ℕ) → before.0.ticket ≡ Some ticket
      → (found ≡ ticket % 2 ^ 64 → Holds before after) × (found ≢ ticket % 2 ^ 64 → after ≡ before)

  abbrev pub Serves : Knows
  Serves step before found after =
      (x : X) → before.1 ≡ (0, Some x) ∷ [] → after ≡ (gave (story x) before.0, [])
