-- Slots of a layer, and the pages that are put there.
use Rattle.std.proofs.Common.{◌≡◌, ◌≢◌, ℕ, ◌+◌, ◌-◌, ◌*◌, ◌<◌, ◌≤◌, List, [], length, Bool, true, false, cond, Option, Some, None, IsSome, sym, ap, refl, ◌∙◌, arith, inl, inr, ◌⊎◌}
use Rattle.std.specs.Option.{option_or, option_map, unwrap_or}
use Rattle.std.specs.Prelude.{◌==◌}
use Rattle.std.proofs.lemmas.Bool.{cases_eq, cases_lt, eq-eqb, ne_eqb, false≢true}
use Rattle.sector_model.specs.declared.sector.Sector.{Sector}
use Rattle.snapshot_chain.specs.Page128.{PageState, no_sectors, sector_at, run_at, IsRewritten, IsGrown}
use Rattle.snapshot_chain.specs.Layer.{LayerState, slot_of, sector_of, sector_in, HasSame, IsWritten, IsWrittenOver, IsGrownAt, AreGrown, KeepsSlots, IsSlotAdded, AddsSlots, IsWithin, IsMerged, IsBlank, IsRoomAt, IsOpenAt, IsRoomFor, after_taking, TakesPages}
use Rattle.std.proofs.lemmas.Option.{slice_get_past}
use Rattle.snapshot_chain.proofs.Writes.{run_from}
use Rattle.snapshot_chain.proofs.Masks.{empty_none}
use Rattle.basics.proofs.Options.{or_none, neither}
use Rattle.snapshot_chain.proofs.Options.{over_some}

-- ---- slots that were added

added_same : (other old new : Option PageState) → IsSlotAdded other old new → (offset : ℕ)
    → sector_of new offset ≡ sector_of old offset
added_same other old new (inl same) offset = ap (λ (o : Option PageState). sector_of o offset) same
added_same other old new (inr (some, none, made)) offset =
    rw (made, none) (empty_none no_sectors offset refl)

pub slots_same : (other old new : LayerState) → AddsSlots other old new → HasSame old new
slots_same other old new added block offset within =
    added_same (slot_of other block) (slot_of old block) (slot_of new block) (added block) offset

added_kept : (other old new : Option PageState) → IsSlotAdded other old new → IsSome old
    → IsSome new
added_kept other old new (inl same) some = rw same some
added_kept other old new (inr (there, none, made)) some = absurd (false≢true (rw none at some))

added_of : (other old new : Option PageState) → IsSlotAdded other old new → IsSome new
    → (IsSome old) ⊎ (IsSome other)
added_of other old new (inl same) some = inl (rw same at some)
added_of other old new (inr (there, none, made)) some = inr there

pub slots_within : (c : ℕ) (other old new : LayerState) → AddsSlots other old new → IsWithin c other
    → IsWithin c old → IsWithin c new
slots_within c other old new added low up block some =
    elim
    (added_of (slot_of other block) (slot_of old block) (slot_of new block) (added block) some) [
      | inl was ↦ up block was
      | inr there ↦ low block there
    ]

-- one slot more
added_twice : (other start old new : Option PageState) → IsSome other → IsSlotAdded other start old
    → IsSlotAdded (Some no_sectors) old new → IsSlotAdded other start new
added_twice other start old new some (inl same) (inl step) = inl (step ∙ same)
added_twice other start old new some (inl same) (inr (there, none, made)) =
    inr (some, sym same ∙ none, made)
added_twice other start old new some (inr (there, none, made)) (inl step) =
    inr (there, none, step ∙ made)
added_twice other start old new some (inr (there, none, made)) (inr (gone, empty, again)) =
    absurd (cc)

pub one_slot_more : (other start old new : LayerState) (block : ℕ) → IsSome (slot_of other block)
    → AddsSlots other start old
    → IsSlotAdded (Some no_sectors) (slot_of old block) (slot_of new block)
    → ((b : ℕ) → b ≢ block → slot_of new b ≡ slot_of old b) → AddsSlots other start new
one_slot_more other start old new block some before here others b = elim (cases_eq b block) [
  | inl at ↦ rw at (added_twice (slot_of other block) (slot_of start block) (slot_of old block)
      (slot_of new block) some (before block) here)
  | inr apart ↦ rw (others b apart) (before b)
]

-- a slot that was there is there when another one changes
pub some_still : (old new : LayerState) (block : ℕ) → IsSome (slot_of new block)
    → ((b : ℕ) → b ≢ block → slot_of new b ≡ slot_of old b) → (b : ℕ) → IsSome (slot_of old b)
    → IsSome (slot_of new b)
some_still old new block here others b some = elim (cases_eq b block) [
  | inl at ↦ rw at here
  | inr apart ↦ rw (others b apart) some
]

-- ---- a write

pub written : (first : ℕ) (xs : List Sector) (old slots over new grown : LayerState)
    → AreGrown old first xs grown → AddsSlots grown old slots → IsWrittenOver slots over first xs
    → ((b : ℕ) → slot_of new b ≡ option_or (slot_of grown b) (slot_of over b))
    → IsWritten old new first xs
written first xs old slots over new grown are added overs puts block offset within =
    ap (λ (o : Option PageState). sector_of o offset) (puts block)
    ∙ by (slot_of grown block) (are block offset within)
  where
    by : (page : Option PageState) → IsGrownAt old block first xs offset page
        → sector_of (option_or page (slot_of over block)) offset
        ≡ option_or (run_at first xs (128 * block + offset)) (sector_in old block offset)
    by (Some page) is = is
    by None is = overs block offset within
        ∙ ap (option_map (unwrap_or (run_at first xs (128 * block + offset))))
        (slots_same grown old slots added block offset within)
        ∙ over_some (run_at first xs (128 * block + offset)) (sector_in old block offset) is

put_of : (page slot : Option PageState) → IsSome (option_or page slot)
    → (IsSome page) ⊎ (IsSome slot)
put_of None slot some = inr some
put_of (Some page) slot some = inl refl

pub written_within : (c : ℕ) (old slots over new grown : LayerState) → AddsSlots grown old slots
    → KeepsSlots over slots
    → ((b : ℕ) → slot_of new b ≡ option_or (slot_of grown b) (slot_of over b))
    → IsWithin c grown → IsWithin c old → IsWithin c new
written_within c old slots over new grown added kept puts more was block some =
    elim (put_of (slot_of grown block) (slot_of over block) (rw (puts block) at some)) [
      | inl page ↦ more block page
      | inr slot ↦ slots_within c grown old slots added more was block (kept block slot)
    ]

-- the pages of one block more
pub grown_some : (layer grown new : LayerState) (first : ℕ) (xs : List Sector) (n : ℕ)
    (page : PageState)
    → ((b offset : ℕ) → offset < 128 → b < n → IsGrownAt layer b first xs offset (slot_of grown b))
    → IsRewritten (sector_in layer n) n first xs page → slot_of new n ≡ Some page
    → ((b : ℕ) → b ≢ n → slot_of new b ≡ slot_of grown b) → (b offset : ℕ) → offset < 128
    → b < n + 1 → IsGrownAt layer b first xs offset (slot_of new b)
grown_some layer grown new first xs n page before made here others b offset within less =
    elim (cases_eq b n) [
      | inl at ↦ rw (at, here) (made offset within)
      | inr apart ↦ rw (others b apart) (before b offset within (omega (arith, less, apart)))
    ]

pub grown_none : (layer grown : LayerState) (first : ℕ) (xs : List Sector) (n : ℕ)
    → ((b offset : ℕ) → offset < 128 → b < n → IsGrownAt layer b first xs offset (slot_of grown b))
    → IsGrown (sector_in layer n) n first xs None → slot_of grown n ≡ None
    → (b offset : ℕ) → offset < 128 → b < n + 1
    → IsGrownAt layer b first xs offset (slot_of grown b)
grown_none layer grown first xs n before full none b offset within less = elim (cases_eq b n) [
  | inl at ↦ rw (at, none) (full offset within)
  | inr apart ↦ before b offset within (omega (arith, less, apart))
]

pub run_behind : (first : ℕ) (xs : List Sector) (s : ℕ) → first + length xs ≤ s
    → run_at first xs s ≡ None
run_behind first xs s past =
    run_from first xs s (omega (arith, past)) ∙ slice_get_past xs (s - first) (omega (arith, past))

pub grown_all : (layer grown : LayerState) (first : ℕ) (xs : List Sector) (n : ℕ)
    → ((b offset : ℕ) → offset < 128 → b < n → IsGrownAt layer b first xs offset (slot_of grown b))
    → ((b : ℕ) → n ≤ b → slot_of grown b ≡ None) → first + length xs ≤ 128 * n
    → AreGrown layer first xs grown
grown_all layer grown first xs n before behind past b offset within = elim (cases_lt b n) [
  | inl less ↦ before b offset within less
  | inr from ↦ rw (behind b from)
      (λ some. absurd (false≢true
      (rw (run_behind first xs (128 * b + offset) (omega (arith, from, past))) at some)))
]

-- ---- room for a merge

-- empty slots for the blocks of both layers
open_slot : (lower upper first room : Option PageState) → IsSlotAdded lower None first
    → IsSlotAdded upper first room → (IsSome lower → IsSome first) → (IsSome upper → IsSome room)
    → IsOpenAt lower upper room
open_slot None None first None one two low up = (refl, refl)
open_slot None (Some page) first None one two low up = absurd (false≢true (up refl))
open_slot (Some page) upper first None one two low up =
    absurd (false≢true (added_kept upper first None two (low refl)))
open_slot lower upper first (Some page) one two low up = inl (blank one two)
  where
    blank : IsSlotAdded lower None first → IsSlotAdded upper first (Some page) → page.mask ≡ 0
    blank (inl none) (inl same) = absurd (cc)
    blank (inr (there, none, made)) (inl same) =
        let e : ◌≡◌ {A = Option PageState} (Some page) (Some no_sectors) = same ∙ made in
        let f : page ≡ no_sectors = cc in ap (λ (p : PageState). p.mask) f
    blank one (inr (there, none, made)) = let f : page ≡ no_sectors = cc in
        ap (λ (p : PageState). p.mask) f

pub open_slots : (lower upper first room : LayerState) → AddsSlots lower [] first
    → AddsSlots upper first room → KeepsSlots lower first → KeepsSlots upper room
    → (b : ℕ) → IsOpenAt (slot_of lower b) (slot_of upper b) (slot_of room b)
open_slots lower upper first room one two low up b =
    open_slot (slot_of lower b) (slot_of upper b) (slot_of first b) (slot_of room b) (one b) (two b)
    (low b) (up b)

-- a block that the lower layer lacks needs no join
pub open_room : (upper room : Option PageState) → IsOpenAt None upper room
    → IsRoomAt None upper room
open_room upper None is = is
open_room upper (Some page) (inl empty) = inl (empty, inl tt)
open_room upper (Some page) (inr join) = inr join

pub room_open : (lower upper room : Option PageState) → IsRoomAt lower upper room
    → IsOpenAt lower upper room
room_open lower upper None is = is
room_open lower upper (Some page) (inl (empty, blank)) = inl empty
room_open lower upper (Some page) (inr join) = inr join

-- one block more
pub room_more : (lower upper old new : LayerState) (block : ℕ) (page : PageState)
    → slot_of lower block ≡ Some page
    → IsRoomAt (Some page) (slot_of upper block) (slot_of new block)
    → ((b : ℕ) → b ≢ block → slot_of new b ≡ slot_of old b) → (b : ℕ)
    → IsRoomAt (slot_of lower b) (slot_of upper b) (slot_of old b)
    → IsRoomAt (slot_of lower b) (slot_of upper b) (slot_of new b)
room_more lower upper old new block page met here others b was = elim (cases_eq b block) [
  | inl at ↦ rw (at, met) here
  | inr apart ↦ rw (others b apart) was
]

pub open_more : (lower upper old new : LayerState) (block : ℕ) (page : PageState)
    → slot_of lower block ≡ Some page
    → IsRoomAt (Some page) (slot_of upper block) (slot_of new block)
    → ((b : ℕ) → b ≢ block → slot_of new b ≡ slot_of old b) → (b : ℕ)
    → IsOpenAt (slot_of lower b) (slot_of upper b) (slot_of old b)
    → IsOpenAt (slot_of lower b) (slot_of upper b) (slot_of new b)
open_more lower upper old new block page met here others b was = elim (cases_eq b block) [
  | inl at ↦ rw (at, met) (room_open (Some page) (slot_of upper block) (slot_of new block) here)
  | inr apart ↦ rw (others b apart) was
]

pub room_each : (lower upper room : Option PageState) → (IsSome lower → IsRoomAt lower upper room)
    → IsOpenAt lower upper room → IsRoomAt lower upper room
room_each None upper room made is = open_room upper room is
room_each (Some page) upper room made is = made refl

pub room_within : (c : ℕ) (lower upper first start room : LayerState) → AddsSlots lower [] first
    → AddsSlots upper first start → KeepsSlots room start → IsWithin c lower → IsWithin c upper
    → IsWithin c room
room_within c lower upper first start room one two kept low up block some =
    slots_within c upper first start two up
    (slots_within c lower [] first one low (λ b none. absurd (false≢true none))) block
    (kept block some)

-- ---- a merge

blank_none : (page : Option PageState) (offset : ℕ) → IsBlank page → sector_of page offset ≡ None
blank_none None offset blank = refl
blank_none (Some page) offset blank = empty_none page offset blank

-- a page that is taken, or the one that stands
into_blank : (other : Option PageState) (page : PageState) (offset : ℕ) → page.mask ≡ 0
    → sector_of (after_taking other (Some page)) offset ≡ sector_of other offset
into_blank None page offset empty = empty_none page offset empty
into_blank (Some other) page offset empty =
    ap (λ (b : Bool). sector_of (cond b (Some other) (Some page)) offset) (eq-eqb page.mask 0 empty)

of_blank : (other : Option PageState) (page : PageState) (offset : ℕ) → IsBlank other
    → sector_of (after_taking other (Some page)) offset ≡ sector_at page offset
of_blank None page offset blank = refl
of_blank (Some other) page offset blank = elim (cases_eq page.mask 0) [
  | inl empty ↦ into_blank (Some other) page offset empty ∙ empty_none other offset blank
      ∙ sym (empty_none page offset empty)
  | inr some ↦ ap (λ (b : Bool). sector_of (cond b (Some other) (Some page)) offset)
      (ne_eqb page.mask 0 some)
]

full_stays : (other : Option PageState) (page : PageState) → page.mask ≢ 0
    → after_taking other (Some page) ≡ Some page
full_stays None page some = refl
full_stays (Some other) page some =
    ap (λ (b : Bool). cond b (Some other) (Some page)) (ne_eqb page.mask 0 some)

taken_some : (other : Option PageState) (page : PageState)
    → (made : PageState) × (after_taking other (Some page) ≡ Some made)
taken_some None page = (page, refl)
taken_some (Some other) page = by (page.mask == 0)
  where
    by : (b : Bool) → (made : PageState) × (cond b (Some other) (Some page) ≡ Some made)
    by true = (other, refl)
    by false = (page, refl)

merged_page : (lower upper : Option PageState) (page : PageState) (offset : ℕ) → offset < 128
    → IsRoomAt lower upper (Some page)
    → sector_of (after_taking lower (after_taking upper (Some page))) offset
    ≡ option_or (sector_of upper offset) (sector_of lower offset)
merged_page lower upper page offset within (inl (empty, inl blank)) =
    let up = taken_some upper page in
    ap (λ (o : Option PageState). sector_of (after_taking lower o) offset) up.1
    ∙ of_blank lower up.0 offset blank
    ∙ sym (ap (λ (o : Option PageState). sector_of o offset) up.1)
    ∙ into_blank upper page offset empty
    ∙ sym (ap (option_or (sector_of upper offset)) (blank_none lower offset blank)
    ∙ or_none (sector_of upper offset))
merged_page lower None page offset within (inl (empty, inr blank)) =
    into_blank lower page offset empty
merged_page lower (Some upper) page offset within (inl (empty, inr blank)) =
    ap (λ (b : Bool). sector_of (after_taking lower (cond b (Some upper) (Some page))) offset)
    (eq-eqb page.mask 0 empty)
    ∙ into_blank lower upper offset blank
    ∙ sym (ap (λ (o : Option Sector). option_or o (sector_of lower offset))
    (empty_none upper offset blank))
merged_page lower upper page offset within (inr join) = elim (cases_eq page.mask 0) [
  | inl empty ↦
      let none : (sector_of upper offset ≡ None) × (sector_of lower offset ≡ None) =
      neither (sector_of upper offset) (sector_of lower offset) (sym (join offset within)
      ∙ empty_none page offset empty) in
      let up = taken_some upper page in
      let clear : sector_at up.0 offset ≡ None =
      sym (ap (λ (o : Option PageState). sector_of o offset) up.1)
      ∙ into_blank upper page offset empty ∙ none.0 in
      ap (λ (o : Option PageState). sector_of (after_taking lower o) offset) up.1
      ∙ nothing_taken lower up.0 none.1 clear ∙ sym (rw (none.0, none.1) refl)
  | inr some ↦
      ap (λ (o : Option PageState). sector_of (after_taking lower o) offset)
      (full_stays upper page some)
      ∙ ap (λ (o : Option PageState). sector_of o offset) (full_stays lower page some)
      ∙ join offset within
]
  where
    nothing_taken : (other : Option PageState) (slot : PageState) → sector_of other offset ≡ None
        → sector_at slot offset ≡ None → sector_of (after_taking other (Some slot)) offset ≡ None
    nothing_taken None slot one two = two
    nothing_taken (Some other) slot one two = by (slot.mask == 0)
      where
        by : (b : Bool) → sector_of (cond b (Some other) (Some slot)) offset ≡ None
        by true = one
        by false = two

merged_slot : (lower upper room : Option PageState) (offset : ℕ) → offset < 128
    → IsRoomAt lower upper room
    → sector_of (after_taking lower (after_taking upper room)) offset
    ≡ option_or (sector_of upper offset) (sector_of lower offset)
merged_slot lower upper None offset within is = rw (is.0, is.1) refl
merged_slot lower upper (Some page) offset within is = merged_page lower upper page offset within is

pub merged_room : (lower upper room first new : LayerState) → IsRoomFor lower upper room
    → TakesPages upper room first → TakesPages lower first new → IsMerged lower upper new
merged_room lower upper room first new is one two block offset within =
    ap (λ (o : Option PageState). sector_of o offset)
    (two block ∙ ap (after_taking (slot_of lower block)) (one block))
    ∙ merged_slot (slot_of lower block) (slot_of upper block) (slot_of room block) offset within
    (is.each block)

taken_of : (other slot : Option PageState) → IsSome (after_taking other slot) → IsSome slot
taken_of None slot some = some
taken_of (Some page) None some = some
taken_of (Some page) (Some slot) some = refl

pub merged_room_within : (lower upper room first new : LayerState) → IsRoomFor lower upper room
    → TakesPages upper room first → TakesPages lower first new
    → (c : ℕ) → IsWithin c lower → IsWithin c upper → IsWithin c new
merged_room_within lower upper room first new is one two c low up block some =
    is.within c low up block
    (taken_of (slot_of upper block) (slot_of room block)
    (rw (one block) at (taken_of (slot_of lower block) (slot_of first block)
    (rw (two block) at some))))
