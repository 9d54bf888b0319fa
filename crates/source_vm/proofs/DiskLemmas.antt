-- What a machine does to its disks, one after another.
use Rattle.std.proofs.Common.{◌≡◌, ◌≢◌, ℕ, ◌+◌, ◌<◌, ◌≤◌, ◌⊎◌, inl, inr, List, [], ◌∷◌, ◌++◌, length, get_or, set, true, false, Some, subst, sym, ap, refl, ◌∙◌, arith, take, length-set, length-append, length-take, get_or-take}
use Rattle.std.specs.List.{slice_get, All}
use Rattle.std.proofs.lemmas.Bool.{cases_lt, cases_eq}
use Rattle.std.proofs.lemmas.Option.{same_Some, slice_get_within, slice_get-get_or, get_or_from_slice_get}
use Rattle.basics.proofs.ItemAt.{slice_get-front, slice_get-last, slice_get-set_same, slice_get-set_other}
use Rattle.log_model.specs.declared.entry.Owner.{Owner}
use Rattle.log_model.specs.declared.entry.Act.{Act}
use Rattle.log_model.specs.declared.entry.Act.TheVariants.{Snap}
use Rattle.log_model.specs.declared.entry.Entry.{Entry}
use Rattle.log_model.specs.Legal.{Legal, Disks, capacity_of, taken}
use Rattle.log_model.specs.Refusals.{is_live}
use Rattle.source_disk.specs.SourceDisk.{SourceDiskState, machine_of, number_of, capacity_of as size_of, has_freeze_room, fresh, HasMergeRoom, IsSameButRoom}
use Rattle.source_disk.specs.StandsFor.{StandsFor, Takes, concerns}
use Rattle.source_disk.specs.Laws.{RoomIsNoPart, NextIsFree, OthersPass, StandingHolds}
use Rattle.source_vm.specs.Disks.{IsDisk, AreDisks, StillDisks, DisksTake, CanFreeze, HasSnap}

-- ---- a loop over the disks

-- the first disks were changed so, and the others are as they were
pub record Stepped (R : SourceDiskState → SourceDiskState
    → Type 0) (upto : ℕ) (old new : List SourceDiskState) : Type 0 where
  pub as_many : length new ≡ length old
  pub done : (k : ℕ) (o d : SourceDiskState) → k < upto → slice_get old k ≡ Some o
      → slice_get new k ≡ Some d → R o d
  pub rest : (k : ℕ) → upto ≤ k → slice_get new k ≡ slice_get old k

pub none_stepped : (R : SourceDiskState → SourceDiskState → Type 0) (old : List SourceDiskState)
    → Stepped R 0 old old
none_stepped R old = record {
  as_many = refl;
  done = λ k o d less _ _. absurd (omega arith);
  rest = λ k le. refl;
}

-- the next disk was changed too
pub one_more : (R : SourceDiskState → SourceDiskState
    → Type 0) (n : ℕ) (old new : List SourceDiskState) (item now : SourceDiskState)
    → Stepped R n old new → n < length old
    → R (get_or new n item) now → Stepped R (n + 1) old (set new n now)
one_more R n old new item now stepped less changed = record {
  as_many = length-set new n now ∙ stepped.as_many;
  done = λ k o d before at_old at_new. by k o d (cases_eq k n) before at_old at_new;
  rest = λ k le. slice_get-set_other new n k now (λ e. absurd (omega (arith, e)))
      ∙ stepped.rest k (omega arith);
}
  where
    inside : n < length new
    inside = omega (arith, less, stepped.as_many)

    by : (k : ℕ) (o d : SourceDiskState) → (k ≡ n) ⊎ (k ≢ n) → k < n + 1 → slice_get old k ≡ Some o
        → slice_get (set new n now) k ≡ Some d → R o d
    by k o d (inl same) before at_old at_new =
        let here : slice_get new n ≡ Some o =
        stepped.rest n (omega arith) ∙ ap (slice_get old) (sym same) ∙ at_old in
        let was : get_or new n item ≡ o = get_or_from_slice_get new n o item here in
        let is : now ≡ d = same_Some now d (sym (slice_get-set_same new n now inside)
        ∙ ap (slice_get (set new n now)) (sym same) ∙ at_new) in
        subst (λ (x : SourceDiskState). R x d) was (subst (R (get_or new n item)) is changed)
    by k o d (inr other) before at_old at_new =
        stepped.done k o d (omega (arith, before, other)) at_old
        (sym (slice_get-set_other new n k now (λ e. other (sym e))) ∙ at_new)

-- the disk that comes next is as it was
pub next_is : (R : SourceDiskState → SourceDiskState
    → Type 0) (n : ℕ) (old new : List SourceDiskState) (item : SourceDiskState)
    → Stepped R n old new → n < length old → get_or new n item ≡ get_or old n item
next_is R n old new item stepped less =
    get_or_from_slice_get new n (get_or old n item) item (stepped.rest n (omega arith)
    ∙ slice_get-get_or old n item less)

-- ---- what the changes of one disk are to all

-- one that is of the same machine, number and capacity
pub record SamePlace (o d : SourceDiskState) : Type 0 where
  pub machine : machine_of d ≡ machine_of o
  pub number : number_of d ≡ number_of o
  pub size : size_of d ≡ size_of o

pub record Took (act : Act) (o d : SourceDiskState) : Type 0 where
  pub place : SamePlace o d
  pub takes : Takes act o d

-- the snapshot of this id, whoever has it
abbrev pub TookSnap : (id : ℕ) (o d : SourceDiskState) → Type 0
TookSnap id o d = (owner : Owner) → Took (Snap id owner) o d

place_kept : (machine disk capacity : ℕ) (log more : List Entry) (o d : SourceDiskState)
    → SamePlace o d → IsDisk machine disk capacity log o → StandsFor d more
    → IsDisk machine disk capacity more d
place_kept machine disk capacity log more o d same is stands = record {
  of_machine = same.machine ∙ is.of_machine;
  numbered = same.number ∙ is.numbered;
  sized = same.size ∙ is.sized;
  stands = stands;
}

all_of_them : (R : SourceDiskState → SourceDiskState → Type 0) (machine upto : ℕ)
    (capacities : List ℕ) (log more : List Entry) (old new : List SourceDiskState)
    → Stepped R upto old new
    → ((k : ℕ) (o d : SourceDiskState) → k < length old → k < upto → R o d
    → IsDisk machine k (capacity_of capacities k) log o
    → IsDisk machine k (capacity_of capacities k) more d)
    → ((k : ℕ) (o : SourceDiskState) → k < length old → upto ≤ k
    → IsDisk machine k (capacity_of capacities k) log o
    → IsDisk machine k (capacity_of capacities k) more o)
    → AreDisks machine capacities log old → AreDisks machine capacities more new
all_of_them R machine upto capacities log more old new stepped changed left are = record {
  count = stepped.as_many ∙ are.count;
  each = λ k d at. by k d at (cases_lt k upto);
}
  where
    by : (k : ℕ) (d : SourceDiskState) → slice_get new k ≡ Some d → (k < upto) ⊎ (upto ≤ k)
        → IsDisk machine k (capacity_of capacities k) more d
    by k d at (inl less) =
        let inside : k < length old = omega (arith, slice_get_within new k d at, stepped.as_many) in
        let o : SourceDiskState = get_or old k d in
        let at_old : slice_get old k ≡ Some o = slice_get-get_or old k d inside in
        changed k o d inside less (stepped.done k o d less at_old at) (are.each k o at_old)
    by k d at (inr le) =
        let inside : k < length old = omega (arith, slice_get_within new k d at, stepped.as_many) in
        left k d inside le (are.each k d (sym (stepped.rest k le) ∙ at))

-- all of them took the act
pub all_took : (act : Act) (upto : ℕ) (old new : List SourceDiskState)
    → Stepped (Took act) upto old new → length old ≤ upto → DisksTake act old new
all_took act upto old new stepped all machine capacities log who are =
    let more : List Entry = log ++ record { who = who; act = act } ∷ [] in
    all_of_them (Took act) machine upto capacities log more old new stepped
    (λ k o d inside less took is. place_kept machine k (capacity_of capacities k) log more o d
    took.place is (took.takes log who is.stands))
    (λ k o inside le is. absurd (omega (arith, inside, le)))
    are

pub all_snapped : (id upto : ℕ) (old new : List SourceDiskState)
    → Stepped (TookSnap id) upto old new → length old ≤ upto → (owner : Owner)
    → DisksTake (Snap id owner) old new
all_snapped id upto old new stepped all owner =
    all_took (Snap id owner) upto old new
    (record {
      as_many = stepped.as_many;
      done = λ k o d less at_old at_new. stepped.done k o d
          less at_old at_new owner;
      rest = stepped.rest;
    }) all

-- nothing but room changed in some of them
pub same_place_but_room : (o d : SourceDiskState) → IsSameButRoom o d → SamePlace o d
same_place_but_room o d same = record {
  machine = ap (λ (x : SourceDiskState). machine_of x) same;
  number = ap (λ (x : SourceDiskState). number_of x) same;
  size = ap (λ (x : SourceDiskState). size_of x) same;
}

pub still_disks : RoomIsNoPart
    → (R : SourceDiskState → SourceDiskState → Type 0) (upto : ℕ) (old new : List SourceDiskState)
    → ((o d : SourceDiskState) → R o d → IsSameButRoom o d) → Stepped R upto old new
    → StillDisks old new
still_disks no_part R upto old new same stepped machine capacities log are =
    all_of_them R machine upto capacities log log old new stepped
    (λ k o d inside less changed is. place_kept machine k (capacity_of capacities k) log log o d
    (same_place_but_room o d (same o d changed)) is
    (no_part o d log (same o d changed) is.stands))
    (λ k o inside le is. is) are

-- one of them was changed last, in nothing but room
pub still_one : RoomIsNoPart → (n : ℕ) (disks : List SourceDiskState) (item now : SourceDiskState)
    → n < length disks → IsSameButRoom (get_or disks n item) now
    → StillDisks disks (set disks n now)
still_one no_part n disks item now less same machine capacities log are = record {
  count = length-set disks n now ∙ are.count;
  each = λ k d at. by k d at (cases_eq k n);
}
  where
    by : (k : ℕ) (d : SourceDiskState) → slice_get (set disks n now) k ≡ Some d → (k ≡ n) ⊎ (k ≢ n)
        → IsDisk machine k (capacity_of capacities k) log d
    by k d at (inl here) =
        let is : now ≡ d = same_Some now d (sym (slice_get-set_same disks n now less)
        ∙ ap (slice_get (set disks n now)) (sym here) ∙ at) in
        let old = are.each n (get_or disks n item) (slice_get-get_or disks n item less) in
        subst (λ (x : SourceDiskState). IsDisk machine k (capacity_of capacities k) log x) is
        (subst (λ (j : ℕ). IsDisk machine j (capacity_of capacities j) log now) (sym here)
        (place_kept machine n (capacity_of capacities n) log log (get_or disks n item) now
        (same_place_but_room (get_or disks n item) now same) old
        (no_part (get_or disks n item) now log same old.stands)))
    by k d at (inr other) =
        are.each k d (sym (slice_get-set_other disks n k now (λ e. other (sym e))) ∙ at)

pub still_then : (a b c : List SourceDiskState) → StillDisks a b → StillDisks b c → StillDisks a c
still_then a b c first second machine capacities log are =
    second machine capacities log (first machine capacities log are)

-- the disk has room for a snapshot, or for the merge of one
pub record GotFreezeRoom (o d : SourceDiskState) : Type 0 where
  pub same : IsSameButRoom o d
  pub room : has_freeze_room d ≡ true

pub record GotMergeRoom (id : ℕ) (o d : SourceDiskState) : Type 0 where
  pub same : IsSameButRoom o d
  pub room : HasMergeRoom id d

-- what holds of each disk that was changed holds of all of them in the end
pub holds_of_all : (R : SourceDiskState → SourceDiskState → Type 0) (P : SourceDiskState
    → Type 0) (upto : ℕ) (old new : List SourceDiskState) → Stepped R upto old new
    → length old ≤ upto
    → ((o d : SourceDiskState) → R o d → P d) → All P new
holds_of_all R P upto old new stepped all holds k d less =
    let inside : k < length old = omega (arith, less, stepped.as_many) in
    holds (get_or old k d) (get_or new k d)
    (stepped.done k (get_or old k d) (get_or new k d) (omega (arith, inside, all))
    (slice_get-get_or old k d inside) (slice_get-get_or new k d less))

-- ---- one disk alone

-- one disk took the act, and it concerns no other
pub one_took : OthersPass
    → (act : Act) (n : ℕ) (disks : List SourceDiskState) (item now : SourceDiskState)
    → n < length disks → Took act (get_or disks n item) now
    → ((k : ℕ) → k ≢ n → concerns k act ≡ false) → DisksTake act disks (set disks n now)
one_took pass act n disks item now less took others machine capacities log who are = record {
  count = length-set disks n now ∙ are.count;
  each = λ k d at. by k d at (cases_eq k n);
}
  where
    more : List Entry
    more = log ++ record { who = who; act = act } ∷ []

    by : (k : ℕ) (d : SourceDiskState) → slice_get (set disks n now) k ≡ Some d → (k ≡ n) ⊎ (k ≢ n)
        → IsDisk machine k (capacity_of capacities k) more d
    by k d at (inl here) =
        let is : now ≡ d = same_Some now d (sym (slice_get-set_same disks n now less)
        ∙ ap (slice_get (set disks n now)) (sym here) ∙ at) in
        let old = are.each n (get_or disks n item) (slice_get-get_or disks n item less) in
        subst (λ (x : SourceDiskState). IsDisk machine k (capacity_of capacities k) more x) is
        (subst (λ (j : ℕ). IsDisk machine j (capacity_of capacities j) more now) (sym here)
        (place_kept machine n (capacity_of capacities n) log more (get_or disks n item) now
        took.place old (took.takes log who old.stands)))
    by k d at (inr other) =
        let old = are.each k d (sym (slice_get-set_other disks n k now (λ e. other (sym e))) ∙ at)
        in
        let unconcerned : concerns (number_of d) act ≡ false =
        ap (λ j. concerns j act) old.numbered ∙ others k other in
        place_kept machine k (capacity_of capacities k) log more d d
        (record { machine = refl; number = refl; size = refl }) old
        (pass d act unconcerned log who old.stands)

-- an act that concerns no disk
pub none_took : OthersPass → (act : Act) (disks : List SourceDiskState)
    → ((k : ℕ) → concerns k act ≡ false) → DisksTake act disks disks
none_took pass act disks none machine capacities log who are = record {
  count = are.count;
  each = λ k d at.
      let old = are.each k d at in
      place_kept machine k (capacity_of capacities k) log
      (log ++ record { who = who; act = act } ∷ []) d d
      (record { machine = refl; number = refl; size = refl }) old
      (pass d act (none (number_of d)) log who old.stands);
}

-- ---- snapshots of all

pub all_have : StandingHolds
    → (id machine : ℕ) (capacities : List ℕ) (log : List Entry) (disks : List SourceDiskState)
    → is_live id log ≡ true → AreDisks machine capacities log disks → All (HasSnap id) disks
all_have holds id machine capacities log disks live are k d less =
    let is = are.each k (get_or disks k d) (slice_get-get_or disks k d less) in
    (holds (get_or disks k d) log is.stands).live id ∙ live

pub all_can_freeze : NextIsFree
    → (machine : ℕ) (disks' : Disks) (capacities : List ℕ) (log : List Entry)
    (disks : List SourceDiskState) → Legal disks' log → AreDisks machine capacities log disks
    → All (λ d. has_freeze_room d ≡ true) disks → All (CanFreeze (taken log + 1)) disks
all_can_freeze free machine disks' capacities log disks legal are room k d less = record {
  free = free disks' (get_or disks k d) log legal
      (are.each k (get_or disks k d) (slice_get-get_or disks k d less)).stands;
  room = room k d less;
}

-- ---- disks that are made

pub one_made : (machine n : ℕ) (capacities : List ℕ) (disks : List SourceDiskState)
    (d : SourceDiskState) → AreDisks machine (take n capacities) [] disks → n < length capacities
    → d ≡ fresh machine n (get_or capacities n 0) → StandsFor d []
    → AreDisks machine (take (n + 1) capacities) [] (disks ++ d ∷ [])
one_made machine n capacities disks d are less made stands = record {
  count = omega (
    arith,
    length-append disks (d ∷ []),
    are.count,
    length-take n capacities,
    length-take (n + 1) capacities,
  );
  each = λ k x at. by k x at (cases_lt k n);
}
  where
    many : length disks ≡ n
    many = omega (arith, are.count, length-take n capacities)

    by : (k : ℕ) (x : SourceDiskState) → slice_get (disks ++ d ∷ []) k ≡ Some x → (k < n) ⊎ (n ≤ k)
        → IsDisk machine k (capacity_of (take (n + 1) capacities) k) [] x
    by k x at (inl before) =
        let old = are.each k x (sym (slice_get-front disks (d ∷ []) k (omega (arith, many))) ∙ at)
        in
        record {
          of_machine = old.of_machine;
          numbered = old.numbered;
          sized = old.sized ∙ get_or-take n capacities k 0 before
              ∙ sym (get_or-take (n + 1) capacities k 0 (omega arith));
          stands = old.stands;
        }
    by k x at (inr behind) =
        let inside = slice_get_within (disks ++ d ∷ []) k x at in
        let here : k ≡ n = omega (arith, inside, length-append disks (d ∷ []), many) in
        let is : d ≡ x = same_Some d x (sym (slice_get-last disks d)
        ∙ ap (slice_get (disks ++ d ∷ [])) (many ∙ sym here) ∙ at) in
        subst (λ (y : SourceDiskState). IsDisk machine k (capacity_of (take (n + 1) capacities) k)
        [] y) is
        (record {
          of_machine = ap (λ (y : SourceDiskState). machine_of y) made;
          numbered = ap (λ (y : SourceDiskState). number_of y) made ∙ sym here;
          sized = ap (λ (y : SourceDiskState). size_of y) made
              ∙ ap (λ j. get_or capacities j 0) (sym here)
              ∙ sym (get_or-take (n + 1) capacities k 0 (omega arith));
          stands = stands;
        })
