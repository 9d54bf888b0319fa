-- What a reading answers, from what its steps do, and what the steps of a repair keep.
use Rattle.std.proofs.Common.{◌≡◌, ℕ, ◌+◌, ◌-◌, ◌<◌, ◌≤◌, ◌%◌, List, [], ◌∷◌, ◌++◌, length, take, refl, sym, ◌∙◌, ap, subst, ◌⊎◌, inl, inr, arith, append_assoc, length-append, length-take}
use Rattle.std.specs.Prelude.{Option, Some, None, option_map, IfSome, Ok, Err}
use Rattle.std.specs.Option.{ForSome}
use Rattle.std.specs.List.{AllByRecursion}
use Rattle.std.proofs.lemmas.Bool.{cases_lt}
use Rattle.std.proofs.Math.Seq.{take-append-add}
use Rattle.edge_traits.specs.Disk.{DiskContents, DiskState, IsImage, WhereTold, after_sync}
use Rattle.edge_traits.proofs.Images.{settled_image, settled_consistent}
use Rattle.record_codec.specs.declared.record.Record.{Record}
use Rattle.record_codec.specs.Record.{HasSpelling}
use Rattle.journal.specs.declared.cells.Found.{Found}
use Rattle.journal.specs.declared.format.TheConstants.{EMPTY_BYTES, MAX_BYTES, PIECE_BYTES}
use Rattle.journal.specs.declared.refusal.JournalRefused.{JournalRefused}
use Rattle.journal.specs.declared.refusal.JournalRefused.TheVariants.{DiskFault, NotAJournal, BadRecord, Full, NoMemory}
use Rattle.journal.specs.Format.{Standing, Holds, NotAJournal as NoJournal, BadRecord as BadAt, StandsFor, Short, Foreign, Parsed, StandsAs, front}
use Rattle.journal.specs.Cells.{IsFound}
use Rattle.journal.specs.Opening.{KeepsStanding, IsSyncedOrNot, IsFaultOffset, IsOpenOffset, Refuses, IsWhole}
use Rattle.journal.specs.Unrepaired.{IsReadAs, IsFoundIn}
use Rattle.journal.specs.Devices.{IsSettled, LeavesFew, LeavesCut, IsJustSynced, IsPieceOffset, IsFileRead}
use Rattle.journal.proofs.StandingLemmas.{stands_for_one, stands_closed, closed_in, none_in_short, short_alike}

itself : (c : DiskContents) → IsSettled c → IsImage c c.bytes
itself c is = subst (λ (d : DiskContents). IsImage d c.bytes) (sym is)
    (settled_consistent c.bytes).read

same_as : (image bytes : List ℕ) → image ≡ bytes → StandsAs image bytes
same_as image bytes is standing stands =
    subst (λ (xs : List ℕ). StandsFor xs standing) (sym is) stands

-- a sync keeps what the images stand for
pub synced_keeps : (old new : Option DiskContents) → new ≡ option_map after_sync old
    → IfSome old (λ c. IsImage c c.bytes) → WhereTold KeepsStanding old new
synced_keeps None new is possible = rw is tt
synced_keeps (Some c) new is possible =
    rw is (λ image i. (c.bytes, possible, same_as image c.bytes (settled_image c.bytes image i)))

same_keeps : (old new : Option DiskContents) → new ≡ old → WhereTold KeepsStanding old new
same_keeps None new is = rw is tt
same_keeps (Some c) new is = rw is (λ image i. (image, i, λ standing stands. stands))

-- one step after another
pub keeps_on : (old mid new : Option DiskContents) → WhereTold KeepsStanding old mid
    → WhereTold KeepsStanding mid new → WhereTold KeepsStanding old new
keeps_on None None None first second = tt
keeps_on None None (Some new) first second = second
keeps_on None (Some mid) new first second = absurd first
keeps_on (Some old) None new first second = absurd first
keeps_on (Some old) (Some mid) None first second = absurd second
keeps_on (Some old) (Some mid) (Some new) first second = λ image i.
    let later = second image i in
    let earlier = first later.0 later.1 in
    (earlier.0, earlier.1, λ standing stands. later.2 standing (earlier.2 standing stands))

-- a creation that was cut leaves few bytes
pub few_keeps : (old new : Option DiskContents) → ForSome old IsSettled
    → ForSome old (λ c. length c.bytes ≤ EMPTY_BYTES) → WhereTold (LeavesFew EMPTY_BYTES) old new
    → WhereTold KeepsStanding old new
few_keeps None None at_rest few leaves = tt
few_keeps None (Some new) at_rest few leaves = leaves
few_keeps (Some old) None at_rest few leaves = leaves
few_keeps (Some old) (Some new) at_rest few leaves = λ image i. (
  old.bytes,
  itself old (at_rest old refl),
  short_alike image old.bytes (leaves image i)
      (few old refl),
)

-- a cut leaves the records and their closed gate
cut_stands : (records : List Record) (bytes image : List ℕ) → EMPTY_BYTES < length bytes
    → length bytes ≤ MAX_BYTES → StandsFor bytes (Holds records)
    → length (front records) + 1 ≤ length image → image ≡ take (length image) bytes
    → StandsFor image (Holds records)
cut_stands records bytes image more small stands long is =
    let closed = closed_in bytes records more stands in
    let file : List ℕ = front records ++ closed.gate ∷ [] in
    let len : length file ≡ length (front records) + 1 =
    length-append (front records) (closed.gate ∷ []) in
    let count : ℕ = length image - length file in
    let split : length file + count ≡ length image = omega (arith, len, long) in
    let whole : bytes ≡ file ++ closed.tail =
    closed.split ∙ sym (append_assoc (front records) (closed.gate ∷ []) closed.tail) in
    let begins : image ≡ file ++ take count closed.tail =
    is ∙ ap (λ n. take n bytes) (sym split) ∙ ap (λ xs. take (length file + count) xs) whole
    ∙ take-append-add file closed.tail count in
    let shape : image ≡ front records ++ closed.gate ∷ take count closed.tail =
    begins ∙ append_assoc (front records) (closed.gate ∷ []) (take count closed.tail) in
    let short : length image ≤ MAX_BYTES =
    omega (arith, ap length is, length-take (length image) bytes, small) in
    stands_closed records closed.gate (take count closed.tail) image closed.spelled closed.closed
    shape short

small_file : (records : List Record) (bytes : List ℕ) → EMPTY_BYTES < length bytes
    → StandsFor bytes (Holds records) → length bytes ≤ MAX_BYTES
small_file records bytes more (Short few is) = absurd (omega arith)
small_file records bytes more (Foreign many why is) = absurd (cc)
small_file records bytes more (Parsed many small parsed) = small

pub cut_keeps : (old new : Option DiskContents) (found : Found) (len : ℕ) → ForSome old IsSettled
    → ForSome old (λ c. len ≡ length c.bytes) → EMPTY_BYTES < len → IsWhole found
    → ForSome old (λ c. StandsFor c.bytes (Holds found.records.items))
    → WhereTold (LeavesCut found.end) old new → WhereTold KeepsStanding old new
cut_keeps None None found len at_rest long more whole stands leaves = tt
cut_keeps None (Some new) found len at_rest long more whole stands leaves = leaves
cut_keeps (Some old) None found len at_rest long more whole stands leaves = leaves
cut_keeps (Some old) (Some new) found len at_rest long more whole stands leaves = λ image i.
    let many : EMPTY_BYTES < length old.bytes = omega (arith, long old refl, more) in
    let holds : StandsFor old.bytes (Holds found.records.items) = stands old refl in
    let parts = leaves image i in
    let reaches : length (front found.records.items) + 1 ≤ length image =
    omega (arith, parts.0, whole.long) in
    let kept : StandsFor image (Holds found.records.items) =
    cut_stands found.records.items old.bytes image many
    (small_file found.records.items old.bytes many holds) holds
    reaches parts.1 in (
      old.bytes,
      itself old (at_rest old refl),
      λ standing other.
          subst (λ (s : Standing). StandsFor image s)
          (stands_for_one old.bytes (Holds found.records.items) standing holds other) kept,
    )

found_as : (standing : Standing) (old : Option DiskContents) (P : DiskContents → Type 0)
    → ((c : DiskContents) → P c → StandsFor c.bytes standing) → IfSome old P
    → IfSome old (λ c. StandsFor c.bytes standing)
found_as standing None P leads fact = tt
found_as standing (Some c) P leads fact = leads c fact

just_keeps : (old new : DiskState) → IsJustSynced old new
    → WhereTold KeepsStanding old.contents new.contents
just_keeps old new just =
    synced_keeps old.contents new.contents (ap (λ (d : DiskState). d.contents) just.synced)
    just.possible

synced_or_not_keeps : (old new : DiskState) → IsSyncedOrNot old new
    → WhereTold KeepsStanding old.contents new.contents
synced_or_not_keeps old new (inl same) = same_keeps old.contents new.contents same
synced_or_not_keeps old new (inr (synced, possible)) =
    synced_keeps old.contents new.contents synced possible

offset_as : (at : ℕ) (old : Option DiskContents)
    → IfSome old (λ c. (at ≡ 0) ⊎ IsPieceOffset at c.bytes) → IfSome old (IsOpenOffset at)
offset_as at None fact = tt
offset_as at (Some c) (inl first) = inl first
offset_as at (Some c) (inr piece) = inr (inl piece)

fault_offset : (at : ℕ) → (at ≡ 0) ⊎ ((at < MAX_BYTES) × (at % PIECE_BYTES ≡ 0)) → IsFaultOffset at
fault_offset at (inl first) = inl first
fault_offset at (inr piece) = inr (inl piece)

pub just_unwritten : (old new : DiskState) → IsJustSynced old new → IsSyncedOrNot old new
just_unwritten old new just = inr (ap (λ (d : DiskState). d.contents) just.synced, just.possible)

-- the disk could not be read
pub unread : (why : JournalRefused) (old new : DiskState) → IsFileRead old new (Err why)
    → Refuses why old new
unread NotAJournal old new (just, long) = record {
  cause = (
    just.synced,
    found_as NoJournal old.contents (λ c. MAX_BYTES < length c.bytes)
        (λ c more. Foreign (omega (arith, more)) (inl more) refl) long,
  );
  images = just_keeps old new just;
}
unread NoMemory old new just = record { cause = just.synced; images = just_keeps old new just }
unread (DiskFault at) old new (rises, synced, offset, told) = record {
  cause = record {
    rises = rises;
    offset = fault_offset at offset;
    told_offset = offset_as at old.contents told;
    file = inl synced;
  };
  images = synced_or_not_keeps old new synced;
}
unread (BadRecord number) old new fact = absurd fact
unread (Full len) old new fact = absurd fact

pub unread_unwritten : (why : JournalRefused) (old new : DiskState)
    → IsFileRead old new (Err why) → IsSyncedOrNot old new
unread_unwritten NotAJournal old new (just, long) = just_unwritten old new just
unread_unwritten NoMemory old new just = just_unwritten old new just
unread_unwritten (DiskFault at) old new (rises, synced, offset, told) = synced
unread_unwritten (BadRecord number) old new fact = absurd fact
unread_unwritten (Full len) old new fact = absurd fact

bytes_as : (standing : Standing) (old : Option DiskContents) (bytes : List ℕ)
    → StandsFor bytes standing
    → IfSome old (λ c. bytes ≡ c.bytes) → IfSome old (λ c. StandsFor c.bytes standing)
bytes_as standing None bytes stands same = tt
bytes_as standing (Some c) bytes stands same =
    subst (λ (xs : List ℕ). StandsFor xs standing) same stands

-- the bytes are no journal
pub unfound : (why : JournalRefused) (old new : DiskState) (bytes : List ℕ) → IsJustSynced old new
    → IfSome old.contents (λ c. bytes ≡ c.bytes) → IsFound bytes (Err why) → Refuses why old new
unfound NotAJournal old new bytes just same fact = record {
  cause = (just.synced, bytes_as NoJournal old.contents bytes fact same);
  images = just_keeps old new just;
}
unfound (BadRecord number) old new bytes just same fact = record {
  cause = (just.synced, bytes_as (BadAt number) old.contents bytes fact same);
  images = just_keeps old new just;
}
unfound NoMemory old new bytes just same fact =
    record { cause = just.synced; images = just_keeps old new just }
unfound (DiskFault at) old new bytes just same fact = absurd fact
unfound (Full len) old new bytes just same fact = absurd fact

-- what is found has spellings and room
pub whole_found : (bytes : List ℕ) (found : Found) → length bytes ≤ MAX_BYTES
    → IsFound bytes (Ok found) → IsWhole found
whole_found bytes found small (stands, end) =
    elim (cases_lt EMPTY_BYTES (length bytes)) [
      | inl more ↦
          let closed = closed_in bytes found.records.items more stands in
          let long : length bytes
          ≡ length (front found.records.items) + length (closed.gate ∷ closed.tail) =
          ap length closed.split
          ∙ length-append (front found.records.items) (closed.gate ∷ closed.tail) in
          record { spelled = closed.spelled; long = end; small = omega (arith, end, long) }
      | inr few ↦
          let none : found.records.items ≡ [] =
          none_in_short bytes found.records.items few stands in
          let spelled : AllByRecursion HasSpelling found.records.items = rw none tt in
          let short : found.end ≡ 9 = end ∙ ap (λ (rs : List Record). length (front rs) + 1) none in
          record { spelled = spelled; long = end; small = omega (arith, short) }
    ]

pub fresh_found : (bytes : List ℕ) (found : Found) → IsFound bytes (Ok found)
    → length bytes ≤ EMPTY_BYTES → found.end ≡ EMPTY_BYTES
fresh_found bytes found (stands, end) few =
    end ∙ ap (λ (rs : List Record). length (front rs) + 1)
    (none_in_short bytes found.records.items few stands)

-- what a reading found
pub found_in : (old new : DiskState) (bytes : List ℕ) (found : Found) → length bytes ≤ MAX_BYTES
    → IsJustSynced old new → IfSome old.contents (λ c. bytes ≡ c.bytes) → IsFound bytes (Ok found)
    → IsFoundIn (length bytes) found old new
found_in old new bytes found small just same fact =
    let whole : IsWhole found = whole_found bytes found small fact in
    record {
      reads = record {
        synced = just.synced;
        spelled = whole.spelled;
        told = told old.contents just.possible same;
      };
      whole = whole;
      long = long old.contents same;
      fresh = fresh_found bytes found fact;
    }
  where
    told : (o : Option DiskContents) → IfSome o (λ c. IsImage c c.bytes)
        → IfSome o (λ c. bytes ≡ c.bytes) → IfSome o (IsReadAs found.records.items)
    told None possible same = tt
    told (Some c) possible same =
        (possible, subst (λ (xs : List ℕ). StandsFor xs (Holds found.records.items)) same fact.0)

    long : (o : Option DiskContents) → IfSome o (λ c. bytes ≡ c.bytes)
        → IfSome o (λ c. length bytes ≡ length c.bytes)
    long None same = tt
    long (Some c) same = ap length same
