-- That a journal's disk holds its records, whatever a crash leaves.
use Rattle.std.proofs.Common.{◌≡◌, ◌≢◌, ℕ, ◌+◌, ◌-◌, ◌<◌, ◌≤◌, nat_le, ◌==◌, Bool, true, false, if◌then◌else◌, List, [], ◌∷◌, ◌++◌, length, take, drop, refl, sym, ◌∙◌, ap, subst, ◌⊎◌, inl, inr, arith, append_assoc, length-append}
use Rattle.std.specs.Prelude.{Option, Some, None, option_map, nat_lt, IfSome, MatchOption}
use Rattle.std.specs.Option.{ForSome}
use Rattle.std.specs.List.{flat_map, AllByRecursion}
use Rattle.std.proofs.lemmas.List.{take-append-le, take_all}
use Rattle.std.proofs.lemmas.Bool.{cases_lt}
use Rattle.std.proofs.lemmas.Bool.Decides.{nat_tests, eqb_tells}
use Rattle.std.proofs.Math.Seq.{take-append_seam}
use Rattle.basics.proofs.Each.{each_pushed}
use Rattle.edge_traits.specs.Disk.{DiskContents, DiskState, IsImage, WhereTold, settled}
use Rattle.basics.specs.Faults.{HasRisen}
use Rattle.edge_traits.proofs.Images.{settled_image}
use Rattle.record_codec.specs.declared.record.Record.{Record}
use Rattle.record_codec.specs.Record.{HasSpelling, spelling, word_bytes}
use Rattle.record_codec.proofs.Numbers.{length-word_bytes}
use Rattle.journal.specs.declared.format.TheConstants.{MAGIC, OPEN_GATE, CLOSED_GATE, CELL_BYTES, EMPTY_BYTES, MAX_BYTES}
use Rattle.journal.specs.Format.{Holds, StandsFor, cell, open_cell, front}
use Rattle.journal.specs.Journal.{JournalState, Failure, IsKept, IsAtRest, IsHeldOn, StandsForOneOf, LeavesOneOf, outcomes, with_refused, appended, append_refusal, after_append, FailsAt, IsAppendOffset}
use Rattle.journal.specs.Devices.{IsCutAppend, LeavesCutAppend, IsSettled}
use Rattle.journal.specs.declared.refusal.JournalRefused.{JournalRefused}
use Rattle.journal.specs.Opening.{reopened, empty_file}
use Rattle.journal.proofs.StandingLemmas.{stands_closed, closed_in, none_in_short, HasClosed}
use Rattle.journal.proofs.Reading.{cells_and_one}

length-cell : (r : Record) → length (cell r) ≡ 4 + length (spelling r)
length-cell r =
    omega (
      arith,
      length-append (word_bytes (length (spelling r))) (spelling r),
      length-word_bytes
          (length (spelling r)),
    )

-- the front of one record more
front_and_one : (records : List Record) (r : Record) (tail : List ℕ)
    → front records ++ OPEN_GATE ∷ (cell r ++ tail) ≡ front (records ++ r ∷ []) ++ tail
front_and_one records r tail =
    let cells : List ℕ = flat_map open_cell records in
    sym (append_assoc (MAGIC ++ cells) (open_cell r) tail)
    ∙ ap (λ xs. xs ++ tail) (append_assoc MAGIC cells (open_cell r))
    ∙ ap (λ xs. (MAGIC ++ xs) ++ tail) (sym (cells_and_one records r))

-- a file without its last gate
without_gate : (records : List Record) (gate len : ℕ) → len ≡ length (front records) + 1
    → take (len - 1) (front records ++ gate ∷ []) ≡ front records
without_gate records gate len long =
    let same : len - 1 ≡ length (front records) = omega arith in
    ap (λ n. take n (front records ++ gate ∷ [])) same
    ∙ take-append_seam (front records) (gate ∷ [])

closed_gate : CLOSED_GATE ≢ OPEN_GATE
closed_gate same = omega arith

-- what an append leaves that was cut has the records, with the new one or without
cut_has : (records : List Record) (r : Record) (gate : ℕ) (image : List ℕ) (failure : Failure)
    → AllByRecursion HasSpelling records → HasSpelling r → failure.refused ≡ r → gate ≢ OPEN_GATE
    → length (front records) + 1 + (5 + length (spelling r)) ≤ MAX_BYTES
    → IsCutAppend (front records ++ gate ∷ []) (cell r ++ CLOSED_GATE ∷ []) image
    → StandsForOneOf (records ∷ with_refused records (Some failure)) image
cut_has records r gate image failure spelled has which closed small (inl (tail, is, few)) =
    let whole : image ≡ front records ++ gate ∷ tail =
    is ∙ append_assoc (front records) (gate ∷ []) tail in
    let long : length image ≡ length (front records) + length (gate ∷ tail) =
    ap length whole ∙ length-append (front records) (gate ∷ tail) in
    let cells : length (cell r ++ CLOSED_GATE ∷ []) ≡ length (cell r) + 1 =
    length-append (cell r) (CLOSED_GATE ∷ []) in
    inl (stands_closed records gate tail image spelled closed whole
    (omega (arith, long, few, cells, length-cell r)))
cut_has records r gate image failure spelled has which closed small (inr (other, is)) =
    let file : List ℕ = front records ++ gate ∷ [] in
    let tail : List ℕ = cell r ++ CLOSED_GATE ∷ [] in
    let len : length file ≡ length (front records) + 1 =
    length-append (front records) (gate ∷ []) in
    let whole : image ≡ front records ++ other ∷ tail =
    is ∙ ap (λ xs. xs ++ other ∷ tail) (without_gate records gate (length file) len) in
    let long : length image ≡ length (front records) + length (other ∷ tail) =
    ap length whole ∙ length-append (front records) (other ∷ tail) in
    let cells : length tail ≡ length (cell r) + 1 = length-append (cell r) (CLOSED_GATE ∷ []) in
    let less : length image ≤ MAX_BYTES = omega (arith, long, cells, length-cell r) in
    elim (eqb_tells other OPEN_GATE) [
      | inl (test, opened) ↦
          let with_it : image ≡ front (records ++ r ∷ []) ++ CLOSED_GATE ∷ [] =
          whole ∙ ap (λ g. front records ++ g ∷ tail) opened
          ∙ front_and_one records r (CLOSED_GATE ∷ []) in
          let all : StandsFor image (Holds (records ++ r ∷ [])) =
          stands_closed (records ++ r ∷ []) CLOSED_GATE [] image
          (each_pushed HasSpelling records r spelled has) closed_gate
          with_it less in
          inr (inl (subst (λ (x : Record). StandsFor image (Holds (records ++ x ∷ []))) (sym which)
          all))
      | inr (test, differs) ↦ inl
          (stands_closed records other tail image spelled differs whole less)
    ]

held_after_cut : (records : List Record) (r : Record) (failure : Failure) (old new : DiskContents)
    → AllByRecursion HasSpelling records → HasSpelling r → failure.refused ≡ r
    → length (front records) + 1 + (5 + length (spelling r)) ≤ MAX_BYTES → IsAtRest records old
    → LeavesCutAppend (cell r ++ CLOSED_GATE ∷ []) old new → IsHeldOn records (Some failure) new
held_after_cut records r failure old new spelled has which small (gate, closed, is) leaves =
    λ image i.
    let bytes : old.bytes ≡ front records ++ gate ∷ [] = ap (λ (d : DiskContents). d.bytes) is in
    let cut : IsCutAppend (front records ++ gate ∷ []) (cell r ++ CLOSED_GATE ∷ []) image =
    subst (λ (xs : List ℕ). IsCutAppend xs (cell r ++ CLOSED_GATE ∷ []) image) bytes
    (leaves image i) in
    cut_has records r gate image failure spelled has which closed small cut

told_after_cut : (records : List Record) (r : Record) (failure : Failure)
    (old new : Option DiskContents)
    → AllByRecursion HasSpelling records → HasSpelling r → failure.refused ≡ r
    → length (front records) + 1 + (5 + length (spelling r)) ≤ MAX_BYTES
    → IfSome old (IsAtRest records)
    → WhereTold (LeavesCutAppend (cell r ++ CLOSED_GATE ∷ [])) old new
    → IfSome new (IsHeldOn records (Some failure))
told_after_cut records r failure None None spelled has which small held leaves = tt
told_after_cut records r failure None (Some new) spelled has which small held leaves = absurd leaves
told_after_cut records r failure (Some old) None spelled has which small held leaves = tt
told_after_cut records r failure (Some old) (Some new) spelled has which small held leaves =
    held_after_cut records r failure old new spelled has which small held leaves

-- a journal whose append was cut
pub kept_after_cut : (records : List Record) (len opened : ℕ) (disk now : DiskState) (r : Record)
    (failure : Failure)
    → IsKept (record { records = records; len = len; failure = None; opened = opened; disk = disk })
    → HasRisen disk.faults now.faults → HasSpelling r → failure.refused ≡ r
    → len + (5 + length (spelling r)) ≤ MAX_BYTES
    → WhereTold (LeavesCutAppend (cell r ++ CLOSED_GATE ∷ [])) disk.contents now.contents
    → IsKept (record {
      records = records;
      len = len;
      failure = Some failure;
      opened = opened;
      disk =
          now;
    })
kept_after_cut records len opened disk now r failure kept rises has which small leaves = record {
  spelled = kept.spelled;
  long = kept.long;
  small = kept.small;
  licence = subst (λ (n : ℕ). HasRisen n now.faults) kept.licence rises;
  file =
      told_after_cut records r failure disk.contents now.contents kept.spelled has which
      (omega (arith, kept.long)) kept.file leaves;
}

at_rest_after : (records : List Record) (r : Record) (len : ℕ) (old : DiskContents)
    → len ≡ length (front records) + 1 → IsAtRest records old
    → IsAtRest (records ++ r ∷ []) (settled (appended r len old.bytes))
at_rest_after records r len old long (gate, closed, is) =
    let bytes : old.bytes ≡ front records ++ gate ∷ [] = ap (λ (d : DiskContents). d.bytes) is in
    let front_is : take (len - 1) old.bytes ≡ front records =
    ap (λ xs. take (len - 1) xs) bytes ∙ without_gate records gate len long in
    let file : appended r len old.bytes ≡ front (records ++ r ∷ []) ++ CLOSED_GATE ∷ [] =
    ap (λ xs. xs ++ OPEN_GATE ∷ (cell r ++ CLOSED_GATE ∷ [])) front_is
    ∙ front_and_one records r (CLOSED_GATE ∷ []) in
    (CLOSED_GATE, closed_gate, ap settled file)

told_after : (records : List Record) (r : Record) (len : ℕ) (old new : Option DiskContents)
    → len ≡ length (front records) + 1 → IfSome old (IsAtRest records)
    → new ≡ option_map (λ c. settled (appended r len c.bytes)) old
    → IfSome new (IsAtRest (records ++ r ∷ []))
told_after records r len None new long held is = rw is tt
told_after records r len (Some old) new long held is =
    rw is (at_rest_after records r len old long held)

pub front_longer : (records : List Record) (r : Record)
    → length (front (records ++ r ∷ [])) ≡ length (front records) + (5 + length (spelling r))
front_longer records r =
    let cells : List ℕ = flat_map open_cell records in
    omega (
      arith,
      ap length (cells_and_one records r),
      length-append cells (open_cell r),
      length-cell r,
    )

-- a journal with one record more
pub kept_after : (records : List Record) (len opened : ℕ) (disk now : DiskState) (r : Record)
    → IsKept (record { records = records; len = len; failure = None; opened = opened; disk = disk })
    → now.faults ≡ disk.faults → HasSpelling r → len + (5 + length (spelling r)) ≤ MAX_BYTES
    → now.contents ≡ option_map (λ c. settled (appended r len c.bytes)) disk.contents
    → IsKept (record {
      records = records ++ r ∷ [];
      len = len + (5 + length (spelling r));
      failure = None;
      opened = opened;
      disk = now;
    })
kept_after records len opened disk now r kept faults has small is = record {
  spelled = each_pushed HasSpelling records r kept.spelled has;
  long = omega (arith, kept.long, front_longer records r);
  small = small;
  licence = faults ∙ kept.licence;
  file = told_after records r len disk.contents now.contents kept.long kept.file is;
}

rest_leaves : (records : List Record) (c : DiskContents) (len : ℕ)
    → AllByRecursion HasSpelling records
    → len ≡ length (front records) + 1 → len ≤ MAX_BYTES → IsAtRest records c
    → (image : List ℕ) → IsImage c image → StandsFor image (Holds records)
rest_leaves records c len spelled long small (gate, closed, is) image i =
    let only : image ≡ front records ++ gate ∷ [] =
    settled_image (front records ++ gate ∷ []) image
    (subst (λ (d : DiskContents). IsImage d image) is i) in
    stands_closed records gate [] image spelled closed only
    (omega (arith, ap length only, length-append (front records) (gate ∷ [])))

told_leaves : (records : List Record) (failure : Option Failure) (contents : Option DiskContents)
    (len : ℕ)
    → AllByRecursion HasSpelling records → len ≡ length (front records) + 1 → len ≤ MAX_BYTES
    → IfSome contents (IsHeldOn records failure)
    → IfSome contents (λ c. (image : List ℕ) → IsImage c image
    → StandsForOneOf (records ∷ with_refused records failure) image)
told_leaves records failure None len spelled long small held = tt
told_leaves records None (Some c) len spelled long small held = λ image i.
    inl (rest_leaves records c len spelled long small held image i)
told_leaves records (Some failure) (Some c) len spelled long small held = held

-- what the type of a journal keeps says what a crash leaves
pub kept_leaves : (j : JournalState) → IsKept j → LeavesOneOf (outcomes j) j.disk
kept_leaves j kept =
    told_leaves j.records j.failure j.disk.contents j.len kept.spelled kept.long kept.small
    kept.file

-- what an opening leaves of a file is at rest
pub reopened_rests : (records : List Record) (file : List ℕ) → StandsFor file (Holds records)
    → IsAtRest records (settled (reopened records file))
reopened_rests records file stands =
    elim (cases_lt EMPTY_BYTES (length file)) [
      | inl more ↦ rests_long records file more (closed_in file records more stands)
      | inr few ↦ rests_short records file few (none_in_short file records few stands)
    ]
  where
    rests_short : (records : List Record) (file : List ℕ) → length file ≤ EMPTY_BYTES → records ≡ []
        → IsAtRest records (settled (reopened records file))
    rests_short records file few none =
        let test : nat_le (length file) EMPTY_BYTES ≡ true = grind (arith, nat_tests) in
        let made : reopened records file ≡ front records ++ CLOSED_GATE ∷ [] =
        rw (test, none) refl in
        (CLOSED_GATE, closed_gate, ap settled made)

    rests_long : (records : List Record) (file : List ℕ) → EMPTY_BYTES < length file
        → HasClosed file records → IsAtRest records (settled (reopened records file))
    rests_long records file more is =
        let test : nat_le (length file) EMPTY_BYTES ≡ false = grind (arith, nat_tests) in
        let len : length (front records ++ is.gate ∷ []) ≡ length (front records) + 1 =
        length-append (front records) (is.gate ∷ []) in
        let split : file ≡ (front records ++ is.gate ∷ []) ++ is.tail =
        is.split ∙ sym (append_assoc (front records) (is.gate ∷ []) is.tail) in
        let cut : take (length (front records) + 1) file ≡ front records ++ is.gate ∷ [] =
        ap (λ n. take n file) (sym len)
        ∙ ap (λ xs. take (length (front records ++ is.gate ∷ [])) xs) split
        ∙ take-append_seam (front records ++ is.gate ∷ []) is.tail in
        let made : reopened records file ≡ front records ++ is.gate ∷ [] = rw test cut in
        (is.gate, is.closed, ap settled made)

pub cell_len : (r : Record) (bytes : List ℕ) → bytes ≡ cell r ++ CLOSED_GATE ∷ []
    → length bytes ≡ 5 + length (spelling r)
cell_len r bytes is =
    omega (arith, ap length is, length-append (cell r) (CLOSED_GATE ∷ []), length-cell r)

-- a journal with one record more, as its fields are
pub kept_by : (records new_records : List Record) (len new_len : ℕ)
    (failure new_failure : Option Failure)
    (opened : ℕ) (disk now : DiskState) (r : Record) (bytes : List ℕ)
    → IsKept (record {
      records = records;
      len = len;
      failure = failure;
      opened = opened;
      disk =
          disk;
    })
    → failure ≡ None → new_failure ≡ None → now.faults ≡ disk.faults → HasSpelling r
    → bytes ≡ cell r ++ CLOSED_GATE ∷ []
    → new_records ≡ records ++ r ∷ [] → new_len ≡ len + length bytes
    → len + length bytes ≤ MAX_BYTES
    → now.contents ≡ option_map (λ c. settled (take (len - 1) c.bytes ++ OPEN_GATE ∷ bytes))
    disk.contents
    → IsKept (record {
      records = new_records;
      len = new_len;
      failure = new_failure;
      opened = opened;
      disk = now;
    })
kept_by records new_records len new_len failure new_failure opened disk now r bytes kept whole still
    faults has cells more longer small is =
    let state : List Record → ℕ → Option Failure → DiskState → JournalState =
    λ rs n f d. record { records = rs; len = n; failure = f; opened = opened; disk = d } in
    let before : IsKept (state records len None disk) =
    subst (λ (f : Option Failure). IsKept (state records len f disk)) whole kept in
    let size : length bytes ≡ 5 + length (spelling r) = cell_len r bytes cells in
    let room : len + (5 + length (spelling r)) ≤ MAX_BYTES = omega (arith, size, small) in
    let contents : now.contents ≡ option_map (λ c. settled (appended r len c.bytes)) disk.contents =
    is ∙ ap (λ (xs : List ℕ). option_map
    (λ (c : DiskContents). settled (take (len - 1) c.bytes ++ OPEN_GATE ∷ xs)) disk.contents)
    cells in
    let after : IsKept (state (records ++ r ∷ []) (len + (5 + length (spelling r))) None now) =
    kept_after records len opened disk now r before faults has room contents in
    let total : len + (5 + length (spelling r)) ≡ new_len = omega (arith, size, longer) in
    subst (λ (f : Option Failure). IsKept (state new_records new_len f now)) (sym still)
    (subst (λ (n : ℕ). IsKept (state new_records n None now)) total
    (subst (λ (rs : List Record). IsKept (state rs (len + (5 + length (spelling r))) None now))
    (sym more) after))

-- and one whose append was cut
pub cut_by : (records new_records : List Record) (len : ℕ) (failure : Option Failure) (opened : ℕ)
    (disk now : DiskState) (r : Record) (bytes : List ℕ) (new : Failure)
    → IsKept (record {
      records = records;
      len = len;
      failure = failure;
      opened = opened;
      disk =
          disk;
    })
    → failure ≡ None → HasRisen disk.faults now.faults → HasSpelling r
    → bytes ≡ cell r ++ CLOSED_GATE ∷ [] → new_records ≡ records
    → new.refused ≡ r → len + length bytes ≤ MAX_BYTES
    → WhereTold (LeavesCutAppend bytes) disk.contents now.contents
    → IsKept (record {
      records = new_records;
      len = len;
      failure = Some new;
      opened = opened;
      disk =
          now;
    })
cut_by records new_records len failure opened disk now r bytes new kept whole rises has cells same
    which small leaves =
    let state : List Record → ℕ → Option Failure → DiskState → JournalState =
    λ rs n f d. record { records = rs; len = n; failure = f; opened = opened; disk = d } in
    let before : IsKept (state records len None disk) =
    subst (λ (f : Option Failure). IsKept (state records len f disk)) whole kept in
    let size : length bytes ≡ 5 + length (spelling r) = cell_len r bytes cells in
    let room : len + (5 + length (spelling r)) ≤ MAX_BYTES = omega (arith, size, small) in
    let there : WhereTold (LeavesCutAppend (cell r ++ CLOSED_GATE ∷ [])) disk.contents now.contents
    =
    subst (λ (xs : List ℕ). WhereTold (LeavesCutAppend xs) disk.contents now.contents) cells leaves
    in
    subst (λ (rs : List Record). IsKept (state rs len (Some new) now)) (sym same)
    (kept_after_cut records len opened disk now r new before rises has which room there)

-- a disk that tells is at rest where its length is told, too
pub settled_there : (records : List Record) (failure : Option Failure)
    (contents : Option DiskContents) (len : ℕ)
    → failure ≡ None → len ≡ length (front records) + 1 → IfSome contents (IsHeldOn records failure)
    → ForSome contents (λ c. IsSettled c × (len ≡ length c.bytes))
settled_there records failure contents len whole long held =
    there contents (subst (λ (f : Option Failure). IfSome contents (IsHeldOn records f)) whole held)
  where
    there : (contents : Option DiskContents) → IfSome contents (IsAtRest records)
        → ForSome contents (λ c. IsSettled c × (len ≡ length c.bytes))
    there contents held c told = here c (rw told at held)
      where
        here : (c : DiskContents) → IsAtRest records c → IsSettled c × (len ≡ length c.bytes)
        here c (gate, closed, is) =
            let bytes : c.bytes ≡ front records ++ gate ∷ [] =
            ap (λ (d : DiskContents). d.bytes) is in (
              is ∙ ap settled (sym bytes),
              omega (arith, long, ap length bytes, length-append (front records) (gate ∷ [])),
            )

-- nothing stands against an append to a whole journal with room
pub nothing_against : (r : Record) (j : JournalState) (bytes : List ℕ) → j.failure ≡ None
    → bytes ≡ cell r ++ CLOSED_GATE ∷ [] → j.len + length bytes ≤ MAX_BYTES
    → append_refusal r j ≡ None
nothing_against r j bytes whole cells small =
    let size : length bytes ≡ 5 + length (spelling r) = cell_len r bytes cells in
    let test : nat_lt MAX_BYTES (j.len + CELL_BYTES + length (spelling r)) ≡ false =
    not_less MAX_BYTES (j.len + CELL_BYTES + length (spelling r)) (omega (arith, size, small)) in
    rw whole (rw test refl)
  where
    not_less : (a b : ℕ) → b ≤ a → nat_lt a b ≡ false
    not_less a b le = grind (arith, nat_tests)

pub accepted : (o : Option JournalRefused) (P : Type 0) (Q : JournalRefused → Type 0) → o ≡ None → P
    → MatchOption o P Q
accepted o P Q none fact = rw none fact

state_same : (a b : JournalState) → a.records ≡ b.records → a.len ≡ b.len → a.failure ≡ b.failure
    → a.opened ≡ b.opened → a.disk.contents ≡ b.disk.contents → a.disk.faults ≡ b.disk.faults
    → a ≡ b
state_same a b records len failure opened contents faults = λ i. record {
  records = records i;
  len = len i;
  failure = failure i;
  opened = opened i;
  disk = record { contents = contents i; faults = faults i };
}

after_is : (r : Record) (j new : JournalState) (bytes : List ℕ) → bytes ≡ cell r ++ CLOSED_GATE ∷ []
    → new.records ≡ j.records ++ r ∷ [] → new.len ≡ j.len + length bytes → new.failure ≡ j.failure
    → new.disk.faults ≡ j.disk.faults
    → new.disk.contents ≡ option_map (λ c. settled (take (j.len - 1) c.bytes ++ OPEN_GATE ∷ bytes))
    j.disk.contents
    → new.opened ≡ j.opened → new ≡ after_append r j
after_is r j new bytes cells records len failure faults contents opened =
    let size : length bytes ≡ 5 + length (spelling r) = cell_len r bytes cells in
    let total : new.len ≡ j.len + CELL_BYTES + length (spelling r) = omega (arith, size, len) in
    let held : new.disk.contents ≡ option_map (λ c. settled (appended r j.len c.bytes))
    j.disk.contents =
    contents ∙ ap (λ (xs : List ℕ). option_map
    (λ (c : DiskContents). settled (take (j.len - 1) c.bytes ++ OPEN_GATE ∷ xs))
    j.disk.contents) cells in
    state_same new (after_append r j) records total failure opened held faults

-- what an append answers that was done, of a journal that is seen as `j`
pub answered_ok : (r : Record) (view j new : JournalState) (bytes : List ℕ) (Q : JournalState
    → JournalRefused → Type 0)
    → view ≡ j → view.failure ≡ None → bytes ≡ cell r ++ CLOSED_GATE ∷ []
    → view.len + length bytes ≤ MAX_BYTES
    → new.records ≡ view.records ++ r ∷ [] → new.len ≡ view.len + length bytes
    → new.failure ≡ view.failure → new.disk.faults ≡ view.disk.faults
    → new.disk.contents ≡ option_map
    (λ c. settled (take (view.len - 1) c.bytes ++ OPEN_GATE ∷ bytes)) view.disk.contents
    → new.opened ≡ view.opened → IsKept new
    → MatchOption (append_refusal r j) ((new ≡ after_append r j)
    × LeavesOneOf (outcomes new) new.disk) (Q j)
answered_ok r view j new bytes Q seen whole cells small records len failure faults contents opened
    kept =
    let Done : JournalState → Type 0 =
    λ k. (new ≡ after_append r k) × LeavesOneOf (outcomes new) new.disk in
    subst (λ (k : JournalState). MatchOption (append_refusal r k) (Done k) (Q k)) seen
    (accepted (append_refusal r view) (Done view) (Q view)
    (nothing_against r view bytes whole cells small) (
      after_is r view new bytes cells records len failure faults contents opened,
      kept_leaves new
          kept,
    ))

offset_of : (r : Record) (view : JournalState) (bytes : List ℕ) (at : ℕ)
    → bytes ≡ cell r ++ CLOSED_GATE ∷ []
    → (at ≡ view.len) ⊎ ((at ≡ view.len - 1) ⊎ (at ≡ view.len + length bytes))
    → IsAppendOffset r view at
offset_of r view bytes at cells (inl write) = inl write
offset_of r view bytes at cells (inr (inl gate)) = inr (inl gate)
offset_of r view bytes at cells (inr (inr end)) =
    let size : length bytes ≡ 5 + length (spelling r) = cell_len r bytes cells in
    inr (inr (omega (arith, size, end)))

-- and of one that the disk cut
pub answered_err : (r : Record) (at : ℕ) (view j new : JournalState) (bytes : List ℕ)
    (Q : JournalState → JournalRefused → Type 0)
    → view ≡ j → view.failure ≡ None → bytes ≡ cell r ++ CLOSED_GATE ∷ []
    → view.len + length bytes ≤ MAX_BYTES
    → (at ≡ view.len) ⊎ ((at ≡ view.len - 1) ⊎ (at ≡ view.len + length bytes))
    → new.records ≡ view.records → new.len ≡ view.len
    → new.failure ≡ Some (record { at = at; refused = r })
    → new.opened ≡ view.opened → HasRisen view.disk.faults new.disk.faults → IsKept new
    → MatchOption (append_refusal r j) (FailsAt r at j new) (Q j)
answered_err r at view j new bytes Q seen whole cells small offset records len failure opened rises
    still =
    let kept : new ≡ record view
    { failure = Some (record { at = at; refused = r }); disk = new.disk } =
    state_same new (record view
    { failure = Some (record { at = at; refused = r }); disk = new.disk }) records len failure
    opened refl refl in
    let fails : FailsAt r at view new =
    record {
      offset = offset_of r view bytes at cells offset;
      kept = kept;
      rises = rises;
      leaves = kept_leaves new still;
    } in
    subst (λ (k : JournalState). MatchOption (append_refusal r k) (FailsAt r at k new) (Q k)) seen
    (accepted (append_refusal r view) (FailsAt r at view new) (Q view)
    (nothing_against r view bytes whole cells small) fails)
