-- What the cells of a file say, read one after another.
use Rattle.std.proofs.Common.{◌≡◌, ◌≢◌, ℕ, suc, ◌+◌, ◌-◌, ◌<◌, ◌≤◌, ◌==◌, Bool, true, false, not, List, [], ◌∷◌, ◌++◌, length, take, drop, refl, sym, ◌∙◌, ap, ◌⊎◌, inl, inr, arith, append_assoc, length-append}
use Rattle.std.specs.Prelude.{Result, Ok, Err}
use Rattle.std.specs.List.{flat_map, AllByRecursion}
use Rattle.std.proofs.lemmas.List.{append-nil}
use Rattle.std.proofs.lemmas.Grind.{flat_map-append}
use Rattle.std.proofs.lemmas.Bool.Decides.{eqb_tells}
use Rattle.basics.proofs.Each.{each_pushed}
use Rattle.record_codec.specs.declared.record.Record.{Record}
use Rattle.record_codec.specs.Record.{HasSpelling, Spells, spelling, word_bytes}
use Rattle.journal.specs.declared.cells.Found.{Found}
use Rattle.journal.specs.declared.format.TheConstants.{MAGIC, OPEN_GATE, EMPTY_BYTES, MAX_BYTES}
use Rattle.journal.specs.declared.refusal.JournalRefused.{JournalRefused}
use Rattle.journal.specs.declared.refusal.JournalRefused.TheVariants.{DiskFault, NotAJournal, BadRecord, Full, NoMemory}
use Rattle.journal.specs.Format.{Standing, Holds, BadRecord as BadAt, BeginsWithCell, StandsFor, Parsed, cell, open_cell, front, standing_at}
use Rattle.journal.specs.Cells.{IsOpen, AreOpen, StandIn, AreRead, IsFound, IsRecordRead, begins_closed}
use Rattle.journal.proofs.CellLemmas.{HasParts, parts_of, no_cell, no_record, no_cell_behind}
use Rattle.journal.proofs.StandingLemmas.{closed_standing, length-front}

pub none_yet : (cells : List ℕ) → AreOpen cells [] cells
none_yet cells = record { spelled = tt; split = refl }

pub cells_and_one : (records : List Record) (r : Record)
    → flat_map open_cell (records ++ r ∷ []) ≡ flat_map open_cell records ++ open_cell r
cells_and_one records r =
    flat_map-append open_cell records (r ∷ [])
    ∙ ap (λ xs. flat_map open_cell records ++ xs) (append-nil (open_cell r))

-- one more cell is that of a record
pub one_cell_more : (cells : List ℕ) (records : List Record) (rest body behind : List ℕ)
    (r : Record)
    → AreOpen cells records rest → IsOpen rest body behind → Spells body r
    → AreOpen cells (records ++ r ∷ []) behind
one_cell_more cells records rest body behind r before opened spells =
    let its : rest ≡ open_cell r ++ behind =
    opened.split ∙ ap (λ b. (OPEN_GATE ∷ word_bytes (length b) ++ b) ++ behind) spells.spelled in
    record {
      spelled = each_pushed HasSpelling records r before.spelled spells.record_has;
      split =
          before.split ∙ ap (λ xs. flat_map open_cell records ++ xs) its
          ∙ sym (append_assoc (flat_map open_cell records) (open_cell r) behind)
          ∙ ap (λ xs. xs ++ behind) (sym (cells_and_one records r));
    }

pub rest_shorter : (cells : List ℕ) (records : List Record) (rest : List ℕ)
    → AreOpen cells records rest
    → length cells ≡ length (flat_map open_cell records) + length rest
rest_shorter cells records rest is =
    ap length is.split ∙ length-append (flat_map open_cell records) rest

open_standing : (records : List Record) (rest body behind : List ℕ) → IsOpen rest body behind
    → standing_at records rest ≡ BadAt (length records + 1)
open_standing records rest body behind is =
    let parts = parts_of rest body behind is in
    ap (λ xs. standing_at records xs) parts.gate

-- the reading ends at a body that is no record
pub read_failed : (cells : List ℕ) (records : List Record) (rest body behind : List ℕ) (before : ℕ)
    (why : JournalRefused) → length cells ≤ MAX_BYTES → before ≡ length records
    → AreOpen cells records rest → IsOpen rest body behind → IsRecordRead body before (Err why)
    → AreRead cells (Err why)
read_failed cells records rest body behind before (DiskFault at) small count is opened fact = fact
read_failed cells records rest body behind before NotAJournal small count is opened fact = fact
read_failed cells records rest body behind before (Full len) small count is opened fact = fact
read_failed cells records rest body behind before NoMemory small count is opened fact = tt
read_failed cells records rest body behind before (BadRecord number) small count is opened fact =
    let short : length rest ≤ MAX_BYTES = omega (arith, rest_shorter cells records rest is) in
    let which : number ≡ length records + 1 = fact.0 ∙ ap (λ n. n + 1) count in
    record {
      records = records;
      rest = rest;
      open_cells = is;
      ends = no_record rest body behind short opened fact.1;
      is = ap (λ n. BadAt n) which ∙ sym (open_standing records rest body behind opened);
    }

closed_stands : (cells : List ℕ) (records : List Record) (rest : List ℕ)
    → AreOpen cells records rest
    → begins_closed rest ≡ true → StandIn cells (Holds records)
closed_stands cells records [] is closed = absurd (cc)
closed_stands cells records (gate ∷ tail) is closed =
    elim (eqb_tells gate OPEN_GATE) [
      | inl (test, same) ↦ (let no : not true ≡ true = rw test at closed in absurd (cc))
      | inr (test, differs) ↦
          record {
            records = records;
            rest = gate ∷ tail;
            open_cells = is;
            ends = no_cell_behind gate tail differs;
            is = sym (closed_standing records gate tail differs);
          }
    ]

-- the reading ends at a closed gate
pub read_whole : (cells : List ℕ) (found : Found) (rest : List ℕ)
    → AreOpen cells found.records.items rest
    → begins_closed rest ≡ true → found.end ≡ 8 + length cells - length rest + 1
    → AreRead cells (Ok found)
read_whole cells found rest is closed end = (
  closed_stands cells found.records.items rest is closed,
  omega (
    arith,
    end,
    rest_shorter cells found.records.items rest is,
    length-front
        found.records.items,
  ),
)

ends_open : (records : List Record) (rest : List ℕ) → begins_closed rest ≡ false
    → standing_at records rest ≡ BadAt (length records + 1)
ends_open records [] open_end = refl
ends_open records (gate ∷ tail) open_end =
    elim (eqb_tells gate OPEN_GATE) [
      | inl (test, same) ↦ rw test refl
      | inr (test, differs) ↦ (let no : not false ≡ false = rw test at open_end in absurd (cc))
    ]

-- or where the file does
pub read_cut : (cells : List ℕ) (records : List Record) (rest : List ℕ) (number : ℕ)
    → length cells ≤ MAX_BYTES → AreOpen cells records rest → begins_closed rest ≡ false
    → ((body behind : List ℕ) → ¬ IsOpen rest body behind) → number ≡ length records + 1
    → AreRead cells (Err (BadRecord number))
read_cut cells records rest number small is open_end none which = record {
  records = records;
  rest = rest;
  open_cells = is;
  ends = no_cell rest (omega (arith, rest_shorter cells records rest is)) none;
  is = ap (λ n. BadAt n) which ∙ sym (ends_open records rest open_end);
}

-- cells behind the magic are a file
pub file_stands : (file cells : List ℕ) (standing : Standing) → EMPTY_BYTES < length file
    → length file ≤ MAX_BYTES → file ≡ MAGIC ++ cells → StandIn cells standing
    → StandsFor file standing
file_stands file cells standing more small is stands =
    Parsed more small (record {
      records = stands.records;
      rest = stands.rest;
      spelled = stands.open_cells.spelled;
      split =
          is ∙ ap (λ xs. MAGIC ++ xs) stands.open_cells.split
          ∙ sym (append_assoc MAGIC (flat_map open_cell stands.records) stands.rest);
      ends = stands.ends;
      is = stands.is;
    })

pub file_found : (file cells : List ℕ) (result : Result Found JournalRefused)
    → EMPTY_BYTES < length file → length file ≤ MAX_BYTES → file ≡ MAGIC ++ cells
    → AreRead cells result → IsFound file result
file_found file cells (Ok found) more small is (stands, end) =
    (file_stands file cells (Holds found.records.items) more small is stands, end)
file_found file cells (Err NotAJournal) more small is fact = absurd fact
file_found file cells (Err (BadRecord number)) more small is fact =
    file_stands file cells (BadAt number) more small is fact
file_found file cells (Err NoMemory) more small is fact = tt
file_found file cells (Err (DiskFault at)) more small is fact = fact
file_found file cells (Err (Full len)) more small is fact = fact
