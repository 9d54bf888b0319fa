-- What a file stands for: one thing alone.
use Rattle.std.proofs.Common.{◌≡◌, ◌≢◌, ℕ, suc, ◌+◌, ◌<◌, ◌≤◌, ◌==◌, Bool, true, false, if◌then◌else◌, List, [], ◌∷◌, ◌++◌, length, take, drop, refl, sym, ◌∙◌, ap, ◌⊎◌, inl, inr, arith, append_assoc, length-append}
use Rattle.std.specs.List.{flat_map, AllByRecursion}
use Rattle.std.proofs.lemmas.Bool.{cases_lt}
use Rattle.std.proofs.lemmas.Bool.Decides.{nat_tests, eqb_tells}
use Rattle.record_codec.specs.declared.record.Record.{Record}
use Rattle.record_codec.specs.Record.{HasSpelling, spelling, word_bytes}
use Rattle.record_codec.proofs.Numbers.{length-word_bytes}
use Rattle.journal.specs.declared.format.TheConstants.{MAGIC, OPEN_GATE, EMPTY_BYTES, MAX_BYTES}
use Rattle.journal.specs.Format.{Standing, Holds, NotAJournal, BadRecord, BeginsWithCell, IsParsed, StandsFor, Short, Foreign, Parsed, StandsAs, cell, open_cell, front, standing_at}
use Rattle.journal.specs.Laws.{StandsForAtMostOne}
use Rattle.journal.proofs.CellLemmas.{same_record, no_cell_behind}

pub length-front : (records : List Record)
    → length (front records) ≡ 8 + length (flat_map open_cell records)
length-front records = omega arith

pub front_split : (records : List Record) (rest : List ℕ)
    → front records ++ rest ≡ MAGIC ++ (flat_map open_cell records ++ rest)
front_split records rest = append_assoc MAGIC (flat_map open_cell records) rest

-- one more record, in front
cons_split : (r : Record) (records : List Record) (rest : List ℕ)
    → flat_map open_cell (r ∷ records) ++ rest ≡ open_cell r ++ (flat_map open_cell records ++ rest)
cons_split r records rest = append_assoc (open_cell r) (flat_map open_cell records) rest

-- the cells of records, and what follows them, are told by the bytes
pub same_cells : (ones others : List Record) (x y : List ℕ) → AllByRecursion HasSpelling ones
    → AllByRecursion HasSpelling others → ¬ BeginsWithCell x → ¬ BeginsWithCell y
    → length (flat_map open_cell ones ++ x) ≤ MAX_BYTES
    → flat_map open_cell ones ++ x ≡ flat_map open_cell others ++ y → (ones ≡ others) × (x ≡ y)
same_cells [] [] x y has_a has_b end_x end_y small same = (refl, same)
same_cells [] (b ∷ others) x y has_a has_b end_x end_y small same =
    absurd (end_x (b, flat_map open_cell others ++ y, has_b.0, same ∙ cons_split b others y))
same_cells (a ∷ ones) [] x y has_a has_b end_x end_y small same =
    absurd (end_y (a, flat_map open_cell ones ++ x, has_a.0, sym same ∙ cons_split a ones x))
same_cells (a ∷ ones) (b ∷ others) x y has_a has_b end_x end_y small same =
    let split_a : flat_map open_cell (a ∷ ones) ++ x
    ≡ open_cell a ++ (flat_map open_cell ones ++ x) = cons_split a ones x in
    let len : length (flat_map open_cell (a ∷ ones) ++ x)
    ≡ length (open_cell a ++ (flat_map open_cell ones ++ x)) =
    ap length split_a in
    let small_a : length (open_cell a ++ (flat_map open_cell ones ++ x)) ≤ MAX_BYTES =
    omega (arith, len, small) in
    let first = same_record a b (flat_map open_cell ones ++ x) (flat_map open_cell others ++ y)
    has_a.0 has_b.0 small_a
    (sym split_a ∙ same ∙ cons_split b others y) in
    let less : length (flat_map open_cell ones ++ x) ≤ MAX_BYTES =
    omega (arith, small_a, length-append (open_cell a) (flat_map open_cell ones ++ x)) in
    let rest = same_cells ones others x y has_a.1 has_b.1 end_x end_y less first.1 in
    let records : a ∷ ones ≡ b ∷ others =
    ap (λ (r : Record). r ∷ ones) first.0 ∙ ap (λ (rs : List Record). b ∷ rs) rest.0 in
    (records, rest.1)

behind_magic : (x y : List ℕ) → MAGIC ++ x ≡ MAGIC ++ y → x ≡ y
behind_magic x y same = ap (λ zs. drop 8 zs) same

parsed_one : (bytes : List ℕ) (one other : Standing) → length bytes ≤ MAX_BYTES → IsParsed bytes one
    → IsParsed bytes other → one ≡ other
parsed_one bytes one other small first second =
    let same : MAGIC ++ (flat_map open_cell first.records ++ first.rest)
    ≡ MAGIC ++ (flat_map open_cell second.records ++ second.rest) =
    sym (front_split first.records first.rest) ∙ sym first.split ∙ second.split
    ∙ front_split second.records second.rest in
    let long : length bytes ≡ length (MAGIC ++ (flat_map open_cell first.records ++ first.rest)) =
    ap length (first.split ∙ front_split first.records first.rest) in
    let less : length (flat_map open_cell first.records ++ first.rest) ≤ MAX_BYTES =
    omega (arith, long) in
    let both = same_cells first.records second.records first.rest second.rest first.spelled
    second.spelled
    first.ends second.ends less (behind_magic _ _ same) in
    first.is ∙ ap (λ (rs : List Record). standing_at rs first.rest) both.0
    ∙ ap (λ (xs : List ℕ). standing_at second.records xs) both.1 ∙ sym second.is

parsed_begins : (bytes : List ℕ) (standing : Standing) → IsParsed bytes standing
    → take (length MAGIC) bytes ≡ MAGIC
parsed_begins bytes standing is =
    ap (λ zs. take (length MAGIC) zs) (is.split ∙ front_split is.records is.rest)

not_foreign : (bytes : List ℕ) (standing : Standing) → length bytes ≤ MAX_BYTES
    → IsParsed bytes standing
    → (MAX_BYTES < length bytes) ⊎ (take (length MAGIC) bytes ≢ MAGIC) → ⊥
not_foreign bytes standing small is (inl long) = absurd (omega arith)
not_foreign bytes standing small is (inr strange) = strange (parsed_begins bytes standing is)

pub stands_for_one : StandsForAtMostOne
stands_for_one bytes one other (Short a is) (Short b is') = is ∙ sym is'
stands_for_one bytes one other (Short a is) (Foreign b why is') = absurd (omega arith)
stands_for_one bytes one other (Short a is) (Parsed b small parsed) = absurd (omega arith)
stands_for_one bytes one other (Foreign a why is) (Short b is') = absurd (omega arith)
stands_for_one bytes one other (Foreign a why is) (Foreign b why' is') = is ∙ sym is'
stands_for_one bytes one other (Foreign a why is) (Parsed b small parsed) =
    absurd (not_foreign bytes other small parsed why)
stands_for_one bytes one other (Parsed a small parsed) (Short b is') = absurd (omega arith)
stands_for_one bytes one other (Parsed a small parsed) (Foreign b why is') =
    absurd (not_foreign bytes one small parsed why)
stands_for_one bytes one other (Parsed a small parsed) (Parsed b small' parsed') =
    parsed_one bytes one other small parsed parsed'

-- records behind which a closed gate stands
pub closed_standing : (records : List Record) (gate : ℕ) (tail : List ℕ) → gate ≢ OPEN_GATE
    → standing_at records (gate ∷ tail) ≡ Holds records
closed_standing records gate tail closed =
    let test : (gate == OPEN_GATE) ≡ false = grind (arith, nat_tests) in
    rw test refl

some_front : (records : List Record) (gate : ℕ) (tail : List ℕ)
    → length (front records ++ gate ∷ tail) ≤ EMPTY_BYTES → records ≡ []
some_front [] gate tail short = refl
some_front (r ∷ records) gate tail short =
    let all = length-append (front (r ∷ records)) (gate ∷ tail) in
    let cells = length-append (open_cell r) (flat_map open_cell records) in
    let one = length-append (word_bytes (length (spelling r))) (spelling r) in
    let word = length-word_bytes (length (spelling r)) in
    absurd (omega (arith, all, cells, one, word, length-front (r ∷ records)))

pub stands_closed : (records : List Record) (gate : ℕ) (tail bytes : List ℕ)
    → AllByRecursion HasSpelling records → gate ≢ OPEN_GATE → bytes ≡ front records ++ gate ∷ tail
    → length bytes ≤ MAX_BYTES → StandsFor bytes (Holds records)
stands_closed records gate tail bytes spelled closed is small =
    elim (cases_lt EMPTY_BYTES (length bytes)) [
      | inl more ↦
          Parsed more small (record {
            records = records;
            rest = gate ∷ tail;
            spelled = spelled;
            split = is;
            ends = no_cell_behind gate tail closed;
            is = sym (closed_standing records gate tail closed);
          })
      | inr few ↦
          let short : length (front records ++ gate ∷ tail) ≤ EMPTY_BYTES =
          omega (arith, few, ap length is) in
          Short few (ap (λ (rs : List Record). Holds rs) (some_front records gate tail short))
    ]

-- what it means that a file holds these records
pub record HasClosed (bytes : List ℕ) (records : List Record) : Type 0 where
  pub gate : ℕ
  pub tail : List ℕ
  pub closed : gate ≢ OPEN_GATE
  pub spelled : AllByRecursion HasSpelling records
  pub split : bytes ≡ front records ++ gate ∷ tail

closed_of : (bytes : List ℕ) (records found : List Record) (rest : List ℕ)
    → AllByRecursion HasSpelling found → bytes ≡ front found ++ rest
    → Holds records ≡ standing_at found rest → HasClosed bytes records
closed_of bytes records found [] spelled split is = absurd (cc)
closed_of bytes records found (gate ∷ tail) spelled split is =
    elim (eqb_tells gate OPEN_GATE) [
      | inl (test, opened) ↦
          let bad : Holds records ≡ BadRecord (length found + 1) = rw test at is in
          absurd (cc)
      | inr (test, closed) ↦
          let holds : Holds records ≡ Holds found = rw test at is in
          let same : found ≡ records = cc in
          record {
            gate = gate;
            tail = tail;
            closed = closed;
            spelled = rw same at spelled;
            split = split ∙ ap (λ (rs : List Record). front rs ++ gate ∷ tail) same;
          }
    ]

pub closed_in : (bytes : List ℕ) (records : List Record) → EMPTY_BYTES < length bytes
    → StandsFor bytes (Holds records) → HasClosed bytes records
closed_in bytes records more (Short few is) = absurd (omega arith)
closed_in bytes records more (Foreign many why is) = absurd (cc)
closed_in bytes records more (Parsed many small parsed) =
    closed_of bytes records parsed.records parsed.rest parsed.spelled parsed.split parsed.is

pub none_in_short : (bytes : List ℕ) (records : List Record) → length bytes ≤ EMPTY_BYTES
    → StandsFor bytes (Holds records) → records ≡ []
none_in_short bytes records few (Short few' is) = cc
none_in_short bytes records few (Foreign many why is) = absurd (omega arith)
none_in_short bytes records few (Parsed many small parsed) = absurd (omega arith)

-- all short files are alike
pub short_alike : (one other : List ℕ) → length one ≤ EMPTY_BYTES → length other ≤ EMPTY_BYTES
    → StandsAs one other
short_alike one other few few' standing (Short short is) = Short few is
short_alike one other few few' standing (Foreign many why is) = absurd (omega arith)
short_alike one other few few' standing (Parsed many small parsed) = absurd (omega arith)
