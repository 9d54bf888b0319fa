-- Cells: where one begins, it is the only one that does.
use Rattle.std.proofs.Common.{◌≡◌, ◌≢◌, ℕ, suc, ◌+◌, ◌^◌, ◌<◌, ◌≤◌, List, [], ◌∷◌, ◌++◌, length, take, drop, refl, sym, ◌∙◌, ap, arith, append_assoc, length-append}
use Rattle.std.specs.List.{flat_map, AllByRecursion}
use Rattle.std.proofs.Math.Seq.{take-append_seam, drop-append_seam}
use Rattle.record_codec.specs.declared.record.Record.{Record}
use Rattle.record_codec.specs.Record.{HasSpelling, Spells, spelling, word_bytes}
use Rattle.record_codec.specs.Parse.{word_at}
use Rattle.record_codec.proofs.Numbers.{IsBytes, word_back, word_rest, word_split, length-word_bytes, drop_bytes}
use Rattle.record_codec.proofs.FixedFields.{head_same, tail_same}
use Rattle.record_codec.proofs.VariableFields.{spellings_differ}
use Rattle.journal.specs.declared.format.TheConstants.{OPEN_GATE, MAX_BYTES}
use Rattle.journal.specs.Format.{BeginsWithCell, cell, open_cell}
use Rattle.journal.specs.Cells.{IsOpen}

-- what an open cell has where it begins
pub record HasParts (cells body behind : List ℕ) : Type 0 where
  pub rest : List ℕ
  pub gate : cells ≡ OPEN_GATE ∷ rest
  pub word : word_at rest ≡ length body
  pub tail : drop 4 rest ≡ body ++ behind
  pub long : length rest ≡ 4 + (length body + length behind)

pub parts_of : (cells body behind : List ℕ) → IsOpen cells body behind → HasParts cells body behind
parts_of cells body behind is =
    let word : List ℕ = word_bytes (length body) in
    let moved : (word ++ body) ++ behind ≡ word ++ (body ++ behind) =
    append_assoc word body behind in
    record {
      rest = word ++ (body ++ behind);
      gate = is.split ∙ ap (λ xs. OPEN_GATE ∷ xs) moved;
      word = word_back (length body) (body ++ behind) is.few;
      tail = word_rest (length body) (body ++ behind);
      long = omega (
        arith,
        length-append word (body ++ behind),
        length-append body behind,
        length-word_bytes (length body),
      );
    }

-- two lists that begin with lists of one length
pub same_front : (a b x y : List ℕ) → length a ≡ length b → a ++ x ≡ b ++ y → a ≡ b
same_front a b x y len same =
    sym (take-append_seam a x) ∙ ap (λ n. take n (a ++ x)) len ∙ ap (λ zs. take (length b) zs) same
    ∙ take-append_seam b y

pub same_back : (a b x y : List ℕ) → length a ≡ length b → a ++ x ≡ b ++ y → x ≡ y
same_back a b x y len same =
    sym (drop-append_seam a x) ∙ ap (λ n. drop n (a ++ x)) len ∙ ap (λ zs. drop (length b) zs) same
    ∙ drop-append_seam b y

pub open_bodies : (cells a x b y : List ℕ) → IsOpen cells a x → IsOpen cells b y → (a ≡ b) × (x ≡ y)
open_bodies cells a x b y first second =
    let one = parts_of cells a x first in
    let two = parts_of cells b y second in
    let same : one.rest ≡ two.rest =
    tail_same OPEN_GATE OPEN_GATE one.rest two.rest (sym one.gate ∙ two.gate) in
    let len : length a ≡ length b = sym one.word ∙ ap word_at same ∙ two.word in
    let both : a ++ x ≡ b ++ y = sym one.tail ∙ ap (λ zs. drop 4 zs) same ∙ two.tail in
    (same_front a b x y len both, same_back a b x y len both)

-- a record's cell is an open cell with its spelling
pub record_is_open : (cells tail : List ℕ) (r : Record) → length cells ≤ MAX_BYTES
    → cells ≡ open_cell r ++ tail → IsOpen cells (spelling r) tail
record_is_open cells tail r small is =
    let long : length cells ≡ length (open_cell r ++ tail) = ap length is in
    let cell_long : length (cell r) ≡ length (word_bytes (length (spelling r))) + length
    (spelling r) =
    length-append (word_bytes (length (spelling r))) (spelling r) in
    let all : length (cell r ++ tail) ≡ length (cell r) + length tail =
    length-append (cell r) tail in
    record { few = omega (arith, long, cell_long, all); split = is }

-- no record's cell stands where no open cell does
pub no_cell : (rest : List ℕ) → length rest ≤ MAX_BYTES
    → ((body behind : List ℕ) → ¬ IsOpen rest body behind) → ¬ BeginsWithCell rest
no_cell rest small none (r, tail, has, is) =
    none (spelling r) tail (record_is_open rest tail r small is)

-- nor where an open cell has another body
pub no_record : (rest body behind : List ℕ) → length rest ≤ MAX_BYTES → IsOpen rest body behind
    → ((r : Record) → ¬ Spells body r) → ¬ BeginsWithCell rest
no_record rest body behind small opened none (r, tail, has, is) =
    let same : body ≡ spelling r =
    (open_bodies rest body behind (spelling r) tail opened (record_is_open rest tail r small is)).0
    in
    none r (record { record_has = has; spelled = same })

-- nor at a closed gate
pub no_cell_behind : (gate : ℕ) (tail : List ℕ) → gate ≢ OPEN_GATE → ¬ BeginsWithCell (gate ∷ tail)
no_cell_behind gate tail closed (r, behind, has, is) =
    closed (head_same gate OPEN_GATE tail (cell r ++ behind) is)

-- two records whose cells begin one list are one
pub same_record : (a b : Record) (x y : List ℕ) → HasSpelling a → HasSpelling b
    → length (open_cell a ++ x) ≤ MAX_BYTES → open_cell a ++ x ≡ open_cell b ++ y
    → (a ≡ b) × (x ≡ y)
same_record a b x y has_a has_b small same =
    let first : IsOpen (open_cell a ++ x) (spelling a) x =
    record_is_open (open_cell a ++ x) x a small refl in
    let second : IsOpen (open_cell a ++ x) (spelling b) y =
    record_is_open (open_cell a ++ x) y b small same in
    let both = open_bodies (open_cell a ++ x) (spelling a) x (spelling b) y first second in
    (spellings_differ a b has_a has_b both.0, both.1)
