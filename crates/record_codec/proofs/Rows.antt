-- Rows of numbers and of identifiers, read item by item.
use Rattle.std.proofs.Common.{◌≡◌, ℕ, suc, ◌+◌, ◌-◌, ◌<◌, ◌≤◌, List, [], ◌∷◌, ◌++◌, drop, sym, ap, ◌∙◌, arith, append_assoc, append-nil}
use Rattle.change_id.specs.declared.ChangeId.{ChangeId}
use Rattle.record_codec.specs.Parse.{word_at, id_at, words_in, ids_in}

pub words_step : (count k : ℕ) (read all : List ℕ) (rest : List ℕ) → k < count
    → read ++ words_in (count - k) rest ≡ all
    → (read ++ word_at rest ∷ []) ++ words_in (count - (k + 1)) (drop 4 rest) ≡ all
words_step count k read all rest h e =
    let more : suc (count - (k + 1)) ≡ count - k = omega arith in
    append_assoc read (word_at rest ∷ []) (words_in (count - (k + 1)) (drop 4 rest))
    ∙ ap (λ (m : ℕ). read ++ words_in m rest) more ∙ e

pub words_push : (count k : ℕ) (read now all : List ℕ) (value : ℕ) (rest left : List ℕ) → k < count
    → read ++ words_in (count - k) rest ≡ all → now ≡ read ++ value ∷ [] → value ≡ word_at rest
    → left ≡ drop 4 rest
    → now ++ words_in (count - (k + 1)) left ≡ all
words_push count k read now all value rest left h e pushed is moved =
    let row : now ≡ read ++ word_at rest ∷ [] = pushed ∙ ap (λ (v : ℕ). read ++ v ∷ []) is in
    (λ i. row i ++ words_in (count - (k + 1)) (moved i)) ∙ words_step count k read all rest h e

pub words_end : (count k : ℕ) (read all : List ℕ) (rest : List ℕ) → count ≤ k
    → read ++ words_in (count - k) rest ≡ all → read ≡ all
words_end count k read all rest h e =
    let none : 0 ≡ count - k = omega arith in
    sym (append-nil read) ∙ ap (λ (m : ℕ). read ++ words_in m rest) none ∙ e

pub ids_step : (count k : ℕ) (read all : List ChangeId) (rest : List ℕ) → k < count
    → read ++ ids_in (count - k) rest ≡ all
    → (read ++ id_at rest ∷ []) ++ ids_in (count - (k + 1)) (drop 8 (drop 16 rest)) ≡ all
ids_step count k read all rest h e =
    let more : suc (count - (k + 1)) ≡ count - k = omega arith in
    append_assoc read (id_at rest ∷ []) (ids_in (count - (k + 1)) (drop 8 (drop 16 rest)))
    ∙ ap (λ (m : ℕ). read ++ ids_in m rest) more ∙ e

pub ids_push : (count k : ℕ) (read now all : List ChangeId) (value : ChangeId) (rest left : List ℕ)
    → k < count
    → read ++ ids_in (count - k) rest ≡ all → now ≡ read ++ value ∷ [] → value ≡ id_at rest
    → left ≡ drop 8 (drop 16 rest)
    → now ++ ids_in (count - (k + 1)) left ≡ all
ids_push count k read now all value rest left h e pushed is moved =
    let row : now ≡ read ++ id_at rest ∷ [] = pushed ∙ ap (λ (v : ChangeId). read ++ v ∷ []) is in
    (λ i. row i ++ ids_in (count - (k + 1)) (moved i)) ∙ ids_step count k read all rest h e

pub ids_end : (count k : ℕ) (read all : List ChangeId) (rest : List ℕ) → count ≤ k
    → read ++ ids_in (count - k) rest ≡ all → read ≡ all
ids_end count k read all rest h e =
    let none : 0 ≡ count - k = omega arith in
    sym (append-nil read) ∙ ap (λ (m : ℕ). read ++ ids_in m rest) none ∙ e
