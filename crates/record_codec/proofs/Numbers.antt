-- A number and its bytes: each gives the other back, whatever follows.
use Rattle.std.proofs.Common.{◌≡◌, ℕ, ◌+◌, ◌^◌, ◌<◌, ◌≤◌, List, [], ◌∷◌, ◌++◌, length, take, drop, get_or, inl, inr, refl, sym, ap, arith, Fits}
use Rattle.std.specs.Int.{w8, w32, w64, w128, to_be_bytes, from_be_bytes}
use Rattle.std.proofs.Math.Facts.{Fits-lt-pow}
use Rattle.std.proofs.lemmas.Nat.{be_bytes_4, be_bytes_8, from_be_bytes-to_be_bytes_4, from_be_bytes-to_be_bytes_8}
use Rattle.std.proofs.lemmas.Bool.{cases_lt}
use Rattle.std.proofs.lemmas.List.{get_or-take, get_or-drop, get_or_past, length-take}
use Rattle.change_id.proofs.UuidBytes.{to_be_bytes-from_be_bytes, from_be_bytes-to_be_bytes}
use Rattle.record_codec.specs.Record.{word_bytes, long_bytes, uuid_bytes}
use Rattle.record_codec.specs.Parse.{word_at, long_at, uuid_at}

abbrev pub IsBytes : List ℕ → Type 0
IsBytes bytes = (i : ℕ) → get_or bytes i 0 < 256

pub fitting_bytes : (bytes : List ℕ) → ((i : ℕ) → Fits w8 (get_or bytes i 0)) → IsBytes bytes
fitting_bytes bytes fit i = Fits-lt-pow (fit i)

pub length-word_bytes : (n : ℕ) → length (word_bytes n) ≡ 4
unfolding word_bytes
length-word_bytes n = refl

pub length-long_bytes : (n : ℕ) → length (long_bytes n) ≡ 8
unfolding long_bytes
length-long_bytes n = refl

pub length-uuid_bytes : (n : ℕ) → length (uuid_bytes n) ≡ 16
unfolding uuid_bytes
length-uuid_bytes n = refl

pub word_back : (n : ℕ) (rest : List ℕ) → n < 2 ^ 32 → word_at (word_bytes n ++ rest) ≡ n
unfolding word_bytes word_at
word_back n rest h = from_be_bytes-to_be_bytes_4 n h

pub long_back : (n : ℕ) (rest : List ℕ) → n < 2 ^ 64 → long_at (long_bytes n ++ rest) ≡ n
unfolding long_bytes long_at
long_back n rest h = from_be_bytes-to_be_bytes_8 n h

pub uuid_back : (n : ℕ) (rest : List ℕ) → n < 2 ^ 128 → uuid_at (uuid_bytes n ++ rest) ≡ n
unfolding uuid_bytes uuid_at
uuid_back n rest h = from_be_bytes-to_be_bytes n h

pub word_rest : (n : ℕ) (rest : List ℕ) → drop 4 (word_bytes n ++ rest) ≡ rest
unfolding word_bytes
word_rest n rest = refl

pub long_rest : (n : ℕ) (rest : List ℕ) → drop 8 (long_bytes n ++ rest) ≡ rest
unfolding long_bytes
long_rest n rest = refl

pub uuid_rest : (n : ℕ) (rest : List ℕ) → drop 16 (uuid_bytes n ++ rest) ≡ rest
unfolding uuid_bytes
uuid_rest n rest = refl

-- the first bytes of bytes are bytes
take_bytes : (n : ℕ) (bytes : List ℕ) → IsBytes bytes → IsBytes (take n bytes)
take_bytes n bytes h i = elim (cases_lt i n) [
  | inl under ↦ rw (get_or-take n bytes i 0 under) (h i)
  | inr over ↦ rw (get_or_past (take n bytes) i 0 (omega (arith, length-take n bytes)))
      (omega arith)
]

pub drop_bytes : (n : ℕ) (bytes : List ℕ) → IsBytes bytes → IsBytes (drop n bytes)
drop_bytes n bytes h i = rw (get_or-drop n bytes i 0) (h (n + i))

pub word_split : (bytes : List ℕ) → 4 ≤ length bytes → IsBytes bytes
    → bytes ≡ word_bytes (word_at bytes) ++ drop 4 bytes
unfolding word_bytes word_at
word_split ([]) h fit = absurd (omega arith)
word_split (x0 ∷ []) h fit = absurd (omega arith)
word_split (x0 ∷ x1 ∷ []) h fit = absurd (omega arith)
word_split (x0 ∷ x1 ∷ x2 ∷ []) h fit = absurd (omega arith)
word_split (x0 ∷ x1 ∷ x2 ∷ x3 ∷ rest) h fit =
    let bytes : List ℕ = x0 ∷ x1 ∷ x2 ∷ x3 ∷ rest in
    let row : List ℕ = x0 ∷ x1 ∷ x2 ∷ x3 ∷ [] in
    let fits : IsBytes row = take_bytes 4 bytes fit in
    let same : to_be_bytes w32 (from_be_bytes w32 row) ≡ row =
    be_bytes_4 row (from_be_bytes w32 row) refl fits refl in
    sym (ap (λ (ys : List ℕ). ys ++ rest) same)

pub long_split : (bytes : List ℕ) → 8 ≤ length bytes → IsBytes bytes
    → bytes ≡ long_bytes (long_at bytes) ++ drop 8 bytes
unfolding long_bytes long_at
long_split ([]) h fit = absurd (omega arith)
long_split (x0 ∷ []) h fit = absurd (omega arith)
long_split (x0 ∷ x1 ∷ []) h fit = absurd (omega arith)
long_split (x0 ∷ x1 ∷ x2 ∷ []) h fit = absurd (omega arith)
long_split (x0 ∷ x1 ∷ x2 ∷ x3 ∷ []) h fit = absurd (omega arith)
long_split (x0 ∷ x1 ∷ x2 ∷ x3 ∷ x4 ∷ []) h fit = absurd (omega arith)
long_split (x0 ∷ x1 ∷ x2 ∷ x3 ∷ x4 ∷ x5 ∷ []) h fit = absurd (omega arith)
long_split (x0 ∷ x1 ∷ x2 ∷ x3 ∷ x4 ∷ x5 ∷ x6 ∷ []) h fit = absurd (omega arith)
long_split (x0 ∷ x1 ∷ x2 ∷ x3 ∷ x4 ∷ x5 ∷ x6 ∷ x7 ∷ rest) h fit =
    let bytes : List ℕ = x0 ∷ x1 ∷ x2 ∷ x3 ∷ x4 ∷ x5 ∷ x6 ∷ x7 ∷ rest in
    let row : List ℕ = x0 ∷ x1 ∷ x2 ∷ x3 ∷ x4 ∷ x5 ∷ x6 ∷ x7 ∷ [] in
    let fits : IsBytes row = take_bytes 8 bytes fit in
    let same : to_be_bytes w64 (from_be_bytes w64 row) ≡ row =
    be_bytes_8 row (from_be_bytes w64 row) refl fits refl in
    sym (ap (λ (ys : List ℕ). ys ++ rest) same)

pub uuid_split : (bytes : List ℕ) → 16 ≤ length bytes → IsBytes bytes
    → bytes ≡ uuid_bytes (uuid_at bytes) ++ drop 16 bytes
unfolding uuid_bytes uuid_at
uuid_split ([]) h fit = absurd (omega arith)
uuid_split (x0 ∷ []) h fit = absurd (omega arith)
uuid_split (x0 ∷ x1 ∷ []) h fit = absurd (omega arith)
uuid_split (x0 ∷ x1 ∷ x2 ∷ []) h fit = absurd (omega arith)
uuid_split (x0 ∷ x1 ∷ x2 ∷ x3 ∷ []) h fit = absurd (omega arith)
uuid_split (x0 ∷ x1 ∷ x2 ∷ x3 ∷ x4 ∷ []) h fit = absurd (omega arith)
uuid_split (x0 ∷ x1 ∷ x2 ∷ x3 ∷ x4 ∷ x5 ∷ []) h fit = absurd (omega arith)
uuid_split (x0 ∷ x1 ∷ x2 ∷ x3 ∷ x4 ∷ x5 ∷ x6 ∷ []) h fit = absurd (omega arith)
uuid_split (x0 ∷ x1 ∷ x2 ∷ x3 ∷ x4 ∷ x5 ∷ x6 ∷ x7 ∷ []) h fit = absurd (omega arith)
uuid_split (x0 ∷ x1 ∷ x2 ∷ x3 ∷ x4 ∷ x5 ∷ x6 ∷ x7 ∷ x8 ∷ []) h fit = absurd (omega arith)
uuid_split (x0 ∷ x1 ∷ x2 ∷ x3 ∷ x4 ∷ x5 ∷ x6 ∷ x7 ∷ x8 ∷ x9 ∷ []) h fit = absurd (omega arith)
uuid_split (x0 ∷ x1 ∷ x2 ∷ x3 ∷ x4 ∷ x5 ∷ x6 ∷ x7 ∷ x8 ∷ x9 ∷ x10 ∷ []) h fit = absurd (omega arith)
uuid_split (x0 ∷ x1 ∷ x2 ∷ x3 ∷ x4 ∷ x5 ∷ x6 ∷ x7 ∷ x8 ∷ x9 ∷ x10 ∷ x11 ∷ []) h fit =
    absurd (omega arith)
uuid_split (x0 ∷ x1 ∷ x2 ∷ x3 ∷ x4 ∷ x5 ∷ x6 ∷ x7 ∷ x8 ∷ x9 ∷ x10 ∷ x11 ∷ x12 ∷ []) h fit =
    absurd (omega arith)
uuid_split (x0 ∷ x1 ∷ x2 ∷ x3 ∷ x4 ∷ x5 ∷ x6 ∷ x7 ∷ x8 ∷ x9 ∷ x10 ∷ x11 ∷ x12 ∷ x13 ∷ []) h fit =
    absurd (omega arith)
uuid_split (x0 ∷ x1 ∷ x2 ∷ x3 ∷ x4 ∷ x5 ∷ x6 ∷ x7 ∷ x8 ∷ x9 ∷ x10 ∷ x11 ∷ x12 ∷ x13 ∷ x14 ∷ []) h
    fit = absurd (omega arith)
uuid_split (x0 ∷ x1 ∷ x2 ∷ x3 ∷ x4 ∷ x5 ∷ x6 ∷ x7 ∷ x8 ∷ x9 ∷ x10 ∷ x11 ∷ x12 ∷ x13 ∷ x14 ∷ x15 ∷
    rest) h fit =
    let bytes : List ℕ = x0 ∷ x1 ∷ x2 ∷ x3 ∷ x4 ∷ x5 ∷ x6 ∷ x7 ∷ x8 ∷ x9 ∷ x10 ∷ x11 ∷ x12 ∷ x13 ∷
    x14 ∷ x15 ∷ rest in
    let row : List ℕ = x0 ∷ x1 ∷ x2 ∷ x3 ∷ x4 ∷ x5 ∷ x6 ∷ x7 ∷ x8 ∷ x9 ∷ x10 ∷ x11 ∷ x12 ∷ x13 ∷ x14
    ∷ x15 ∷ [] in
    let fits : IsBytes row = take_bytes 16 bytes fit in
    let same : to_be_bytes w128 (from_be_bytes w128 row) ≡ row =
    to_be_bytes-from_be_bytes row refl fits in
    sym (ap (λ (ys : List ℕ). ys ++ rest) same)

pub word_fits : (bytes : List ℕ) → IsBytes bytes → word_at bytes < 2 ^ 32
unfolding word_at
word_fits bytes fit = omega (arith, fit 0, fit 1, fit 2, fit 3)

pub long_fits : (bytes : List ℕ) → IsBytes bytes → long_at bytes < 2 ^ 64
unfolding long_at
long_fits bytes fit = omega (arith, fit 0, fit 1, fit 2, fit 3, fit 4, fit 5, fit 6, fit 7)

pub uuid_fits : (bytes : List ℕ) → IsBytes bytes → uuid_at bytes < 2 ^ 128
unfolding uuid_at
uuid_fits bytes fit =
    omega (
      arith,
      fit 0,
      fit 1,
      fit 2,
      fit 3,
      fit 4,
      fit 5,
      fit 6,
      fit 7,
      fit 8,
      fit 9,
      fit 10,
      fit
          11,
      fit 12,
      fit 13,
      fit 14,
      fit 15,
    )
