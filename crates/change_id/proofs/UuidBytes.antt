-- Sixteen bytes and the number of 128 bits that they make: each gives the other back.
use Rattle.std.proofs.Common.{◌≡◌, ℕ, zero, suc, ◌+◌, ◌*◌, ◌/◌, ◌%◌, ◌^◌, ◌<◌, List, ◌∷◌, [], ◌++◌, All, length, get_or, take, drop, inl, inr, arith, refl, sym, ap, ◌∙◌}
use Rattle.std.proofs.lemmas.Bool.{cases_lt}
use Rattle.std.proofs.Math.Nat.{div-div-eq-div-mul, mod-lt}
use Rattle.std.proofs.lemmas.List.{get_or-take, get_or-drop, get_or_past, length-take-le, length-drop, take-append-drop}
use Rattle.std.proofs.lemmas.Nat.{be_bytes_8, from_be_bytes-to_be_bytes_8, shr_high, mod_low}
use Rattle.std.specs.Int.{w64, w128, byte_at, bytes_high_first, to_be_bytes, from_be_bytes}

-- the number, by its two halves
from_halves : (bytes : List ℕ)
    → from_be_bytes w128 bytes ≡ from_be_bytes w64 (take 8 bytes) * 2 ^ 64 + from_be_bytes w64
    (drop 8 bytes)
from_halves bytes =
    let f0 = get_or-take 8 bytes 0 0 (omega arith) in
    let f1 = get_or-take 8 bytes 1 0 (omega arith) in
    let f2 = get_or-take 8 bytes 2 0 (omega arith) in
    let f3 = get_or-take 8 bytes 3 0 (omega arith) in
    let f4 = get_or-take 8 bytes 4 0 (omega arith) in
    let f5 = get_or-take 8 bytes 5 0 (omega arith) in
    let f6 = get_or-take 8 bytes 6 0 (omega arith) in
    let f7 = get_or-take 8 bytes 7 0 (omega arith) in
    let s0 = get_or-drop 8 bytes 0 0 in
    let s1 = get_or-drop 8 bytes 1 0 in
    let s2 = get_or-drop 8 bytes 2 0 in
    let s3 = get_or-drop 8 bytes 3 0 in
    let s4 = get_or-drop 8 bytes 4 0 in
    let s5 = get_or-drop 8 bytes 5 0 in
    let s6 = get_or-drop 8 bytes 6 0 in
    let s7 = get_or-drop 8 bytes 7 0 in
    omega (arith, f0, f1, f2, f3, f4, f5, f6, f7, s0, s1, s2, s3, s4, s5, s6, s7)

high_byte : (n p q : ℕ) → n / (p * q) % 256 ≡ n / p / q % 256
high_byte n p q = ap (λ (m : ℕ). m % 256) (sym (div-div-eq-div-mul n p q))

low_byte_0 : (n : ℕ) → n % 256 ≡ n % 2 ^ 64 % 256
low_byte_0 n = omega arith

low_byte_1 : (n : ℕ) → n / 256 % 256 ≡ n % 2 ^ 64 / 256 % 256
low_byte_1 n = omega arith

low_byte_2 : (n : ℕ) → n / 65536 % 256 ≡ n % 2 ^ 64 / 65536 % 256
low_byte_2 n = omega arith

low_byte_3 : (n : ℕ) → n / 16777216 % 256 ≡ n % 2 ^ 64 / 16777216 % 256
low_byte_3 n = omega arith

low_byte_4 : (n : ℕ) → n / 4294967296 % 256 ≡ n % 2 ^ 64 / 4294967296 % 256
low_byte_4 n = omega arith

low_byte_5 : (n : ℕ) → n / 1099511627776 % 256 ≡ n % 2 ^ 64 / 1099511627776 % 256
low_byte_5 n = omega arith

low_byte_6 : (n : ℕ) → n / 281474976710656 % 256 ≡ n % 2 ^ 64 / 281474976710656 % 256
low_byte_6 n = omega arith

low_byte_7 : (n : ℕ) → n / 72057594037927936 % 256 ≡ n % 2 ^ 64 / 72057594037927936 % 256
low_byte_7 n = omega arith

-- the bytes, by the number's two halves
to_halves : (n : ℕ) → to_be_bytes w128 n
    ≡ to_be_bytes w64 (n / 2 ^ 64) ++ to_be_bytes w64 (n % 2 ^ 64)
to_halves n =
    let h7 = high_byte n (2 ^ 64) 72057594037927936 in
    let h6 = high_byte n (2 ^ 64) 281474976710656 in
    let h5 = high_byte n (2 ^ 64) 1099511627776 in
    let h4 = high_byte n (2 ^ 64) 4294967296 in
    let h3 = high_byte n (2 ^ 64) 16777216 in
    let h2 = high_byte n (2 ^ 64) 65536 in
    let h1 = high_byte n (2 ^ 64) 256 in
    λ i. h7 i ∷ h6 i ∷ h5 i ∷ h4 i ∷ h3 i ∷ h2 i ∷ h1 i ∷ n / 2 ^ 64 % 256 ∷ low_byte_7 n i ∷
    low_byte_6 n i ∷ low_byte_5 n i ∷ low_byte_4 n i ∷ low_byte_3 n i ∷ low_byte_2 n i ∷
    low_byte_1 n i ∷ low_byte_0 n i ∷ []

half_fits : (bytes : List ℕ) → ((i : ℕ) → get_or bytes i 0 < 256) → from_be_bytes w64 bytes < 2 ^ 64
half_fits bytes fit = omega (arith, fit 0, fit 1, fit 2, fit 3, fit 4, fit 5, fit 6, fit 7)

-- the bytes of what bytes make are those bytes
pub to_be_bytes-from_be_bytes : (bytes : List ℕ) → length bytes ≡ 16
    → ((i : ℕ) → get_or bytes i 0 < 256)
    → to_be_bytes w128 (from_be_bytes w128 bytes) ≡ bytes
to_be_bytes-from_be_bytes bytes len fit =
    let high = take 8 bytes in
    let low = drop 8 bytes in
    let h = from_be_bytes w64 high in
    let l = from_be_bytes w64 low in
    let high_len : length high ≡ 8 = length-take-le 8 bytes (omega arith) in
    let low_len : length low ≡ 8 = length-drop 8 bytes ∙ omega arith in
    let high_fit : (i : ℕ) → get_or high i 0 < 256 = λ i.
    elim (cases_lt i 8) [
      | inl under ↦ rw (get_or-take 8 bytes i 0 under) (fit i)
      | inr over ↦ rw (get_or_past high i 0 (omega arith)) (omega arith)
    ] in
    let low_fit : (i : ℕ) → get_or low i 0 < 256 =
    λ i. rw (get_or-drop 8 bytes i 0) (fit (8 + i)) in
    let l_fits : l < 2 ^ 64 = half_fits low low_fit in
    let whole = from_halves bytes in
    let quotient : from_be_bytes w128 bytes / 2 ^ 64 ≡ h =
    ap (λ (m : ℕ). m / 2 ^ 64) whole ∙ shr_high h 64 l l_fits in
    let remainder : from_be_bytes w128 bytes % 2 ^ 64 ≡ l =
    ap (λ (m : ℕ). m % 2 ^ 64) whole ∙ mod_low h 64 l l_fits in
    to_halves (from_be_bytes w128 bytes)
    ∙ (λ i. to_be_bytes w64 (quotient i) ++ to_be_bytes w64 (remainder i))
    ∙ (λ i. be_bytes_8 high h high_len high_fit refl i ++ be_bytes_8 low l low_len low_fit refl i)
    ∙ take-append-drop 8 bytes

-- the number that its bytes make is the number
pub from_be_bytes-to_be_bytes : (n : ℕ) → n < 2 ^ 128 → from_be_bytes w128 (to_be_bytes w128 n) ≡ n
from_be_bytes-to_be_bytes n fits =
    let high = to_be_bytes w64 (n / 2 ^ 64) in
    let low = to_be_bytes w64 (n % 2 ^ 64) in
    let h : from_be_bytes w64 (take 8 (to_be_bytes w128 n)) ≡ n / 2 ^ 64 =
    ap (λ (bs : List ℕ). from_be_bytes w64 (take 8 bs)) (to_halves n)
    ∙ from_be_bytes-to_be_bytes_8 (n / 2 ^ 64) (omega arith) in
    let l : from_be_bytes w64 (drop 8 (to_be_bytes w128 n)) ≡ n % 2 ^ 64 =
    ap (λ (bs : List ℕ). from_be_bytes w64 (drop 8 bs)) (to_halves n)
    ∙ from_be_bytes-to_be_bytes_8 (n % 2 ^ 64) (omega arith) in
    from_halves (to_be_bytes w128 n) ∙ (λ i. h i * 2 ^ 64 + l i) ∙ omega arith

byte_fits : (k n : ℕ) → byte_at k n < 256
byte_fits zero n = omega arith
byte_fits (suc k) n = mod-lt (n / 256 ^ suc k) (omega arith)

-- each byte of a number is a byte
pub bytes_fit : (k n : ℕ) → All (λ b. b < 256) (bytes_high_first k n)
bytes_fit zero n i d within = absurd (omega arith)
bytes_fit (suc k) n zero d within = byte_fits k n
bytes_fit (suc k) n (suc i) d within = bytes_fit k n i d (omega arith)
