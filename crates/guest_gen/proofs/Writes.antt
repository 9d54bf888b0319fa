-- The list of writes by its head and its tail, and where each write lies.
use Rattle.std.proofs.Common.{◌≡◌, ℕ, zero, suc, ◌+◌, ◌*◌, ◌/◌, ◌%◌, ◌^◌, ◌<◌, ◌≤◌, List, [], ◌∷◌, map, length, slice_index, All, refl, ap, ap₂, arith, mod-lt}
use Rattle.std.specs.List.{range_with_len}
use Rattle.guest_gen.specs.declared.script.GuestWrite.{GuestWrite}
use Rattle.guest_gen.specs.Script.{number, write_of, write_at, write_from, offered, Lies}

shifted : (f g : ℕ → GuestWrite) → ((k : ℕ) → f (k + 1) ≡ g k) → (a n : ℕ)
    → map f (range_with_len (a + 1) n) ≡ map g (range_with_len a n)
shifted f g e a zero = refl
shifted f g e a (suc n) = ap₂ (λ x xs. x ∷ xs) (e a) (shifted f g e (a + 1) n)

-- the writes from the second on are those from the seed that the first leaves
later : (seed : ℕ) (capacities : List ℕ) (k : ℕ)
    → write_at seed capacities (k + 1) ≡ write_at (write_from seed capacities).stamp capacities k
later seed capacities k =
    let p : 3 * (k + 1) + 1 ≡ suc (suc (suc (3 * k + 1))) = omega arith in
    let q : 3 * (k + 1) + 2 ≡ suc (suc (suc (3 * k + 2))) = omega arith in
    let r : 3 * (k + 1) + 3 ≡ suc (suc (suc (3 * k + 3))) = omega arith in
    λ i. write_of capacities (number seed (p i)) (number seed (q i)) (number seed (r i))

pub offered_next : (seed n : ℕ) (capacities : List ℕ)
    → offered seed (suc n) capacities
    ≡ write_from seed capacities ∷ offered (write_from seed capacities).stamp n capacities
offered_next seed n capacities =
    ap (λ xs. write_from seed capacities ∷ xs)
    (shifted (write_at seed capacities) (write_at (write_from seed capacities).stamp capacities)
    (later seed capacities) 0 n)

all_of : (P : GuestWrite → Type 0) (f : ℕ → GuestWrite) → ((k : ℕ) → P (f k)) → (xs : List ℕ)
    → All P (map f xs)
all_of P f h [] k d lt = absurd (omega arith)
all_of P f h (x ∷ xs) zero d lt = h x
all_of P f h (x ∷ xs) (suc k) d lt = all_of P f h xs k d (omega arith)

pub all_lie : (seed n : ℕ) (capacities : List ℕ) → 1 ≤ length capacities
    → All (λ c. 1 ≤ c) capacities → All (Lies capacities) (offered seed n capacities)
all_lie seed n capacities some sizes =
    all_of (Lies capacities) (write_at seed capacities)
    (λ k.
    let x1 : ℕ = number seed (3 * k + 1) in
    let x2 : ℕ = number seed (3 * k + 2) in
    let x3 : ℕ = number seed (3 * k + 3) in
    let disk : ℕ = (x1 / 2 ^ 33) % length capacities in
    let on : disk < length capacities = mod-lt (x1 / 2 ^ 33) (omega arith) in
    let capacity : ℕ = slice_index capacities disk in
    let large : 1 ≤ capacity = sizes disk 0 on in
    let first : ℕ = (x2 / 2 ^ 33) % capacity in
    let below : first < capacity = mod-lt (x2 / 2 ^ 33) (omega arith) in
    let eighth : ℕ = (x3 / 2 ^ 33) % 8 in
    let small : eighth < 8 = mod-lt (x3 / 2 ^ 33) (omega arith) in
    (on, omega arith, omega arith, omega arith))
    (range_with_len 0 n)
