-- The writes of a guest, as a list over the numbers of its generator.
use Rattle.std.specs.Prelude.{ℕ, zero, suc, ◌+◌, ◌-◌, ◌*◌, ◌/◌, ◌%◌, ◌^◌, ◌<◌, ◌≤◌, List, map, length, min, slice_index}
use Rattle.std.specs.List.{range_with_len}
use Rattle.basics.specs.Generator.{advance}
use Rattle.guest_gen.specs.declared.script.GuestWrite.{GuestWrite}

-- the k-th number after the seed
abbrev pub number : (seed k : ℕ) → ℕ
number seed zero = seed
number seed (suc k) = number (advance seed) k

-- the write that three numbers make
abbrev pub write_of : (capacities : List ℕ) (x1 x2 x3 : ℕ) → GuestWrite
write_of capacities x1 x2 x3 =
    let disk : ℕ = (x1 / 2 ^ 33) % length capacities in
    let capacity : ℕ = slice_index capacities disk in
    let first : ℕ = (x2 / 2 ^ 33) % capacity in
    record {
      disk = disk;
      first = first;
      count = min (1 + (x3 / 2 ^ 33) % 8) (capacity - first);
      stamp = x3;
    }

-- the k-th write takes the numbers 3k + 1 to 3k + 3
abbrev pub write_at : (seed : ℕ) (capacities : List ℕ) (k : ℕ) → GuestWrite
write_at seed capacities k =
    let nth : ℕ → ℕ = number seed in
    write_of capacities (nth (3 * k + 1)) (nth (3 * k + 2)) (nth (3 * k + 3))

abbrev pub write_from : (seed : ℕ) (capacities : List ℕ) → GuestWrite
write_from seed capacities = write_at seed capacities 0

abbrev pub offered : (seed count : ℕ) (capacities : List ℕ) → List GuestWrite
offered seed count capacities = map (write_at seed capacities) (range_with_len 0 count)

-- the write has 1 to 8 sectors, which are all on its disk
abbrev pub Lies : (capacities : List ℕ) → GuestWrite → Type 0
Lies capacities w =
    (w.disk < length capacities) × (1 ≤ w.count) × (w.count ≤ 8)
    × (w.first + w.count ≤ slice_index capacities w.disk)
