-- Rises of counts, one after another and of one count through another.
use Rattle.std.proofs.Common.{◌≡◌, ℕ, ◌+◌, ◌-◌, ◌≤◌, arith}
use Rattle.basics.specs.Faults.{counted_by, RoseBy}

-- a rise stays one, however long before or after it the count is read
pub rose_on : (n before from to now : ℕ) → before ≤ from → RoseBy n from to → to ≤ now
    → RoseBy n before now
rose_on n before from to now earlier rose later = omega arith

-- two rises add up
pub rose_again : (m n before mid now : ℕ) → RoseBy m before mid → RoseBy n mid now
    → RoseBy (m + n) before now
rose_again m n before mid now first next = omega arith

-- where one count, which has another in it, goes up by the rise of that, it goes up by as much
pub rose_with : (n from to before : ℕ) → from ≤ before → RoseBy n from to
    → RoseBy n before (counted_by (to - from) before)
rose_with n from to before inside rose = omega arith

-- a count that may not fall and goes up by nothing stays
pub counted_by_none : (before : ℕ) → before ≤ counted_by 0 before → counted_by 0 before ≡ before
counted_by_none before later = omega arith

-- one step after another is their sum
pub counted_by_again : (m n before : ℕ)
    → counted_by n (counted_by m before) ≡ counted_by (m + n) before
counted_by_again m n before = omega arith
