use Rattle.std.proofs.Common.{◌≡◌, ℕ, List, take}
use Rattle.std.specs.BTreeMap.{get}
use Rattle.std.specs.Cmp.Lexicographic.{slice_cmp}
use Rattle.std.specs.Ordering.{nat_cmp}
use Rattle.plan_model.specs.Book.{standing_in}
use Rattle.plan_model.proofs.book.book_of.Given as goal

abbrev pub invariant-loop-vm : goal.invariant-loop-vm
invariant-loop-vm l = (q : List ℕ)
    → get (slice_cmp nat_cmp) l.book q ≡ standing_in (take l.vm-index l.known) q
