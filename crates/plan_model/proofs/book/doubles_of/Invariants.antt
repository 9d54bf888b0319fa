use Rattle.std.proofs.Common.{◌≡◌, ℕ, List, take}
use Rattle.std.specs.BTreeMap.{get}
use Rattle.std.specs.Cmp.Lexicographic.{slice_cmp}
use Rattle.std.specs.Ordering.{nat_cmp}
use Rattle.plan_model.specs.Plans.{count_of}
use Rattle.plan_model.specs.Book.{double_of}
use Rattle.plan_model.proofs.book.doubles_of.Given as goal

abbrev pub invariant-loop-name : goal.invariant-loop-name
invariant-loop-name l = (q : List ℕ)
    → get (slice_cmp nat_cmp) l.doubles q ≡ double_of (count_of (take l.name-index l.vms) q)
