use Rattle.std.proofs.Common.{◌≡◌, is_some, true, false}
use Rattle.std.specs.BTreeMap.{get}
use Rattle.std.specs.Cmp.Lexicographic.{slice_cmp}
use Rattle.std.specs.Ordering.{nat_cmp}
use Rattle.plan_model.specs.Book.{standing_of}
use Rattle.plan_model.proofs.ListFacts.{book_step_new, book_step_same, put_at}
use Rattle.plan_model.proofs.book.book_of.Goals as goal
use Rattle.plan_model.proofs.book.book_of.Goals.{then-not-contains_key+in_ok-clone+in_ok-insert, else-not-contains_key}

pub loop-vm-preserved : goal.loop-vm-preserved
loop-vm-preserved c = λ q.
    let vm = c.vm-item.result in
    let old = get (slice_cmp nat_cmp) c.loop-vm.book q in
    let old_at = get (slice_cmp nat_cmp) c.loop-vm.book vm.name in
    elim c.if-not-contains_key.branch [
      | then-not-contains_key+in_ok-clone+in_ok-insert w ↦
          let key = w.in_ok-clone.field-0 in
          let new = get (slice_cmp nat_cmp) w.insert.new.self q in
          let absent : is_some old_at ≡ false = cc in
          rw w.book-is (book_step_new c.args.known.now c.loop-vm.vm-index vm q old new old_at
          c.loop-vm-test.true c.vm-item.is (c.loop-vm.invariant q) (c.loop-vm.invariant vm.name)
          absent
          (put_at key vm.name q (standing_of vm) old new w.in_ok-clone.ensures.cases
          (w.in_ok-insert.ensures.updates.0 q)))
      | else-not-contains_key w ↦
          let found : is_some old_at ≡ true = cc in
          rw w.book-is (book_step_same c.args.known.now c.loop-vm.vm-index vm q old old_at
          c.loop-vm-test.true c.vm-item.is (c.loop-vm.invariant q) (c.loop-vm.invariant vm.name)
          found)
    ]
