use Rattle.std.proofs.Common.{◌≡◌, is_some}
use Rattle.std.specs.BTreeMap.{get}
use Rattle.std.specs.Cmp.Lexicographic.{slice_cmp}
use Rattle.std.specs.Ordering.{nat_cmp}
use Rattle.plan_model.proofs.ListFacts.{doubles_step, put_at}
use Rattle.plan_model.proofs.book.doubles_of.Goals as goal

pub loop-name-preserved : goal.loop-name-preserved
loop-name-preserved c = λ q.
    let name = c.name-item.result in
    let key = c.in_ok-clone.field-0 in
    let old = get (slice_cmp nat_cmp) c.loop-name.doubles q in
    let new = get (slice_cmp nat_cmp) c.insert.new.self q in
    let old_at = get (slice_cmp nat_cmp) c.loop-name.doubles name in
    let put : new ≡ _ = c.in_ok-insert.ensures.updates.0 q in
    let again : c.contains_key-again.result ≡ is_some old_at = c.contains_key-again.ensures in
    doubles_step c.args.vms.now c.loop-name.name-index name q old new old_at
    c.loop-name-test.true c.name-item.is (c.loop-name.invariant q) (c.loop-name.invariant name)
    (put_at key name q (is_some old_at) old new c.in_ok-clone.ensures.cases (rw again at put))
