-- An entry more.
use Rattle.std.proofs.Common.{◌≡◌, List, length, ap, ◌∙◌, arith}
use Rattle.std.specs.List.{slice_get}
use Rattle.std.specs.Vec.{with_items}
use Rattle.std.proofs.lemmas.List.{with_items_is}
use Rattle.log_facts.specs.declared.snapshots.SnapshotFacts.{SnapshotFacts}
use Rattle.log_facts.specs.Snapshots.{facts_after}
use Rattle.log_facts.proofs.SnapshotLemmas.{as_long, fact_more}
use Rattle.log_facts.proofs.snapshots.snapshots_of.Goals as goal

pub loop-entry-preserved : goal.loop-entry-preserved
loop-entry-preserved c =
    let old = c.loop-entry.snapshots in
    let e = c.entry-item.result in
    let new_is : c.follow.new.snapshots ≡ facts_after e.act old.items =
    c.follow.ensures ∙ ap (facts_after e.act) c.deref_mut.ensures.value in
    let long : length c.follow.new.snapshots ≡ length old.items =
    ap (λ (l : List SnapshotFacts). length l) new_is ∙ as_long e.act old.items in
    let same : (with_items old c.follow.new.snapshots).items ≡ facts_after e.act old.items =
    with_items_is old c.follow.new.snapshots (omega (arith, long, old.ok)) ∙ new_is in
    let still : length (with_items old c.follow.new.snapshots).items ≡ length old.items =
    ap (λ (l : List SnapshotFacts). length l) same ∙ as_long e.act old.items in
    record {
      long = still ∙ c.loop-entry.invariant.long;
      each = λ s less.
          ap (λ (l : List SnapshotFacts). slice_get l s) same
          ∙ fact_more s c.args.log.now c.loop-entry.entry-index e old.items c.loop-entry-test.true
          c.entry-item.is (c.loop-entry.invariant.each s (omega (arith, less, still)));
    }
