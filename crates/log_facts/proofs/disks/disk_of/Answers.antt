-- An entry more: its snapshot has its identifier, and its reset is the last one.
use Rattle.std.proofs.Common.{◌≡◌, ℕ, List, [], ◌∷◌, ◌++◌, length, take, Option, Vec, Global, subst, sym, ap, ◌∙◌, arith}
use Rattle.std.proofs.lemmas.List.{length-take-le}
use Rattle.basics.proofs.ItemAt.{take-next_read}
use Rattle.log_facts.specs.declared.disks.IdCount.{IdCount}
use Rattle.log_model.specs.declared.entry.Entry.{Entry}
use Rattle.log_facts.specs.Disks.{AreCounts, IsLastReset, id_count_of}
use Rattle.log_facts.proofs.DiskLemmas.{count_more, few_more, counts_pushed, counts_same, reset_here, reset_before}
use Rattle.log_facts.proofs.disks.disk_of.Goals as goal
use Rattle.log_facts.proofs.disks.disk_of.Goals.{then-is_snap+in_ok-push, else-is_snap, then-resets, else-resets}

pub loop-place-preserved : goal.loop-place-preserved
loop-place-preserved c =
    let log = c.args.log.now in
    let i = c.loop-place.place in
    let e = c.index-log-place.result in
    let more = take-next_read log i e c.loop-place-test.true c.index-log-place.is in
    let counts = c.after-count.ensures
    ∙ count_more c.args.disk log i c.loop-place.count e c.loop-place-test.true
    c.index-log-place.is c.loop-place.invariant.counts in
    let few = few_more c.args.disk i c.loop-place.count c.after-count.result e
    c.loop-place.invariant.few_resets c.loop-place.invariant.few_counted c.after-count.ensures
    in
    let long : length (take i log) ≡ i =
    length-take-le i log (omega (arith, c.loop-place-test.true)) in
    let here = counts ∙ ap (id_count_of c.args.disk) more in
    record {
      counts = counts;
      few_resets = few.0;
      few_counted = few.1;
      are = subst (λ (l : List Entry). AreCounts c.args.disk l c.if-is_snap.counts.items) (sym more)
          (elim c.if-is_snap.branch [
            | then-is_snap+in_ok-push w ↦
                subst (λ (counts : List IdCount). AreCounts c.args.disk (take i log ++ e ∷ [])
                counts)
                (sym (ap (λ (v : Vec IdCount Global). v.items) w.counts-is
                ∙ w.in_ok-push.ensures.items))
                (counts_pushed c.args.disk (take i log) e c.loop-place.counts.items
                c.after-count.result (sym c.is_snap.ensures ∙ w.if-is_snap.true) here
                c.loop-place.invariant.are)
            | else-is_snap w ↦
                subst (λ (counts : List IdCount). AreCounts c.args.disk (take i log ++ e ∷ [])
                counts)
                (sym (ap (λ (v : Vec IdCount Global). v.items) w.counts-is))
                (counts_same c.args.disk (take i log) e c.loop-place.counts.items
                (sym c.is_snap.ensures ∙ w.if-is_snap.false) c.loop-place.invariant.are)
          ]);
      reset = subst (λ (l : List Entry). IsLastReset c.args.disk l c.if-resets.last_reset)
          (sym more)
          (elim c.if-resets.branch [
            | then-resets w ↦
                subst (λ (o : Option ℕ). IsLastReset c.args.disk (take i log ++ e ∷ []) o)
                (sym w.last_reset-is)
                (reset_here c.args.disk i (take i log) e c.loop-place.last_reset long
                (sym c.resets.ensures ∙ w.if-resets.true) c.loop-place.invariant.reset)
            | else-resets w ↦
                subst (λ (o : Option ℕ). IsLastReset c.args.disk (take i log ++ e ∷ []) o)
                (sym w.last_reset-is)
                (reset_before c.args.disk (take i log) e c.loop-place.last_reset
                (sym c.resets.ensures ∙ w.if-resets.false) c.loop-place.invariant.reset)
          ]);
    }
