-- A place more.
use Rattle.std.proofs.Common.{◌+◌, subst, sym, List, ◌∙◌}
use Rattle.log_facts.specs.declared.places.PlaceFacts.{PlaceFacts}
use Rattle.log_facts.proofs.PlaceLemmas.{AreFirstPlaces, kept_more, place_more}
use Rattle.log_facts.proofs.places.places_of.Goals as goal

pub loop-place-preserved : goal.loop-place-preserved
loop-place-preserved c = record {
  kept = subst (λ (ps : List PlaceFacts). AreFirstPlaces c.args.log.now (c.loop-place.place + 1) ps)
      (sym c.in_ok-push.ensures.items)
      (kept_more c.args.log.now c.loop-place.place c.loop-place.places.items c.loop-place.now
      c.loop-place.invariant.kept c.loop-place.invariant.here);
  here = c.after-now.ensures
      ∙ place_more c.args.log.now c.loop-place.place c.loop-place.now c.index-log-place.result
      c.loop-place-test.true c.index-log-place.is c.loop-place.invariant.here;
}
