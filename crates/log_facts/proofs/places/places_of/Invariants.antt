-- The places so far, and what the entries up to this one say.
use Rattle.std.proofs.Common.{◌≡◌, take}
use Rattle.log_facts.specs.Places.{place_facts}
use Rattle.log_facts.proofs.PlaceLemmas.{AreFirstPlaces}
use Rattle.log_facts.proofs.places.places_of.Given as goal

abbrev pub invariant-loop-place : goal.invariant-loop-place
invariant-loop-place l = record {
  kept : AreFirstPlaces l.log l.place l.places.items;
  here : l.now ≡ place_facts (take l.place l.log);
}
