use Rattle.std.proofs.Common.{◌≡◌, [], ◌∷◌, ◌++◌, List, length, take, Option, Some, refl, sym, ap, subst, ◌∙◌, inl, inr, arith, append_assoc}
use Rattle.std.specs.List.{slice_get}
use Rattle.std.specs.Option.{IsSomeAnd}
use Rattle.std.proofs.Math.Seq.{take-append_seam}
use Rattle.warm_core.specs.declared.disk_world.DiskWorld.{DiskWorld}
use Rattle.warm_core.specs.declared.event.Event.{Event}
use Rattle.warm_core.specs.declared.event.CoreRefused.{CoreRefused}
use Rattle.warm_core.specs.DiskWorld.{world_of, StandsSound, IsRefusalOf}
use Rattle.warm_core.specs.World.{World}
use Rattle.warm_core.specs.Events.{MayHappen, Follows, IsCutShort}
use Rattle.warm_core.specs.Laws.{GoesOn}
use Rattle.warm_core.proofs.Core.{law_of_the_core}
use Rattle.warm_core.proofs.Following.{follows-one-more}
use Rattle.warm_core.proofs.stepping.follow.Goals as goal

-- the next event leaves the others
goes-on : (yielded rest more all : List Event) (event : Event) → yielded ++ rest ≡ all
    → rest ≡ event ∷ more → (yielded ++ event ∷ []) ++ more ≡ all
goes-on yielded rest more all event left is =
    append_assoc yielded (event ∷ []) more ∙ ap (λ (xs : List Event). yielded ++ xs) (sym is) ∙ left

pub loop-event-preserved-in-Ok : goal.loop-event-preserved-in-Ok
loop-event-preserved-in-Ok c = record {
  sound = c.in-Ok.ensures.sound;
  all = follows-one-more c.loop-event.yielded c.in-Some.event (world_of c.args.world)
      (world_of c.loop-event.world) (world_of c.in-Ok.next)
      c.loop-event.invariant.all (inl (c.in-Ok.ensures.happens, c.in-Ok.ensures.effect));
  left = goes-on c.loop-event.yielded c.loop-event.event-iterator.rest.items
      c.next.new.self.rest.items c.into_iter-event-iterator.result.rest.items c.in-Some.event
      c.loop-event.invariant.left (c.in-Some.ensures.steps.0);
}

pub loop-event-preserved : goal.loop-event-preserved
loop-event-preserved c =
    let old = c.loop-event.world in
    let same = c.in-Err-default-NotNow.same in
    let kept : same ≡ old = c.in-Err-default-NotNow.ensures.kept in
    let refused = subst (λ (why : CoreRefused). IsRefusalOf c.in-Some.event (world_of old) why)
    c.in-Err-default-NotNow.field-0-1-is c.in-Err-default-NotNow.ensures.refused in
    record {
      sound = subst (λ (w : DiskWorld). StandsSound w) (sym kept) c.loop-event.invariant.sound;
      all = follows-one-more c.loop-event.yielded c.in-Some.event (world_of c.args.world)
          (world_of old) (world_of same)
          c.loop-event.invariant.all (inr (refused, ap world_of kept));
      left = goes-on c.loop-event.yielded c.loop-event.event-iterator.rest.items
          c.next.new.self.rest.items c.into_iter-event-iterator.result.rest.items c.in-Some.event
          c.loop-event.invariant.left (c.in-Some.ensures.steps.0);
    }

-- what was followed is the front of all events
followed-front : (yielded rest all : List Event) (a b : World) → yielded ++ rest ≡ all
    → Follows yielded a b → Follows (take (length yielded) all) a b
followed-front yielded rest all a b left follows =
    subst (λ (xs : List Event). Follows xs a b)
    (sym (ap (take (length yielded)) (sym left) ∙ take-append_seam yielded rest)) follows

-- and the next of them stands behind
next-of : (yielded more : List Event) (event : Event)
    → slice_get (yielded ++ event ∷ more) (length yielded) ≡ Some event
next-of [] more event = refl
next-of (first ∷ yielded) more event = next-of yielded more event

cut-at : (yielded rest more all : List Event) (event : Event) (a b : World) → yielded ++ rest ≡ all
    → rest ≡ event ∷ more → Follows yielded a b → MayHappen event b → IsCutShort all a b
cut-at yielded rest more all event a b left is follows may =
    let next : slice_get all (length yielded) ≡ Some event =
    ap (λ (xs : List Event). slice_get xs (length yielded))
    (sym left ∙ ap (λ (xs : List Event). yielded ++ xs) is) ∙ next-of yielded more event in (
      length yielded,
      followed-front yielded rest all a b left follows,
      subst (λ (o : Option Event). IsSomeAnd o (λ e. MayHappen e b)) (sym next) may,
    )

pub returns-in-Err-default-NoMemory-clause-cut : goal.returns-in-Err-default-NoMemory-clause-cut
returns-in-Err-default-NoMemory-clause-cut c =
    let old = c.loop-event.world in
    let same = c.in-Err-default-NoMemory.same in
    let kept : same ≡ old = c.in-Err-default-NoMemory.ensures.kept in
    let yielded = c.loop-event.yielded in
    let event = c.in-Some.event in
    let left = c.loop-event.invariant.left ∙ c.into_iter-event-iterator.ensures.into_iter_gives.0 in
    let may = subst (λ (why : CoreRefused). IsRefusalOf event (world_of old) why)
    c.in-Err-default-NoMemory.field-0-1-is c.in-Err-default-NoMemory.ensures.refused in (
      subst (λ (w : DiskWorld). StandsSound w) (sym kept) c.loop-event.invariant.sound,
      subst (λ (w : DiskWorld). IsCutShort c.args.events.items (world_of c.args.world) (world_of w))
          (sym kept)
          (cut-at yielded c.loop-event.event-iterator.rest.items c.next.new.self.rest.items
          c.args.events.items event (world_of c.args.world) (world_of old) left
          (c.in-Some.ensures.steps.0) c.loop-event.invariant.all may),
    )

pub returns-in-Err-default-NoMemory-clause-law_cut :
    goal.returns-in-Err-default-NoMemory-clause-law_cut
returns-in-Err-default-NoMemory-clause-law_cut c =
    let old = c.loop-event.world in
    let kept : c.in-Err-default-NoMemory.same ≡ old = c.in-Err-default-NoMemory.ensures.kept in
    subst (λ (w : DiskWorld). GoesOn (world_of c.args.world) (world_of w)) (sym kept)
    (law_of_the_core c.loop-event.yielded (world_of c.args.world) (world_of old) (omega arith)
    c.requires.sound c.loop-event.invariant.all)

pub returns-clause-law : goal.returns-clause-law
returns-clause-law c =
    law_of_the_core c.loop-event.yielded (world_of c.args.world) (world_of c.loop-event.world)
    (omega arith) c.requires.sound c.loop-event.invariant.all
