-- First all slots are made, then each page of the lower layer gets its room.
use Rattle.std.proofs.Common.{◌≡◌, ℕ, Some, IsSome, map, [], arith, refl, sym, ◌∙◌}
use Rattle.std.specs.Map.Iter.{deref_pair}
use Rattle.std.specs.Map.{keys_of}
use Rattle.std.proofs.lemmas.Map.Views.{All-turn, Contains-keys_from_lookup, tells_apart}
use Rattle.std.proofs.lemmas.Map.Lookups.{exact_unsigned}
use Rattle.std.specs.List.{All}
use Rattle.snapshot_chain.specs.declared.page128.Page128.{Page128}
use Rattle.std.proofs.lemmas.Map.Iter.{iter_end}
use Rattle.std.proofs.lemmas.List.Elements.{All-push, All-map, All-contains}
use Rattle.snapshot_chain.specs.Layer.{key_of, slot_of, AddsSlots, IsRoomAt}
use Rattle.snapshot_chain.proofs.Keys.{at_key, by_key, same_block}
use Rattle.snapshot_chain.proofs.Slots.{open_slots, room_more, open_more, room_each, room_within}
use Rattle.snapshot_chain.proofs.layer.Layer.room_for.Goals as goal

pub loop-key-init : goal.loop-key-init
loop-key-init c =
    let one : AddsSlots c.args.lower.now [] c.make_slots.new.self =
    rw c.new-room.ensures at c.make_slots.ensures.added in
    record {
      made = λ k d less. absurd (omega (arith, less));
      open_still = open_slots c.args.lower.now c.args.upper.now c.make_slots.new.self
          c.make_slots-2.new.self one c.make_slots-2.ensures.added c.in_ok-make_slots.ensures.ok
          c.in_ok-make_slots-2.ensures.ok;
      slots = λ b some. some;
    }

pub join_page-requires : goal.join_page-requires
join_page-requires c =
    let inside : at_key c.lower.inside.pages.entries c.in-Some.key.now
    ≡ Some c.in-Some.page.now =
    All-turn deref_pair (λ e. at_key c.lower.inside.pages.entries e.0 ≡ Some e.1) _ _ _ _ _ _ _
    c.into_iter-key-iterator.ensures.into_iter_gives.6
    c.into_iter-key-iterator.ensures.into_iter_gives.0 c.loop-key.yielded_by c.in-Some.is
    c.next.ensures.steps in
    let met : slot_of c.args.lower.now c.block_of.result ≡ Some c.in-Some.page.now =
    by_key c.args.lower.now c.block_of.result c.in-Some.key.now c.block_of.ensures
    ∙ (rw c.lower.view_is at inside) in
    rw met at (c.loop-key.invariant.open_still c.block_of.result)

pub loop-key-preserved : goal.loop-key-preserved
loop-key-preserved c =
    let inside : at_key c.lower.inside.pages.entries c.in-Some.key.now
    ≡ Some c.in-Some.page.now =
    All-turn deref_pair (λ e. at_key c.lower.inside.pages.entries e.0 ≡ Some e.1) _ _ _ _ _ _ _
    c.into_iter-key-iterator.ensures.into_iter_gives.6
    c.into_iter-key-iterator.ensures.into_iter_gives.0 c.loop-key.yielded_by c.in-Some.is
    c.next.ensures.steps in
    let met : slot_of c.args.lower.now c.block_of.result ≡ Some c.in-Some.page.now =
    by_key c.args.lower.now c.block_of.result c.in-Some.key.now c.block_of.ensures
    ∙ (rw c.lower.view_is at inside) in
    let others = c.join_page.ensures.others in
    record {
      made = All-push (λ x. (b : ℕ) → key_of b ≡ x.0.now
          → IsRoomAt (slot_of c.args.lower.now b) (slot_of c.args.upper.now b)
          (slot_of c.join_page.new.self b))
          c.loop-key.yielded (c.in-Some.key, c.in-Some.page)
          (λ k d less b is. room_more c.args.lower.now c.args.upper.now c.loop-key.room
          c.join_page.new.self c.block_of.result c.in-Some.page.now met
          c.in_ok-join_page.ensures.here others b (c.loop-key.invariant.made k d less b is))
          (λ b is. rw (same_block b c.block_of.result (is ∙ sym c.block_of.ensures), met)
          c.in_ok-join_page.ensures.here);
      open_still = λ b. open_more c.args.lower.now c.args.upper.now c.loop-key.room
          c.join_page.new.self c.block_of.result c.in-Some.page.now met
          c.in_ok-join_page.ensures.here others b (c.loop-key.invariant.open_still b);
      slots = λ b some. c.loop-key.invariant.slots b (c.join_page.ensures.slots b some);
    }

pub returns : goal.returns
returns c =
    let whole : map deref_pair c.loop-key.yielded ≡ c.lower.inside.pages.entries =
    (iter_end deref_pair _ _ _ _ _ _ c.into_iter-key-iterator.ensures.into_iter_gives.0
    c.loop-key.yielded_by c.in-None.is c.next.ensures.steps).0 in
    let P : ℕ → Type 0 = λ k. (b : ℕ) → key_of b ≡ k → IsRoomAt (slot_of c.args.lower.now b)
    (slot_of c.args.upper.now b) (slot_of c.loop-key.room b) in
    let shown : All (λ (e : ℕ × Page128). P e.0) (map deref_pair c.loop-key.yielded) =
    All-map (λ (e : ℕ × Page128). P e.0) deref_pair c.loop-key.yielded
    c.loop-key.invariant.made in
    let each : All (λ (e : ℕ × Page128). P e.0) c.lower.inside.pages.entries = rw whole at shown in
    let found : (b : ℕ) → IsSome (slot_of c.args.lower.now b) → P (key_of b) = λ b some.
    let there : IsSome (slot_of c.lower.inside.pages.entries b) = rw (← c.lower.view_is) at some in
    All-contains P (keys_of c.lower.inside.pages.entries) (key_of b)
    (All-map P (λ (e : ℕ × Page128). e.0) c.lower.inside.pages.entries each)
    (Contains-keys_from_lookup (tells_apart exact_unsigned) (key_of b)
    c.lower.inside.pages.entries there) in
    let one : AddsSlots c.args.lower.now [] c.make_slots.new.self =
    rw c.new-room.ensures at c.make_slots.ensures.added in
    record {
      each = λ b. room_each (slot_of c.args.lower.now b) (slot_of c.args.upper.now b)
          (slot_of c.loop-key.room b) (λ some. found b some b refl)
          (c.loop-key.invariant.open_still b);
      within = λ most low up. room_within most c.args.lower.now c.args.upper.now
          c.make_slots.new.self c.make_slots-2.new.self c.loop-key.room one
          c.make_slots-2.ensures.added c.loop-key.invariant.slots low up;
    }
