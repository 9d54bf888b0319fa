-- A block of the other layer is met, and has its slot then.
use Rattle.std.proofs.Common.{◌≡◌, ℕ, Some, IsSome, map, refl, sym, ◌∙◌}
use Rattle.std.specs.Map.Iter.{deref_pair}
use Rattle.std.specs.Map.{keys_of}
use Rattle.std.proofs.lemmas.Map.Views.{All-turn, Contains-keys_from_lookup, tells_apart}
use Rattle.std.proofs.lemmas.Map.Lookups.{exact_unsigned}
use Rattle.std.specs.List.{All}
use Rattle.snapshot_chain.specs.declared.page128.Page128.{Page128}
use Rattle.std.proofs.lemmas.Map.Iter.{iter_end}
use Rattle.std.proofs.lemmas.List.Elements.{All-push, All-map, All-contains}
use Rattle.snapshot_chain.specs.Layer.{key_of, slot_of}
use Rattle.snapshot_chain.proofs.Keys.{at_key, by_key, same_block}
use Rattle.snapshot_chain.proofs.Slots.{one_slot_more, some_still}
use Rattle.snapshot_chain.proofs.layer.Layer.make_slots.Goals as goal

pub loop-key-preserved : goal.loop-key-preserved
loop-key-preserved c =
    let inside : at_key c.other.inside.pages.entries c.in-Some.key.now
    ≡ Some c.in-Some._page.now =
    All-turn deref_pair (λ e. at_key c.other.inside.pages.entries e.0 ≡ Some e.1) _ _ _ _ _ _ _
    c.into_iter-key-iterator.ensures.into_iter_gives.6
    c.into_iter-key-iterator.ensures.into_iter_gives.0 c.loop-key.yielded_by c.in-Some.is
    c.next.ensures.steps in
    let met : slot_of c.args.other.now c.block_of.result ≡ Some c.in-Some._page.now =
    by_key c.args.other.now c.block_of.result c.in-Some.key.now c.block_of.ensures
    ∙ (rw c.other.view_is at inside) in
    record {
      made = All-push (λ x. (b : ℕ) → key_of b ≡ x.0.now → IsSome (slot_of c.make_slot.new.self b))
          c.loop-key.yielded (c.in-Some.key, c.in-Some._page)
          (λ k d less b is. some_still c.loop-key.self c.make_slot.new.self c.block_of.result
          c.in_ok-make_slot.ensures.ok c.make_slot.ensures.others b
          (c.loop-key.invariant.made k d less b is))
          (λ b is. rw (same_block b c.block_of.result (is ∙ sym c.block_of.ensures))
          c.in_ok-make_slot.ensures.ok);
      added = one_slot_more c.args.other.now c.args.self.now c.loop-key.self c.make_slot.new.self
          c.block_of.result (rw met refl) c.loop-key.invariant.added c.make_slot.ensures.added
          c.make_slot.ensures.others;
    }

pub returns-in_err-make_slot-clause-added : goal.returns-in_err-make_slot-clause-added
returns-in_err-make_slot-clause-added c =
    let inside : at_key c.other.inside.pages.entries c.in-Some.key.now
    ≡ Some c.in-Some._page.now =
    All-turn deref_pair (λ e. at_key c.other.inside.pages.entries e.0 ≡ Some e.1) _ _ _ _ _ _ _
    c.into_iter-key-iterator.ensures.into_iter_gives.6
    c.into_iter-key-iterator.ensures.into_iter_gives.0 c.loop-key.yielded_by c.in-Some.is
    c.next.ensures.steps in
    let met : slot_of c.args.other.now c.block_of.result ≡ Some c.in-Some._page.now =
    by_key c.args.other.now c.block_of.result c.in-Some.key.now c.block_of.ensures
    ∙ (rw c.other.view_is at inside) in
    one_slot_more c.args.other.now c.args.self.now c.loop-key.self c.make_slot.new.self
    c.block_of.result (rw met refl) c.loop-key.invariant.added c.make_slot.ensures.added
    c.make_slot.ensures.others

pub returns-clause-ok : goal.returns-clause-ok
returns-clause-ok c =
    let whole : map deref_pair c.loop-key.yielded ≡ c.other.inside.pages.entries =
    (iter_end deref_pair _ _ _ _ _ _ c.into_iter-key-iterator.ensures.into_iter_gives.0
    c.loop-key.yielded_by c.in-None.is c.next.ensures.steps).0 in
    let P : ℕ → Type 0 = λ k. (b : ℕ) → key_of b ≡ k → IsSome (slot_of c.loop-key.self b) in
    let shown : All (λ (e : ℕ × Page128). P e.0) (map deref_pair c.loop-key.yielded) =
    All-map (λ (e : ℕ × Page128). P e.0) deref_pair c.loop-key.yielded
    c.loop-key.invariant.made in
    let each : All (λ (e : ℕ × Page128). P e.0) c.other.inside.pages.entries = rw whole at shown in
    λ b some.
    let there : IsSome (slot_of c.other.inside.pages.entries b) = rw (← c.other.view_is) at some in
    All-contains P (keys_of c.other.inside.pages.entries) (key_of b)
    (All-map P (λ (e : ℕ × Page128). e.0) c.other.inside.pages.entries each)
    (Contains-keys_from_lookup (tells_apart exact_unsigned) (key_of b)
    c.other.inside.pages.entries there) b refl
