-- A page's block is among the blocks where the page has a sector.
use Rattle.std.proofs.Common.{◌≡◌, Some, Option, ap, ◌∙◌, refl, map, nat_cmp, true, ◌||◌, is_some}
use Rattle.std.specs.List.{list_any, range_with_len}
use Rattle.std.specs.BTreeSet.{contains}
use Rattle.std.specs.Map.Iter.{deref_pair}
use Rattle.std.proofs.lemmas.Map.Views.{All-turn}
use Rattle.std.proofs.lemmas.Map.Iter.{iter_end}
use Rattle.std.proofs.lemmas.Bool.{false≢true}
use Rattle.snapshot_chain.specs.Page128.{PageState}
use Rattle.snapshot_chain.specs.Layer.{slot_of, sector_of, has_sector}
use Rattle.snapshot_chain.proofs.Keys.{at_key, by_key}
use Rattle.snapshot_chain.proofs.Masks.{has_some, has_none}
use Rattle.snapshot_chain.proofs.Blocks.{block_added, block_passed, all_blocks}
use Rattle.snapshot_chain.proofs.layer.Layer.add_blocks.Goals as goal

pub loop-key-preserved : goal.loop-key-preserved
loop-key-preserved c =
    let inside : at_key c.self.inside.pages.entries c.in-Some.key.now
    ≡ Some c.in-Some.page.now =
    All-turn deref_pair (λ e. at_key c.self.inside.pages.entries e.0 ≡ Some e.1) _ _ _ _ _ _ _
    c.into_iter-key-iterator.ensures.into_iter_gives.6
    c.into_iter-key-iterator.ensures.into_iter_gives.0 c.loop-key.yielded_by c.in-Some.is
    c.next.ensures.steps in
    λ b. block_passed c.args.self.now (contains nat_cmp c.loop-key.blocks b)
    (contains nat_cmp c.args.blocks.now b) c.loop-key.yielded
    (c.in-Some.key, c.in-Some.page) b
    (λ is. ap (λ (p : Option PageState). list_any (λ k. is_some (sector_of p k))
    (range_with_len 0 128))
    (by_key c.args.self.now b c.in-Some.key.now is ∙ (rw c.self.view_is at inside))
    ∙ has_none c.in-Some.page.now (c.if-not-is_empty.ensures.empty.0 refl))
    (c.loop-key.invariant b)

pub loop-key-preserved-in_ok-insert : goal.loop-key-preserved-in_ok-insert
loop-key-preserved-in_ok-insert c =
    let inside : at_key c.self.inside.pages.entries c.in-Some.key.now
    ≡ Some c.in-Some.page.now =
    All-turn deref_pair (λ e. at_key c.self.inside.pages.entries e.0 ≡ Some e.1) _ _ _ _ _ _ _
    c.into_iter-key-iterator.ensures.into_iter_gives.6
    c.into_iter-key-iterator.ensures.into_iter_gives.0 c.loop-key.yielded_by c.in-Some.is
    c.next.ensures.steps in
    let met : slot_of c.args.self.now c.block_of.result ≡ Some c.in-Some.page.now =
    by_key c.args.self.now c.block_of.result c.in-Some.key.now c.block_of.ensures
    ∙ (rw c.self.view_is at inside) in
    let some : has_sector c.args.self.now c.block_of.result ≡ true =
    ap (λ (p : Option PageState). list_any (λ k. is_some (sector_of p k)) (range_with_len 0 128))
    met ∙ has_some c.in-Some.page.now c.if-not-is_empty.ensures.page
    (λ empty. false≢true (c.if-not-is_empty.ensures.empty.1 empty)) in
    λ b. block_added c.args.self.now (contains nat_cmp c.loop-key.blocks b)
    (contains nat_cmp c.args.blocks.now b) (contains nat_cmp c.insert.new.self b)
    c.loop-key.yielded (c.in-Some.key, c.in-Some.page) c.block_of.result b
    c.block_of.ensures some (c.loop-key.invariant b)
    (c.in_ok-insert.ensures.updates.0 b)

pub returns : goal.returns
returns c =
    let whole : map deref_pair c.loop-key.yielded ≡ c.self.inside.pages.entries =
    (iter_end deref_pair _ _ _ _ _ _ c.into_iter-key-iterator.ensures.into_iter_gives.0
    c.loop-key.yielded_by c.in-None.is c.next.ensures.steps).0 in
    λ b. c.loop-key.invariant b
    ∙ ap (λ x. contains nat_cmp c.args.blocks.now b || x)
    (all_blocks c.args.self.now c.loop-key.yielded b (whole ∙ c.self.view_is))
