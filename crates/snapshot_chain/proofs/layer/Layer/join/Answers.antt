-- The upper layer's pages are taken first, so they win.
use Rattle.snapshot_chain.proofs.Slots.{merged_room, merged_room_within}
use Rattle.snapshot_chain.proofs.layer.Layer.join.Goals as goal

pub returns-clause-merged : goal.returns-clause-merged
returns-clause-merged c =
    merged_room c.args.lower c.args.upper c.args.self.now c.take_pages.new.self
    c.take_pages-2.new.self c.requires c.take_pages.ensures c.take_pages-2.ensures

pub returns-clause-within : goal.returns-clause-within
returns-clause-within c =
    merged_room_within c.args.lower c.args.upper c.args.self.now c.take_pages.new.self
    c.take_pages-2.new.self c.requires c.take_pages.ensures c.take_pages-2.ensures
