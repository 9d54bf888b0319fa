-- The set of the blocks, its list, and the areas of that.
use Rattle.std.proofs.Common.{List, take, ap, ◌∙◌}
use Rattle.std.specs.List.{list_any}
use Rattle.std.proofs.lemmas.List.{take_all}
use Rattle.std.proofs.lemmas.Map.Keys.{IsStrictlyIncreasing-from_sorted}
use Rattle.sector_model.specs.Run.{touches, touched_blocks, areas_of}
use Rattle.log_model.specs.Entry.{writes_of}
use Rattle.log_facts.proofs.StageLemmas.{touched_more, begin_below, areas_are}
use Rattle.log_facts.proofs.stages.areas_touched.Goals as goal

pub loop-entry-preserved : goal.loop-entry-preserved
loop-entry-preserved c = λ block.
    touched_more c.args.capacity c.args.disk block c.loop-entry.entry-index c.args.entries.now
    c.entry-item.result _ _
    c.loop-entry-test.true c.entry-item.is (c.loop-entry.invariant block)
    (c.in_ok-touch.ensures block)

pub from_blocks-requires-clause-ascending : goal.from_blocks-requires-clause-ascending
from_blocks-requires-clause-ascending c =
    rw (c.deref.ensures.value, c.in_ok-list.ensures.keys)
    (IsStrictlyIncreasing-from_sorted c.loop-entry.blocks.keys c.in_ok-list.ensures.ordered)

pub from_blocks-requires-clause-begin_below : goal.from_blocks-requires-clause-begin_below
from_blocks-requires-clause-begin_below c =
    rw (c.deref.ensures.value, c.in_ok-list.ensures.keys)
    (begin_below c.args.capacity c.loop-entry.blocks
    (λ b. list_any (touches b)
    (writes_of c.args.disk (take c.loop-entry.entry-index c.args.entries.now)))
    c.loop-entry.invariant)

pub returns : goal.returns
returns c =
    c.in-Ok.ensures ∙ ap (areas_of c.args.capacity)
    (c.deref.ensures.value ∙ c.in_ok-list.ensures.keys)
    ∙ areas_are c.args.capacity c.loop-entry.blocks
    (writes_of c.args.disk (take c.loop-entry.entry-index c.args.entries.now))
    c.loop-entry.invariant
    ∙ ap (λ (l : List _). areas_of c.args.capacity
    (touched_blocks c.args.capacity (writes_of c.args.disk l)))
    (take_all c.loop-entry.entry-index c.args.entries.now c.loop-entry-test.false)
