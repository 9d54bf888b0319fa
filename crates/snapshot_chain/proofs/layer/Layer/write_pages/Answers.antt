-- What the layer has is written over, and the pages that need memory are put.
use Rattle.basics.proofs.Results.{on_err}
use Rattle.snapshot_chain.proofs.Slots.{slots_same, slots_within, written, written_within}
use Rattle.snapshot_chain.proofs.layer.Layer.write_pages.Goals as goal

pub returns-in_err-make_slots-clause-err : goal.returns-in_err-make_slots-clause-err
returns-in_err-make_slots-clause-err c =
    on_err c.from_residual-in_err-make_slots.result
    (slots_same c.in_ok-grown.grown c.args.self.now c.make_slots.new.self
    c.make_slots.ensures.added)

pub returns-in_err-make_slots-clause-within : goal.returns-in_err-make_slots-clause-within
returns-in_err-make_slots-clause-within c =
    λ most le was. slots_within most c.in_ok-grown.grown c.args.self.now c.make_slots.new.self
    c.make_slots.ensures.added (c.in_ok-grown.ensures.within most le) was

pub returns-clause-ok : goal.returns-clause-ok
returns-clause-ok c =
    written c.args.first c.args.sectors.now c.args.self.now c.make_slots.new.self
    c.overwrite.new.self c.put_pages.new.self c.in_ok-grown.grown
    c.in_ok-grown.ensures.grown c.make_slots.ensures.added c.overwrite.ensures.sectors
    c.put_pages.ensures

pub returns-clause-within : goal.returns-clause-within
returns-clause-within c = λ most le was.
    written_within most c.args.self.now c.make_slots.new.self c.overwrite.new.self
    c.put_pages.new.self c.in_ok-grown.grown c.make_slots.ensures.added c.overwrite.ensures.slots
    c.put_pages.ensures (c.in_ok-grown.ensures.within most le) was
