-- What was tried in place made no slot.
use Rattle.snapshot_chain.proofs.layer.Layer.write.Goals as goal

pub returns-clause-within : goal.returns-clause-within
returns-clause-within c =
    λ most le was. c.write_pages.ensures.within most le
    (λ block some. was block (c.put_in_place.ensures.slots block some))
