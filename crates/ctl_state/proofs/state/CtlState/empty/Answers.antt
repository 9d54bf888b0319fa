use Rattle.ctl_state.proofs.KeptFacts.{kept_empty}
use Rattle.ctl_state.proofs.state.CtlState.empty.Goals as goal

pub invariant_of-result : goal.invariant_of-result
invariant_of-result c = kept_empty c.new.result.items c.new-2.result.items c.new-3.result.items
    c.new-4.result c.new-5.result c.new.ensures.items c.new-2.ensures.items c.new-3.ensures.items
    c.new-4.ensures.empty c.new-5.ensures.empty
