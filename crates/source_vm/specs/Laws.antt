-- What the definitions say together. Each law is the contract of a public function of laws.rt whose
-- body does nothing.
use Rattle.std.specs.Prelude.{◌≡◌, ℕ}
use Rattle.log_model.specs.declared.entry.Act.{Act}
use Rattle.log_model.specs.Legal.{Legal, all_of}
use Rattle.log_model.specs.Link.{FollowsFrom}
use Rattle.source_vm.specs.Machine.{MachineState, with_act, link_of}

-- what a machine adds under a caller's number is a call of that caller's link, and a machine that
-- adds nothing leaves the link as it was
pub record AdditionsFollow (who : ℕ) (old new : MachineState) : Type 0 where
  pub nothing : new ≡ old → FollowsFrom (link_of who old) (link_of who new)
  pub one : (act : Act) → new ≡ with_act who act old → Legal (all_of old.capacities) new.log
      → FollowsFrom (link_of who old) (link_of who new)
