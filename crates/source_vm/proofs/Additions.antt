-- What a machine adds is a call of its link.
use Rattle.std.proofs.Common.{◌≡◌, ℕ, List, Result, Ok, Err, subst, sym, ap}
use Rattle.log_model.specs.declared.entry.Act.{Act}
use Rattle.log_model.specs.Legal.{Legal, all_of}
use Rattle.log_model.specs.Link.{FollowsFrom}
use Rattle.log_model.proofs.LinkLaws.{calls_follow, adds-go_on}
use Rattle.source_vm.specs.Machine.{MachineState, Adds, with_act, link_of}
use Rattle.source_vm.specs.Laws.{AdditionsFollow}
use Rattle.source_vm.proofs.MachineLemmas.{link_adds}

nothing-added : (who : ℕ) (old new : MachineState) → new ≡ old
    → FollowsFrom (link_of who old) (link_of who new)
nothing-added who old new same =
    subst (λ (m : MachineState). FollowsFrom (link_of who old) (link_of who m)) (sym same)
    (calls_follow (link_of who old) (link_of who old)).no_call

one-added : (who : ℕ) (old new : MachineState) (act : Act) → new ≡ with_act who act old
    → Legal (all_of old.capacities) new.log → FollowsFrom (link_of who old) (link_of who new)
one-added who old new act added legal =
    let sizes : new.capacities ≡ old.capacities =
    ap (λ (m : MachineState). m.capacities) added in
    adds-go_on {T = ℕ} (link_of who old) (link_of who new) (Ok 0) act
    (link_adds {T = ℕ} who (Ok 0) act old new added
    (subst (λ (c : List ℕ). Legal (all_of c) new.log) (sym sizes) legal))

pub additions_follow : (who : ℕ) (old new : MachineState) → AdditionsFollow who old new
additions_follow who old new =
    record { nothing = nothing-added who old new; one = one-added who old new }

-- so each call as it promises leaves a link that goes on
pub adds-follow : {T E : Type 0} (result : Result T E) (who : ℕ) (act : Act)
    (old new : MachineState) → Adds result who act old new
    → Legal (all_of old.capacities) new.log → FollowsFrom (link_of who old) (link_of who new)
adds-follow (Ok answer) who act old new added legal = one-added who old new act added legal
adds-follow (Err refusal) who act old new same legal = nothing-added who old new same
