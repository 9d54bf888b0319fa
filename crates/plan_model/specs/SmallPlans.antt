-- Three machines and a plan, on which a test computes the definitions.
use Rattle.std.specs.Prelude.{ℕ, Bool, true, false, List, [], ◌∷◌, codes}
use Rattle.plan_model.specs.declared.plan.Plan.{Plan}
use Rattle.plan_model.specs.declared.plan.VmFact.{VmFact}

abbrev pub machine : (name : List ℕ) (number : ℕ) (in_plan tracking : Bool) → VmFact
machine name number in_plan tracking =
    record { name = name; number = number; in_plan = in_plan; tracking = tracking }

-- one that is free, one that is in a plan, one that isn't tracked
abbrev pub three_machines : List VmFact
three_machines = machine (codes "a") 3 false true ∷ machine (codes "b") 5 true true
    ∷ machine (codes "c") 7 false false ∷ []

abbrev pub one_plan : List Plan
one_plan = record { number = 1; name = codes "p"; interval = 10; vms = 5 ∷ [] } ∷ []
