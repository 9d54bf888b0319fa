-- What is known of the machine of a name, apart from the name itself. The reasons to refuse it, and
-- its number, are read from that, whether it was found in the list of facts or in a map of them.
use Rattle.std.specs.Prelude.{ℕ, Bool, false, not, ◌==◌, nat_lt, List, Option, Some, None, option_map, is_some, if◌then◌else◌}
use Rattle.std.specs.List.{find}
use Rattle.std.specs.Option.{option_map_or}
use Rattle.std.specs.Str.{bytes_eq}
use Rattle.plan_model.specs.declared.plan.VmFact.{VmFact}
use Rattle.plan_model.specs.declared.book.Standing.{Standing}

-- the first fact of this name
abbrev pub fact_of : (known : List VmFact) (name : List ℕ) → Option VmFact
fact_of known name = find (λ vm. bytes_eq vm.name name) known

abbrev pub standing_of : VmFact → Standing
standing_of vm = record { number = vm.number; in_plan = vm.in_plan; tracking = vm.tracking }

abbrev pub standing_in : (known : List VmFact) (name : List ℕ) → Option Standing
standing_in known name = option_map standing_of (fact_of known name)

abbrev pub is_unknown : Option Standing → Bool
is_unknown standing = not (is_some standing)

abbrev pub is_in_plan : Option Standing → Bool
is_in_plan standing = option_map_or (λ vm. vm.in_plan) standing false

abbrev pub is_untracked : Option Standing → Bool
is_untracked standing = option_map_or (λ vm. not vm.tracking) standing false

-- 0 where there is no machine
abbrev pub number_of : Option Standing → ℕ
number_of standing = option_map_or (λ vm. vm.number) standing 0

-- what is kept of a name that was listed so often: whether it was twice or more
abbrev pub double_of : (count : ℕ) → Option Bool
double_of count = if count == 0 then None else Some (nat_lt 1 count)

abbrev pub is_double : Option Bool → Bool
is_double kept = option_map_or (λ again. again) kept false
