-- The machines at work as a map: of each of them its live migration, none where it waits for it.
-- Plans put their machines in, all waiting, and take them out again.
use Rattle.std.specs.Prelude.{◌≡◌, ℕ, ◌==◌, ◌&&◌, Bool, true, false, List, Option, Some, None, is_some, if◌then◌else◌}
use Rattle.std.specs.List.{list_any}
use Rattle.std.specs.BTreeMap.{BTreeMap, get}
use Rattle.std.specs.Ordering.{nat_cmp}
use Rattle.ctl_state.specs.declared.refusal.StateRefused.{StateRefused}
use Rattle.ctl_state.specs.declared.refusal.StateRefused.TheVariants.{Strange, NoMemory}
use Rattle.ctl_state.specs.Value.{is_listed}
use Rattle.ctl_state.specs.MayStand.{has_double}

abbrev pub Work : Type 0
Work = BTreeMap ℕ (Option ℕ)

abbrev pub is_in : Work → (vm : ℕ) → Bool
is_in work vm = is_some (get nat_cmp work vm)

-- none of the list is in the map
abbrev pub HasNone : Work → (vms : List ℕ) → Type 0
HasNone work vms = list_any (is_in work) vms ≡ false

-- both maps say the same
abbrev pub HasSame : (old new : Work) → Type 0
HasSame old new = (vm : ℕ) → get nat_cmp new vm ≡ get nat_cmp old vm

-- those of the list are in it besides, and wait
abbrev pub Joins : (old new : Work) (vms : List ℕ) → Type 0
Joins old new vms = (vm : ℕ)
    → get nat_cmp new vm ≡ (if is_listed vms vm then Some None else get nat_cmp old vm)

-- those of the list are in it no longer
abbrev pub Leaves : (old new : Work) (vms : List ℕ) → Type 0
Leaves old new vms = (vm : ℕ)
    → get nat_cmp new vm ≡ (if is_listed vms vm then None else get nat_cmp old vm)

-- the machine, where it is in the map, has this migration
abbrev pub Begins : (old new : Work) (vm mig : ℕ) → Type 0
Begins old new vm mig = (other : ℕ) → get nat_cmp new other
    ≡ (if other == vm && is_in old vm then Some (Some mig) else get nat_cmp old other)

-- what is answered where memory runs out for a list of machines
abbrev pub why_not : (vms : List ℕ) → StateRefused
why_not vms = if has_double vms then Strange else NoMemory
