-- The logs that were read stay those of the fleet's machines, and what is found among them of a
-- machine is what that machine tells.
use Rattle.std.proofs.Common.{◌≡◌, ℕ, Bool, Option, Some, option_map, Result, ap, subst, sym, ◌∙◌, inl, inr}
use Rattle.std.specs.Prelude.{◌↔◌, IsTrue, IsSomeAnd, IfOk}
use Rattle.std.specs.BTreeMap.{get}
use Rattle.std.specs.Ordering.{nat_cmp}
use Rattle.basics.specs.declared.refusal.NoMemory.{NoMemory}
use Rattle.std.proofs.lemmas.Option.{same_Some}
use Rattle.source_vm.specs.Machine.{MachineState}
use Rattle.fleet.specs.Fleet.{FleetState, machine_of}
use Rattle.fleet.proofs.In.{is_in}
use Rattle.restart.specs.ReadLogs.{FactsByVm, AreOf, GainsOnly}

-- ---- logs of a fleet

pub still_of : (fleet : FleetState) (vm : ℕ) (machine : MachineState) (old new : FactsByVm)
    → machine_of vm fleet ≡ Some machine → AreOf fleet old → GainsOnly machine old new
    → AreOf fleet new
still_of fleet vm machine old new found of gains k at here = elim (gains k at here) [
  | inl before ↦ of k at before
  | inr now ↦ (
      let same : k ≡ vm = now.0
      ∙ ap (λ (m : MachineState). m.number) (is_in vm machine fleet found).1.same in
      ap (λ (n : ℕ). machine_of n fleet) same ∙ found
      ∙ ap (λ (x : MachineState). Some x) (sym now.1))
]

-- what is found among the logs that were read is what the machine tells
pub told_at : (fleet : FleetState) (vm : ℕ) (machine : MachineState) (old new : FactsByVm)
    (got : Option MachineState) (at : MachineState) → Some machine ≡ machine_of vm fleet
    → AreOf fleet old → GainsOnly machine old new → got ≡ get nat_cmp new vm → got ≡ Some at
    → machine_of vm fleet ≡ Some at
told_at fleet vm machine old new got at found of gains looked is =
    still_of fleet vm machine old new (sym found) of gains vm at (sym looked ∙ is)

pub told_is : (fleet : FleetState) (vm : ℕ) (machine : MachineState) (at : MachineState)
    → Some machine ≡ machine_of vm fleet → machine_of vm fleet ≡ Some at → at ≡ machine
told_is fleet vm machine at found told = same_Some at machine
    (sym told ∙ sym found)

-- ---- what is answered of a machine that is there

pub said_of : (o : Option MachineState) (P : MachineState → Type 0) (at : MachineState)
    (said : Bool) → o ≡ Some at → (IsTrue said ↔ P at) → (IsTrue said ↔ IsSomeAnd o P)
said_of o P at said is h =
    subst (λ (q : Option MachineState). IsTrue said ↔ IsSomeAnd q P) (sym is) h

pub answer_of : (o : Option MachineState) (P : MachineState → Type 0) (at : MachineState)
    (answer : Result Bool NoMemory) → o ≡ Some at → IfOk answer (λ said. IsTrue said ↔ P at)
    → IfOk answer (λ said. IsTrue said ↔ IsSomeAnd o P)
answer_of o P at answer is h = subst
    (λ (q : Option MachineState). IfOk answer (λ said. IsTrue said ↔ IsSomeAnd q P)) (sym is) h
