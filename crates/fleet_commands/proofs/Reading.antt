-- What is read of a machine is what the command is answered.
use Rattle.std.proofs.Common.{◌≡◌, ℕ, ◌+◌, List, length, slice_range, Option, Some, None, option_and_then, Ok, Err, refl, ap, ◌∙◌, sym}
use Rattle.sector_model.specs.declared.sector.Sector.{Sector}
use Rattle.log_model.specs.declared.refusals.LinkRefused.{LinkRefused}
use Rattle.source_vm.specs.Machine.{MachineState}
use Rattle.fleet.specs.Fleet.{FleetState, vm_number, machine_of}
use Rattle.answers.specs.Answer.{AnswersFor}
use Rattle.fleet_commands.specs.Machines.{machine_named}
use Rattle.fleet_commands.specs.Refusals.{link_told}
use Rattle.fleet_commands.specs.commands.Read.{refusal_at, disk_at, sectors_reply, read_refusal, read_reply, Reads}
use Rattle.answers.specs.declared.refusal.Refusal.{Refusal}
use Rattle.fleet_commands.proofs.Lifting.{refused_as, replied_as}
use Rattle.fleet_commands.proofs.Showing.{accepted_none, refused_some}

-- the machine that is found by the number of its name
pub named_by : (vm name : List ℕ) (fleet : FleetState) (number : ℕ) (m : MachineState)
    → name ≡ vm → vm_number name fleet ≡ Some number → machine_of number fleet ≡ Some m
    → machine_named vm fleet ≡ Some m
named_by vm name fleet number m same numbered is =
    ap (option_and_then (λ n. machine_of n fleet))
    (ap (λ text. vm_number text fleet) (sym same) ∙ numbered) ∙ is

module _ (vm : List ℕ) (disk first count : ℕ) (snapshot : Option ℕ) (fleet : FleetState)
    (old new : List Sector) (sized : length old ≡ count) where
  pub read_answers : Reads vm disk first snapshot fleet (Some (Ok tt)) old new
      → AnswersFor (read_refusal vm disk first count snapshot fleet)
      (read_reply vm disk first count snapshot fleet) fleet (Ok (sectors_reply new)) fleet fleet
  read_answers reads =
      let m : MachineState = reads.0 in
      let none : refusal_at snapshot disk first (length old) m ≡ None =
      accepted_none (refusal_at snapshot disk first (length old) m) (Ok tt) tt reads.2 refl in (
        refused_as vm m fleet reads.1
            (λ x. option_and_then link_told (refusal_at snapshot disk first count x))
            ∙ ap (λ n. option_and_then link_told (refusal_at snapshot disk first n m)) (sym sized)
            ∙ ap (option_and_then link_told) none,
        ap sectors_reply (reads.3
            ∙ ap (λ n. slice_range (disk_at snapshot disk m) first (first + n)) sized)
            ∙ sym (replied_as vm m fleet reads.1
            (λ x. sectors_reply (slice_range (disk_at snapshot disk x) first (first + count)))),
        refl,
      )

  pub read_refuses : (why : LinkRefused) (said : Refusal)
      → Reads vm disk first snapshot fleet (Some (Err why)) old new → link_told why ≡ Some said
      → AnswersFor (read_refusal vm disk first count snapshot fleet)
      (read_reply vm disk first count snapshot fleet) fleet (Err said) fleet fleet
  read_refuses why said reads told =
      let m : MachineState = reads.0 in
      let stands : refusal_at snapshot disk first (length old) m ≡ Some why =
      refused_some (refusal_at snapshot disk first (length old) m) (Err why) why reads.2 refl in (
        refused_as vm m fleet reads.1
            (λ x. option_and_then link_told (refusal_at snapshot disk first count x))
            ∙ ap (λ n. option_and_then link_told (refusal_at snapshot disk first n m)) (sym sized)
            ∙ ap (option_and_then link_told) stands ∙ told,
        refl,
      )
