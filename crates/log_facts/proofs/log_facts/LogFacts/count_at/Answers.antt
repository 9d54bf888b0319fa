-- A snapshot that has a place was taken.
use Rattle.std.proofs.Common.{◌≡◌, ◌-◌, ◌≤◌, Some, List, length, sym, ap, ◌∙◌, arith, refl}
use Rattle.std.specs.List.{slice_get}
use Rattle.std.proofs.lemmas.Option.{slice_get_read}
use Rattle.log_model.specs.Legal.{all_of}
use Rattle.log_model.specs.Marks.{through}
use Rattle.log_model.specs.Machine.{MachineState}
use Rattle.log_facts.specs.declared.disks.DiskFacts.{DiskFacts}
use Rattle.log_facts.specs.declared.disks.IdCount.{IdCount}
use Rattle.log_facts.specs.Disks.{id_count_of}
use Rattle.log_facts.proofs.LookupLemmas.{count_is}
use Rattle.log_facts.proofs.log_facts.LogFacts.count_at.Goals as goal

pub returns : goal.returns
returns c =
    let at = c.self.inside.machine.value in
    let index : c.in_ok-index.index ≡ c.args.snap - 1 = omega (arith, c.in_ok-index.ensures) in
    let from : 1 ≤ c.args.snap = omega (arith, c.in_ok-index.ensures) in
    let disk : slice_get c.self.inside.disks.items c.args.disk ≡ Some c.in_ok-facts.facts.now =
    ap (λ (l : List DiskFacts). slice_get l c.args.disk) (sym c.deref.ensures.value)
    ∙ slice_get_read c.deref.result.now (length c.deref.result.now) c.args.disk
    c.in_ok-facts.facts.now refl c.in_ok-facts.ensures.lookup.3.0 c.in_ok-facts.ensures.lookup.1
    in
    let read : slice_get c.in_ok-facts.facts.now.counts.items (c.args.snap - 1)
    ≡ Some c.in_ok-count.count.now =
    ap (slice_get c.in_ok-facts.facts.now.counts.items) (sym index)
    ∙ ap (λ (l : List IdCount). slice_get l c.in_ok-index.index) (sym c.deref-2.ensures.value)
    ∙ slice_get_read c.deref-2.result.now (length c.deref-2.result.now) c.in_ok-index.index
    c.in_ok-count.count.now refl c.in_ok-count.ensures.lookup.3.0 c.in_ok-count.ensures.lookup.1
    in
    count_is (all_of at.capacities) c.args.disk c.args.snap at.log
    c.in_ok-facts.facts.now.counts.items c.in_ok-count.count.now c.self.invariant.legal
    (c.self.invariant.by_disk.each c.args.disk c.in_ok-facts.facts.now disk).counts from read
    ∙ ap (λ (a : MachineState). id_count_of c.args.disk (through c.args.snap a.log)) c.self.view_is
