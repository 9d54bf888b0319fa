-- What a call of a machine leaves of its log and of its disks.
use Rattle.std.proofs.Common.{◌≡◌, ℕ, List, [], ◌∷◌, ◌++◌, length, take, drop, Bool, true, false, cond, ◌&&◌, Option, Some, None, Bor, Result, Ok, Err, is_ok, OnOk, IfOk, MatchResult, subst, sym, ap, refl, ◌∙◌, arith}
use Rattle.std.specs.List.{slice_get}
use Rattle.std.specs.Slice.{IsItemAt}
use Rattle.std.proofs.lemmas.Bool.{false≢true, lt-ltb}
use lib.Seq.{take-append_seam}
use Rattle.std.proofs.lemmas.Option.{none-some, slice_get_read, slice_get_within}
use Rattle.basics.specs.Refusal.{IsRefusedBy}
use Rattle.snapshot_chain.specs.declared.chain.ChainRefused.{ChainRefused}
use Rattle.snapshot_chain.specs.declared.chain.ChainRefused.TheVariants.{Range as ChainRange}
use Rattle.sector_model.specs.Run.{is_within}
use Rattle.log_model.specs.declared.entry.Act.{Act}
use Rattle.log_model.specs.declared.entry.Entry.{Entry}
use Rattle.log_model.specs.declared.refusals.LinkRefused.{LinkRefused}
use Rattle.log_model.specs.Legal.{Legal, all_of, capacity_of}
use Rattle.log_model.specs.Laws.{FitsBehind}
use Rattle.log_model.specs.Link.{AddsAct, log_met}
use Rattle.log_model.specs.Refusals.{is_known, is_on_disk}
use Rattle.log_model.proofs.LegalLogs.{legal_grows, legal_front, legal_grew}
use Rattle.log_model.proofs.Accepted.{plain_adds, log_before}
use Rattle.source_disk.specs.SourceDisk.{SourceDiskState, capacity_of as size_of}
use Rattle.source_vm.specs.MachineLog.{LogState}
use Rattle.source_vm.specs.Machine.{MachineState, Adds, link_of}
use Rattle.source_vm.proofs.FactLemmas.{entry}
use Rattle.source_vm.specs.Disks.{AreDisks, IsSound, StillDisks, DisksTake}

-- ---- results

-- a value that goes on through a change of the error
pub found_on : {T E D : Type 0} (P : T → Type 0) (Q : E → Type 0) (r : Result T E) (m : Result T D)
    → MatchResult r (λ x. m ≡ Ok x) Q → is_ok r ≡ true → IfOk r P → IfOk m P
found_on P Q (Ok x) m h is p = subst (λ y. IfOk y P) (sym h) p
found_on P Q (Err e) m h is p = absurd (false≢true is)

-- ---- the log

abbrev pub IsPushed : (who : ℕ) → Act → (old new : LogState) → Type 0
IsPushed who act old new =
    new ≡ record old { entries = old.entries ++ entry who act ∷ []; room = false }

pub sound_still : (number : ℕ) (log roomy : LogState) (old new : List SourceDiskState)
    → roomy ≡ record log { room = true } → IsSound number log.capacities log.entries old
    → StillDisks old new
    → IsSound number roomy.capacities roomy.entries new
sound_still number log roomy old new is sound still =
    subst (λ (r : LogState). IsSound number r.capacities r.entries new) (sym is)
    (record {
      sizes = sound.sizes;
      legal = sound.legal;
      stand = still number log.capacities
          log.entries sound.stand;
    })

pub sound_after : (number : ℕ) (log roomy pushed : LogState) (who : ℕ) (act : Act)
    (old new : List SourceDiskState) → roomy ≡ record log { room = true }
    → IsPushed who act roomy pushed
    → FitsBehind (all_of log.capacities) log.entries who act
    → IsSound number log.capacities log.entries old → DisksTake act old new
    → IsSound number pushed.capacities pushed.entries new
sound_after number log roomy pushed who act old new is pushes fits sound takes =
    let whole : pushed ≡ record
    { capacities = log.capacities; entries = log.entries ++ entry who act ∷ []; room = false } =
    pushes ∙ ap (λ (r : LogState). record r
    { entries = r.entries ++ entry who act ∷ []; room = false }) is in
    subst (λ (r : LogState). IsSound number r.capacities r.entries new) (sym whole)
    (record {
      sizes = sound.sizes;
      legal = legal_grows (all_of log.capacities) log.entries (entry who act) sound.legal fits.1
          fits.0;
      stand = takes number log.capacities log.entries who sound.stand;
    })

-- ---- the disks

-- the disk that was found stands at its place
pub disk_at : (disks : List SourceDiskState) (place : ℕ) (r : Option (Bor SourceDiskState))
    (x : Bor SourceDiskState) → IsItemAt disks place r → r ≡ Some x
    → slice_get disks place ≡ Some x.now
disk_at disks place r x is found =
    let at = subst (IsItemAt disks place) found is in
    slice_get_read disks (length disks) place x.now (omega arith) at.3.0 at.1

-- it is known, and so are ranges of its sectors
pub known_at : (machine : ℕ) (capacities : List ℕ) (log : List Entry) (disks : List SourceDiskState)
    (place : ℕ) (d : SourceDiskState) → AreDisks machine capacities log disks
    → slice_get disks place ≡ Some d
    → is_known capacities place ≡ true
known_at machine capacities log disks place d are at =
    lt-ltb place (length capacities) (omega (arith, slice_get_within disks place d at, are.count))

pub lies_as : (capacities : List ℕ) (place first count : ℕ) (d : SourceDiskState)
    → is_known capacities place ≡ true → size_of d ≡ capacity_of capacities place
    → is_on_disk capacities place first count ≡ is_within (size_of d) first count
lies_as capacities place first count d known size =
    (λ i. known i && is_within (sym size i) first count) ∙ refl

-- a read that is accepted lies within the disk, and one that isn't doesn't
pub read_within : {T : Type 0} (within : Bool) (r : Result T ChainRefused)
    → IsRefusedBy (cond within None (Some ChainRange)) r → is_ok r ≡ true → within ≡ true
read_within true r refused ok = refl
read_within false r refused ok = absurd (false≢true (sym (ap is_ok refused) ∙ ok))

pub read_outside : {T : Type 0} (within : Bool) (r : Result T ChainRefused)
    → IsRefusedBy (cond within None (Some ChainRange)) r → is_ok r ≡ false → within ≡ false
read_outside true r refused isnt = absurd (false≢true (sym isnt ∙ refused))
read_outside false r refused isnt = refl

-- ---- a link

pub link_adds : {T : Type 0} (who : ℕ) (result : Result T LinkRefused) (act : Act)
    (old new : MachineState) → Adds result who act old new → Legal (all_of new.capacities) new.log
    → AddsAct result act (link_of who old) (link_of who new)
link_adds who (Ok x) act old new added legal =
    let more : List Entry = old.log ++ entry who act ∷ [] in
    let grown : Legal (all_of old.capacities) more =
    subst (λ (m : MachineState). Legal (all_of m.capacities) m.log) added legal in
    let front : Legal (all_of old.capacities) old.log =
    legal_front (all_of old.capacities) old.log (entry who act ∷ []) grown in
    subst (λ (m : MachineState). AddsAct (Ok x) act (link_of who old) (link_of who m)) (sym added)
    (plain_adds old.number old.capacities who (Ok x) None act old.log more front refl tt
    (λ _. legal_grew (all_of old.capacities) old.log (entry who act) grown))
link_adds {T = T} who (Err r) act old new added legal =
    let same : Legal (all_of old.capacities) old.log =
    subst (λ (m : MachineState). Legal (all_of m.capacities) m.log) added legal in
    subst (λ (m : MachineState). AddsAct {T = T} (Err r) act (link_of who old) (link_of who m))
    (sym added)
    (plain_adds {T = T} old.number old.capacities who (Err r) (Some r) act old.log old.log same refl
    refl (λ h. absurd (none-some r (sym h))))

-- the log at the call's moment is the one before it
pub log_at : {T : Type 0} (who : ℕ) (result : Result T LinkRefused) (act : Act)
    (old new : MachineState) → Adds result who act old new
    → log_met result (link_of who new) ≡ old.log
log_at who (Ok x) act old new added =
    ap (λ (m : MachineState). log_met (Ok x) (link_of who m)) added
    ∙ log_before old.number old.capacities who (Ok x) (entry who act) old.log
    (old.log ++ entry who act ∷ []) refl
log_at who (Err r) act old new added = ap (λ (m : MachineState). m.log) added
