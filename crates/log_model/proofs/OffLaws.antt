-- While a machine is off, no write stands.
use Rattle.std.proofs.Common.{◌≡◌, ℕ, ◌+◌, ◌≤◌, List, [], ◌∷◌, ◌++◌, length, take, drop, true, false, Option, Some, None, subst, sym, ap, refl, ◌∙◌, arith, length-append, length-take}
use Rattle.std.specs.List.{fold, cons_option, enumerate_from}
use Rattle.std.proofs.lemmas.List.{drop-append-le, append-nil, take-append-drop, take-take}
use Rattle.std.proofs.lemmas.List.Sums.{fold-append}
use Rattle.std.proofs.lemmas.List.Elements.{filter_map-append}
use Rattle.std.proofs.Math.Seq.{drop-append_seam}
use Rattle.std.proofs.lemmas.Bool.{false≢true}
use Rattle.sector_model.specs.Disk.{Write as Replacement, fold_writes}
use Rattle.log_model.specs.declared.entry.Act.{Act}
use Rattle.log_model.specs.declared.entry.Act.TheVariants.{Write, Snap, Remove, Reset, Enable, Off, On}
use Rattle.log_model.specs.declared.entry.Entry.{Entry}
use Rattle.log_model.specs.Entry.{writes_of, write_to, contents}
use Rattle.log_model.specs.Legal.{Disks, Legal, ActMayStand, machine_on, on_after}
use Rattle.log_model.specs.Marks.{mark, before}
use Rattle.log_model.specs.Frozen.{last_off, off_after, off_place}
use Rattle.log_model.specs.Laws.{NoWriteWhileOff, OffIsFrozen}
use Rattle.change_id.proofs.Ends.{by_last}
use Rattle.log_model.proofs.Last.{enumerate_from-append}
use Rattle.log_model.proofs.LegalLogs.{legal_last, legal_front, prefixes_are_legal}

-- where the machine is off, since which place, and that no write stands behind it
abbrev pub OffFacts : List Entry → Option ℕ → Type 0
OffFacts log None = machine_on log ≡ true
OffFacts log (Some place) =
    (machine_on log ≡ false) × (place ≤ length log) × ((d : ℕ) → writes_of d (drop place log) ≡ [])

pub last_off-last : (log : List Entry) (e : Entry)
    → last_off (log ++ e ∷ []) ≡ off_after (last_off log) (length log, e)
last_off-last log e =
    ap (fold off_after None) (enumerate_from-append 0 log (e ∷ []))
    ∙ fold-append off_after None (enumerate_from 0 log) (enumerate_from (0 + length log) (e ∷ []))
    ∙ ap (λ n. off_after (last_off log) (n, e)) (omega arith)

pub machine_on-last : (log : List Entry) (e : Entry)
    → machine_on (log ++ e ∷ []) ≡ on_after (machine_on log) e
machine_on-last log e = fold-append on_after true log (e ∷ [])

-- an entry that is no write, at the end
still_none : (log : List Entry) (e : Entry) (place d : ℕ) → write_to d e.act ≡ None
    → place ≤ length log → writes_of d (drop place log) ≡ []
    → writes_of d (drop place (log ++ e ∷ [])) ≡ []
still_none log e place d no_write within none =
    let found : Entry → Option Replacement = λ x. write_to d x.act in
    ap (writes_of d) (drop-append-le place log (e ∷ []) within)
    ∙ filter_map-append found (drop place log) (e ∷ [])
    ∙ ap (λ (ws : List Replacement). ws ++ writes_of d (e ∷ [])) none
    ∙ ap (λ (w : Option Replacement). cons_option w []) no_write

still_off : (log : List Entry) (e : Entry) (place : ℕ) → on_after false e ≡ false
    → ((d : ℕ) → write_to d e.act ≡ None) → OffFacts log (Some place)
    → OffFacts (log ++ e ∷ []) (Some place)
still_off log e place off no_write facts = (
  machine_on-last log e ∙ ap (λ on. on_after on e) facts.0 ∙ off,
  omega (arith, facts.1, length-append log (e ∷ [])),
  λ d. still_none log e place d (no_write d) facts.1 (facts.2 d),
)

off_step : (disks : Disks) (log : List Entry) (place : Option ℕ) (who : ℕ) (act : Act)
    → OffFacts log place → ActMayStand disks log who act
    → OffFacts (log ++ record { who = who; act = act } ∷ [])
    (off_after place (length log, record { who = who; act = act }))
off_step disks log place who Off facts stands =
    let e : Entry = record { who = who; act = Off } in (
      machine_on-last log e,
      omega (arith, length-append log (e ∷ [])),
      λ d. ap (writes_of d)
          (drop-append_seam log (e ∷ [])),
    )
off_step disks log place who On facts stands = machine_on-last log (record { who = who; act = On })
off_step disks log None who (Write disk first sectors) facts stands =
    machine_on-last log (record { who = who; act = Write disk first sectors }) ∙ facts
off_step disks log (Some place) who (Write disk first sectors) facts stands =
    absurd (false≢true (sym facts.0 ∙ stands.running))
off_step disks log None who (Snap id owner) facts stands =
    machine_on-last log (record { who = who; act = Snap id owner }) ∙ facts
off_step disks log (Some place) who (Snap id owner) facts stands =
    still_off log (record { who = who; act = Snap id owner }) place refl (λ d. refl) facts
off_step disks log None who (Remove id) facts stands =
    machine_on-last log (record { who = who; act = Remove id }) ∙ facts
off_step disks log (Some place) who (Remove id) facts stands =
    still_off log (record { who = who; act = Remove id }) place refl (λ d. refl) facts
off_step disks log None who (Reset disk) facts stands =
    machine_on-last log (record { who = who; act = Reset disk }) ∙ facts
off_step disks log (Some place) who (Reset disk) facts stands =
    still_off log (record { who = who; act = Reset disk }) place refl (λ d. refl) facts
off_step disks log None who Enable facts stands =
    machine_on-last log (record { who = who; act = Enable }) ∙ facts
off_step disks log (Some place) who Enable facts stands =
    still_off log (record { who = who; act = Enable }) place refl (λ d. refl) facts

pub off_facts : (disks : Disks) (log : List Entry) → Legal disks log → OffFacts log (last_off log)
off_facts disks =
    by_last (λ log. Legal disks log → OffFacts log (last_off log)) (λ _. refl)
    (λ log e rest legal. subst (OffFacts (log ++ e ∷ [])) (sym (last_off-last log e))
    (off_step disks log (last_off log) e.who e.act (rest (legal_front disks log (e ∷ []) legal))
    (legal_last disks log e legal)))

off_before : (disks : Disks) (log : List Entry) (s place : ℕ) → Legal disks log
    → off_place s log ≡ Some place → OffFacts (before s log) (Some place)
off_before disks log s place legal off =
    subst (OffFacts (before s log)) off
    (off_facts disks (before s log) (prefixes_are_legal disks log (mark s log) legal))

pub no_write_while_off : NoWriteWhileOff
no_write_while_off disks log d s place legal off = (off_before disks log s place legal off).2 d

-- what has no write behind a place is what is left at that place
contents-kept : (c d place : ℕ) (log : List Entry) → writes_of d (drop place log) ≡ []
    → contents c d (take place log) ≡ contents c d log
contents-kept c d place log none =
    let found : Entry → Option Replacement = λ x. write_to d x.act in
    sym (ap (contents c d) (sym (take-append-drop place log))
    ∙ ap (fold_writes c) (filter_map-append found (take place log) (drop place log)
    ∙ ap (λ (ws : List Replacement). writes_of d (take place log) ++ ws) none
    ∙ append-nil (writes_of d (take place log))))

pub off_is_frozen : OffIsFrozen
off_is_frozen disks log c d s place legal off =
    let facts = off_before disks log s place legal off in
    let within : place ≤ mark s log = omega (arith, facts.1, length-take (mark s log) log) in
    ap (contents c d) (sym (take-take place (mark s log) log within))
    ∙ contents-kept c d place (before s log) (facts.2 d)
