-- What isn't refused may stand, and what a call of a plain machine leaves.
use Rattle.std.proofs.Common.{◌≡◌, ℕ, ◌+◌, ◌-◌, ◌<◌, ◌≤◌, List, [], ◌∷◌, ◌++◌, length, take, Bool, true, false, cond, not, ◌&&◌, ◌||◌, eqb, ltb, leb, Option, Some, None, Result, Ok, Err, refl, sym, ap, subst, ◌∙◌, arith, length-append}
use Rattle.std.specs.List.{filter}
use Rattle.std.proofs.lemmas.Bool.{and_parts, or_parts, not-false, leb-true, leb-false, ltb-true, ltb-false, eqb-true, eq-eqb, false≢true}
use Rattle.std.proofs.lemmas.List.Sums.{sum_by-append}
use Rattle.std.proofs.lemmas.List.{append-nil, take_all, drop_all}
use Rattle.std.proofs.lemmas.List.Elements.{filter-append}
use Rattle.std.proofs.Math.Seq.{take-append_seam}
use Rattle.sector_model.specs.Run.{is_within}
use Rattle.sector_model.specs.declared.sector.Sector.{Sector}
use Rattle.basics.specs.declared.limits.TheConstants.{MAX_WRITE_SECTORS, MAX_LOGGED_SECTORS}
use Rattle.log_model.specs.declared.entry.TheConstants.{MAX_LOG_ENTRIES}
use Rattle.log_model.specs.declared.entry.Owner.{Owner}
use Rattle.log_model.specs.declared.entry.Owner.TheVariants.{Operator, Migration}
use Rattle.log_model.specs.declared.entry.Act.{Act}
use Rattle.log_model.specs.declared.entry.Act.TheVariants.{Write, Snap, Remove, Reset, Enable, Off, On}
use Rattle.log_model.specs.declared.entry.Entry.{Entry}
use Rattle.log_model.specs.declared.refusals.LinkRefused.{LinkRefused}
use Rattle.log_model.specs.declared.refusals.LinkRefused.TheVariants.{Running, Range, AlreadyOff, AlreadyOn, Spent, Owned, AlreadyEnabled, NoMemory}
use Rattle.log_model.specs.declared.refusals.WriteRefused.{WriteRefused}
use Rattle.log_model.specs.declared.refusals.WriteRefused.TheVariants.{Off as Off_refused, Range as OutOfRange, LogFull}
use Rattle.log_model.specs.Entry.{sectors_of}
use Rattle.log_model.specs.Legal.{Disks, all_of, ActsFor, Legal, ActMayStand, OwnerLets, machine_on, owner_of, is_enabled, taken, written, capacity_of}
use Rattle.log_model.specs.Laws.{FitsBehind, AcceptedMayStand}
use Rattle.log_model.specs.Refusals.{spent_refusal, snap_refusal, remove_refusal, owner_refusal, may_remove, power_off_refusal, power_on_refusal, reset_refusal, enable_refusal, write_refusal, is_spent, is_known, is_on_disk}
use Rattle.basics.specs.Refusal.{IsRefusedOr}
use Rattle.log_model.specs.Link.{LinkState, IsCall, OnlyReads, AddsAct, log_met, is_by}
use Rattle.log_model.specs.PlainMachine.{Appends, plain_state}
use Rattle.change_id.proofs.Ends.{by_last}
use Rattle.log_model.proofs.LegalLogs.{legal_grows, legal_last, legal_front}

-- ---- what isn't refused may stand

chosen_none : {E : Type 0} (b : Bool) (r : E) (o : Option E) → cond b (Some r) o ≡ None
    → (b ≡ false) × (o ≡ None)
chosen_none true r o h = absurd (cc)
chosen_none false r o h = (refl, h)

other_none : (b : Bool) (r : LinkRefused) (o : Option LinkRefused) → cond b o (Some r) ≡ None
    → (b ≡ true) × (o ≡ None)
other_none true r o h = (refl, h)
other_none false r o h = absurd (cc)

room : (log : List Entry) → spent_refusal log ≡ None → length log < MAX_LOG_ENTRIES
room log h = leb-false MAX_LOG_ENTRIES (length log) (chosen_none (is_spent log) Spent None h).0

pub snap_stands : (capacities : List ℕ) (log : List Entry) (who : ℕ) (must_be_off : Bool)
    (owner : Owner) → ActsFor who owner → snap_refusal must_be_off log ≡ None
    → FitsBehind (all_of capacities) log who (Snap (taken log + 1) owner)
snap_stands capacities log who must_be_off owner lets h = (
  (refl, lets),
  room log
      (chosen_none (must_be_off && machine_on log) Running (spent_refusal log) h).1,
)

lets : (who : ℕ) (owner has : Owner) → may_remove who owner has ≡ true → OwnerLets who (Some has)
lets who Operator Operator h = tt
lets who (Migration m) Operator h = tt
lets who Operator (Migration n) h = absurd (false≢true h)
lets who (Migration m) (Migration n) h = eqb-true who 1 ((and_parts (eqb m n) (eqb who 1) h).1)

owner_stands : (who : ℕ) (owner : Owner) (o : Option Owner) (log : List Entry)
    → owner_refusal who owner o log ≡ None → OwnerLets who o × (length log < MAX_LOG_ENTRIES)
owner_stands who owner None log h = absurd (cc)
owner_stands who owner (Some has) log h =
    let both = other_none (may_remove who owner has) Owned (spent_refusal log) h in
    (lets who owner has both.0, room log both.1)

pub remove_stands : (capacities : List ℕ) (log : List Entry) (who : ℕ) (owner : Owner) (id : ℕ)
    → remove_refusal who owner id log ≡ None → FitsBehind (all_of capacities) log who (Remove id)
remove_stands capacities log who owner id h = owner_stands who owner (owner_of id log) log h

pub off_stands : (capacities : List ℕ) (log : List Entry) (who : ℕ) → power_off_refusal log ≡ None
    → FitsBehind (all_of capacities) log who Off
off_stands capacities log who h = let both =
    other_none (machine_on log) AlreadyOff (spent_refusal log) h in (both.0, room log both.1)

pub on_stands : (capacities : List ℕ) (log : List Entry) (who : ℕ) → power_on_refusal log ≡ None
    → FitsBehind (all_of capacities) log who On
on_stands capacities log who h = let both =
    chosen_none (machine_on log) AlreadyOn (spent_refusal log) h in (both.0, room log both.1)

pub reset_stands : (capacities : List ℕ) (log : List Entry) (who disk : ℕ)
    → reset_refusal capacities disk log ≡ None → FitsBehind (all_of capacities) log who (Reset disk)
reset_stands capacities log who disk h =
    let both = chosen_none (not (is_known capacities disk)) Range (spent_refusal log) h in (
      ltb-true disk (length capacities) (not-false (is_known capacities disk) both.0),
      room log
          both.1,
    )

pub enable_stands : (capacities : List ℕ) (log : List Entry) (who : ℕ) → enable_refusal log ≡ None
    → FitsBehind (all_of capacities) log who Enable
enable_stands capacities log who h = let both =
    chosen_none (is_enabled log) AlreadyEnabled (spent_refusal log) h in (both.0, room log both.1)

pub write_stands : (capacities : List ℕ) (log : List Entry) (who disk first : ℕ)
    (sectors : List Sector) → write_refusal capacities disk first (length sectors) log ≡ None
    → FitsBehind (all_of capacities) log who (Write disk first sectors)
write_stands capacities log who disk first sectors h =
    let count : ℕ = length sectors in
    let last : Option WriteRefused =
    cond (ltb MAX_LOGGED_SECTORS (written log + count) || is_spent log) (Some LogFull) None in
    let running = chosen_none (not (machine_on log)) Off_refused
    (cond (not (is_on_disk capacities disk first count && leb count MAX_WRITE_SECTORS))
    (Some OutOfRange) last) h in
    let ranged = chosen_none
    (not (is_on_disk capacities disk first count && leb count MAX_WRITE_SECTORS)) OutOfRange last
    running.1 in
    let full = or_parts (ltb MAX_LOGGED_SECTORS (written log + count)) (is_spent log)
    (chosen_none (ltb MAX_LOGGED_SECTORS (written log + count) || is_spent log) LogFull None
    ranged.1).0 in
    let range = and_parts (is_on_disk capacities disk first count) (leb count MAX_WRITE_SECTORS)
    (not-false (is_on_disk capacities disk first count && leb count MAX_WRITE_SECTORS) ranged.0)
    in
    let on_disk = and_parts (is_known capacities disk)
    (is_within (capacity_of capacities disk) first count) range.0 in
    let within = and_parts (leb 1 count) (leb (first + count) (capacity_of capacities disk))
    on_disk.1 in (
      record {
        running = not-false (machine_on log) running.0;
        some_sectors = leb-true 1 count within.0;
        few_sectors = leb-true count MAX_WRITE_SECTORS range.1;
        within = (
          ltb-true disk (length capacities) on_disk.0,
          leb-true (first + count)
              (capacity_of capacities disk) within.1,
        );
        room = ltb-false MAX_LOGGED_SECTORS (written log + count) full.0;
      },
      leb-false MAX_LOG_ENTRIES (length log) full.1,
    )

pub accepted_may_stand : (capacities : List ℕ) (log : List Entry) (who : ℕ)
    → AcceptedMayStand capacities log who
accepted_may_stand capacities log who = record {
  snap = snap_stands capacities log who;
  remove = remove_stands capacities log who;
  power_off = off_stands capacities log who;
  power_on = on_stands capacities log who;
  reset = reset_stands capacities log who;
  enable = enable_stands capacities log who;
  write = write_stands capacities log who;
}

-- the sectors of all writes stay within their limit
written_step : (disks : Disks) (log : List Entry) (who : ℕ) (act : Act)
    → ActMayStand disks log who act → written log ≤ MAX_LOGGED_SECTORS
    → written log + written (record { who = who; act = act } ∷ []) ≤ MAX_LOGGED_SECTORS
written_step disks log who (Write disk first sectors) stands old = omega (arith, stands.room)
written_step disks log who (Snap id by) stands old = omega arith
written_step disks log who (Remove id) stands old = omega arith
written_step disks log who (Reset disk) stands old = omega arith
written_step disks log who Enable stands old = omega arith
written_step disks log who Off stands old = omega arith
written_step disks log who On stands old = omega arith

pub written_bounded : (disks : Disks) (log : List Entry) → Legal disks log
    → written log ≤ MAX_LOGGED_SECTORS
written_bounded disks =
    by_last (λ log. Legal disks log → written log ≤ MAX_LOGGED_SECTORS) (λ _. omega arith)
    (λ log e rest legal. omega (
      arith,
      sum_by-append (λ x. sectors_of x.act) log (e ∷ []),
      written_step disks log e.who e.act (legal_last disks log e legal)
          (rest (legal_front disks log (e ∷ []) legal)),
    ))

-- ---- what a plain machine's call leaves

leaves_same : (machine : ℕ) (capacities : List ℕ) (caller : ℕ) (log : List Entry)
    → Legal (all_of capacities) log
    → IsCall log [] (plain_state machine capacities caller log)
    (plain_state machine capacities caller log)
leaves_same machine capacities caller log legal =
    let own : List Entry = filter (is_by caller) log in
    let made : List Entry → List Entry → LinkState =
    λ seen kept. record {
      machine = machine;
      capacities = capacities;
      caller = caller;
      turn =
          None;
      unshared = true;
      seen = seen;
      own = kept;
    } in
    record {
      new_is = ap (λ (xs : List Entry). made xs own) (sym (append-nil log))
          ∙ ap (λ (xs : List Entry). made (log ++ []) xs) (sym (append-nil own));
      goes_on = take_all (length log) log (omega arith);
      others = ap (filter (is_by caller)) (drop_all (length log) log (omega arith));
      alone = λ _. refl;
      legal = subst (Legal (all_of capacities)) (sym (append-nil log)) legal;
    }

leaves_more : (machine : ℕ) (capacities : List ℕ) (caller : ℕ) (log : List Entry) (act : Act)
    → Legal (all_of capacities) log → FitsBehind (all_of capacities) log caller act
    → IsCall log (record { who = caller; act = act } ∷ [])
    (plain_state machine capacities caller log)
    (plain_state machine capacities caller (log ++ record { who = caller; act = act } ∷ []))
leaves_more machine capacities caller log act legal stands =
    let e : Entry = record { who = caller; act = act } in
    let mine : filter (is_by caller) (e ∷ []) ≡ e ∷ [] =
    ap (λ b. cond b (e ∷ []) []) (eq-eqb caller caller refl) in
    record {
      new_is = ap (λ (xs : List Entry). record {
        machine = machine;
        capacities = capacities;
        caller = caller;
        turn = None;
        unshared =
            true;
        seen = log ++ e ∷ [];
        own = xs;
      })
          (filter-append (is_by caller) log (e ∷ [])
          ∙ ap (λ (xs : List Entry). filter (is_by caller) log ++ xs) mine);
      goes_on = take_all (length log) log (omega arith);
      others = ap (filter (is_by caller)) (drop_all (length log) log (omega arith));
      alone = λ _. refl;
      legal = legal_grows (all_of capacities) log e legal stands.1 stands.0;
    }

without_last : (log : List Entry) (e : Entry)
    → take (length (log ++ e ∷ []) - 1) (log ++ e ∷ []) ≡ log
without_last log e =
    let front : length (log ++ e ∷ []) - 1 ≡ length log =
    omega (arith, length-append log (e ∷ [])) in
    ap (λ n. take n (log ++ e ∷ [])) front ∙ take-append_seam log (e ∷ [])

pub plain_looks : (machine : ℕ) (capacities : List ℕ) (caller : ℕ) (log : List Entry)
    → Legal (all_of capacities) log
    → OnlyReads (plain_state machine capacities caller log)
    (plain_state machine capacities caller log)
plain_looks machine capacities caller log legal = leaves_same machine capacities caller log legal

-- the log at a call's moment is the one before it
pub log_before : {T : Type 0} (machine : ℕ) (capacities : List ℕ) (caller : ℕ)
    (result : Result T LinkRefused) (e : Entry) (old new : List Entry) → Appends result e old new
    → log_met result (plain_state machine capacities caller new) ≡ old
log_before machine capacities caller (Ok x) e old new h =
    ap (λ (xs : List Entry). take (length xs - 1) xs) h ∙ without_last old e
log_before machine capacities caller (Err r) e old new h = h

pub plain_legal : {T E : Type 0} (capacities : List ℕ) (caller : ℕ) (result : Result T E)
    (refusal : Option E) (free : E) (act : Act) (old new : List Entry)
    → Legal (all_of capacities) old
    → Appends result (record { who = caller; act = act }) old new → IsRefusedOr refusal free result
    → (refusal ≡ None → FitsBehind (all_of capacities) old caller act)
    → Legal (all_of capacities) new
plain_legal capacities caller (Ok x) (Some r) free act old new legal added refused stands =
    absurd (cc)
plain_legal capacities caller (Ok x) None free act old new legal added refused stands =
    let s = stands refl in
    subst (Legal (all_of capacities)) (sym added)
    (legal_grows (all_of capacities) old (record { who = caller; act = act }) legal s.1 s.0)
plain_legal capacities caller (Err r) refusal free act old new legal added refused stands =
    subst (Legal (all_of capacities)) (sym added) legal

pub plain_adds : {T : Type 0} (machine : ℕ) (capacities : List ℕ) (caller : ℕ)
    (result : Result T LinkRefused) (refusal : Option LinkRefused) (act : Act)
    (old new : List Entry) → Legal (all_of capacities) old
    → Appends result (record { who = caller; act = act }) old new
    → IsRefusedOr refusal NoMemory result
    → (refusal ≡ None → FitsBehind (all_of capacities) old caller act)
    → AddsAct result act (plain_state machine capacities caller old)
    (plain_state machine capacities caller new)
plain_adds machine capacities caller (Ok x) (Some r) act old new legal added refused stands =
    absurd (cc)
plain_adds machine capacities caller (Ok x) None act old new legal added refused stands =
    let e : Entry = record { who = caller; act = act } in
    subst (λ (xs : List Entry). IsCall (take (length xs - 1) xs) (e ∷ [])
    (plain_state machine capacities caller old) (plain_state machine capacities caller xs))
    (sym added)
    (subst (λ (front : List Entry). IsCall front (e ∷ [])
    (plain_state machine capacities caller old)
    (plain_state machine capacities caller (old ++ e ∷ []))) (sym (without_last old e))
    (leaves_more machine capacities caller old act legal (stands refl)))
plain_adds machine capacities caller (Err r) refusal act old new legal added refused stands =
    subst (λ (xs : List Entry). IsCall xs [] (plain_state machine capacities caller old)
    (plain_state machine capacities caller xs)) (sym added)
    (leaves_same machine capacities caller old legal)
