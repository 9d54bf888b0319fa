-- What a machine shows: why it refuses to, and that a page stays within what a disk may have.
use Rattle.std.proofs.Common.{◌≡◌, ℕ, ◌+◌, ◌<◌, ◌≤◌, ◌^◌, Bool, true, false, not, ◌&&◌, nat_lt, nat_le, List, [], ◌∷◌, ◌++◌, length, All, Option, Some, None, is_some, option_and_then, Result, Ok, Err, IsOk, IfOk, cond, if◌then◌else◌, refl, ap, ◌∙◌, sym, subst, arith}
use Rattle.std.specs.List.{list_all}
use Rattle.std.proofs.lemmas.Bool.{false≢true, and_parts, ltb-true, leb-true, eq-eqb}
use Rattle.std.proofs.lemmas.Option.{none-some}
use Rattle.std.proofs.lemmas.List.Sums.{AllPass-from_list_all}
use Rattle.basics.specs.Refusal.{IsRefusedBy, IsRefusedOr}
use Rattle.basics.specs.declared.limits.TheConstants.{MAX_DISKS, MAX_DISK_SECTORS}
use Rattle.sector_model.specs.Page.{PageContents, page_from}
use Rattle.sector_model.specs.Run.{end_of}
use Rattle.sector_model.specs.declared.run.Run.{Run}
use Rattle.change_id.specs.declared.ChangeId.{ChangeId}
use Rattle.change_id.specs.declared.Since.{Since}
use Rattle.log_model.specs.Legal.{capacity_of, taken, owner_of}
use Rattle.log_model.specs.Link.{LinkState, AddsAct, log_met, after_act_alone, snapped_after}
use Rattle.log_model.specs.declared.link.Snapped.{Snapped}
use Rattle.log_model.specs.Marks.{id_at}
use Rattle.log_model.specs.Query.{changed_areas}
use Rattle.log_model.specs.Refusals.{snap_refusal, query_refusal, change_id_refusal, strange_refusal, is_live, is_known}
use Rattle.log_model.specs.declared.entry.Act.TheVariants.{Snap}
use Rattle.log_model.specs.declared.entry.Owner.TheVariants.{Operator}
use Rattle.log_model.specs.declared.entry.Entry.{Entry}
use Rattle.log_model.specs.declared.refusals.LinkRefused.{LinkRefused}
use Rattle.log_model.specs.declared.refusals.LinkRefused.TheVariants.{UnknownSnap, Range, NoMemory}
use Rattle.log_model.proofs.AnswerPages.{answers_are_areas}
use Rattle.log_model.proofs.LinkLaws.{adds-alone, met-alone}
use Rattle.log_model.proofs.OwnedLaws.{owner_of-last}
use Rattle.source_vm.specs.Machine.{may_have_disks, is_capacity}
use Rattle.fleet_commands.specs.Refusals.{link_told}
use Rattle.fleet_commands.specs.commands.Query.{areas_or_none}
use Rattle.fleet_commands.specs.commands.Snapshot.{snap_act}

-- ---- by the result of a call that no want of memory refuses

pub accepted_none : {T E : Type 0} (refusal : Option E) (result : Result T E) (answer : T)
    → IsRefusedBy refusal result → result ≡ Ok answer → refusal ≡ None
accepted_none None result answer refused is = refl
accepted_none (Some why) result answer refused is = absurd (cc)

pub refused_some : {T E : Type 0} (refusal : Option E) (result : Result T E) (why : E)
    → IsRefusedBy refusal result → result ≡ Err why → refusal ≡ Some why
refused_some {T} {E} None result why refused is =
    absurd (false≢true (subst (λ (r : Result T E). IsOk r) is refused))
refused_some (Some stands) result why refused is = cc

pub none_accepted : {T E : Type 0} (refusal : Option E) (result : Result T E)
    → IsRefusedBy refusal result → refusal ≡ None → IsOk result
none_accepted None result refused is = refused
none_accepted (Some why) result refused is = absurd (cc)

-- ---- a snapshot that is taken where nobody else reaches the machine

module _ (a b : LinkState) (result : Result Snapped LinkRefused) (alone : a.unshared ≡ true)
    (adds : AddsAct result (Snap (taken (log_met result b) + 1) Operator) a b) where
  met : log_met result b ≡ a.seen
  met = met-alone a b result (Snap (taken (log_met result b) + 1) Operator) alone adds

  pub snapped_alone : b ≡ after_act_alone result (snap_act a.seen) a
  snapped_alone = adds-alone a b result (Snap (taken (log_met result b) + 1) Operator) alone adds
      ∙ ap (λ log. after_act_alone result (Snap (taken log + 1) Operator) a) met

  pub refused_alone : IsRefusedOr (snap_refusal false (log_met result b)) NoMemory result
      → IsRefusedOr (snap_refusal false a.seen) NoMemory result
  refused_alone refused =
      subst (λ log. IsRefusedOr (snap_refusal false log) NoMemory result) met refused

  pub id_alone : (snapped : Snapped) → snapped ≡ snapped_after (log_met result b)
      → snapped.id ≡ taken a.seen + 1
  id_alone snapped is =
      ap (λ (s : Snapped). s.id) is ∙ ap (λ log. taken log + 1) met

-- ---- and is live

pub live_then : (log : List Entry) (who : ℕ) → is_live (taken log + 1)
    (log ++ record { who = who; act = Snap (taken log + 1) Operator } ∷ []) ≡ true
live_then log who =
    let id = taken log + 1 in
    ap is_some (owner_of-last id log (record { who = who; act = Snap id Operator })
    ∙ ap (λ b. cond b (Some Operator) (owner_of id log)) (eq-eqb id id refl))

-- the identifier that a machine tells which stays as it is
pub id_found : (first met left : LinkState) (snapshot disk : ℕ)
    (found : Result (Option ChangeId) LinkRefused) (id : Option ChangeId) → met ≡ first
    → left ≡ first → found ≡ Ok id
    → IfOk found (λ told. told ≡ id_at met.machine disk snapshot left.seen)
    → id ≡ id_at first.machine disk snapshot first.seen
id_found first met left snapshot disk found id before after ok tells =
    subst (λ (r : Result (Option ChangeId) LinkRefused).
    IfOk r (λ told. told ≡ id_at met.machine disk snapshot left.seen)) ok tells
    ∙ ap (λ (l : LinkState). id_at l.machine disk snapshot left.seen) before
    ∙ ap (λ (l : LinkState). id_at first.machine disk snapshot l.seen) after

pub known_then : (capacities : List ℕ) (snapshot disk : ℕ) (log : List Entry)
    → is_live snapshot log ≡ true → is_known capacities disk ≡ true
    → change_id_refusal capacities snapshot disk log ≡ None
known_then capacities snapshot disk log live known = rw (live, known) refl

-- ---- a query that isn't refused

pub record IsAnswered (live ranged : Bool) (found : Result (List Run) (Option ChangeId)) : Type 0
  where
    pub is_live : live ≡ true
    pub is_ranged : ranged ≡ true
    pub areas : List Run
    pub are : found ≡ Ok areas

answered_then : (live ranged : Bool) (found : Result (List Run) (Option ChangeId))
    → (if not live then Some UnknownSnap
    else if not ranged then Some Range else strange_refusal found) ≡ None
    → IsAnswered live ranged found
answered_then true true (Ok areas) h =
    record { is_live = refl; is_ranged = refl; areas = areas; are = refl }
answered_then true true (Err id) h = absurd (cc)
answered_then true false found h = absurd (cc)
answered_then false ranged found h = absurd (cc)

-- each refusal of a query is told
told_strange : (found : Result (List Run) (Option ChangeId))
    → option_and_then link_told (strange_refusal found) ≡ None → strange_refusal found ≡ None
told_strange (Ok areas) h = refl
told_strange (Err id) h = absurd (none-some _ (sym h))

told_query : (live ranged : Bool) (found : Result (List Run) (Option ChangeId))
    → option_and_then link_told (if not live then Some UnknownSnap
    else if not ranged then Some Range else strange_refusal found) ≡ None
    → (if not live then Some UnknownSnap
    else if not ranged then Some Range else strange_refusal found) ≡ None
told_query true true found h = told_strange found h
told_query true false found h = absurd (none-some _ (sym h))
told_query false ranged found h = absurd (none-some _ (sym h))

pub untold_none : (machine : ℕ) (capacities : List ℕ) (snapshot disk : ℕ) (since : Since)
    (start : ℕ) (log : List Entry)
    → option_and_then link_told (query_refusal machine capacities snapshot disk since start log)
    ≡ None
    → query_refusal machine capacities snapshot disk since start log ≡ None
untold_none machine capacities snapshot disk since start log h =
    told_query (is_live snapshot log)
    (is_known capacities disk && nat_lt start (capacity_of capacities disk))
    (changed_areas machine (capacity_of capacities disk) disk snapshot since log) h

capacity_fits : (capacities : List ℕ) (disk : ℕ) → may_have_disks capacities ≡ true
    → disk < length capacities → capacity_of capacities disk ≤ MAX_DISK_SECTORS
capacity_fits capacities disk may known =
    let parts = and_parts (nat_le 1 (length capacities) && nat_le (length capacities) MAX_DISKS)
    (list_all is_capacity capacities) may in
    let c = capacity_of capacities disk in
    let one = AllPass-from_list_all is_capacity capacities parts.1 disk 0 known in
    leb-true c MAX_DISK_SECTORS (and_parts (nat_le 1 c) (nat_le c MAX_DISK_SECTORS) one).1

-- a page that may be told in bytes
pub record FitsInBytes (page : PageContents) : Type 0 where
  pub within : page.start + page.length ≤ MAX_DISK_SECTORS
  pub areas : All (λ run. end_of run ≤ MAX_DISK_SECTORS) page.areas

module _ (machine : ℕ) (capacities : List ℕ) (snapshot disk : ℕ) (since : Since) (start : ℕ)
    (log : List Entry)
    (accepted : query_refusal machine capacities snapshot disk since start log ≡ None) where
  pub is_answered : IsAnswered (is_live snapshot log)
      (is_known capacities disk && nat_lt start (capacity_of capacities disk))
      (changed_areas machine (capacity_of capacities disk) disk snapshot since log)
  is_answered = answered_then (is_live snapshot log)
      (is_known capacities disk && nat_lt start (capacity_of capacities disk))
      (changed_areas machine (capacity_of capacities disk) disk snapshot since log) accepted

  -- the disk has an identifier then, or none
  pub has_id : change_id_refusal capacities snapshot disk log ≡ None
  has_id = known_then capacities snapshot disk log is_answered.is_live
      (and_parts (is_known capacities disk) (nat_lt start (capacity_of capacities disk))
      is_answered.is_ranged).0

  pub page_fits : may_have_disks capacities ≡ true
      → FitsInBytes (page_from (capacity_of capacities disk) (areas_or_none
      (changed_areas machine (capacity_of capacities disk) disk snapshot since log)) start)
  page_fits may =
      let size : ℕ = capacity_of capacities disk in
      let range = and_parts (is_known capacities disk) (nat_lt start size)
      is_answered.is_ranged in
      let low : size ≤ MAX_DISK_SECTORS =
      capacity_fits capacities disk may (ltb-true disk (length capacities) range.0) in
      let fits : size < 2 ^ 64 = omega (arith, low) in
      let areas : List Run = is_answered.areas in
      let lies = (answers_are_areas machine size disk snapshot since log areas fits
      is_answered.are).pages start (ltb-true start size range.1) in
      let within = lies.within in
      subst (λ (found : Result (List Run) (Option ChangeId)).
      FitsInBytes (page_from size (areas_or_none found) start)) (sym is_answered.are) (record {
        within = omega (arith, within, low);
        areas = λ k d there.
            let inside = lies.end_inside k d there in omega (arith, inside, within, low);
      })
