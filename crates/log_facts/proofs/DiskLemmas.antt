-- What a log says of the tracking of a disk, one entry after another.
use Rattle.std.proofs.Common.{◌≡◌, ℕ, ◌+◌, ◌<◌, ◌≤◌, List, [], ◌∷◌, ◌++◌, length, take, drop, get_or, Bool, true, false, cond, ◌||◌, Option, Some, None, unwrap_or, subst, sym, ap, refl, ◌∙◌, arith, inl, inr}
use Rattle.std.specs.List.{slice_get, list_any}
use Rattle.std.proofs.Math.Bool.{or-false, or-true}
use Rattle.std.proofs.lemmas.Bool.{cases_lt, le-leb, lt-leb, false≢true}
use Rattle.std.proofs.lemmas.Option.{slice_get_within}
use Rattle.std.proofs.lemmas.List.{length_push, take-append-le, drop-append-le, drop_all, take_all}
use Rattle.std.proofs.lemmas.List.Folds.{list_any-append}
use Rattle.std.proofs.lemmas.List.Sums.{sum_by-append}
use Rattle.basics.proofs.ItemAt.{slice_get-front, slice_get-last, take-next_read}
use Rattle.change_id.proofs.Ends.{read-front, read-last}
use Rattle.change_id.proofs.Counts.{counted-last}
use Rattle.log_model.specs.declared.entry.Entry.{Entry}
use Rattle.log_model.specs.Entry.{is_snap, is_enable, resets}
use Rattle.log_model.specs.Legal.{taken}
use Rattle.log_model.specs.Marks.{reading_of, epoch, counted_after}
use Rattle.log_model.proofs.OwnedLaws.{taken-append}
use Rattle.log_facts.specs.declared.disks.IdCount.{IdCount}
use Rattle.log_facts.specs.declared.disks.DiskFacts.{DiskFacts}
use Rattle.log_facts.specs.Disks.{count_after, id_count_of, AreCounts, IsLastReset, IsDisk, AreDisks}

-- ---- how far the numbers have come

plus_cond : (n : ℕ) (b : Bool) → cond b (n + 1) n ≡ n + cond b 1 0
plus_cond n true = refl
plus_cond n false = omega arith

epoch-last : (d : ℕ) (log : List Entry) (e : Entry)
    → epoch d (log ++ e ∷ []) ≡ epoch d log + cond (resets d e.act) 1 0
epoch-last d log e = omega
    (arith, sum_by-append (λ (x : Entry). cond (resets d x.act) 1 0) log (e ∷ []))

count_last : (d : ℕ) (log : List Entry) (e : Entry)
    → count_after d (id_count_of d log) e ≡ id_count_of d (log ++ e ∷ [])
count_last d log e =
    let resets_are : cond (resets d e.act) (epoch d log + 1) (epoch d log)
    ≡ epoch d (log ++ e ∷ []) =
    plus_cond (epoch d log) (resets d e.act) ∙ sym (epoch-last d log e) in
    let counted_is = counted-last (reading_of d) log e in
    cc

pub count_more : (d : ℕ) (log : List Entry) (i : ℕ) (count : IdCount) (e : Entry) → i < length log
    → e ≡ get_or log i e → count ≡ id_count_of d (take i log)
    → count_after d count e ≡ id_count_of d (take (i + 1) log)
count_more d log i count e less is at =
    ap (λ (x : IdCount). count_after d x e) at ∙ count_last d (take i log) e
    ∙ ap (id_count_of d) (sym (take-next_read log i e less is))

-- ---- at each snapshot

snaps_here : (b : Bool) (e : Entry) → is_snap e.act ≡ b → taken (e ∷ []) ≡ cond b 1 0
snaps_here b e is = omega (arith, ap (λ (x : Bool). cond {A = ℕ} x 1 0) is)

-- those of the snapshots before the last entry
counts_front : (d : ℕ) (log : List Entry) (e : Entry) (counts : List IdCount)
    → AreCounts d log counts → (place : ℕ) (x : Entry) → place < length log
    → slice_get (log ++ e ∷ []) place ≡ Some x → is_snap x.act ≡ true
    → slice_get counts (taken (take place (log ++ e ∷ [])))
    ≡ Some (id_count_of d (take (place + 1) (log ++ e ∷ [])))
counts_front d log e counts are place x less at snaps =
    ap (λ (l : List Entry). slice_get counts (taken l))
    (take-append-le place log (e ∷ []) (omega (arith, less)))
    ∙ are.each place x (read-front log (e ∷ []) place x less at) snaps
    ∙ ap (λ (l : List Entry). Some (id_count_of d l))
    (sym (take-append-le (place + 1) log (e ∷ []) (omega (arith, less))))

at_end : (log : List Entry) (e x : Entry) (place : ℕ) → length log ≤ place
    → slice_get (log ++ e ∷ []) place ≡ Some x → place ≡ length log
at_end log e x place past at =
    omega (arith, past, slice_get_within (log ++ e ∷ []) place x at, length_push log e)

is_last : (log : List Entry) (e x : Entry) (place : ℕ) → length log ≤ place
    → slice_get (log ++ e ∷ []) place ≡ Some x → e ≡ x
is_last log e x place past at =
    read-last log e x (ap (slice_get (log ++ e ∷ [])) (sym (at_end log e x place past at)) ∙ at)

pub counts_pushed : (d : ℕ) (log : List Entry) (e : Entry) (counts : List IdCount) (count : IdCount)
    → is_snap e.act ≡ true
    → count ≡ id_count_of d (log ++ e ∷ []) → AreCounts d log counts
    → AreCounts d (log ++ e ∷ []) (counts ++ count ∷ [])
counts_pushed d log e counts count snap is are = record {
  one_each = omega (
    arith,
    length_push counts count,
    are.one_each,
    taken-append log (e ∷ []),
    snaps_here true e snap,
  );
  each = λ place x at snaps. elim (cases_lt place (length log)) [
    | inl less ↦
        let was = counts_front d log e counts are place x less at snaps in
        slice_get-front counts (count ∷ []) (taken (take place (log ++ e ∷ [])))
        (slice_get_within counts _ _ was) ∙ was
    | inr past ↦
        let here : place ≡ length log = at_end log e x place past at in
        let front : take place (log ++ e ∷ []) ≡ log =
        take-append-le place log (e ∷ []) (omega (arith, here))
        ∙ take_all place log (omega (arith, here)) in
        let whole : take (place + 1) (log ++ e ∷ []) ≡ log ++ e ∷ [] =
        take_all (place + 1) (log ++ e ∷ []) (omega (arith, length_push log e, here)) in
        ap (λ (l : List Entry). slice_get (counts ++ count ∷ []) (taken l)) front
        ∙ ap (slice_get (counts ++ count ∷ [])) (sym are.one_each) ∙ slice_get-last counts count
        ∙ ap Some is ∙ ap (λ (l : List Entry). Some (id_count_of d l)) (sym whole)
  ];
}

pub counts_same : (d : ℕ) (log : List Entry) (e : Entry) (counts : List IdCount)
    → is_snap e.act ≡ false
    → AreCounts d log counts → AreCounts d (log ++ e ∷ []) counts
counts_same d log e counts none are = record {
  one_each = omega (arith, are.one_each, taken-append log (e ∷ []), snaps_here false e none);
  each = λ place x at snaps. elim (cases_lt place (length log)) [
    | inl less ↦ counts_front d log e counts are place x less at snaps
    | inr past ↦ absurd (false≢true
        (sym none ∙ ap (λ (y : Entry). is_snap y.act) (is_last log e x place past at) ∙ snaps))
  ];
}

-- ---- the last reset

abbrev resets_from : ℕ → ℕ → List Entry → Bool
resets_from d place log = list_any (λ (x : Entry). resets d x.act) (drop place log)

none_behind : (d place : ℕ) (log : List Entry) → length log ≤ place
    → resets_from d place log ≡ false
none_behind d place log past =
    ap (list_any (λ (x : Entry). resets d x.act)) (drop_all place log past)

one_more : (d place : ℕ) (log : List Entry) (e : Entry) → place ≤ length log
    → resets_from d place (log ++ e ∷ []) ≡ (resets_from d place log || resets d e.act)
one_more d place log e le =
    ap (list_any (λ (x : Entry). resets d x.act)) (drop-append-le place log (e ∷ []) le)
    ∙ list_any-append (λ (x : Entry). resets d x.act) (drop place log) (e ∷ [])
    ∙ ap (λ b. resets_from d place log || b) (or-false (resets d e.act))

pub reset_here : (d i : ℕ) (log : List Entry) (e : Entry) (last : Option ℕ) → length log ≡ i
    → resets d e.act ≡ true → IsLastReset d log last → IsLastReset d (log ++ e ∷ []) (Some i)
reset_here d i log e last long is was = λ place. elim (cases_lt (length log) place) [
  | inl past ↦ none_behind d place (log ++ e ∷ []) (omega (arith, past, length_push log e))
      ∙ sym (lt-leb place i (omega (arith, past, long)))
  | inr le ↦ one_more d place log e le ∙ ap (λ b. resets_from d place log || b) is
      ∙ or-true (resets_from d place log) ∙ sym (le-leb place i (omega (arith, le, long)))
]

pub reset_before : (d : ℕ) (log : List Entry) (e : Entry) (last : Option ℕ) → resets d e.act ≡ false
    → IsLastReset d log last → IsLastReset d (log ++ e ∷ []) last
reset_before d log e last none was = λ place. elim (cases_lt (length log) place) [
  | inl past ↦ none_behind d place (log ++ e ∷ []) (omega (arith, past, length_push log e))
      ∙ sym (none_behind d place log (omega (arith, past))) ∙ was place
  | inr le ↦ one_more d place log e le ∙ ap (λ b. resets_from d place log || b) none
      ∙ or-false (resets_from d place log) ∙ was place
]

-- ---- one disk more

pub disk_more : (disks : ℕ) (log : List Entry) (facts : List DiskFacts) (fact : DiskFacts)
    → AreDisks disks log facts → IsDisk disks log fact
    → AreDisks (disks + 1) log (facts ++ fact ∷ [])
disk_more disks log facts fact are is = record {
  count = omega (arith, length_push facts fact, are.count);
  each = λ disk x at. elim (cases_lt disk (length facts)) [
    | inl less ↦ are.each disk x (read-front facts (fact ∷ []) disk x less at)
    | inr past ↦
        let here : disk ≡ length facts =
        omega (
          arith,
          past,
          slice_get_within (facts ++ fact ∷ []) disk x at,
          length_push facts
              fact,
        ) in
        let same : fact ≡ x =
        read-last facts fact x (ap (slice_get (facts ++ fact ∷ [])) (sym here) ∙ at) in
        subst (λ (f : DiskFacts). IsDisk disk log f) same
        (subst (λ d. IsDisk d log fact) (sym (here ∙ are.count)) is)
  ];
}

-- ---- the numbers are few

few_none : (i : ℕ) (b : Bool) → unwrap_or (cond b (Some 0) None) 0 ≤ i + 1
few_none i true = omega arith
few_none i false = omega arith

few_some : (i n : ℕ) (r s : Bool) → n ≤ i
    → unwrap_or (cond r (Some 0) (cond s (Some (n + 1)) (Some n))) 0 ≤ i + 1
few_some i n true s few = omega arith
few_some i n false true few = omega (arith, few)
few_some i n false false few = omega (arith, few)

few_counted : (d i : ℕ) (o : Option ℕ) (e : Entry) → unwrap_or o 0 ≤ i
    → unwrap_or (counted_after d o e) 0 ≤ i + 1
few_counted d i None e few = few_none i (is_enable e.act)
few_counted d i (Some n) e few = few_some i n (resets d e.act) (is_snap e.act) few

few_resets : (i n : ℕ) (b : Bool) → n ≤ i → cond b (n + 1) n ≤ i + 1
few_resets i n true few = omega (arith, few)
few_resets i n false few = omega (arith, few)

pub few_more : (d i : ℕ) (count after : IdCount) (e : Entry) → count.resets ≤ i
    → unwrap_or count.counted 0 ≤ i → after ≡ count_after d count e
    → (after.resets ≤ i + 1) × (unwrap_or after.counted 0 ≤ i + 1)
few_more d i count after e few_r few_c is =
    subst (λ (x : IdCount). (x.resets ≤ i + 1) × (unwrap_or x.counted 0 ≤ i + 1)) (sym is)
    (few_resets i count.resets (resets d e.act) few_r, few_counted d i count.counted e few_c)
