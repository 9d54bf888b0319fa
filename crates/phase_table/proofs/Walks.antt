-- Paths through the table, step by step.
use Rattle.std.proofs.Common.{◌≡◌, ℕ, ◌≤◌, List, [], ◌∷◌, ◌++◌, Some, None, sym, ap, ◌∙◌, subst, inl, inr, arith, lit≤}
use Rattle.std.specs.List.{last_or}
use Rattle.std.proofs.lemmas.Bool.{cases_lt}
use Rattle.phase_table.specs.declared.phases.Phase.{Phase}
use Rattle.phase_table.specs.declared.phases.Phase.TheVariants.{Started, CreateFinalSnapshot, AddFinalCheckpoint}
use Rattle.phase_table.specs.Phases.{phase_number}
use Rattle.phase_table.specs.Paths.{Follows, IsPath, EndsIn, IsNoBackEdge, HasNoBackEdge, Rises, EachStep, TakesFinalSnapshot, PassesFinalSnapshot, IsBehindFinalSnapshot}
use Rattle.phase_table.specs.Laws.{FrontsArePaths, PathsGrow, FinalSnapshotIsPassed, OnlyTheFinalSnapshotLeadsOn, NoBackEdgeAfter, PhasesRiseAfter}
use Rattle.phase_table.proofs.Steps.{late_rises, early_goes, no_late_back_edge, phase_of, phase_of_number}

tail_has : (R : Phase → Phase → Type 0) (p : Phase) (rest : List Phase)
    → EachStep R (p ∷ rest) → EachStep R rest
tail_has R p [] h = tt
tail_has R p (q ∷ rest) h = h.1

pub suffix_is_path : (before rest : List Phase) → IsPath (before ++ rest) → IsPath rest
suffix_is_path [] rest h = h
suffix_is_path (p ∷ before) rest h =
    suffix_is_path before rest (tail_has Follows p (before ++ rest) h)

pub fronts_are_paths : FrontsArePaths
fronts_are_paths [] rest h = tt
fronts_are_paths (p ∷ []) rest h = tt
fronts_are_paths (p ∷ q ∷ front) rest h = (h.0, fronts_are_paths (q ∷ front) rest h.1)

pub paths_grow : PathsGrow
paths_grow [] p q h follows = (follows, tt)
paths_grow (x ∷ []) p q h follows = (h.0, (follows, tt))
paths_grow (x ∷ y ∷ path) p q h follows = (h.0, paths_grow (y ∷ path) p q h.1 follows)

-- what every step from the final checkpoint on has, every path from there on has
late_steps_have : (R : Phase → Phase → Type 0)
    → ((p q : Phase) → 17 ≤ phase_number p → Follows p q → R p q)
    → (p : Phase) (rest : List Phase) → 17 ≤ phase_number p
    → IsPath (p ∷ rest) → EachStep R (p ∷ rest)
late_steps_have R each p [] h path = tt
late_steps_have R each p (q ∷ rest) h path =
    let r = late_rises p q h path.0 in
    (each p q h path.0, late_steps_have R each q rest (omega arith) path.1)

late_has_no_back_edge : (p : Phase) (rest : List Phase) → 17 ≤ phase_number p
    → IsPath (p ∷ rest) → HasNoBackEdge (p ∷ rest)
late_has_no_back_edge p rest h path =
    late_steps_have IsNoBackEdge (λ p q h follows. no_late_back_edge p q h) p rest h path

late_has_rising : (p : Phase) (rest : List Phase) → 17 ≤ phase_number p
    → IsPath (p ∷ rest) → EachStep Rises (p ∷ rest)
late_has_rising p rest h path = late_steps_have Rises late_rises p rest h path

last_is : (p q : Phase) → last_or None (p ∷ []) ≡ Some q → p ≡ q
last_is p q e = cc

-- a migration that was ended otherwise doesn't come to these phases
ended_stays : (p end : Phase) (rest : List Phase) → 21 ≤ phase_number p → IsPath (p ∷ rest)
    → EndsIn end (p ∷ rest) → IsBehindFinalSnapshot end → ⊥
ended_stays p end [] h path ends in_time =
    let e : phase_number p ≡ phase_number end = ap phase_number (last_is p end ends) in
    let low = in_time.behind in let high = in_time.completing in omega arith
ended_stays p end (q ∷ rest) h path ends in_time =
    let r = late_rises p q (omega arith) path.0 in
    ended_stays q end rest (omega arith) path.1 ends in_time

with_first : (p : Phase) (rest : List Phase) → PassesFinalSnapshot rest
    → PassesFinalSnapshot (p ∷ rest)
with_first p rest w = record {
  before = p ∷ w.before;
  after = w.after;
  taken = ap (λ (xs : List Phase). p ∷ xs) w.taken;
  no_back_edge = w.no_back_edge;
}

of_number : (p : Phase) (n : ℕ) → phase_number p ≡ n → p ≡ phase_of n
of_number p n e = sym (phase_of_number p) ∙ ap phase_of e

here_passes : (p q : Phase) (rest : List Phase) → phase_number p ≡ 16 → phase_number q ≡ 17
    → IsPath (q ∷ rest) → PassesFinalSnapshot (p ∷ q ∷ rest)
here_passes p q rest ep eq path = record {
  before = [];
  after = rest;
  taken = ap (λ (x : Phase). x ∷ q ∷ rest) (of_number p 16 ep)
      ∙ ap (λ (x : Phase). CreateFinalSnapshot ∷ x ∷ rest) (of_number q 17 eq);
  no_back_edge = late_has_no_back_edge AddFinalCheckpoint rest (lit≤ tt)
      (subst (λ (x : Phase). IsPath (x ∷ rest)) (of_number q 17 eq) path);
}

early_passes : (p end : Phase) (rest : List Phase) → phase_number p ≤ 16 → IsPath (p ∷ rest)
    → EndsIn end (p ∷ rest) → IsBehindFinalSnapshot end → PassesFinalSnapshot (p ∷ rest)
early_passes p end [] h path ends in_time =
    let e : phase_number p ≡ phase_number end = ap phase_number (last_is p end ends) in
    let low = in_time.behind in absurd (omega arith)
early_passes p end (q ∷ rest) h path ends in_time =
    elim (early_goes p q h path.0) [
      | inl stays ↦ with_first p (q ∷ rest) (early_passes q end rest stays path.1 ends in_time)
      | inr (inl ended) ↦ absurd (ended_stays q end rest ended path.1 ends in_time)
      | inr (inr here) ↦ here_passes p q rest here.0 here.1 path.1
    ]

pub final_snapshot_is_passed : FinalSnapshotIsPassed
final_snapshot_is_passed rest end path ends in_time =
    early_passes Started end rest (lit≤ tt) path ends in_time

early_enters : (p q : Phase) → phase_number p ≤ 16 → Follows p q → IsBehindFinalSnapshot q
    → (p ≡ CreateFinalSnapshot) × (q ≡ AddFinalCheckpoint)
early_enters p q h follows in_time =
    let low = in_time.behind in let high = in_time.completing in
    elim (early_goes p q h follows) [
      | inl stays ↦ absurd (omega arith)
      | inr (inl ended) ↦ absurd (omega arith)
      | inr (inr here) ↦ (of_number p 16 here.0, of_number q 17 here.1)
    ]

late_from : (p q : Phase) → 17 ≤ phase_number p → Follows p q → IsBehindFinalSnapshot q
    → IsBehindFinalSnapshot p
late_from p q h follows in_time =
    let r = late_rises p q h follows in
    let high = in_time.completing in
    record { behind = omega arith; completing = omega arith }

pub only_the_final_snapshot_leads_on : OnlyTheFinalSnapshotLeadsOn
only_the_final_snapshot_leads_on p q follows in_time =
    elim (cases_lt (phase_number p) 17) [
      | inl early ↦ inl (early_enters p q (omega arith) follows in_time)
      | inr late ↦ inr (late_from p q (omega arith) follows in_time)
    ]

after_path : (path before after : List Phase) → IsPath path
    → TakesFinalSnapshot path before after → IsPath (AddFinalCheckpoint ∷ after)
after_path path before after h taken =
    let whole : IsPath (before ++ CreateFinalSnapshot ∷ AddFinalCheckpoint ∷ after) =
    subst (λ (xs : List Phase). IsPath xs) taken h in
    (suffix_is_path before (CreateFinalSnapshot ∷ AddFinalCheckpoint ∷ after) whole).1

pub no_back_edge_after : NoBackEdgeAfter
no_back_edge_after path before after h taken =
    late_has_no_back_edge AddFinalCheckpoint after (lit≤ tt) (after_path path before after h taken)

pub phases_rise_after : PhasesRiseAfter
phases_rise_after path before after h taken =
    late_has_rising AddFinalCheckpoint after (lit≤ tt) (after_path path before after h taken)
