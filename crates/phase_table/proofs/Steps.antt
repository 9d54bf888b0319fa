-- What each step through the table is like, computed for every row.
use Rattle.std.proofs.Common.{◌≡◌, ℕ, ◌<◌, ◌≤◌, Bool, true, false, not, List, [], ◌∷◌, Some, None, refl, sym, ap, ◌∙◌, subst, ◌⊎◌, arith}
use Rattle.std.specs.Prelude.{◌==◌, ◌&&◌, ◌||◌, nat_lt, nat_le, slice_index_or, option_map, cond, IsTrue}
use Rattle.std.specs.List.{list_any, list_all, find, AllByRecursion}
use Rattle.std.proofs.lemmas.Bool.{and_parts, false≢true}
use Rattle.std.proofs.lemmas.Bool.Decides.{nat_tests}
use Rattle.std.proofs.lemmas.Option.{same_Some, none-some}
use Rattle.std.proofs.lemmas.List.Elements.{All-from_recursion, recursion_from_All, All-contains}
use Rattle.std.proofs.lemmas.Map.Views.{Contains-from_any}
use Rattle.phase_table.specs.declared.phases.Phase.{Phase}
use Rattle.phase_table.specs.declared.phases.Phase.TheVariants.{Started, CopyingPaused, WaitForPowerOff, CreateFinalSnapshot, Completed, Cancelled, Failed}
use Rattle.phase_table.specs.declared.table.Fact.{Fact}
use Rattle.phase_table.specs.declared.table.Fact.TheVariants.{Done, Precopy, Cutover, Running, Cancelled as Cancel, Failed as Fail}
use Rattle.phase_table.specs.Phases.{phase_number, all_phases}
use Rattle.phase_table.specs.declared.table.Row.{Row}
use Rattle.phase_table.specs.Table.{fact_number, fits, Fits, successor_in}
use Rattle.phase_table.specs.Edges.{row_of, all_rows, back_edge_of}
use Rattle.phase_table.specs.Paths.{Follows}
use Rattle.phase_table.specs.Laws.{successors_of, SuccessorsAreThose, EndsHaveNoSuccessor, FitsMeans, NoneWhereNoRowFits, NumbersDiffer, TestsHoldOfSteps}

-- before the final checkpoint a step stays before it, ends the migration, or enters it
abbrev pub early_step : Phase → Phase → Bool
early_step p q = nat_lt 16 (phase_number p) || (nat_le (phase_number q) 16
    || (nat_le 21 (phase_number q) || (phase_number p == 16 && phase_number q == 17)))

-- from the final checkpoint on each step rises
abbrev pub late_step : Phase → Phase → Bool
late_step p q = nat_lt (phase_number p) 17 || nat_lt (phase_number p) (phase_number q)

abbrev pub same_edge : Fact × Phase → Fact × Phase → Bool
same_edge a b = phase_number a.1 == phase_number b.1 && fact_number a.0 == fact_number b.0

abbrev pub listed : Phase → Fact → Phase → Bool
listed p f q = list_any (λ edge. same_edge (f, q) edge) (successors_of p)

late_means : (m n : ℕ) → 17 ≤ m → (nat_lt m 17 || nat_lt m n) ≡ true → m < n
late_means m n h test = grind (arith, nat_tests)

late_means_not : (m : ℕ) → 17 ≤ m → nat_lt m 17 ≡ true → ⊥
late_means_not m h test = grind (arith, nat_tests)

early_means : (m n : ℕ) → m ≤ 16
    → (nat_lt 16 m || (nat_le n 16 || (nat_le 21 n || (m == 16 && n == 17)))) ≡ true
    → (n ≤ 16) ⊎ ((21 ≤ n) ⊎ ((m ≡ 16) × (n ≡ 17)))
early_means m n h test = grind (arith, nat_tests)

abbrev pub phase_of : ℕ → Phase
phase_of n = slice_index_or (Started ∷ all_phases) n Failed

pub phase_of_number : (p : Phase) → phase_of (phase_number p) ≡ p
phase_of_number Started = refl
phase_of_number _ = refl

abbrev fact_numbered : ℕ → Fact
fact_numbered n = slice_index_or (Done ∷ Precopy ∷ Cutover ∷ Running ∷ Cancel ∷ Fail ∷ []) n Fail

fact_numbered_back : (f : Fact) → fact_numbered (fact_number f) ≡ f
fact_numbered_back Done = refl
fact_numbered_back _ = refl

pub numbers_differ : NumbersDiffer
numbers_differ p q e = sym (phase_of_number p) ∙ ap phase_of e ∙ phase_of_number q

facts_differ : (f g : Fact) → fact_number f ≡ fact_number g → f ≡ g
facts_differ f g e = sym (fact_numbered_back f) ∙ ap fact_numbered e ∙ fact_numbered_back g

two_numbers : (a b m n : ℕ) → (a == b && m == n) ≡ true → (a ≡ b) × (m ≡ n)
two_numbers a b m n e = grind (arith, nat_tests)

two_same : (a b m n : ℕ) → a ≡ b → m ≡ n → (a == b && m == n) ≡ true
two_same a b m n e f = grind (arith, nat_tests)

edges_same : (a b : Fact × Phase) → same_edge a b ≡ true → a ≡ b
edges_same (f, p) (g, q) e =
    let n = two_numbers (phase_number p) (phase_number q) (fact_number f) (fact_number g) e in
    let phases : p ≡ q = numbers_differ p q n.0 in
    let facts : f ≡ g = facts_differ f g n.1 in
    ap (λ (x : Phase). (f, x)) phases ∙ ap (λ (x : Fact). (x, q)) facts

pub fits_means : FitsMeans
fits_means row p f = (
  λ e. let n = two_numbers (phase_number row.phase) (phase_number p) (fact_number row.fact)
      (fact_number f) e in
      record {
        same_phase = numbers_differ row.phase p n.0;
        same_fact = facts_differ row.fact f n.1;
      },
  λ h. two_same (phase_number row.phase) (phase_number p) (fact_number row.fact) (fact_number f)
      (ap phase_number h.same_phase) (ap fact_number h.same_fact),
)

-- the row that counts is of that phase and that fact
step_is_row : (test : Row → Bool) (row : Row) (p q : Phase) (f : Fact) → Fits row p f
    → row.successor ≡ q → IsTrue (test row) → IsTrue (test (row_of p f q))
step_is_row test row p q f same successor holds =
    let is : row ≡ row_of p f q =
    ap (λ (x : Phase). row_of x row.fact row.successor) same.same_phase
    ∙ ap (λ (x : Fact). row_of p x row.successor) same.same_fact
    ∙ ap (λ (x : Phase). row_of p f x) successor in
    subst (λ (x : Row). IsTrue (test x)) is holds

steps_split : (row : Row) (rows : List Row) (test : Row → Bool) (p q : Phase) (f : Fact) (b : Bool)
    → fits row p f ≡ b → IsTrue (test row)
    → option_map (λ r. r.successor) (cond b (Some row) (find (λ r. fits r p f) rows)) ≡ Some q
    → (successor_in rows p f ≡ Some q → IsTrue (test (row_of p f q)))
    → IsTrue (test (row_of p f q))
steps_split row rows test p q f true fit holds e rest =
    step_is_row test row p q f ((fits_means row p f).0 fit) (same_Some row.successor q e) holds
steps_split row rows test p q f false fit holds e rest = rest e

pub tests_hold_of_steps : TestsHoldOfSteps
tests_hold_of_steps [] test all p q f e = cc
tests_hold_of_steps (row ∷ rows) test all p q f e =
    let parts = and_parts (test row) (list_all test rows) all in
    steps_split row rows test p q f (fits row p f) refl parts.0 e
    (tests_hold_of_steps rows test parts.1 p q f)

abbrev step_test : Row → Bool
step_test row = early_step row.phase row.successor
    && (late_step row.phase row.successor && listed row.phase row.fact row.successor)

each_step : IsTrue (list_all step_test all_rows)
each_step = refl

three_tests : (a b d : Bool) → (a && (b && d)) ≡ true → (a ≡ true) × (b ≡ true) × (d ≡ true)
three_tests true true true e = (refl, refl, refl)
three_tests false b d e = cc
three_tests true false d e = cc
three_tests true true false e = cc

step_holds : (p q : Phase) (f : Fact) → successor_in all_rows p f ≡ Some q
    → (early_step p q ≡ true) × (late_step p q ≡ true) × (listed p f q ≡ true)
step_holds p q f e =
    three_tests (early_step p q) (late_step p q) (listed p f q)
    (tests_hold_of_steps all_rows step_test each_step p q f e)

-- no row of a machine that is on stands at the final checkpoint or behind it
abbrev back_test : Row → Bool
back_test row = not (fact_number row.fact == 3) || nat_lt (phase_number row.phase) 17

each_back_edge : IsTrue (list_all back_test all_rows)
each_back_edge = refl

pub late_rises : (p q : Phase) → 17 ≤ phase_number p → Follows p q → phase_number p < phase_number q
late_rises p q h (f, e) = late_means (phase_number p) (phase_number q) h (step_holds p q f e).1

pub early_goes : (p q : Phase) → phase_number p ≤ 16 → Follows p q
    → (phase_number q ≤ 16)
    ⊎ ((21 ≤ phase_number q) ⊎ ((phase_number p ≡ 16) × (phase_number q ≡ 17)))
early_goes p q h (f, e) = early_means (phase_number p) (phase_number q) h (step_holds p q f e).0

pub no_late_back_edge : (p q : Phase) → 17 ≤ phase_number p → back_edge_of p ≡ Some q → ⊥
no_late_back_edge p q h e =
    late_means_not (phase_number p) h
    (tests_hold_of_steps all_rows back_test each_back_edge p q Running e)

abbrev Misses : Phase → Fact → Row → Type 0
Misses p f row = ¬ (Fits row p f)

-- by what the test of the first row gives
none_split : (p : Phase) (f : Fact) (row : Row) (rows : List Row) (b : Bool) → fits row p f ≡ b
    → option_map (λ r. r.successor) (cond b (Some row) (find (λ r. fits r p f) rows)) ≡ None
    → (successor_in rows p f ≡ None → AllByRecursion (Misses p f) rows)
    → AllByRecursion (Misses p f) (row ∷ rows)
none_split p f row rows true e none rest = absurd (none-some row.successor (sym none))
none_split p f row rows false e none rest =
    ((λ h. false≢true (sym e ∙ (fits_means row p f).1 h)), rest none)

none_misses : (p : Phase) (f : Fact) (rows : List Row) → successor_in rows p f ≡ None
    → AllByRecursion (Misses p f) rows
none_misses p f [] none = tt
none_misses p f (row ∷ rows) none =
    none_split p f row rows (fits row p f) refl none (none_misses p f rows)

misses_split : (p : Phase) (f : Fact) (row : Row) (rows : List Row) (b : Bool) → fits row p f ≡ b
    → Misses p f row → successor_in rows p f ≡ None
    → option_map (λ r. r.successor) (cond b (Some row) (find (λ r. fits r p f) rows)) ≡ None
misses_split p f row rows true e miss none = absurd (miss ((fits_means row p f).0 e))
misses_split p f row rows false e miss none = none

misses_none : (p : Phase) (f : Fact) (rows : List Row) → AllByRecursion (Misses p f) rows
    → successor_in rows p f ≡ None
misses_none p f [] h = refl
misses_none p f (row ∷ rows) h =
    misses_split p f row rows (fits row p f) refl h.0 (misses_none p f rows h.1)

pub none_where_no_row_fits : NoneWhereNoRowFits
none_where_no_row_fits rows p f = (
  λ none. All-from_recursion (Misses p f) rows (none_misses p f rows none),
  λ all. misses_none p f rows (recursion_from_All (Misses p f) rows all),
)

abbrev Leads : Phase → Fact × Phase → Type 0
Leads p edge = successor_in all_rows p edge.0 ≡ Some edge.1

leads_each : (p : Phase) → AllByRecursion (Leads p) (successors_of p)
leads_each CopyingPaused = (refl, (refl, (refl, (refl, tt))))
leads_each WaitForPowerOff = (refl, (refl, (refl, (refl, tt))))
leads_each CreateFinalSnapshot = (refl, (refl, (refl, (refl, tt))))
leads_each Completed = tt
leads_each Cancelled = tt
leads_each Failed = tt
leads_each _ = (refl, (refl, (refl, tt)))

pub successors_are_those : SuccessorsAreThose
successors_are_those p f q = (
  λ e. Contains-from_any edges_same (f, q) (successors_of p) (step_holds p q f e).2,
  λ inside. All-contains (Leads p) (successors_of p) (f, q)
      (All-from_recursion (Leads p) (successors_of p) (leads_each p)) inside,
)

nothing_behind_completed : (f : Fact) → successor_in all_rows Completed f ≡ None
nothing_behind_completed Done = refl
nothing_behind_completed _ = refl

nothing_behind_cancelled : (f : Fact) → successor_in all_rows Cancelled f ≡ None
nothing_behind_cancelled Done = refl
nothing_behind_cancelled _ = refl

nothing_behind_failed : (f : Fact) → successor_in all_rows Failed f ≡ None
nothing_behind_failed Done = refl
nothing_behind_failed _ = refl

pub ends_have_no_successor : EndsHaveNoSuccessor
ends_have_no_successor Completed = (λ t. nothing_behind_completed, λ h. refl)
ends_have_no_successor Cancelled = (λ t. nothing_behind_cancelled, λ h. refl)
ends_have_no_successor Failed = (λ t. nothing_behind_failed, λ h. refl)
ends_have_no_successor _ =
    (λ t. absurd (false≢true t), λ h. absurd (none-some Cancelled (sym (h Cancel))))
