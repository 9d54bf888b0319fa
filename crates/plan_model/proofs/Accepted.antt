-- What an accepted plan is, from the searches that found no reason against it.
use Rattle.std.proofs.Common.{◌≡◌, ℕ, ◌+◌, ◌*◌, ◌≤◌, Bool, true, false, cond, not, List, [], ◌∷◌, length, Option, Some, None, option_map, nat_lt, nat_le, refl, sym, ap, ◌∙◌, arith}
use Rattle.std.specs.Prelude.{◌≢◌, ◌==◌, map, IsTrue, is_some, if◌then◌else◌}
use Rattle.std.specs.Bool.{one_answer}
use Rattle.std.specs.List.{find, list_any, AllByRecursion, IsDistinct}
use Rattle.std.specs.Str.{bytes_eq}
use Rattle.std.proofs.lemmas.Bool.{eqb-true, false≢true, not-false, or_parts}
use Rattle.std.proofs.lemmas.Bool.Decides.{nat_tests}
use Rattle.std.proofs.lemmas.Slice.Eq.{bytes_eq-Decides}
use Rattle.std.proofs.lemmas.List.Elements.{All-from_recursion, recursion_from_All}
use Rattle.std.proofs.lemmas.List.Folds.{list_any_none}
use Rattle.std.proofs.lemmas.List.Sums.{sum_by-cons}
use Rattle.basics.proofs.Each.{each, each_both}
use Rattle.basics.proofs.Options.{neither}
use Rattle.plan_model.specs.declared.plan.Plan.{Plan}
use Rattle.plan_model.specs.declared.plan.VmFact.{VmFact}
use Rattle.plan_model.specs.declared.plan.PlanRefused.{PlanRefused}
use Rattle.plan_model.specs.declared.plan.PlanRefused.TheVariants.{NameTaken, Empty, Doubled, UnknownVm, InPlan, NoTracking}
use Rattle.plan_model.specs.declared.book.Standing.{Standing}
use Rattle.plan_model.specs.Book.{fact_of, standing_of, standing_in, is_unknown, is_in_plan, is_untracked}
use Rattle.plan_model.specs.Plans.{is_taken, count_of, is_doubled_in, first_that, list_refusal, plan_refusal, vm_number}
use Rattle.plan_model.specs.Laws.{IsFree, IsPossible, AcceptedIsPossible, NumbersTellApart, AcceptedMachinesDiffer, NothingIsDueTwice}

-- lists
find_split : {X : Type 0} (test : X → Bool) (x : X) (xs : List X) (b : Bool) → test x ≡ b
    → cond b (Some x) (find test xs) ≡ None → (test x ≡ false) × (find test xs ≡ None)
find_split test x xs true t none = cc
find_split test x xs false t none = (t, none)

none_found : {X : Type 0} (test : X → Bool) (xs : List X) → find test xs ≡ None
    → AllByRecursion (λ x. test x ≡ false) xs
none_found test [] none = tt
none_found test (x ∷ xs) none =
    let parts = find_split test x xs (test x) refl none in (parts.0, none_found test xs parts.1)

find_none : {X : Type 0} (test : X → Bool) (xs : List X)
    → AllByRecursion (λ x. test x ≡ false) xs → find test xs ≡ None
find_none test [] all = refl
find_none test (x ∷ xs) all = rw all.0 (find_none test xs all.1)

none_passes : {X : Type 0} (test : X → Bool) (xs : List X) → list_any test xs ≡ false
    → AllByRecursion (λ x. test x ≡ false) xs
none_passes test [] none = tt
none_passes test (x ∷ xs) none =
    let parts = or_parts (test x) (list_any test xs) none in
    (parts.0, none_passes test xs parts.1)

-- names
flips : (a b : List ℕ) → bytes_eq a b ≡ bytes_eq b a
flips a b = one_answer (bytes_eq a b) (bytes_eq b a) (bytes_eq-Decides a b)
    ((λ t. sym ((bytes_eq-Decides b a).0 t)), (λ e. (bytes_eq-Decides b a).1 (sym e)))

differ_at : (a b : List ℕ) (v : Bool) → bytes_eq a b ≡ v → a ≢ b → v ≡ false
differ_at a b true t apart = absurd (apart ((bytes_eq-Decides a b).0 t))
differ_at a b false t apart = refl

apart_is : (a b : List ℕ) → bytes_eq a b ≡ false → a ≢ b
apart_is a b f same = false≢true (sym f ∙ (bytes_eq-Decides a b).1 same)

is_apart : (a b : List ℕ) → a ≢ b → bytes_eq a b ≡ false
is_apart a b apart = differ_at a b (bytes_eq a b) refl apart

-- counts
zero_plus : (n : ℕ) → 0 + n ≡ n
zero_plus n = omega arith

count_cons : (x q : List ℕ) (xs : List (List ℕ))
    → count_of (x ∷ xs) q ≡ cond (bytes_eq x q) 1 0 + count_of xs q
count_cons x q xs = sum_by-cons (λ (vm : List ℕ). cond (bytes_eq vm q) 1 0) x xs

count_self : (x : List ℕ) (xs : List (List ℕ)) → count_of (x ∷ xs) x ≡ 1 + count_of xs x
count_self x xs =
    count_cons x x xs
    ∙ ap (λ (b : Bool). cond b 1 0 + count_of xs x) ((bytes_eq-Decides x x).1 refl)

count_other : (x q : List ℕ) (xs : List (List ℕ)) → bytes_eq x q ≡ false
    → count_of (x ∷ xs) q ≡ count_of xs q
count_other x q xs f =
    count_cons x q xs ∙ ap (λ (b : Bool). cond b 1 0 + count_of xs q) f ∙ zero_plus (count_of xs q)

zero_parts : (b : Bool) (n : ℕ) → cond b 1 0 + n ≡ 0 → (b ≡ false) × (n ≡ 0)
zero_parts true n e = absurd (omega arith)
zero_parts false n e = (refl, omega arith)

absent : (q : List ℕ) (xs : List (List ℕ)) → count_of xs q ≡ 0
    → AllByRecursion (λ y. bytes_eq q y ≡ false) xs
absent q [] e = tt
absent q (x ∷ xs) e =
    let parts = zero_parts (bytes_eq x q) (count_of xs q) (sym (count_cons x q xs) ∙ e) in
    (flips q x ∙ parts.0, absent q xs parts.1)

not_counted : (q : List ℕ) (xs : List (List ℕ)) → AllByRecursion (λ y. bytes_eq q y ≡ false) xs
    → count_of xs q ≡ 0
not_counted q [] all = refl
not_counted q (x ∷ xs) all =
    count_other x q xs (flips x q ∙ all.0) ∙ not_counted q xs all.1

rest_count : (x q : List ℕ) (xs : List (List ℕ)) → count_of (x ∷ xs) q ≤ 1 → count_of xs q ≤ 1
rest_count x q xs few = omega (arith, count_cons x q xs)

abbrev Once : (vms : List (List ℕ)) → List ℕ → Type 0
Once vms q = count_of vms q ≤ 1

distinct_where_once : (vms : List (List ℕ)) → AllByRecursion (Once vms) vms
    → IsDistinct bytes_eq vms
unfolding IsDistinct
distinct_where_once [] once = tt
distinct_where_once (x ∷ xs) once =
    let here : count_of xs x ≡ 0 = (let few = once.0 in omega (arith, count_self x xs)) in (
      absent x xs here,
      distinct_where_once xs
          (each {P = Once (x ∷ xs)} {Q = Once xs} (λ q few. rest_count x q xs few) xs once.1),
    )

once_where_distinct : (vms : List (List ℕ)) → IsDistinct bytes_eq vms
    → AllByRecursion (Once vms) vms
unfolding IsDistinct
once_where_distinct [] distinct = tt
once_where_distinct (x ∷ xs) distinct =
    let none = not_counted x xs distinct.0 in (
      omega (arith, count_self x xs),
      each_both {P = λ q. bytes_eq x q ≡ false} {Q = Once xs} {R = Once (x ∷ xs)}
          (λ q apart few. let same = count_other x q xs apart in omega arith)
          xs distinct.0 (once_where_distinct xs distinct.1),
    )

few_is : (n : ℕ) → nat_lt 1 n ≡ false → n ≤ 1
few_is n f = grind (arith, nat_tests)

is_few : (n : ℕ) → n ≤ 1 → nat_lt 1 n ≡ false
is_few n few = grind (arith, nat_tests)

none_doubled : (vms : List (List ℕ)) → find (is_doubled_in vms) vms ≡ None
    → IsDistinct bytes_eq vms
none_doubled vms none =
    distinct_where_once vms
    (each {P = λ q. is_doubled_in vms q ≡ false} {Q = Once vms} (λ q f. few_is (count_of vms q) f)
    vms
    (none_found (is_doubled_in vms) vms none))

doubled_none : (vms : List (List ℕ)) → IsDistinct bytes_eq vms
    → find (is_doubled_in vms) vms ≡ None
doubled_none vms distinct =
    find_none (is_doubled_in vms) vms
    (each {P = Once vms} {Q = λ q. is_doubled_in vms q ≡ false}
    (λ q few. is_few (count_of vms q) few) vms
    (once_where_distinct vms distinct))

-- machines
free_where : (known : List VmFact) (name : List ℕ) (found : Option VmFact)
    → fact_of known name ≡ found → is_unknown (option_map standing_of found) ≡ false
    → is_in_plan (option_map standing_of found) ≡ false
    → is_untracked (option_map standing_of found) ≡ false → IsFree known name
free_where known name None e u p t = cc
free_where known name (Some fact) e u p t =
    record { fact = fact; is_known = e; in_no_plan = p; tracked = not-false fact.tracking t }

abbrev Passes : (test : Option Standing → Bool) (known : List VmFact) → List ℕ → Type 0
Passes test known name = test (standing_in known name) ≡ false

standing_is : (known : List VmFact) (name : List ℕ) (free : IsFree known name)
    → standing_in known name ≡ Some (standing_of free.fact)
standing_is known name free = ap (λ (o : Option VmFact). option_map standing_of o) free.is_known

known_where : (known : List VmFact) (name : List ℕ) → IsFree known name
    → Passes is_unknown known name
known_where known name free =
    ap (λ (o : Option Standing). is_unknown o) (standing_is known name free)

planless_where : (known : List VmFact) (name : List ℕ) → IsFree known name
    → Passes is_in_plan known name
planless_where known name free =
    ap (λ (o : Option Standing). is_in_plan o) (standing_is known name free) ∙ free.in_no_plan

tracked_where : (known : List VmFact) (name : List ℕ) → IsFree known name
    → Passes is_untracked known name
tracked_where known name free =
    ap (λ (o : Option Standing). is_untracked o) (standing_is known name free)
    ∙ ap (λ (b : Bool). not b) free.tracked

-- reasons
told_none : (reason : List ℕ → PlanRefused) (found : Option (List ℕ))
    → option_map reason found ≡ None → found ≡ None
told_none reason None e = refl
told_none reason (Some vm) e = cc

record NothingFound (vms : List (List ℕ)) (known : List VmFact) : Type 0 where
  doubled : find (is_doubled_in vms) vms ≡ None
  unknown : first_that is_unknown known vms ≡ None
  planned : first_that is_in_plan known vms ≡ None
  untracked : first_that is_untracked known vms ≡ None

nothing_found : (vms : List (List ℕ)) (known : List VmFact) → list_refusal vms known ≡ None
    → NothingFound vms known
nothing_found vms known none =
    let d = neither (option_map Doubled (find (is_doubled_in vms) vms)) _ none in
    let u = neither (option_map UnknownVm (first_that is_unknown known vms)) _ d.1 in
    let p = neither (option_map InPlan (first_that is_in_plan known vms)) _ u.1 in
    record {
      doubled = told_none Doubled (find (is_doubled_in vms) vms) d.0;
      unknown = told_none UnknownVm (first_that is_unknown known vms) u.0;
      planned = told_none InPlan (first_that is_in_plan known vms) p.0;
      untracked = told_none NoTracking (first_that is_untracked known vms) p.1;
    }

found_nothing : (vms : List (List ℕ)) (known : List VmFact) → NothingFound vms known
    → list_refusal vms known ≡ None
found_nothing vms known none = rw (none.doubled, none.unknown, none.planned, none.untracked) refl

refusal_parts : (taken empty : Bool) (rest : Option PlanRefused)
    → (if taken then Some NameTaken else if empty then Some Empty else rest) ≡ None
    → (taken ≡ false) × (empty ≡ false) × (rest ≡ None)
refusal_parts true empty rest e = cc
refusal_parts false true rest e = cc
refusal_parts false false rest e = (refl, refl, e)

some_is : (n : ℕ) → (n == 0) ≡ false → 1 ≤ n
some_is n f = grind (arith, nat_tests)

is_some_of : (n : ℕ) → 1 ≤ n → (n == 0) ≡ false
is_some_of n some = grind (arith, nat_tests)

possible_where : (name : List ℕ) (vms : List (List ℕ)) (known : List VmFact) (plans : List Plan)
    → plan_refusal name vms known plans ≡ None → IsPossible name vms known plans
possible_where name vms known plans none =
    let parts = refusal_parts (is_taken name plans) (length vms == 0) (list_refusal vms known)
    none in
    let nothing = nothing_found vms known parts.2 in
    record {
      new_name = All-from_recursion (λ plan. plan.name ≢ name) plans
          (each {P = λ plan. bytes_eq plan.name name ≡ false} {Q = λ plan. plan.name ≢ name}
          (λ plan f. apart_is plan.name name f) plans
          (none_passes (λ plan. bytes_eq plan.name name) plans parts.0));
      some = some_is (length vms) parts.1;
      once = none_doubled vms nothing.doubled;
      free = All-from_recursion (IsFree known) vms
          (each_both {P = Passes is_unknown known}
          {Q = λ vm. Passes is_in_plan known vm × Passes is_untracked known vm} {R = IsFree known}
          (λ vm u rest. free_where known vm (fact_of known vm) refl u rest.0 rest.1) vms
          (none_found (λ vm. is_unknown (standing_in known vm)) vms nothing.unknown)
          (each_both {P = Passes is_in_plan known} {Q = Passes is_untracked known}
          {R = λ vm. Passes is_in_plan known vm × Passes is_untracked known vm}
          (λ vm p t. (p, t)) vms
          (none_found (λ vm. is_in_plan (standing_in known vm)) vms nothing.planned)
          (none_found (λ vm. is_untracked (standing_in known vm)) vms nothing.untracked)));
    }

accepted_where : (name : List ℕ) (vms : List (List ℕ)) (known : List VmFact) (plans : List Plan)
    → IsPossible name vms known plans → plan_refusal name vms known plans ≡ None
accepted_where name vms known plans possible =
    let new = recursion_from_All (λ plan. plan.name ≢ name) plans possible.new_name in
    let untaken : is_taken name plans ≡ false =
    list_any_none (λ plan. bytes_eq plan.name name) plans
    (All-from_recursion (λ plan. bytes_eq plan.name name ≡ false) plans
    (each {P = λ plan. plan.name ≢ name} {Q = λ plan. bytes_eq plan.name name ≡ false}
    (λ plan apart. is_apart plan.name name apart) plans new)) in
    let some : (length vms == 0) ≡ false = is_some_of (length vms) possible.some in
    let free = recursion_from_All (IsFree known) vms possible.free in
    let nothing : list_refusal vms known ≡ None = found_nothing vms known (record {
      doubled = doubled_none vms possible.once;
      unknown = find_none (λ vm. is_unknown (standing_in known vm)) vms
          (each {P = IsFree known} {Q = Passes is_unknown known} (known_where known) vms free);
      planned = find_none (λ vm. is_in_plan (standing_in known vm)) vms
          (each {P = IsFree known} {Q = Passes is_in_plan known} (planless_where known) vms free);
      untracked = find_none (λ vm. is_untracked (standing_in known vm)) vms
          (each {P = IsFree known} {Q = Passes is_untracked known} (tracked_where known) vms free);
    }) in
    rw (untaken, some) nothing

pub accepted_is_possible : AcceptedIsPossible
accepted_is_possible name vms known plans =
    (possible_where name vms known plans, accepted_where name vms known plans)

-- numbers
known_is : (known : List VmFact) (name : List ℕ) → IsFree known name
    → IsTrue (is_some (fact_of known name))
known_is known name free = ap (λ (o : Option VmFact). is_some o) free.is_known

numbers_at : (known : List VmFact) (a b : List ℕ) (v : Bool) → NumbersTellApart known
    → IsFree known a → IsFree known b → bytes_eq a b ≡ false
    → (vm_number known a == vm_number known b) ≡ v → v ≡ false
numbers_at known a b true apart free_a free_b f e =
    let same = apart a b (known_is known a free_a) (known_is known b free_b)
    (eqb-true (vm_number known a) (vm_number known b) e) in
    absurd (apart_is a b f same)
numbers_at known a b false apart free_a free_b f e = refl

numbers_from : (known : List VmFact) (a : List ℕ) (vms : List (List ℕ)) → NumbersTellApart known
    → IsFree known a → AllByRecursion (λ b. bytes_eq a b ≡ false) vms
    → AllByRecursion (IsFree known) vms
    → AllByRecursion (λ n. (vm_number known a == n) ≡ false) (map (vm_number known) vms)
numbers_from known a [] apart free_a names free = tt
numbers_from known a (b ∷ vms) apart free_a names free = (
  numbers_at known a b (vm_number known a == vm_number known b) apart free_a free.0 names.0 refl,
  numbers_from known a vms apart free_a names.1 free.1,
)

numbers_differ : (known : List VmFact) (vms : List (List ℕ)) → NumbersTellApart known
    → IsDistinct bytes_eq vms → AllByRecursion (IsFree known) vms
    → IsDistinct ◌==◌ (map (vm_number known) vms)
unfolding IsDistinct
numbers_differ known [] apart names free = tt
numbers_differ known (a ∷ vms) apart names free = (
  numbers_from known a vms apart free.0 names.0 free.1,
  numbers_differ known vms apart names.1 free.1,
)

pub accepted_machines_differ : AcceptedMachinesDiffer
accepted_machines_differ name vms known plans interval apart none =
    let possible = possible_where name vms known plans none in
    numbers_differ known vms apart possible.once
    (recursion_from_All (IsFree known) vms possible.free)

not_yet : (now interval : ℕ) → 1 ≤ interval → nat_le (now + 60 * interval) now ≡ false
not_yet now interval some = grind (arith, nat_tests)

pub nothing_is_due_twice : NothingIsDueTwice
nothing_is_due_twice now interval some = not_yet now.0 interval some
