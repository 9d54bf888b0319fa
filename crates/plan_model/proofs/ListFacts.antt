-- One more listed name, and one more known machine.
use Rattle.std.proofs.Common.{◌≡◌, ℕ, zero, suc, ◌+◌, ◌<◌, Bool, true, false, cond, List, [], ◌∷◌, length, get_or, take, Option, Some, None, option_map, is_some, nat_lt, Ok, Err, inl, refl, sym, ap, subst, ◌∙◌, arith, ◌++◌}
use Rattle.std.specs.List.{find}
use Rattle.std.specs.Option.{option_or}
use Rattle.std.specs.Str.{bytes_eq}
use Rattle.std.specs.Ordering.{is_eq, nat_cmp}
use Rattle.std.specs.Cmp.Lexicographic.{slice_cmp}
use Rattle.std.proofs.lemmas.Bool.Decides.{nat_tests}
use Rattle.std.proofs.lemmas.Slice.Eq.{bytes_eq-Decides}
use Rattle.std.proofs.lemmas.List.{take_more}
use Rattle.std.proofs.lemmas.List.Folds.{find-append}
use Rattle.std.proofs.lemmas.List.Sums.{count_by_more_yes, count_by_more_no}
use Rattle.std.proofs.lemmas.Map.Text.{is_eq-slice_cmp}
use Rattle.basics.proofs.Options.{is_some-map, or_none, some_or, none_or}
use Rattle.basics.specs.Refusal.{IsRefusedWhere}
use Rattle.basics.specs.declared.number_list.NumberList.{NumberList}
use Rattle.plan_model.specs.declared.plan.VmFact.{VmFact}
use Rattle.plan_model.specs.declared.plan.PlanRefused.TheVariants.{UnknownVm, InPlan, NoTracking, NoMemory}
use Rattle.plan_model.specs.declared.book.Standing.{Standing}
use Rattle.plan_model.specs.Book.{fact_of, standing_of, standing_in, is_unknown, is_in_plan, is_untracked, double_of, is_double}
use Rattle.plan_model.specs.Plans.{count_of, is_doubled_in, first_that, list_refusal, keeps_name}

double_more : (n : ℕ) → Some (is_some (double_of n)) ≡ double_of (n + 1)
double_more zero = refl
double_more (suc n) = grind (arith, nat_tests)

doubles_step_at : (b : Bool) (vms : List (List ℕ)) (i : ℕ) (name q : List ℕ)
    (old new old_at : Option Bool)
    → bytes_eq name q ≡ b → i < length vms → name ≡ get_or vms i name
    → old ≡ double_of (count_of (take i vms) q)
    → old_at ≡ double_of (count_of (take i vms) name)
    → new ≡ cond b (Some (is_some old_at)) old
    → new ≡ double_of (count_of (take (i + 1) vms) q)
doubles_step_at true vms i name q old new old_at t inside here e at n =
    let same : name ≡ q = (bytes_eq-Decides name q).0 t in
    let kept : old_at ≡ double_of (count_of (take i vms) q) =
    subst (λ (x : List ℕ). old_at ≡ double_of (count_of (take i vms) x)) same at in
    let yes : bytes_eq (get_or vms i name) q ≡ true =
    subst (λ (x : List ℕ). bytes_eq x q ≡ true) here t in
    let more : count_of (take (i + 1) vms) q ≡ count_of (take i vms) q + 1 =
    count_by_more_yes (λ vm. bytes_eq vm q) vms i name inside yes in
    n ∙ ap (λ (x : Option Bool). Some (is_some x)) kept
    ∙ double_more (count_of (take i vms) q) ∙ ap double_of (sym more)
doubles_step_at false vms i name q old new old_at t inside here e at n =
    let no : bytes_eq (get_or vms i name) q ≡ false =
    subst (λ (x : List ℕ). bytes_eq x q ≡ false) here t in
    let more : count_of (take (i + 1) vms) q ≡ count_of (take i vms) q =
    count_by_more_no (λ vm. bytes_eq vm q) vms i name inside no in
    n ∙ e ∙ ap double_of (sym more)

-- what is kept of a name, before and after one more listed name was looked at
pub doubles_step : (vms : List (List ℕ)) (i : ℕ) (name q : List ℕ) (old new old_at : Option Bool)
    → i < length vms → name ≡ get_or vms i name
    → old ≡ double_of (count_of (take i vms) q)
    → old_at ≡ double_of (count_of (take i vms) name)
    → new ≡ cond (bytes_eq name q) (Some (is_some old_at)) old
    → new ≡ double_of (count_of (take (i + 1) vms) q)
doubles_step vms i name q old new old_at inside here e at n =
    doubles_step_at (bytes_eq name q) vms i name q old new old_at refl inside here e at n

-- the machine at the end is found where none before it is
in_one_more : (known : List VmFact) (i : ℕ) (vm : VmFact) (q : List ℕ)
    → i < length known → vm ≡ get_or known i vm
    → standing_in (take (i + 1) known) q ≡ standing_in (take i known ++ vm ∷ []) q
in_one_more known i vm q inside here =
    ap (λ (xs : List VmFact). standing_in xs q)
    (take_more known i vm inside ∙ ap (λ (x : VmFact). take i known ++ x ∷ []) (sym here))

found_at : (b : Bool) (vm : VmFact) (q : List ℕ) (before : List VmFact) → bytes_eq vm.name q ≡ b
    → fact_of (before ++ vm ∷ []) q ≡ option_or (fact_of before q) (cond b (Some vm) None)
found_at b vm q before t =
    find-append (λ vm. bytes_eq vm.name q) before (vm ∷ [])
    ∙ ap (λ (x : Bool). option_or (fact_of before q) (cond x (Some vm) None)) t

-- what the book has of a name, before and after the machine was looked at
kept_at : (b : Bool) (vm : VmFact) (q : List ℕ) (before : List VmFact) (old new : Option Standing)
    → bytes_eq vm.name q ≡ b → old ≡ standing_in before q
    → is_some (fact_of before vm.name) ≡ false → new ≡ cond b (Some (standing_of vm)) old
    → new ≡ standing_in (before ++ vm ∷ []) q
kept_at true vm q before old new t e absent n =
    let same : vm.name ≡ q = (bytes_eq-Decides vm.name q).0 t in
    let none : is_some (fact_of before q) ≡ false =
    subst (λ (x : List ℕ). is_some (fact_of before x) ≡ false) same absent in
    n ∙ sym (ap (λ (o : Option VmFact). option_map standing_of o)
    (found_at true vm q before t ∙ none_or (fact_of before q) (Some vm) none))
kept_at false vm q before old new t e absent n =
    n ∙ e ∙ sym (ap (λ (o : Option VmFact). option_map standing_of o)
    (found_at false vm q before t ∙ or_none (fact_of before q)))

pub book_step_new : (known : List VmFact) (i : ℕ) (vm : VmFact) (q : List ℕ)
    (old new old_at : Option Standing)
    → i < length known → vm ≡ get_or known i vm
    → old ≡ standing_in (take i known) q → old_at ≡ standing_in (take i known) vm.name
    → is_some old_at ≡ false → new ≡ cond (bytes_eq vm.name q) (Some (standing_of vm)) old
    → new ≡ standing_in (take (i + 1) known) q
book_step_new known i vm q old new old_at inside here e at absent n =
    let none : is_some (fact_of (take i known) vm.name) ≡ false =
    sym (is_some-map standing_of (fact_of (take i known) vm.name))
    ∙ ap (λ (x : Option Standing). is_some x) (sym at) ∙ absent in
    kept_at (bytes_eq vm.name q) vm q (take i known) old new refl e none n
    ∙ sym (in_one_more known i vm q inside here)

same_at : (b : Bool) (vm : VmFact) (q : List ℕ) (before : List VmFact) → bytes_eq vm.name q ≡ b
    → is_some (fact_of before vm.name) ≡ true → fact_of (before ++ vm ∷ []) q ≡ fact_of before q
same_at true vm q before t found =
    let same : vm.name ≡ q = (bytes_eq-Decides vm.name q).0 t in
    let some : is_some (fact_of before q) ≡ true =
    subst (λ (x : List ℕ). is_some (fact_of before x) ≡ true) same found in
    found_at true vm q before t ∙ some_or (fact_of before q) (Some vm) some
same_at false vm q before t found = found_at false vm q before t ∙ or_none (fact_of before q)

pub book_step_same : (known : List VmFact) (i : ℕ) (vm : VmFact) (q : List ℕ)
    (old old_at : Option Standing)
    → i < length known → vm ≡ get_or known i vm
    → old ≡ standing_in (take i known) q → old_at ≡ standing_in (take i known) vm.name
    → is_some old_at ≡ true → old ≡ standing_in (take (i + 1) known) q
book_step_same known i vm q old old_at inside here e at found =
    let some : is_some (fact_of (take i known) vm.name) ≡ true =
    sym (is_some-map standing_of (fact_of (take i known) vm.name))
    ∙ ap (λ (x : Option Standing). is_some x) (sym at) ∙ found in
    e ∙ sym (in_one_more known i vm q inside here
    ∙ ap (λ (o : Option VmFact). option_map standing_of o)
    (same_at (bytes_eq vm.name q) vm q (take i known) refl some))

-- the map after one more listed name, and after one more machine, at a key that was copied
pub put_at : {X : Type 0} (key name q : List ℕ) (value : X) (old new : Option X) → key ≡ name
    → new ≡ cond (is_eq (slice_cmp nat_cmp key q)) (Some value) old
    → new ≡ cond (bytes_eq name q) (Some value) old
put_at {X} key name q value old new same n =
    n ∙ ap (λ (b : Bool). cond b (Some value) old) (is_eq-slice_cmp key q)
    ∙ ap (λ (k : List ℕ). cond (bytes_eq k q) (Some value) old) same

find_same : (p q : List ℕ → Bool) (xs : List (List ℕ)) → ((x : List ℕ) → p x ≡ q x)
    → find p xs ≡ find q xs
find_same p q [] h = refl
find_same p q (x ∷ xs) h =
    ap (λ (b : Bool). cond b (Some x) (find p xs)) (h x)
    ∙ ap (λ (o : Option (List ℕ)). cond (q x) (Some x) o) (find_same p q xs h)

double_is : (n : ℕ) → is_double (double_of n) ≡ nat_lt 1 n
double_is zero = refl
double_is (suc n) = grind (arith, nat_tests)

-- a search by a map of names is a search by the list that it was made from
pub find_doubled : (g : List ℕ → Option Bool) (vms : List (List ℕ))
    → ((name : List ℕ) → g name ≡ double_of (count_of vms name))
    → find (λ name. is_double (g name)) vms ≡ find (is_doubled_in vms) vms
find_doubled g vms h =
    find_same (λ name. is_double (g name)) (is_doubled_in vms) vms
    (λ x. ap (λ (o : Option Bool). is_double o) (h x) ∙ double_is (count_of vms x))

pub find_in_book : (test : Option Standing → Bool) (g : List ℕ → Option Standing)
    (known : List VmFact) (vms : List (List ℕ))
    → ((name : List ℕ) → g name ≡ standing_in known name)
    → find (λ name. test (g name)) vms ≡ first_that test known vms
find_in_book test g known vms h =
    find_same (λ name. test (g name)) (λ name. test (standing_in known name)) vms
    (λ x. ap test (h x))

-- what a list of names is refused for, from what was found
pub refused_unknown : (vms : List (List ℕ)) (known : List VmFact) (vm copy : List ℕ)
    → find (is_doubled_in vms) vms ≡ None → first_that is_unknown known vms ≡ Some vm
    → copy ≡ vm
    → IsRefusedWhere {T = NumberList} (list_refusal vms known) NoMemory keeps_name
    (Err (UnknownVm copy))
refused_unknown vms known vm copy d u same = rw (d, u) (inl (ap UnknownVm same))

pub refused_planned : (vms : List (List ℕ)) (known : List VmFact) (vm copy : List ℕ)
    → find (is_doubled_in vms) vms ≡ None → first_that is_unknown known vms ≡ None
    → first_that is_in_plan known vms ≡ Some vm → copy ≡ vm
    → IsRefusedWhere {T = NumberList} (list_refusal vms known) NoMemory keeps_name
    (Err (InPlan copy))
refused_planned vms known vm copy d u p same = rw (d, u, p) (inl (ap InPlan same))

pub refused_untracked : (vms : List (List ℕ)) (known : List VmFact) (vm copy : List ℕ)
    → find (is_doubled_in vms) vms ≡ None → first_that is_unknown known vms ≡ None
    → first_that is_in_plan known vms ≡ None → first_that is_untracked known vms ≡ Some vm
    → copy ≡ vm
    → IsRefusedWhere {T = NumberList} (list_refusal vms known) NoMemory keeps_name
    (Err (NoTracking copy))
refused_untracked vms known vm copy d u p t same = rw (d, u, p, t) (inl (ap NoTracking same))

pub accepted_list : (vms : List (List ℕ)) (known : List VmFact) (value : NumberList)
    → find (is_doubled_in vms) vms ≡ None → first_that is_unknown known vms ≡ None
    → first_that is_in_plan known vms ≡ None → first_that is_untracked known vms ≡ None
    → IsRefusedWhere {T = NumberList} (list_refusal vms known) NoMemory keeps_name (Ok value)
accepted_list vms known value d u p t = rw (d, u, p, t) tt
