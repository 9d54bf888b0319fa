-- What is kept beside plans and migrations stays true with each record.
use Rattle.std.proofs.Common.{◌≡◌, ◌≢◌, ℕ, zero, suc, ◌+◌, ◌-◌, ◌==◌, ◌<◌, ◌≤◌, Bool, true, false, cond, ◌&&◌, ◌||◌, not, nat_lt, List, [], ◌∷◌, ◌++◌, length, take, drop, set, get_or, Option, Some, None, is_some, is_none, option_map, refl, ap, subst, sym, ◌∙◌, arith, add-one, lit≤, length-append, inl, inr, ◌⊎◌}
use Rattle.std.specs.Prelude.{slice_get}
use Rattle.std.specs.List.{sum_by, count_by, find, zip, list_any, AllByRecursion}
use Rattle.std.specs.Option.{option_map_or, option_or}
use Rattle.std.specs.BTreeMap.{BTreeMap, get, is_at}
use Rattle.std.specs.Map.{lookup}
use Rattle.std.specs.Cmp.Lexicographic.{slice_cmp}
use Rattle.std.specs.Ordering.{nat_cmp, is_eq}
use Rattle.std.proofs.lemmas.Grind.{common_steps}
use Rattle.std.proofs.lemmas.Bool.{or_parts, eqb-true, eq-eqb, ltb-true, lt-ltb}
use Rattle.std.proofs.lemmas.Bool.Decides.{nat_tests, eqb_tells}
use Rattle.std.proofs.lemmas.List.Sums.{sum_by-cons, sum_by_push}
use Rattle.std.proofs.lemmas.List.Folds.{find-append}
use Rattle.basics.proofs.Options.{none_is}
use Rattle.plan_model.specs.declared.plan.Plan.{Plan}
use Rattle.ctl_state.specs.declared.migration.Migration.{Migration}
use Rattle.ctl_state.specs.declared.plans.PlanCourse.{PlanCourse}
use Rattle.ctl_state.specs.Migration.{is_live, change_at}
use Rattle.ctl_state.specs.Fold.{with_started}
use Rattle.ctl_state.specs.Value.{CtlValue, is_at_work, numbered, change_numbered, new_course, waiting, waits_in, works_on, work_on, live_on, is_listed}
use Rattle.ctl_state.specs.Lookups.{AreCourses, AreNames, IsWork, IsKept, work_kept}
use Rattle.ctl_state.specs.MayStand.{has_double}
use Rattle.ctl_state.specs.Work.{Work, is_in, HasNone, HasSame, Joins, Leaves, Begins}
use Rattle.ctl_state.proofs.ListFacts.{numbered_at, length-change_at, all-change_at, sum-change_at, sum-change_same, sum-zip_change, sum-zip_same, zip-append_one, find-change_same, find-change_passed, find-uncounted, any-counted, any-same}

-- what holds of a list, and of it with one element changed, holds of it with that of a number
-- changed
pub by_number : {X : Type 0} (P : List X → Type 0) (xs : List X) (number : ℕ) (f : X → X)
    → P xs → P (change_at xs (number - 1) f) → P (change_numbered xs number f)
by_number P xs number f same changed =
    elim (number == 0) as (λ t. P (cond t xs (change_at xs (number - 1) f)))
    [ true ↦ same | false ↦ changed ]

at_number : {X : Type 0} (xs : List X) (number : ℕ) (f : X → X) (x : X)
    → numbered xs number ≡ Some x → change_numbered xs number f ≡ change_at xs (number - 1) f
at_number {X} xs number f x h =
    ap (λ t. cond t xs (change_at xs (number - 1) f)) (numbered_at xs number x h).0

-- what is kept of courses: as many as plans, and none with more live migrations than it started
pub course_of_number : (courses : List PlanCourse) (number : ℕ) (course : PlanCourse)
    → AreCourses courses → numbered courses number ≡ Some course → course.live ≤ course.started
course_of_number courses number course h k =
    at_place courses (number - 1) course h (numbered_at courses number course k).1
  where
    at_place : (courses : List PlanCourse) (i : ℕ) (course : PlanCourse)
        → AreCourses courses → slice_get courses i ≡ Some course → course.live ≤ course.started
    at_place [] i course h k = absurd (cc)
    at_place (x ∷ courses) zero course h k =
        let same : x ≡ course = cc in
        let P : PlanCourse → Type 0 = λ c. c.live ≤ c.started in
        subst P same h.0
    at_place (x ∷ courses) (suc i) course h k = at_place courses i course h.1 k

-- work stays where the courses' starts stay
waits_stay : (plans : List Plan) (courses : List PlanCourse) (migrations : List Migration)
    (plan vm : ℕ) (f : PlanCourse → PlanCourse)
    → ((course : PlanCourse) → (f course).started ≡ course.started)
    → work_on plans (change_numbered courses plan f) migrations vm
    ≡ work_on plans courses migrations vm
unfolding work_on
waits_stay plans courses migrations plan vm f same =
    ap (λ n. n + count_by (works_on vm) migrations)
    (by_number (λ (now : List PlanCourse). sum_by (waits_in vm) (zip plans now)
    ≡ sum_by (waits_in vm) (zip plans courses))
    courses plan f refl
    (sum-zip_same (waits_in vm) plans courses (plan - 1) f
    (λ (p : Plan) (course : PlanCourse).
    ap (λ s. count_by (λ other. other == vm) (drop s p.vms)) (same course))))

-- the map says the same of the same work
same_work : (plans plans' : List Plan) (courses courses' : List PlanCourse)
    (migrations migrations' : List Migration) (work work' : Work)
    → ((vm : ℕ) → work_on plans' courses' migrations' vm ≡ work_on plans courses migrations vm)
    → ((vm : ℕ) → live_on migrations' vm ≡ live_on migrations vm)
    → HasSame work work'
    → IsWork plans courses migrations work → IsWork plans' courses' migrations' work'
same_work plans plans' courses courses' migrations migrations' work work' counts lives same k =
    record {
      works = λ vm. same vm ∙ k.works vm
          ∙ ap (λ n. work_kept n (live_on migrations vm)) (sym (counts vm))
          ∙ ap (λ live. work_kept (work_on plans' courses' migrations' vm) live) (sym (lives vm));
      once = λ vm. let c = counts vm in let o = k.once vm in omega (arith, c, o);
    }

-- a course is changed, and as many of its machines are started
pub kept_course : (plans : List Plan) (courses : List PlanCourse) (migrations : List Migration)
    (names : BTreeMap (List ℕ) ℕ) (work : Work) (plan : ℕ) (f : PlanCourse → PlanCourse)
    → ((course : PlanCourse) → (f course).started ≡ course.started)
    → ((course : PlanCourse) → course.live ≤ course.started → (f course).live ≤ (f course).started)
    → IsKept plans courses migrations names work
    → IsKept plans (change_numbered courses plan f) migrations names work
kept_course plans courses migrations names work plan f same holds k = record {
  paired = by_number (λ (now : List PlanCourse). length now ≡ length plans) courses plan f
      k.paired (length-change_at courses (plan - 1) f ∙ k.paired);
  courses_hold = by_number AreCourses courses plan f k.courses_hold
      (all-change_at (λ course. course.live ≤ course.started) courses (plan - 1) f
      k.courses_hold holds);
  names_hold = k.names_hold;
  work_holds = same_work plans plans courses (change_numbered courses plan f) migrations migrations
      work work (λ vm. waits_stay plans courses migrations plan vm f same) (λ vm. refl) (λ vm. refl)
      k.work_holds;
}

-- a migration works on a machine as long as it keeps that and hasn't ended
works_same : (vm : ℕ) (m now : Migration) → now.how ≡ m.how → now.vm ≡ m.vm
    → works_on vm now ≡ works_on vm m
works_same vm m now how machine =
    ap (λ h. cond (is_none h) (now.vm == vm) false) how
    ∙ ap (λ v. cond (is_none m.how) (v == vm) false) machine

-- a migration is changed, and keeps its number, its machine, and whether it ended
pub kept_step : (plans : List Plan) (courses : List PlanCourse) (migrations : List Migration)
    (names : BTreeMap (List ℕ) ℕ) (work : Work) (mig : ℕ) (f : Migration → Migration)
    → ((m : Migration) → (f m).how ≡ m.how) → ((m : Migration) → (f m).vm ≡ m.vm)
    → ((m : Migration) → (f m).number ≡ m.number)
    → IsKept plans courses migrations names work
    → IsKept plans courses (change_numbered migrations mig f) names work
unfolding work_on
kept_step plans courses migrations names work mig f how machine number k = record {
  paired = k.paired;
  courses_hold = k.courses_hold;
  names_hold = k.names_hold;
  work_holds = same_work plans plans courses courses migrations (change_numbered migrations mig f)
      work work (λ vm. counts vm)
      (λ vm. by_number (λ (now : List Migration). live_on now vm ≡ live_on migrations vm)
      migrations mig f refl
      (find-change_same (works_on vm) (λ (m : Migration). m.number) migrations (mig - 1) f
      (λ (m : Migration). works_same vm m (f m) (how m) (machine m)) number))
      (λ vm. refl) k.work_holds;
}
  where
    counts : (vm : ℕ) → work_on plans courses (change_numbered migrations mig f) vm
        ≡ work_on plans courses migrations vm
    counts vm = by_number (λ (now : List Migration).
        sum_by (waits_in vm) (zip plans courses) + count_by (works_on vm) now
        ≡ sum_by (waits_in vm) (zip plans courses) + count_by (works_on vm) migrations)
        migrations mig f refl
        (ap (λ n. sum_by (waits_in vm) (zip plans courses) + n)
        (sum-change_same (λ (m : Migration). cond (works_on vm m) 1 0) migrations (mig - 1) f
        (λ (m : Migration). ap (λ b. cond b 1 0) (works_same vm m (f m) (how m) (machine m)))))

pub is_eq-nat_cmp : (a b : ℕ) → is_eq (nat_cmp a b) ≡ (a == b)
is_eq-nat_cmp a b = grind (arith, nat_tests, common_steps)

-- where there is work, something is kept
kept_some : (n : ℕ) (live : Option ℕ) → 1 ≤ n → work_kept n live ≡ Some live
kept_some n live h = elim (eqb_tells n 0) [
  | inl e ↦ let z = e.1 in absurd (omega (arith, h, z))
  | inr e ↦ ap (λ b. cond b None (Some live)) e.0
]

not_same : (a b : ℕ) → b ≢ a → (a == b) ≡ false
not_same a b h = elim (eqb_tells a b) [ inl e ↦ absurd (h (sym e.1)) | inr e ↦ e.0 ]

-- a live migration works on its machine, an ended one on none
works_live : (vm : ℕ) (m : Migration) → is_live m ≡ true → works_on vm m ≡ (m.vm == vm)
works_live vm m h = ap (λ b. cond b (m.vm == vm) false) h

works_ended : (vm : ℕ) (m : Migration) → is_live m ≡ false → works_on vm m ≡ false
works_ended vm m h = ap (λ b. cond b (m.vm == vm) false) h

-- with a live migration's end its machine has one piece of work less
end_counts : (plans : List Plan) (courses : List PlanCourse) (migrations : List Migration)
    (i vm : ℕ) (m : Migration) (f : Migration → Migration)
    → slice_get migrations i ≡ Some m → is_live m ≡ true → is_live (f m) ≡ false
    → work_on plans courses (change_at migrations i f) vm + cond (m.vm == vm) 1 0
    ≡ work_on plans courses migrations vm
unfolding work_on
end_counts plans courses migrations i vm m f h live ended =
    let s = sum-change_at (λ (x : Migration). cond (works_on vm x) 1 0) migrations i f m h in
    let a : ◌≡◌ {A = ℕ} (cond (works_on vm m) 1 0) (cond (m.vm == vm) 1 0) =
    ap (λ b. cond b 1 0) (works_live vm m live) in
    let b : ◌≡◌ {A = ℕ} (cond (works_on vm (f m)) 1 0) 0 =
    ap (λ b. cond b 1 0) (works_ended vm (f m) ended) in
    omega (arith, s, a, b)

end_works : (b : Bool) (n n' : ℕ) (live live' : Option ℕ) (old new : Option (Option ℕ))
    → n' + cond b 1 0 ≡ n → n ≤ 1 → (b ≡ false → live' ≡ live)
    → new ≡ cond b None old → old ≡ work_kept n live → new ≡ work_kept n' live'
end_works true n n' live live' old new count once same e k =
    let none : n' ≡ 0 = omega (arith, count, once) in
    e ∙ sym (ap (λ j. work_kept j live') none)
end_works false n n' live live' old new count once same e k =
    let all : n' ≡ n = omega (arith, count) in
    e ∙ k ∙ ap (λ j. work_kept j live) (sym all) ∙ ap (work_kept n') (sym (same refl))

pub kept_end : (plans : List Plan) (courses : List PlanCourse) (migrations : List Migration)
    (names : BTreeMap (List ℕ) ℕ) (work work' : Work) (mig : ℕ) (m : Migration)
    (f : Migration → Migration)
    → numbered migrations mig ≡ Some m → is_live m ≡ true → is_live (f m) ≡ false
    → ((vm : ℕ) → get nat_cmp work' vm ≡ cond (m.vm == vm) None (get nat_cmp work vm))
    → IsKept plans courses migrations names work
    → IsKept plans courses (change_numbered migrations mig f) names work'
kept_end plans courses migrations names work work' mig m f h live ended removed k =
    let at = numbered_at migrations mig m h in
    let now = change_at migrations (mig - 1) f in
    let counts = λ (vm : ℕ).
    end_counts plans courses migrations (mig - 1) vm m f at.1 live ended in
    let P : List Migration → Type 0 = λ ms. IsKept plans courses ms names work' in
    subst P (sym (at_number migrations mig f m h)) (record {
      paired = k.paired;
      courses_hold = k.courses_hold;
      names_hold = k.names_hold;
      work_holds = record {
        works = λ vm. end_works (m.vm == vm) (work_on plans courses migrations vm)
            (work_on plans courses now vm) (live_on migrations vm) (live_on now vm)
            (get nat_cmp work vm) (get nat_cmp work' vm) (counts vm) (k.work_holds.once vm)
            (λ other. ap (λ (o : Option Migration). option_map (λ (x : Migration). x.number) o)
            (find-change_passed (works_on vm) migrations (mig - 1) f m at.1
            (works_live vm m live ∙ other) (works_ended vm (f m) ended)))
            (removed vm) (k.work_holds.works vm);
        once = λ vm. let c = counts vm in let o = k.work_holds.once vm in omega (arith, c, o);
      };
    })

-- the first that waits, and those behind it
next_waits : (q : ℕ → Bool) (vms : List ℕ) (started vm : ℕ) → slice_get vms started ≡ Some vm
    → count_by q (drop started vms) ≡ cond (q vm) 1 0 + count_by q (drop (suc started) vms)
next_waits q [] started vm h = absurd (cc)
next_waits q (x ∷ vms) zero vm h =
    let same : x ≡ vm = cc in
    sum_by-cons (λ y. cond (q y) 1 0) x vms
    ∙ ap (λ y. cond (q y) 1 0 + count_by q vms) same
next_waits q (x ∷ vms) (suc started) vm h = next_waits q vms started vm h

-- a machine that gets its migration has as much work as before, and had it in a plan
start_counts : (plans : List Plan) (courses : List PlanCourse) (migrations : List Migration)
    (i vm v : ℕ) (p : Plan) (course : PlanCourse) (m : Migration)
    → slice_get plans i ≡ Some p → slice_get courses i ≡ Some course
    → slice_get p.vms course.started ≡ Some vm → is_live m ≡ true → m.vm ≡ vm
    → (work_on plans (change_at courses i with_started) (migrations ++ m ∷ []) v
    ≡ work_on plans courses migrations v)
    × (cond (vm == v) 1 0 + count_by (works_on v) migrations ≤ work_on plans courses migrations v)
unfolding work_on
start_counts plans courses migrations i vm v p course m hp hc next live machine =
    let s = sum-zip_change (waits_in v) plans courses i with_started p course hp hc in
    let w : waits_in v (p, course) ≡ cond (vm == v) 1 0 + waits_in v (p, with_started course) =
    next_waits (λ other. other == v) p.vms course.started vm next
    ∙ ap (λ n. cond (vm == v) 1 0 + count_by (λ other. other == v) (drop n p.vms))
    (sym (add-one course.started)) in
    let c = sum_by_push (λ (x : Migration). cond (works_on v x) 1 0) migrations m in
    let a : ◌≡◌ {A = ℕ} (cond (works_on v m) 1 0) (cond (vm == v) 1 0) =
    ap (λ b. cond b 1 0) (works_live v m live ∙ ap (λ x. x == v) machine) in
    (omega (arith, s, w, c, a), omega (arith, s, w))

start_works : (n : ℕ) (live live' : Option ℕ) (old new : Option (Option ℕ)) (mig v vm : ℕ)
    (inside : Bool) → new ≡ cond (v == vm && inside) (Some (Some mig)) old
    → (v ≡ vm → inside ≡ true) → (v ≡ vm → 1 ≤ n) → (v ≡ vm → live' ≡ Some mig)
    → (v ≢ vm → live' ≡ live) → old ≡ work_kept n live → new ≡ work_kept n live'
start_works n live live' old new mig v vm inside e into some begun other k =
    elim (eqb_tells v vm) [
      | inl h ↦ e ∙ ap (λ b. cond (b && inside) (Some (Some mig)) old) h.0
          ∙ ap (λ b. cond b (Some (Some mig)) old) (into h.1)
          ∙ ap (λ l. Some l) (sym (begun h.1)) ∙ sym (kept_some n live' (some h.1))
      | inr h ↦ e ∙ ap (λ b. cond (b && inside) (Some (Some mig)) old) h.0 ∙ k
          ∙ ap (work_kept n) (sym (other h.1))
    ]

pub kept_start : (plans : List Plan) (courses : List PlanCourse) (migrations : List Migration)
    (names : BTreeMap (List ℕ) ℕ) (work work' : Work) (plan vm mig : ℕ) (p : Plan)
    (course : PlanCourse) (m : Migration)
    → numbered plans plan ≡ Some p → numbered courses plan ≡ Some course
    → slice_get p.vms course.started ≡ Some vm → is_live m ≡ true → m.vm ≡ vm → m.number ≡ mig
    → Begins work work' vm mig
    → IsKept plans courses migrations names work
    → IsKept plans (change_numbered courses plan with_started) (migrations ++ m ∷ []) names work'
kept_start plans courses migrations names work work' plan vm mig p course m hp hc next live machine
    number begins k =
    let i = plan - 1 in
    let counts = λ (v : ℕ). start_counts plans courses migrations i vm v p course m
    (numbered_at plans plan p hp).1 (numbered_at courses plan course hc).1 next live machine in
    let P : List PlanCourse → Type 0 =
    λ cs. IsKept plans cs (migrations ++ m ∷ []) names work' in
    subst P (sym (at_number courses plan with_started course hc)) (record {
      paired = length-change_at courses i with_started ∙ k.paired;
      courses_hold = all-change_at (λ c. c.live ≤ c.started) courses i with_started k.courses_hold
          (λ c h. omega (arith, h));
      names_hold = k.names_hold;
      work_holds = record {
        works = λ v. start_entry v (counts v);
        once = λ v. let c = (counts v).0 in let o = k.work_holds.once v in omega (arith, c, o);
      };
    })
  where
    start_entry : (v : ℕ)
        → (work_on plans (change_at courses (plan - 1) with_started) (migrations ++ m ∷ []) v
        ≡ work_on plans courses migrations v)
        × (cond (vm == v) 1 0 + count_by (works_on v) migrations
        ≤ work_on plans courses migrations v)
        → get nat_cmp work' v ≡ work_kept
        (work_on plans (change_at courses (plan - 1) with_started) (migrations ++ m ∷ []) v)
        (live_on (migrations ++ m ∷ []) v)
    start_entry v counts =
        let n = work_on plans courses migrations v in
        let once = k.work_holds.once v in
        let found = find-append (works_on v) migrations (m ∷ []) in
        let some = λ (h : v ≡ vm).
        let one : ◌≡◌ {A = ℕ} (cond (vm == v) 1 0) 1 =
        ap (λ b. cond b 1 0) (eq-eqb vm v (sym h)) in
        let c = counts.1 in
        let s : 1 ≤ n = omega (arith, c, one) in s in
        start_works n (live_on migrations v) (live_on (migrations ++ m ∷ []) v)
        (get nat_cmp work v) (get nat_cmp work' v) mig v vm (is_in work vm) (begins v)
        (λ h. ap is_some (ap (get nat_cmp work) (sym h) ∙ k.work_holds.works v
        ∙ kept_some n (live_on migrations v) (some h)))
        some
        (λ h.
        let one : ◌≡◌ {A = ℕ} (cond (vm == v) 1 0) 1 =
        ap (λ b. cond b 1 0) (eq-eqb vm v (sym h)) in
        let c = counts.1 in
        let none : count_by (works_on v) migrations ≡ 0 = omega (arith, c, one, once) in
        let here : works_on v m ≡ true =
        works_live v m live ∙ ap (λ x. x == v) machine ∙ eq-eqb vm v (sym h) in
        ap (λ (o : Option Migration). option_map (λ (x : Migration). x.number) o)
        (found ∙ ap (λ (o : Option Migration). option_or o (find (works_on v) (m ∷ [])))
        (find-uncounted (works_on v) migrations none)
        ∙ ap (λ b. cond b (Some m) None) here)
        ∙ ap (λ x. Some x) number)
        (λ ne.
        let away : works_on v m ≡ false =
        works_live v m live ∙ ap (λ x. x == v) machine ∙ not_same vm v ne in
        ap (λ (o : Option Migration). option_map (λ (x : Migration). x.number) o)
        (found ∙ ap (λ b. option_or (find (works_on v) migrations) (cond b (Some m) None)) away
        ∙ (elim (find (works_on v) migrations) as (λ (o : Option Migration). option_or o None ≡ o)
        [ None ↦ refl | Some x ↦ refl ])))
        (k.work_holds.works v)
        ∙ ap (λ j. work_kept j (live_on (migrations ++ m ∷ []) v)) (sym counts.0)

uncounted : (n : ℕ) → nat_lt 0 n ≡ false → n ≡ 0
uncounted zero h = refl
uncounted (suc n) h =
    let some : 0 < suc n = omega arith in
    absurd (let s = sym h ∙ lt-ltb 0 (suc n) some in cc)

append_paired : (plans : List Plan) (courses : List PlanCourse) (p : Plan) (course : PlanCourse)
    → length courses ≡ length plans → length (courses ++ course ∷ []) ≡ length (plans ++ p ∷ [])
append_paired plans courses p course h =
    let a = length-append courses (course ∷ []) in
    let b = length-append plans (p ∷ []) in
    let c : length (course ∷ []) ≡ 1 = refl in
    let d : length (p ∷ []) ≡ 1 = refl in
    omega (arith, a, b, c, d, h)

all-append_one : (courses : List PlanCourse) → AreCourses courses
    → AreCourses (courses ++ new_course ∷ [])
all-append_one [] h = (lit≤ tt, tt)
all-append_one (x ∷ courses) h = (h.0, all-append_one courses h.1)

-- none of a list that has none of them is in the set
pub listed_fails : (p : ℕ → Bool) (xs : List ℕ) (v : ℕ) → list_any p xs ≡ false
    → is_listed xs v ≡ true → p v ≡ false
listed_fails p [] v h listed = absurd (cc)
listed_fails p (x ∷ xs) v h listed =
    let parts = or_parts (p x) (list_any p xs) h in
    elim (eqb_tells x v) [
      | inl e ↦ ap p (sym e.1) ∙ parts.0
      | inr e ↦ listed_fails p xs v parts.1
          (sym (ap (λ b. b || is_listed xs v) e.0) ∙ listed)
    ]

-- each machine of a list without doubles stands there once at most
pub once_counted : (xs : List ℕ) (v : ℕ) → has_double xs ≡ false
    → count_by (λ other. other == v) xs ≤ 1
once_counted [] v h = lit≤ tt
once_counted (x ∷ xs) v h =
    let parts = or_parts (is_listed xs x) (has_double xs) h in
    let more = sum_by-cons (λ (y : ℕ). cond (y == v) 1 0) x xs in
    elim (eqb_tells x v) [
      | inl e ↦
          let absent : is_listed xs v ≡ false = ap (is_listed xs) (sym e.1) ∙ parts.0 in
          let none = uncounted (count_by (λ other. other == v) xs)
          (sym (any-counted (λ other. other == v) xs) ∙ absent) in
          let one : ◌≡◌ {A = ℕ} (cond (x == v) 1 0) 1 = ap (λ b. cond b 1 0) e.0 in
          omega (arith, more, none, one)
      | inr e ↦
          let rest = once_counted xs v parts.1 in
          let zero' : ◌≡◌ {A = ℕ} (cond (x == v) 1 0) 0 = ap (λ b. cond b 1 0) e.0 in
          omega (arith, more, rest, zero')
    ]

-- a new plan's machines wait in it
plan_counts : (plans : List Plan) (courses : List PlanCourse) (migrations : List Migration)
    (p : Plan) (v : ℕ) → length courses ≡ length plans
    → work_on (plans ++ p ∷ []) (courses ++ new_course ∷ []) migrations v
    ≡ work_on plans courses migrations v + count_by (λ other. other == v) p.vms
unfolding work_on
plan_counts plans courses migrations p v paired =
    let a = ap (sum_by (waits_in v)) (zip-append_one plans courses p new_course paired)
    ∙ sum_by_push (waits_in v) (zip plans courses) (p, new_course) in
    omega (arith, a)

plan_works : (b : Bool) (n c : ℕ) (live : Option ℕ) (old new : Option (Option ℕ))
    → b ≡ nat_lt 0 c → new ≡ cond b (Some None) old → (b ≡ true → n ≡ 0)
    → (b ≡ true → live ≡ None) → old ≡ work_kept n live → new ≡ work_kept (n + c) live
plan_works true n c live old new h e none idle k =
    let some : 0 < c = ltb-true 0 c (sym h) in
    e ∙ ap (λ l. Some l) (sym (idle refl)) ∙ sym (kept_some (n + c) live (omega (arith, some)))
plan_works false n c live old new h e none idle k =
    let zero' = uncounted c (sym h) in
    let same : n ≡ n + c = omega (arith, zero') in
    e ∙ k ∙ ap (λ j. work_kept j live) same

-- what isn't kept isn't at work
pub kept_none : (n : ℕ) (live : Option ℕ) → work_kept n live ≡ None → n ≡ 0
kept_none n live h = elim (eqb_tells n 0) [
  | inl e ↦ e.1
  | inr e ↦ absurd (let s = sym (ap (λ b. cond b None (Some live)) e.0) ∙ h in cc)
]

-- and has no live migration
pub idle_none : (plans : List Plan) (courses : List PlanCourse) (migrations : List Migration)
    (vm : ℕ) → work_on plans courses migrations vm ≡ 0 → live_on migrations vm ≡ None
unfolding work_on
idle_none plans courses migrations vm h =
    let none : count_by (works_on vm) migrations ≡ 0 = omega (arith, h) in
    ap (λ (o : Option Migration). option_map (λ (x : Migration). x.number) o)
    (find-uncounted (works_on vm) migrations none)

pub kept_plan : (plans : List Plan) (courses : List PlanCourse) (migrations : List Migration)
    (names names' : BTreeMap (List ℕ) ℕ) (work work' : Work) (p : Plan)
    → has_double p.vms ≡ false → HasNone work p.vms → Joins work work' p.vms
    → AreNames (plans ++ p ∷ []) names' → IsKept plans courses migrations names work
    → IsKept (plans ++ p ∷ []) (courses ++ new_course ∷ []) migrations names' work'
kept_plan plans courses migrations names names' work work' p differ free joins named k = record {
  paired = append_paired plans courses p new_course k.paired;
  courses_hold = all-append_one courses k.courses_hold;
  names_hold = named;
  work_holds = record {
    works = λ v. joined v (plan_counts plans courses migrations p v k.paired);
    once = λ v.
        let c = plan_counts plans courses migrations p v k.paired in
        let o = k.work_holds.once v in
        let q = once_counted p.vms v differ in
        let either = free_or_absent v in
        elim either [ inl z ↦ omega (arith, c, q, z) | inr z ↦ omega (arith, c, o, z) ];
  };
}
  where
    idle : (v : ℕ) → is_listed p.vms v ≡ true → work_on plans courses migrations v ≡ 0
    idle v h = kept_none (work_on plans courses migrations v) (live_on migrations v)
        (sym (k.work_holds.works v)
        ∙ none_is (get nat_cmp work v) (listed_fails (is_in work) p.vms v free h))

    free_or_absent : (v : ℕ) → (work_on plans courses migrations v ≡ 0)
        ⊎ (count_by (λ other. other == v) p.vms ≡ 0)
    free_or_absent v = by_test (is_listed p.vms v) refl
      where
        by_test : (b : Bool) → is_listed p.vms v ≡ b
            → (work_on plans courses migrations v ≡ 0)
            ⊎ (count_by (λ other. other == v) p.vms ≡ 0)
        by_test true e = inl (idle v e)
        by_test false e = inr (uncounted (count_by (λ other. other == v) p.vms)
            (sym (any-counted (λ other. other == v) p.vms) ∙ e))

    joined : (v : ℕ)
        → work_on (plans ++ p ∷ []) (courses ++ new_course ∷ []) migrations v
        ≡ work_on plans courses migrations v + count_by (λ other. other == v) p.vms
        → get nat_cmp work' v ≡ work_kept
        (work_on (plans ++ p ∷ []) (courses ++ new_course ∷ []) migrations v)
        (live_on migrations v)
    joined v counts = plan_works (is_listed p.vms v) (work_on plans courses migrations v)
        (count_by (λ other. other == v) p.vms) (live_on migrations v) (get nat_cmp work v)
        (get nat_cmp work' v) (any-counted (λ other. other == v) p.vms) (joins v) (idle v)
        (λ h. idle_none plans courses migrations v (idle v h)) (k.work_holds.works v)
        ∙ ap (λ n. work_kept n (live_on migrations v)) (sym counts)

-- what is put in and taken out again leaves the map as it was
pub taken_back : (work between after : Work) (vms : List ℕ) → HasNone work vms
    → Joins work between vms → Leaves between after vms → HasSame work after
taken_back work between after vms free joins leaves vm = leaves vm ∙ by_test (is_listed vms vm) refl
  where
    by_test : (b : Bool) → is_listed vms vm ≡ b
        → cond (is_listed vms vm) None (get nat_cmp between vm) ≡ get nat_cmp work vm
    by_test true e = ap (λ b. cond b None (get nat_cmp between vm)) e
        ∙ sym (none_is (get nat_cmp work vm) (listed_fails (is_in work) vms vm free e))
    by_test false e = ap (λ b. cond b None (get nat_cmp between vm)) e ∙ joins vm
        ∙ ap (λ b. cond b (Some None) (get nat_cmp work vm)) e

pub kept_work : (plans : List Plan) (courses : List PlanCourse) (migrations : List Migration)
    (names : BTreeMap (List ℕ) ℕ) (work work' : Work) → HasSame work work'
    → IsKept plans courses migrations names work → IsKept plans courses migrations names work'
kept_work plans courses migrations names work work' same k = record {
  paired = k.paired;
  courses_hold = k.courses_hold;
  names_hold = k.names_hold;
  work_holds = same_work plans plans courses courses migrations migrations work work' (λ vm. refl)
      (λ vm. refl) same k.work_holds;
}

-- where nothing was read nothing is kept
no_work : (vm : ℕ) → work_on [] [] [] vm ≡ 0
unfolding work_on
no_work vm = refl

pub kept_empty : (plans : List Plan) (courses : List PlanCourse) (migrations : List Migration)
    (names : BTreeMap (List ℕ) ℕ) (work : Work) → plans ≡ [] → courses ≡ [] → migrations ≡ []
    → names.entries ≡ [] → work.entries ≡ [] → IsKept plans courses migrations names work
kept_empty plans courses migrations names work p c m n w =
    let A : List Plan → Type 0 = λ ps. IsKept ps courses migrations names work in
    let B : List PlanCourse → Type 0 = λ cs. IsKept [] cs migrations names work in
    let C : List Migration → Type 0 = λ ms. IsKept [] [] ms names work in
    subst A (sym p) (subst B (sym c) (subst C (sym m) (record {
      paired = refl;
      courses_hold = tt;
      names_hold = λ q. ap (λ (es : List (List ℕ × ℕ)). lookup (is_at (slice_cmp nat_cmp q)) es) n;
      work_holds = record {
        works = λ vm. ap (λ (es : List (ℕ × Option ℕ)). lookup (is_at (nat_cmp vm)) es) w
            ∙ ap (λ k. work_kept k None) (sym (no_work vm));
        once = λ vm. let z = no_work vm in omega (arith, z);
      };
    })))

-- the machines in the map are those at work
kept_tells : (n : ℕ) (live : Option ℕ) → is_some (work_kept n live) ≡ nat_lt 0 n
kept_tells n live = elim (eqb_tells n 0) [
  | inl z ↦ ap (λ b. is_some (cond b None (Some live))) z.0 ∙ sym (ap (nat_lt 0) z.1)
  | inr z ↦ let a = z.1 in let some : 0 < n = omega (arith, a) in
      ap (λ b. is_some (cond b None (Some live))) z.0 ∙ sym (lt-ltb 0 n some)
]

pub free_in_map : (v : CtlValue) (names : BTreeMap (List ℕ) ℕ) (work : Work) (vms : List ℕ)
    → IsKept v.plans v.courses v.migrations names work
    → list_any (is_at_work v) vms ≡ false → HasNone work vms
free_in_map v names work vms k h =
    any-same (is_in work) (is_at_work v) vms
    (λ vm. ap is_some (k.work_holds.works vm)
    ∙ kept_tells (work_on v.plans v.courses v.migrations vm) (live_on v.migrations vm))
    ∙ h

-- other trees of the same names and the same machines
pub kept_names : (plans : List Plan) (courses : List PlanCourse) (migrations : List Migration)
    (names names' : BTreeMap (List ℕ) ℕ) (work : Work) → AreNames plans names'
    → IsKept plans courses migrations names work → IsKept plans courses migrations names' work
kept_names plans courses migrations names names' work named k = record {
  paired = k.paired;
  courses_hold = k.courses_hold;
  names_hold = named;
  work_holds = k.work_holds;
}
