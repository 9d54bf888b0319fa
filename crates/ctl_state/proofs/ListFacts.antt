-- Lists: elements, tests and sums of them, and what an edit of one element leaves, by place and
-- by number.
use Rattle.std.proofs.Common.{◌≡◌, ◌≢◌, ℕ, zero, suc, ◌+◌, ◌-◌, ◌==◌, ◌<◌, ◌≤◌, Bool, true, false, cond, ◌||◌, nat_lt, List, [], ◌∷◌, ◌++◌, length, set, get_or, Option, Some, None, option_map, is_some, is_none, not, refl, ap, subst, sym, ◌∙◌, arith}
use Rattle.std.specs.Prelude.{slice_get}
use Rattle.std.specs.List.{sum_by, count_by, find, zip, list_any, AllByRecursion}
use Rattle.std.specs.Option.{option_map_or}
use Rattle.std.proofs.lemmas.List.Sums.{sum_by-cons}
use Rattle.std.proofs.lemmas.Bool.{lt-ltb, eqb-true, eq-eqb, false≢true}
use Rattle.std.proofs.lemmas.Option.{none-some}
use Rattle.std.specs.Str.{bytes_eq}
use Rattle.basics.proofs.ItemAt.{slice_get-last}
use Rattle.plan_model.specs.declared.plan.Plan.{Plan}
use Rattle.plan_model.specs.Plans.{is_taken}
use Rattle.ctl_state.specs.Migration.{change_at}
use Rattle.ctl_state.specs.Value.{numbered, change_numbered, plan_named}

-- an element that is found by number stands at its place
pub numbered_at : {X : Type 0} (xs : List X) (number : ℕ) (x : X)
    → numbered xs number ≡ Some x
    → ((number == 0) ≡ false) × (slice_get xs (number - 1) ≡ Some x)
numbered_at {X} xs number x = by_test (number == 0)
  where
    by_test : (b : Bool) → cond b None (slice_get xs (number - 1)) ≡ Some x
        → (b ≡ false) × (slice_get xs (number - 1) ≡ Some x)
    by_test true h = absurd (cc)
    by_test false h = (refl, h)

-- nothing has a number in an empty list
pub none-numbered : {X : Type 0} (number : ℕ) (x : X) → numbered [] number ≡ Some x → ⊥
none-numbered number x there = none-some x (numbered_at [] number x there).1

-- a change behind the first element leaves that
pub change_at-suc : {X : Type 0} (x : X) (xs : List X) (i : ℕ) (f : X → X)
    → change_at (x ∷ xs) (suc i) f ≡ x ∷ change_at xs i f
change_at-suc {X} x xs i f = elim (slice_get xs i) as
    (λ o. option_map_or (λ y. set (x ∷ xs) (suc i) (f y)) o (x ∷ xs)
    ≡ x ∷ option_map_or (λ y. set xs i (f y)) o xs)
    [ None ↦ refl | Some y ↦ refl ]

pub length-change_at : {X : Type 0} (xs : List X) (i : ℕ) (f : X → X)
    → length (change_at xs i f) ≡ length xs
length-change_at [] i f = refl
length-change_at (x ∷ xs) zero f = refl
length-change_at (x ∷ xs) (suc i) f =
    ap length (change_at-suc x xs i f) ∙ ap (λ n. suc n) (length-change_at xs i f)

-- what a change keeps of an element it keeps of all
pub all-change_at : {X : Type 0} (P : X → Type 0) (xs : List X) (i : ℕ) (f : X → X)
    → AllByRecursion P xs → ((x : X) → P x → P (f x)) → AllByRecursion P (change_at xs i f)
all-change_at P [] i f h keeps = tt
all-change_at P (x ∷ xs) zero f h keeps = (keeps x h.0, h.1)
all-change_at {X} P (x ∷ xs) (suc i) f h keeps =
    let Q : List X → Type 0 = AllByRecursion P in
    subst Q (sym (change_at-suc x xs i f)) (h.0, all-change_at P xs i f h.1 keeps)

-- a sum moves by the element that is changed
pub sum-change_at : {X : Type 0} (g : X → ℕ) (xs : List X) (i : ℕ) (f : X → X) (x : X)
    → slice_get xs i ≡ Some x
    → sum_by g (change_at xs i f) + g x ≡ sum_by g xs + g (f x)
sum-change_at g [] i f x h = absurd (cc)
sum-change_at g (y ∷ xs) zero f x h =
    let same : y ≡ x = cc in
    let a = sum_by-cons g (f y) xs in
    let b = sum_by-cons g y xs in
    let c : g y ≡ g x = ap g same in
    let d : g (f y) ≡ g (f x) = ap (λ z. g (f z)) same in
    omega (arith, a, b, c, d)
sum-change_at g (y ∷ xs) (suc i) f x h =
    let a = ap (sum_by g) (change_at-suc y xs i f) ∙ sum_by-cons g y (change_at xs i f) in
    let b = sum_by-cons g y xs in
    let c = sum-change_at g xs i f x h in
    omega (arith, a, b, c)

-- and stays where the element's part stays
pub sum-change_same : {X : Type 0} (g : X → ℕ) (xs : List X) (i : ℕ) (f : X → X)
    → ((x : X) → g (f x) ≡ g x) → sum_by g (change_at xs i f) ≡ sum_by g xs
sum-change_same g [] i f same = refl
sum-change_same g (y ∷ xs) zero f same =
    sum_by-cons g (f y) xs ∙ ap (λ n. n + sum_by g xs) (same y) ∙ sym (sum_by-cons g y xs)
sum-change_same g (y ∷ xs) (suc i) f same =
    ap (sum_by g) (change_at-suc y xs i f) ∙ sum_by-cons g y (change_at xs i f)
    ∙ ap (λ n. g y + n) (sum-change_same g xs i f same) ∙ sym (sum_by-cons g y xs)

-- the same over pairs of which the second is changed
pub sum-zip_change : {X Y : Type 0} (g : X × Y → ℕ) (xs : List X) (ys : List Y) (i : ℕ)
    (f : Y → Y) (x : X) (y : Y) → slice_get xs i ≡ Some x → slice_get ys i ≡ Some y
    → sum_by g (zip xs (change_at ys i f)) + g (x, y) ≡ sum_by g (zip xs ys) + g (x, f y)
sum-zip_change g [] ys i f x y h k = absurd (cc)
sum-zip_change g (z ∷ xs) [] i f x y h k = absurd (cc)
sum-zip_change {X} {Y} g (z ∷ xs) (w ∷ ys) zero f x y h k =
    let p : z ≡ x = cc in
    let q : w ≡ y = cc in
    let a = sum_by-cons g (z, f w) (zip xs ys) in
    let b = sum_by-cons g (z, w) (zip xs ys) in
    let c : g (z, w) ≡ g (x, y) = cc in
    let d : g (z, f w) ≡ g (x, f y) = cc in
    omega (arith, a, b, c, d)
sum-zip_change {X} {Y} g (z ∷ xs) (w ∷ ys) (suc i) f x y h k =
    let a = ap (λ (rest : List Y). sum_by g (zip (z ∷ xs) rest)) (change_at-suc w ys i f)
    ∙ sum_by-cons g (z, w) (zip xs (change_at ys i f)) in
    let b = sum_by-cons g (z, w) (zip xs ys) in
    let c = sum-zip_change g xs ys i f x y h k in
    omega (arith, a, b, c)

pub sum-zip_same : {X Y : Type 0} (g : X × Y → ℕ) (xs : List X) (ys : List Y) (i : ℕ)
    (f : Y → Y) → ((x : X) (y : Y) → g (x, f y) ≡ g (x, y))
    → sum_by g (zip xs (change_at ys i f)) ≡ sum_by g (zip xs ys)
sum-zip_same g [] ys i f same = refl
sum-zip_same g (z ∷ xs) [] i f same = refl
sum-zip_same g (z ∷ xs) (w ∷ ys) zero f same =
    sum_by-cons g (z, f w) (zip xs ys) ∙ ap (λ n. n + sum_by g (zip xs ys)) (same z w)
    ∙ sym (sum_by-cons g (z, w) (zip xs ys))
sum-zip_same {X} {Y} g (z ∷ xs) (w ∷ ys) (suc i) f same =
    ap (λ (rest : List Y). sum_by g (zip (z ∷ xs) rest)) (change_at-suc w ys i f)
    ∙ sum_by-cons g (z, w) (zip xs (change_at ys i f))
    ∙ ap (λ n. g (z, w) + n) (sum-zip_same g xs ys i f same)
    ∙ sym (sum_by-cons g (z, w) (zip xs ys))

-- lists of one length, each with one more
pub zip-append_one : {X Y : Type 0} (xs : List X) (ys : List Y) (x : X) (y : Y)
    → length ys ≡ length xs → zip (xs ++ x ∷ []) (ys ++ y ∷ []) ≡ zip xs ys ++ (x, y) ∷ []
zip-append_one [] [] x y h = refl
zip-append_one [] (w ∷ ys) x y h = absurd (omega (arith, h))
zip-append_one (z ∷ xs) [] x y h = absurd (omega (arith, h))
zip-append_one (z ∷ xs) (w ∷ ys) x y h =
    ap (λ rest. (z, w) ∷ rest) (zip-append_one xs ys x y (omega (arith, h)))

-- a search whose test tells the same of the changed element finds one that shows the same
pub find-change_same : {X Y : Type 0} (p : X → Bool) (show : X → Y) (xs : List X) (i : ℕ)
    (f : X → X) → ((x : X) → p (f x) ≡ p x) → ((x : X) → show (f x) ≡ show x)
    → option_map show (find p (change_at xs i f)) ≡ option_map show (find p xs)
find-change_same p show [] i f same shown = refl
find-change_same {X} {Y} p show (x ∷ xs) zero f same shown =
    ap (λ b. option_map show (cond b (Some (f x)) (find p xs))) (same x)
    ∙ (elim (p x) as (λ b. option_map show (cond b (Some (f x)) (find p xs))
    ≡ option_map show (cond b (Some x) (find p xs)))
    [ true ↦ ap (λ y. Some y) (shown x) | false ↦ refl ])
find-change_same {X} {Y} p show (x ∷ xs) (suc i) f same shown =
    ap (λ (ys : List X). option_map show (find p ys)) (change_at-suc x xs i f)
    ∙ (elim (p x) as (λ b. option_map show (cond b (Some x) (find p (change_at xs i f)))
    ≡ option_map show (cond b (Some x) (find p xs)))
    [ true ↦ refl | false ↦ find-change_same p show xs i f same shown ])

-- a search that passes over an element passes over it however it is changed
pub find-change_passed : {X : Type 0} (p : X → Bool) (xs : List X) (i : ℕ) (f : X → X) (x : X)
    → slice_get xs i ≡ Some x → p x ≡ false → p (f x) ≡ false
    → find p (change_at xs i f) ≡ find p xs
find-change_passed p [] i f x h old new = absurd (cc)
find-change_passed {X} p (y ∷ xs) zero f x h old new =
    let same : y ≡ x = cc in
    let a : p (f y) ≡ false = ap (λ (z : X). p (f z)) same ∙ new in
    let b : p y ≡ false = ap p same ∙ old in
    ap (λ t. cond t (Some (f y)) (find p xs)) a ∙ sym (ap (λ t. cond t (Some y) (find p xs)) b)
find-change_passed {X} p (y ∷ xs) (suc i) f x h old new =
    ap (find p) (change_at-suc y xs i f)
    ∙ ap (λ (o : Option X). cond (p y) (Some y) o) (find-change_passed p xs i f x h old new)

-- what isn't counted isn't found
find_by : {X : Type 0} (b : Bool) (p : X → Bool) (x : X) (xs : List X) → p x ≡ b
    → count_by p (x ∷ xs) ≡ 0 → (count_by p xs ≡ 0 → find p xs ≡ None)
    → find p (x ∷ xs) ≡ None
find_by {X} true p x xs e h rest =
    let a = sum_by-cons (λ (y : X). cond (p y) 1 0) x xs in
    let one : ◌≡◌ {A = ℕ} (cond (p x) 1 0) 1 = ap (λ b. cond b 1 0) e in
    absurd (omega (arith, a, one, h))
find_by {X} false p x xs e h rest =
    let a = sum_by-cons (λ (y : X). cond (p y) 1 0) x xs in
    let none : ◌≡◌ {A = ℕ} (cond (p x) 1 0) 0 = ap (λ b. cond b 1 0) e in
    let left : count_by p xs ≡ 0 = omega (arith, a, none, h) in
    ap (λ b. cond b (Some x) (find p xs)) e ∙ rest left

pub find-uncounted : {X : Type 0} (p : X → Bool) (xs : List X) → count_by p xs ≡ 0
    → find p xs ≡ None
find-uncounted p [] h = refl
find-uncounted p (x ∷ xs) h = find_by (p x) p x xs refl h (find-uncounted p xs)

-- a test passes for some element exactly where one is counted
any_by : {X : Type 0} (b : Bool) (p : X → Bool) (x : X) (xs : List X) → p x ≡ b
    → list_any p xs ≡ nat_lt 0 (count_by p xs)
    → list_any p (x ∷ xs) ≡ nat_lt 0 (count_by p (x ∷ xs))
any_by {X} true p x xs e rest =
    let a = sum_by-cons (λ (y : X). cond (p y) 1 0) x xs in
    let one : ◌≡◌ {A = ℕ} (cond (p x) 1 0) 1 = ap (λ b. cond b 1 0) e in
    let some : 0 < count_by p (x ∷ xs) = omega (arith, a, one) in
    ap (λ b. b || list_any p xs) e ∙ sym (lt-ltb 0 (count_by p (x ∷ xs)) some)
any_by {X} false p x xs e rest =
    let a = sum_by-cons (λ (y : X). cond (p y) 1 0) x xs in
    let none : ◌≡◌ {A = ℕ} (cond (p x) 1 0) 0 = ap (λ b. cond b 1 0) e in
    let same : count_by p (x ∷ xs) ≡ count_by p xs = omega (arith, a, none) in
    ap (λ b. b || list_any p xs) e ∙ rest ∙ ap (λ n. nat_lt 0 n) (sym same)

pub any-counted : {X : Type 0} (p : X → Bool) (xs : List X)
    → list_any p xs ≡ nat_lt 0 (count_by p xs)
any-counted p [] = refl
any-counted p (x ∷ xs) = any_by (p x) p x xs refl (any-counted p xs)

-- tests that tell the same of every element find the same
pub any-same : {X : Type 0} (p q : X → Bool) (xs : List X) → ((x : X) → p x ≡ q x)
    → list_any p xs ≡ list_any q xs
any-same p q [] h = refl
any-same p q (x ∷ xs) h =
    ap (λ b. b || list_any p xs) (h x) ∙ ap (λ b. q x || b) (any-same p q xs h)

-- an element is found exactly where one passes the test
pub any-found : {X : Type 0} (p : X → Bool) (xs : List X) → list_any p xs ≡ is_some (find p xs)
any-found p [] = refl
any-found {X} p (x ∷ xs) = elim (p x) as
    (λ b. (b || list_any p xs) ≡ is_some (cond b (Some x) (find p xs)))
    [ true ↦ refl | false ↦ any-found p xs ]

-- ---- the others, where one is changed or one is added behind them

get-changed : {X : Type 0} (xs : List X) (i : ℕ) (f : X → X)
    → slice_get (change_at xs i f) i ≡ option_map f (slice_get xs i)
get-changed [] i f = refl
get-changed (x ∷ xs) zero f = refl
get-changed {X} (x ∷ xs) (suc i) f =
    ap (λ (ys : List X). slice_get ys (suc i)) (change_at-suc x xs i f) ∙ get-changed xs i f

get-other : {X : Type 0} (xs : List X) (i j : ℕ) (f : X → X) → (i ≡ j → ⊥)
    → slice_get (change_at xs i f) j ≡ slice_get xs j
get-other [] i j f other = refl
get-other (x ∷ xs) zero zero f other = absurd (other refl)
get-other (x ∷ xs) zero (suc j) f other = refl
get-other {X} (x ∷ xs) (suc i) zero f other =
    ap (λ (ys : List X). slice_get ys 0) (change_at-suc x xs i f)
get-other {X} (x ∷ xs) (suc i) (suc j) f other =
    ap (λ (ys : List X). slice_get ys (suc j)) (change_at-suc x xs i f)
    ∙ get-other xs i j f (λ e. other (omega (arith, e)))

get-before : {X : Type 0} (xs : List X) (x : X) (j : ℕ) → (j ≡ length xs → ⊥)
    → slice_get (xs ++ x ∷ []) j ≡ slice_get xs j
get-before [] x zero other = absurd (other refl)
get-before [] x (suc j) other = refl
get-before (y ∷ xs) x zero other = refl
get-before (y ∷ xs) x (suc j) other = get-before xs x j (λ e. other (omega (arith, e)))

-- ---- by number

by-zero : {X : Type 0} (xs ys : List X) (n : ℕ)
    → ((n ≡ 0 → ⊥) → slice_get xs (n - 1) ≡ slice_get ys (n - 1)) → numbered xs n ≡ numbered ys n
by-zero {X} xs ys n same = test (n == 0) refl
  where
    test : (b : Bool) → (n == 0) ≡ b
        → cond b None (slice_get xs (n - 1)) ≡ cond b None (slice_get ys (n - 1))
    test true e = refl
    test false e = same (λ z. false≢true (sym e ∙ eq-eqb n 0 z))

change-zero : {X : Type 0} (xs : List X) (n m : ℕ) (f : X → X) → (n ≡ m → ⊥) → (m ≡ 0 → ⊥)
    → slice_get (change_numbered xs n f) (m - 1) ≡ slice_get xs (m - 1)
change-zero {X} xs n m f other some = test (n == 0) refl
  where
    test : (b : Bool) → (n == 0) ≡ b
        → slice_get (cond b xs (change_at xs (n - 1) f)) (m - 1) ≡ slice_get xs (m - 1)
    test true e = refl
    test false e =
        let there : n ≡ 0 → ⊥ = λ z. false≢true (sym e ∙ eq-eqb n 0 z) in
        get-other xs (n - 1) (m - 1) f (λ same. other (omega (arith, same, there, some)))

-- a change by one number leaves the others
pub numbered-other : {X : Type 0} (xs : List X) (n m : ℕ) (f : X → X) → (n ≡ m → ⊥)
    → numbered (change_numbered xs n f) m ≡ numbered xs m
numbered-other xs n m f other =
    by-zero (change_numbered xs n f) xs m (λ some. change-zero xs n m f other some)

pub numbered-changed : {X : Type 0} (xs : List X) (n : ℕ) (f : X → X)
    → numbered (change_numbered xs n f) n ≡ option_map f (numbered xs n)
numbered-changed {X} xs n f = test (n == 0)
  where
    test : (b : Bool) → cond b None (slice_get (cond b xs (change_at xs (n - 1) f)) (n - 1))
        ≡ option_map f (cond b None (slice_get xs (n - 1)))
    test true = refl
    test false = get-changed xs (n - 1) f

pub numbered-before : {X : Type 0} (xs : List X) (x : X) (m : ℕ) → (m ≡ length xs + 1 → ⊥)
    → numbered (xs ++ x ∷ []) m ≡ numbered xs m
numbered-before xs x m other =
    by-zero (xs ++ x ∷ []) xs m
    (λ some. get-before xs x (m - 1) (λ e. other (omega (arith, e, some))))

-- an element is found by the number of its place
pub numbered-there : {X : Type 0} (xs : List X) (place : ℕ) (x : X) → slice_get xs place ≡ Some x
    → numbered xs (place + 1) ≡ Some x
numbered-there {X} xs place x at =
    let back : place + 1 - 1 ≡ place = omega arith in
    by (place + 1 == 0) refl (ap (slice_get xs) back ∙ at)
  where
    by : (b : Bool) → (place + 1 == 0) ≡ b → slice_get xs (place + 1 - 1) ≡ Some x
        → cond b None (slice_get xs (place + 1 - 1)) ≡ Some x
    by true e h = absurd (omega (arith, eqb-true (place + 1) 0 e))
    by false e h = h

pub numbered-added : {X : Type 0} (xs : List X) (x : X)
    → numbered (xs ++ x ∷ []) (length xs + 1) ≡ Some x
numbered-added xs x = numbered-there (xs ++ x ∷ []) (length xs) x (slice_get-last xs x)

-- ---- names

map_none : {X Y : Type 0} (f : X → Y) (o : Option X)
    → is_none (option_map f o) ≡ not (is_some o)
map_none f None = refl
map_none f (Some x) = refl

-- a name that no plan has isn't taken
pub is_untaken : (plans : List Plan) (name : List ℕ)
    → is_none (plan_named plans name) ≡ not (is_taken name plans)
is_untaken plans name =
    let test : Plan → Bool = λ plan. bytes_eq plan.name name in
    map_none (λ (plan : Plan). plan.number) (find test plans)
    ∙ ap not (sym (any-found test plans))
