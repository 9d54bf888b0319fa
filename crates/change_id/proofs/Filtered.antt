-- What was told of a list says the same as the list.
use Rattle.std.proofs.Common.{◌≡◌, ℕ, zero, suc, ◌+◌, ◌<◌, ◌≤◌, ◌==◌, ◌&&◌, ◌↔◌, nat_le, List, [], ◌∷◌, ◌++◌, length, take, drop, Bool, true, false, not, cond, Option, Some, None, unwrap_or, option_map, Ok, Err, sym, ap, subst, refl, ◌∙◌, arith, inl, inr, length-append}
use Rattle.std.specs.List.{fold, filter_map, cons_option}
use Rattle.std.specs.Option.{option_or}
use Rattle.std.proofs.lemmas.Bool.{cases_lt}
use Rattle.std.proofs.lemmas.List.{take-append-le, take-append-drop, take-take, take_all, append-nil, drop_all, length-take}
use Rattle.std.proofs.Math.Seq.{drop-append_seam}
use Rattle.std.proofs.lemmas.List.Elements.{filter_map-append}
use Rattle.change_id.specs.ChangeId.{packed}
use Rattle.change_id.specs.History.{Reading, mark, before, through, epoch, counted_after, number, in_force, is_id, mark_of_id, accepts, answered}
use Rattle.change_id.specs.Filtered.{passes, ReadsAs, place_in, ReadTheSame}
use Rattle.change_id.specs.declared.ChangeId.{ChangeId}
use Rattle.change_id.specs.declared.Since.{Since}
use Rattle.change_id.specs.declared.Since.TheVariants.{All, From}
use Rattle.change_id.proofs.Ends.{by_last}
use Rattle.change_id.proofs.IdPlaces.{mark_of_id-push, found-within, found-now}

-- ---- the list up to a place, and between two

pub upto : {E F : Type 0} (to : E → Option F) (k : ℕ) (log : List E)
    → filter_map to (take k log) ≡ take (place_in to k log) (filter_map to log)
upto to zero log = refl
upto to (suc k) [] = refl
upto {F = F} to (suc k) (x ∷ log) = by (to x) (upto to k log)
  where
    by : (o : Option F) → filter_map to (take k log) ≡ take (place_in to k log) (filter_map to log)
        → cons_option o (filter_map to (take k log))
        ≡ take (length (cons_option o (filter_map to (take k log))))
        (cons_option o (filter_map to log))
    by None rest = rest
    by (Some f) rest = ap (λ (ys : List F). f ∷ ys) rest

-- what was told of a longer front isn't less
place_in-le : {E F : Type 0} (to : E → Option F) (j k : ℕ) (log : List E) → j ≤ k
    → place_in to j log ≤ place_in to k log
place_in-le {F = F} to j k log le =
    let short = ap (λ xs. length (filter_map to xs)) (take-take j k log le) in
    let whole = ap (λ xs. length (filter_map to xs)) (take-append-drop j (take k log)) in
    let parts = ap (λ (ys : List F). length ys)
    (filter_map-append to (take j (take k log)) (drop j (take k log))) in
    let long = length-append (filter_map to (take j (take k log)))
    (filter_map to (drop j (take k log))) in
    omega (arith, short, whole, parts, long)

-- what was told from a place on
from : {E F : Type 0} (to : E → Option F) (k : ℕ) (log : List E)
    → filter_map to (drop k log) ≡ drop (place_in to k log) (filter_map to log)
from {F = F} to k log =
    sym (drop-append_seam (filter_map to (take k log)) (filter_map to (drop k log)))
    ∙ ap (λ (ys : List F). drop (place_in to k log) ys)
    (sym (filter_map-append to (take k log) (drop k log)))
    ∙ ap (λ xs. drop (place_in to k log) (filter_map to xs)) (take-append-drop k log)

pub between : {E F : Type 0} (to : E → Option F) (a b : ℕ) (log : List E)
    → filter_map to (drop a (take b log))
    ≡ drop (place_in to a log) (take (place_in to b log) (filter_map to log))
between {F = F} to a b log = elim (cases_lt b a) [
  | inl past ↦
      ap (filter_map to) (drop_all a (take b log) (let short = length-take b log in
      omega (arith, short, past)))
      ∙ sym (drop_all (place_in to a log) (take (place_in to b log) (filter_map to log))
      (let short = length-take (place_in to b log) (filter_map to log) in
      let more = place_in-le to b a log (omega (arith, past)) in omega (arith, short, more)))
  | inr le ↦
      from to a (take b log)
      ∙ ap (λ xs. drop (length (filter_map to xs)) (filter_map to (take b log)))
      (take-take a b log le)
      ∙ ap (λ (ys : List F). drop (place_in to a log) ys) (upto to b log)
]

-- ---- counts

epochs_on : {E F : Type 0} (to : E → Option F) (outer : Reading E) (inner : Reading F)
    → ReadsAs to outer inner → (log : List E) (a : ℕ)
    → fold (λ n x. n + cond (outer.resets x) 1 0) a log
    ≡ fold (λ n x. n + cond (inner.resets x) 1 0) a (filter_map to log)
epochs_on to outer inner reads [] a = refl
epochs_on {F = F} to outer inner reads (x ∷ log) a =
    ap (λ b. fold (λ n x. n + cond (outer.resets x) 1 0) (a + cond b 1 0) log) (reads.resets x)
    ∙ by (to x) (λ b. epochs_on to outer inner reads log b)
  where
    by : (o : Option F) → ((b : ℕ)
        → fold (λ n x. n + cond (outer.resets x) 1 0) b log
        ≡ fold (λ n x. n + cond (inner.resets x) 1 0) b (filter_map to log))
        → fold (λ n x. n + cond (outer.resets x) 1 0) (a + cond (passes inner.resets o) 1 0) log
        ≡ fold (λ n x. n + cond (inner.resets x) 1 0) a (cons_option o (filter_map to log))
    by None rest = rest (a + 0)
        ∙ (let same : a + 0 ≡ a = omega arith in
        ap (λ m. fold (λ n x. n + cond (inner.resets x) 1 0) m (filter_map to log)) same)
    by (Some f) rest = rest (a + cond (inner.resets f) 1 0)

epochs : {E F : Type 0} (to : E → Option F) (outer : Reading E) (inner : Reading F)
    → ReadsAs to outer inner → (log : List E) → epoch outer log ≡ epoch inner (filter_map to log)
epochs to outer inner reads log = epochs_on to outer inner reads log 0

counts : {E F : Type 0} (to : E → Option F) (outer : Reading E) (inner : Reading F)
    → ReadsAs to outer inner → (log : List E) (o : Option ℕ)
    → fold (counted_after outer) o log ≡ fold (counted_after inner) o (filter_map to log)
counts to outer inner reads [] o = refl
counts {F = F} to outer inner reads (x ∷ log) o =
    counts to outer inner reads log (counted_after outer o x)
    ∙ by (to x) o (reads.enables x) (reads.resets x) (reads.is_snap x)
  where
    by : (f : Option F) (o : Option ℕ) → outer.enables x ≡ passes inner.enables f
        → outer.resets x ≡ passes inner.resets f → outer.is_snap x ≡ passes inner.is_snap f
        → fold (counted_after inner) (counted_after outer o x) (filter_map to log)
        ≡ fold (counted_after inner) o (cons_option f (filter_map to log))
    by None None e r s = ap
        (λ b. fold (counted_after inner) (cond b (Some 0) None) (filter_map to log)) e
    by None (Some n) e r s =
        ap (λ b. fold (counted_after inner)
        (cond b (Some 0) (cond (outer.is_snap x) (Some (n + 1)) (Some n))) (filter_map to log))
        r
        ∙ ap (λ b. fold (counted_after inner) (cond b (Some (n + 1)) (Some n)) (filter_map to log))
        s
    by (Some f) None e r s =
        ap (λ b. fold (counted_after inner) (cond b (Some 0) None) (filter_map to log)) e
    by (Some f) (Some n) e r s =
        ap (λ b. fold (counted_after inner)
        (cond b (Some 0) (cond (outer.is_snap x) (Some (n + 1)) (Some n))) (filter_map to log))
        r
        ∙ ap (λ b. fold (counted_after inner)
        (cond (inner.resets f) (Some 0) (cond b (Some (n + 1)) (Some n))) (filter_map to log)) s

numbers : {E F : Type 0} (to : E → Option F) (outer : Reading E) (inner : Reading F)
    → ReadsAs to outer inner → (log : List E) → number outer log ≡ number inner (filter_map to log)
numbers to outer inner reads log =
    ap (λ (o : Option ℕ). unwrap_or o 0) (counts to outer inner reads log None)

abbrev force : ℕ → ℕ → ℕ → Option ChangeId
force n u e = cond (n == 0) None (Some (record { uuid = u; seq = e }))

forces : {E F : Type 0} (to : E → Option F) (outer : Reading E) (inner : Reading F)
    → ReadsAs to outer inner → (machine disk : ℕ) (log : List E)
    → in_force outer machine disk log ≡ in_force inner machine disk (filter_map to log)
forces to outer inner reads machine disk log =
    ap (λ n. force n (packed machine disk (epoch outer log)) n) (numbers to outer inner reads log)
    ∙ ap (λ e. force (number inner (filter_map to log)) (packed machine disk e)
    (number inner (filter_map to log))) (epochs to outer inner reads log)

-- ---- marks

after_one : {E F : Type 0} (to : E → Option F) (x : E) (n : ℕ) (log : List E)
    → filter_map to (take (1 + n) (x ∷ log)) ≡ cons_option (to x) (filter_map to (take n log))
after_one to x n log = let next : 1 + n ≡ suc n = omega arith in
    ap (λ k. filter_map to (take k (x ∷ log))) next

marks : {E F : Type 0} (to : E → Option F) (outer : Reading E) (inner : Reading F)
    → ReadsAs to outer inner → (s : ℕ) (log : List E)
    → place_in to (mark outer.takes s log) log ≡ mark inner.takes s (filter_map to log)
marks to outer inner reads s [] = refl
marks {F = F} to outer inner reads s (x ∷ log) =
    ap (λ b. place_in to (cond (not b) (1 + mark outer.takes s log) 0) (x ∷ log)) (reads.takes s x)
    ∙ by (to x) refl (marks to outer inner reads s log)
  where
    one : (f : F) (b : Bool) → inner.takes s f ≡ b → to x ≡ Some f
        → place_in to (mark outer.takes s log) log ≡ mark inner.takes s (filter_map to log)
        → place_in to (cond (not (inner.takes s f)) (1 + mark outer.takes s log) 0) (x ∷ log)
        ≡ mark inner.takes s (f ∷ filter_map to log)
    one f true is told rest = rw is refl
    one f false is told rest =
        rw is (ap (λ (ys : List F). length ys) (after_one to x (mark outer.takes s log) log
        ∙ ap (λ (o : Option F). cons_option o
        (filter_map to (take (mark outer.takes s log) log))) told) ∙ (omega (arith, rest)))

    by : (o : Option F) → to x ≡ o
        → place_in to (mark outer.takes s log) log ≡ mark inner.takes s (filter_map to log)
        → place_in to (cond (not (passes (inner.takes s) (to x))) (1 + mark outer.takes s log) 0)
        (x ∷ log) ≡ mark inner.takes s (cons_option (to x) (filter_map to log))
    by None told rest =
        rw told (ap (λ (ys : List F). length ys) (after_one to x (mark outer.takes s log) log
        ∙ ap (λ (o : Option F). cons_option o
        (filter_map to (take (mark outer.takes s log) log))) told) ∙ rest)
    by (Some f) told rest = rw told (one f (inner.takes s f) refl told rest)

throughs : {E F : Type 0} (to : E → Option F) (outer : Reading E) (inner : Reading F)
    → ReadsAs to outer inner → (s : ℕ) (log : List E)
    → filter_map to (through outer.takes s log) ≡ through inner.takes s (filter_map to log)
throughs to outer inner reads s [] = refl
throughs {E = E} {F = F} to outer inner reads s (x ∷ log) =
    ap (λ b. filter_map to (take (cond (not b) (1 + mark outer.takes s log) 0 + 1) (x ∷ log)))
    (reads.takes s x) ∙ by (to x) refl (throughs to outer inner reads s log)
  where
    later : {X : Type 0} (y : X) (n : ℕ) (xs : List X)
        → take (1 + n + 1) (y ∷ xs) ≡ y ∷ take (n + 1) xs
    later y n xs = let next : 1 + n + 1 ≡ suc (n + 1) = omega arith in
        ap (λ k. take k (y ∷ xs)) next

    one : (f : F) (b : Bool) → inner.takes s f ≡ b → to x ≡ Some f
        → filter_map to (through outer.takes s log) ≡ through inner.takes s (filter_map to log)
        → filter_map to (take (cond (not (inner.takes s f)) (1 + mark outer.takes s log) 0 + 1)
        (x ∷ log)) ≡ through inner.takes s (f ∷ filter_map to log)
    one f true is told rest = rw is (ap (λ (o : Option F). cons_option o []) told)
    one f false is told rest =
        rw is (ap (filter_map to) (later x (mark outer.takes s log) log)
        ∙ ap (λ (o : Option F). cons_option o (filter_map to (through outer.takes s log))) told
        ∙ ap (λ (ys : List F). f ∷ ys) rest
        ∙ sym (later f (mark inner.takes s (filter_map to log)) (filter_map to log)))

    by : (o : Option F) → to x ≡ o
        → filter_map to (through outer.takes s log) ≡ through inner.takes s (filter_map to log)
        → filter_map to (take
        (cond (not (passes (inner.takes s) (to x))) (1 + mark outer.takes s log) 0 + 1)
        (x ∷ log)) ≡ through inner.takes s (cons_option (to x) (filter_map to log))
    by None told rest =
        rw told (ap (filter_map to) (later x (mark outer.takes s log) log)
        ∙ ap (λ (o : Option F). cons_option o (filter_map to (through outer.takes s log))) told
        ∙ rest)
    by (Some f) told rest = rw told (one f (inner.takes s f) refl told rest)

befores : {E F : Type 0} (to : E → Option F) (outer : Reading E) (inner : Reading F)
    → ReadsAs to outer inner → (s : ℕ) (log : List E)
    → filter_map to (before outer.takes s log) ≡ before inner.takes s (filter_map to log)
befores to outer inner reads s log =
    upto to (mark outer.takes s log) log
    ∙ ap (λ k. take k (filter_map to log)) (marks to outer inner reads s log)

takens : {E F : Type 0} (to : E → Option F) (outer : Reading E) (inner : Reading F)
    → ReadsAs to outer inner → (s : ℕ) (log : List E)
    → (mark outer.takes s log < length log) ↔
    (mark inner.takes s (filter_map to log) < length (filter_map to log))
takens to outer inner reads s [] = (λ h. h, λ h. h)
takens {F = F} to outer inner reads s (x ∷ log) =
    subst (λ b. (cond (not b) (1 + mark outer.takes s log) 0 < suc (length log)) ↔
    (mark inner.takes s (cons_option (to x) (filter_map to log)) < length
    (cons_option (to x) (filter_map to log))))
    (sym (reads.takes s x)) (by (to x) (takens to outer inner reads s log))
  where
    more : (a b m n : ℕ) → (a < b) ↔ (m < n) → (1 + a < suc b) ↔ (1 + m < suc n)
    more a b m n same = (
      λ h. let k = same.0 (omega (arith, h)) in
          omega (arith, k),
      λ h. let k = same.1 (omega (arith, h)) in omega (arith, k),
    )

    skip : (a b m n : ℕ) → (a < b) ↔ (m < n) → (1 + a < suc b) ↔ (m < n)
    skip a b m n same = (λ h. same.0 (omega (arith, h)), λ h. let k = same.1 h in omega (arith, k))

    one : (b : Bool) → (mark outer.takes s log < length log) ↔
        (mark inner.takes s (filter_map to log) < length (filter_map to log))
        → (cond (not b) (1 + mark outer.takes s log) 0 < suc (length log)) ↔
        (cond (not b) (1 + mark inner.takes s (filter_map to log)) 0 < suc
        (length (filter_map to log)))
    one true same = (λ h. omega arith, λ h. omega arith)
    one false same = more _ _ _ _ same

    by : (o : Option F) → (mark outer.takes s log < length log) ↔
        (mark inner.takes s (filter_map to log) < length (filter_map to log))
        → (cond (not (passes (inner.takes s) o)) (1 + mark outer.takes s log) 0 < suc (length log))
        ↔ (mark inner.takes s (cons_option o (filter_map to log)) < length
        (cons_option o (filter_map to log)))
    by None same = skip _ _ _ _ same
    by (Some f) same = one (inner.takes s f) same

-- ---- identifiers

accept : {E F : Type 0} (to : E → Option F) (outer : Reading E) (inner : Reading F)
    → ReadsAs to outer inner → (machine disk s : ℕ) (id : ChangeId) (log : List E)
    → accepts outer machine disk s id log ≡ accepts inner machine disk s id (filter_map to log)
accept to outer inner reads machine disk s id log =
    (λ i. accepting (epochs to outer inner reads log i) (before_is i) (through_is i))
  where
    accepting : (now then_ upto_ : ℕ) → Bool
    accepting now then_ upto_ =
        id.uuid == packed machine disk now && then_ == now && nat_le 1 id.seq && nat_le id.seq upto_

    before_is : epoch outer (before outer.takes s log)
        ≡ epoch inner (before inner.takes s (filter_map to log))
    before_is = epochs to outer inner reads (before outer.takes s log)
        ∙ ap (epoch inner) (befores to outer inner reads s log)

    through_is : number outer (through outer.takes s log)
        ≡ number inner (through inner.takes s (filter_map to log))
    through_is = numbers to outer inner reads (through outer.takes s log)
        ∙ ap (number inner) (throughs to outer inner reads s log)

map_or : {X Y : Type 0} (f : X → Y) (a b : Option X)
    → option_map f (option_or a b) ≡ option_or (option_map f a) (option_map f b)
map_or f None b = refl
map_or f (Some x) b = refl

found : {E F : Type 0} (to : E → Option F) (outer : Reading E) (inner : Reading F)
    → ReadsAs to outer inner → (machine disk : ℕ) (id : ChangeId) (log : List E)
    → option_map (λ k. place_in to k log) (mark_of_id outer machine disk id log)
    ≡ mark_of_id inner machine disk id (filter_map to log)
found {E = E} {F = F} to outer inner reads machine disk id =
    by_last (λ (log : List E). option_map (λ k. place_in to k log)
    (mark_of_id outer machine disk id log)
    ≡ mark_of_id inner machine disk id (filter_map to log)) refl step
  where
    here : List E → Bool
    here log = is_id id (in_force outer machine disk log)

    told_here : List F → Bool
    told_here log = is_id id (in_force inner machine disk log)

    -- what was found before keeps its place
    old : (log : List E) (x : E) (o : Option ℕ) → ((p : ℕ) → o ≡ Some p → p < length log)
        → option_map (λ k. place_in to k (log ++ x ∷ [])) o ≡ option_map (λ k. place_in to k log) o
    old log x None within = refl
    old log x (Some p) within = let inside = within p refl in
        ap (λ (xs : List E). Some (length (filter_map to xs)))
        (take-append-le p log (x ∷ []) (omega (arith, inside)))

    new : (log : List E) (x : E) (b : Bool)
        → option_map (λ k. place_in to k (log ++ x ∷ [])) (cond b (Some (length log)) None)
        ≡ cond b (Some (length (filter_map to log))) None
    new log x false = refl
    new log x true = ap (λ (xs : List E). Some (length (filter_map to xs)))
        (take-append-le (length log) log (x ∷ []) (omega arith)
        ∙ take_all (length log) log (omega arith))

    -- nothing more was told, so nothing more is found
    none_more : (ys : List F) (o : Option ℕ) → mark_of_id inner machine disk id ys ≡ o → (b : Bool)
        → told_here ys ≡ b → option_or o (cond b (Some (length ys)) None) ≡ o
    none_more ys (Some p) is b here_is = refl
    none_more ys None is false here_is = refl
    none_more ys None is true here_is = absurd (found-now inner machine disk id ys here_is is)

    by : (log : List E) (o : Option F)
        → option_or (mark_of_id inner machine disk id (filter_map to log))
        (cond (told_here (filter_map to log ++ cons_option o []))
        (Some (length (filter_map to log))) None)
        ≡ mark_of_id inner machine disk id (filter_map to log ++ cons_option o [])
    by log None =
        ap (λ (ys : List F). option_or (mark_of_id inner machine disk id (filter_map to log))
        (cond (told_here ys) (Some (length (filter_map to log))) None))
        (append-nil (filter_map to log))
        ∙ none_more (filter_map to log) (mark_of_id inner machine disk id (filter_map to log)) refl
        (told_here (filter_map to log)) refl
        ∙ ap (λ (ys : List F). mark_of_id inner machine disk id ys)
        (sym (append-nil (filter_map to log)))
    by log (Some f) = sym (mark_of_id-push inner machine disk id (filter_map to log) f)

    step : (log : List E) (x : E)
        → option_map (λ k. place_in to k log) (mark_of_id outer machine disk id log)
        ≡ mark_of_id inner machine disk id (filter_map to log)
        → option_map (λ k. place_in to k (log ++ x ∷ []))
        (mark_of_id outer machine disk id (log ++ x ∷ []))
        ≡ mark_of_id inner machine disk id (filter_map to (log ++ x ∷ []))
    step log x rest =
        ap (option_map (λ k. place_in to k (log ++ x ∷ [])))
        (mark_of_id-push outer machine disk id log x)
        ∙ map_or (λ k. place_in to k (log ++ x ∷ [])) (mark_of_id outer machine disk id log)
        (cond (here (log ++ x ∷ [])) (Some (length log)) None)
        ∙ (λ i. option_or (old log x (mark_of_id outer machine disk id log)
        (found-within outer machine disk id log) i) (new log x (here (log ++ x ∷ [])) i))
        ∙ (λ i. option_or (rest i)
        (cond (is_id id (forces to outer inner reads machine disk (log ++ x ∷ []) i))
        (Some (length (filter_map to log))) None))
        ∙ ap (λ (ys : List F). option_or (mark_of_id inner machine disk id (filter_map to log))
        (cond (told_here ys) (Some (length (filter_map to log))) None))
        (filter_map-append to log (x ∷ []))
        ∙ by log (to x)
        ∙ ap (λ (ys : List F). mark_of_id inner machine disk id ys)
        (sym (filter_map-append to log (x ∷ [])))

pub read_the_same : {E F : Type 0} (to : E → Option F) (outer : Reading E) (inner : Reading F)
    (log : List E) → ReadsAs to outer inner → ReadTheSame to outer inner log
read_the_same to outer inner log reads = record {
  upto = λ k. upto to k log;
  between = λ a b. between to a b log;
  epoch = epochs to outer inner reads log;
  counted = counts to outer inner reads log None;
  number = numbers to outer inner reads log;
  in_force = λ machine disk. forces to outer inner reads machine disk log;
  taken = λ s. takens to outer inner reads s log;
  mark = λ s. marks to outer inner reads s log;
  id_at = λ machine disk s. forces to outer inner reads machine disk (through outer.takes s log)
      ∙ ap (in_force inner machine disk) (throughs to outer inner reads s log);
  accepts = λ machine disk s id. accept to outer inner reads machine disk s id log;
  mark_of_id = λ machine disk id. found to outer inner reads machine disk id log;
}

-- ---- answers

place_or : {E F : Type 0} (to : E → Option F) (log : List E) (o : Option ℕ)
    → place_in to (unwrap_or o 0) log ≡ unwrap_or (option_map (λ k. place_in to k log) o) 0
place_or to log None = refl
place_or to log (Some p) = refl

pub answer_the_same : {E F A : Type 0} (to : E → Option F) (outer : Reading E) (inner : Reading F)
    (log : List E) → ReadsAs to outer inner
    → (outer_between inner_between : (from end : ℕ) → A)
    → ((from end : ℕ) → outer_between from end
    ≡ inner_between (place_in to from log) (place_in to end log))
    → (machine disk s : ℕ) (since : Since)
    → answered outer machine disk s outer_between since log
    ≡ answered inner machine disk s inner_between since (filter_map to log)
answer_the_same {A = A} to outer inner log reads outer_between inner_between same machine disk s All
    =
    ap (λ (a : A). Ok a) (same 0 (mark outer.takes s log)
    ∙ ap (inner_between 0) (marks to outer inner reads s log))
answer_the_same {A = A} to outer inner log reads outer_between inner_between same machine disk s
    (From id) =
    (λ i. cond (accept to outer inner reads machine disk s id log i) (Ok (changed i))
    (Err (forces to outer inner reads machine disk log i)))
  where
    start : place_in to (unwrap_or (mark_of_id outer machine disk id log) 0) log
        ≡ unwrap_or (mark_of_id inner machine disk id (filter_map to log)) 0
    start = place_or to log (mark_of_id outer machine disk id log)
        ∙ ap (λ (o : Option ℕ). unwrap_or o 0) (found to outer inner reads machine disk id log)

    changed : outer_between (unwrap_or (mark_of_id outer machine disk id log) 0)
        (mark outer.takes s log)
        ≡ inner_between (unwrap_or (mark_of_id inner machine disk id (filter_map to log)) 0)
        (mark inner.takes s (filter_map to log))
    changed = same _ _ ∙ (λ i. inner_between (start i) (marks to outer inner reads s log i))
