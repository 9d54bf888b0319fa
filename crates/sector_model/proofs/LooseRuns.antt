-- Runs are told by their sectors, and flags beside the sectors tell the same as runs.
use Rattle.std.proofs.Common.{◌≡◌, ℕ, zero, suc, ◌+◌, ◌-◌, ◌<◌, ◌≤◌, List, [], ◌∷◌, ◌++◌, length, take, drop, replicate, map, Bool, true, false, cond, ltb, leb, ◌||◌, ◌&&◌, Some, refl, sym, ap, subst, ◌∙◌, arith, inl, inr, append_assoc, append-nil, length-append, length-take, length-drop}
use Rattle.std.specs.List.{slice_get, range_with_len, count_by, sum_by, All, AllByRecursion}
use Rattle.std.specs.Option.{option_map}
use Rattle.std.proofs.Math.Bool.{or-true, or-false}
use Rattle.std.proofs.Math.Seq.{take-append_seam, drop-append_seam}
use Rattle.std.proofs.lemmas.Bool.{cases_lt, lt-ltb, le-ltb, le-leb, lt-leb, and_right, false≢true}
use Rattle.std.proofs.lemmas.Option.{slice_get-map, slice_get-get_or}
use Rattle.std.proofs.lemmas.List.{length-replicate, take-append-drop}
use Rattle.std.proofs.lemmas.List.FromFn.{length-range_with_len, get_or-range_with_len, length-map-range_with_len}
use Rattle.std.proofs.lemmas.List.Sums.{sum_by-cons}
use Rattle.std.proofs.lemmas.List.Elements.{recursion_from_All}
use Rattle.basics.specs.Replaced.{replaced}
use Rattle.sector_model.specs.Run.{end_of, has, in_runs, AreSpaced, AreSpacedFrom}
use Rattle.sector_model.specs.VolumeContents.{with_found}
use Rattle.sector_model.specs.LooseRuns.{flags_of, RunsAreUnique, LooseRunsCount, LooseRunsGrow, NoLooseRuns}
use Rattle.sector_model.specs.declared.run.Run.{Run}
use Rattle.sector_model.specs.declared.sector.Sector.{Sector}
use Rattle.basics.proofs.ItemAt.{slice_get-replicate, same_items}
use Rattle.sector_model.proofs.Ranges.{map-range_same, map-range_alike}
use Rattle.basics.proofs.Replaced.{length-replaced, replaced-before, replaced-within, replaced-behind}
use Rattle.sector_model.proofs.Spacing.{none_before, none_in_gap, in_first, past_first, from_earlier}
use Rattle.sector_model.proofs.NextRun.{run_is, true_false}

-- ---- two lists of runs with the same sectors

-- the first runs of both begin where the first sector of both is
no-lower : (m : ℕ) (r q : Run) (rs qs : List Run) → AreSpacedFrom m (r ∷ rs)
    → AreSpacedFrom m (q ∷ qs) → in_runs (r ∷ rs) r.first ≡ in_runs (q ∷ qs) r.first
    → q.first ≤ r.first
no-lower m r q rs qs one two same = elim (cases_lt r.first q.first) [
  | inl less ↦ absurd (true_false (in_first r rs r.first (omega arith) (omega (arith, one.1)))
      (same ∙ none_in_gap m q qs r.first two less))
  | inr from ↦ from
]

no-longer : (m : ℕ) (r q : Run) (rs qs : List Run) → r.first ≡ q.first → AreSpacedFrom m (r ∷ rs)
    → in_runs (r ∷ rs) (end_of r) ≡ in_runs (q ∷ qs) (end_of r) → end_of q ≤ end_of r
no-longer m r q rs qs first one same = elim (cases_lt (end_of r) (end_of q)) [
  | inl less ↦
      let behind : in_runs (r ∷ rs) (end_of r) ≡ false =
      past_first r rs (end_of r) (omega arith)
      ∙ none_before (end_of r + 1) rs (end_of r) one.2 (omega arith) in
      absurd (true_false (in_first q qs (end_of r) (omega (arith, first)) less) (sym same ∙ behind))
  | inr from ↦ from
]

rest-same : (r : Run) (rs qs : List Run) (s : ℕ) → AreSpacedFrom (end_of r + 1) rs
    → AreSpacedFrom (end_of r + 1) qs → in_runs (r ∷ rs) s ≡ in_runs (r ∷ qs) s
    → in_runs rs s ≡ in_runs qs s
rest-same r rs qs s one two same = elim (cases_lt s (end_of r)) [
  | inl less ↦ none_before (end_of r + 1) rs s one (omega arith)
      ∙ sym (none_before (end_of r + 1) qs s two (omega arith))
  | inr from ↦ sym (past_first r rs s from) ∙ same ∙ past_first r qs s from
]

unique-from : (m : ℕ) (a b : List Run) → AreSpacedFrom m a → AreSpacedFrom m b
    → ((s : ℕ) → in_runs a s ≡ in_runs b s) → a ≡ b
unique-from m [] [] one two same = refl
unique-from m [] (q ∷ qs) one two same =
    absurd (true_false (in_first q qs q.first (omega arith) (omega (arith, two.1)))
    (sym (same q.first)))
unique-from m (r ∷ rs) [] one two same =
    absurd (true_false (in_first r rs r.first (omega arith) (omega (arith, one.1))) (same r.first))
unique-from m (r ∷ rs) (q ∷ qs) one two same =
    let low : q.first ≤ r.first = no-lower m r q rs qs one two (same r.first) in
    let high : r.first ≤ q.first = no-lower m q r qs rs two one (sym (same q.first)) in
    let first : r.first ≡ q.first = omega (arith, low, high) in
    let short : end_of q ≤ end_of r = no-longer m r q rs qs first one (same (end_of r)) in
    let long : end_of r ≤ end_of q =
    no-longer m q r qs rs (sym first) two (sym (same (end_of q))) in
    let is : r ≡ q = run_is r.first q.first r.count q.count first
    (omega (arith, first, short, long)) in
    let spaced : AreSpacedFrom (end_of r + 1) qs =
    subst (λ (x : Run). AreSpacedFrom (end_of x + 1) qs) (sym is) two.2 in
    let there : (s : ℕ) → in_runs (r ∷ rs) s ≡ in_runs (r ∷ qs) s =
    λ s. same s ∙ ap (λ (x : Run). in_runs (x ∷ qs) s) (sym is) in
    ap (λ (x : Run). x ∷ rs) is
    ∙ ap (λ (xs : List Run). q ∷ xs)
    (unique-from (end_of r + 1) rs qs one.2 spaced
    (λ s. rest-same r rs qs s one.2 spaced (there s)))

pub runs_are_unique : RunsAreUnique
runs_are_unique a b one two same = unique-from 0 a b one two same

-- ---- flags sector by sector

-- a stretch without loose sectors is kept by a filling
fill-tight : (b : Bool) (loose : List Bool) (x : Sector) (xs filling : List Sector) → b ≡ false
    → with_found (b ∷ loose) (x ∷ xs) filling ≡ x ∷ with_found loose xs filling
fill-tight false loose x xs filling is = refl
fill-tight true loose x xs filling is = absurd (false≢true (sym is))

fill-one : (b : Bool) (loose : List Bool) (x f : Sector) (xs filling : List Sector) → b ≡ true
    → with_found (b ∷ loose) (x ∷ xs) (f ∷ filling) ≡ f ∷ with_found loose xs filling
fill-one true loose x f xs filling is = refl
fill-one false loose x f xs filling is = absurd (false≢true is)

pub fill-gap : (test : ℕ → Bool) (gap zs filling : List Sector) (a m b n : ℕ) → length gap + n ≡ m
    → a + length gap ≡ b → ((s : ℕ) → a ≤ s → s < b → test s ≡ false)
    → with_found (map test (range_with_len a m)) (gap ++ zs) filling
    ≡ gap ++ with_found (map test (range_with_len b n)) zs filling
fill-gap test [] zs filling a m b n long ends none =
    let one : m ≡ n = omega (arith, long) in
    let two : a ≡ b = omega (arith, ends) in
    ap (λ k. with_found (map test (range_with_len a k)) zs filling) one
    ∙ ap (λ k. with_found (map test (range_with_len k n)) zs filling) two
fill-gap test (x ∷ gap) zs filling a zero b n long ends none = absurd (omega (arith, long))
fill-gap test (x ∷ gap) zs filling a (suc m) b n long ends none =
    fill-tight (test a) (map test (range_with_len (a + 1) m)) x (gap ++ zs) filling
    (none a (omega arith) (omega (arith, ends)))
    ∙ ap (λ (rest : List Sector). x ∷ rest)
    (fill-gap test gap zs filling (a + 1) m b n (omega (arith, long)) (omega (arith, ends))
    (λ s low less. none s (omega (arith, low)) less))

pub fill-run : (test : ℕ → Bool) (mid zs new filling : List Sector) (a m b n : ℕ)
    → length mid ≡ length new → length mid + n ≡ m → a + length mid ≡ b
    → ((s : ℕ) → a ≤ s → s < b → test s ≡ true)
    → with_found (map test (range_with_len a m)) (mid ++ zs) (new ++ filling)
    ≡ new ++ with_found (map test (range_with_len b n)) zs filling
fill-run test [] zs [] filling a m b n same long ends all =
    let one : m ≡ n = omega (arith, long) in
    let two : a ≡ b = omega (arith, ends) in
    ap (λ k. with_found (map test (range_with_len a k)) zs filling) one
    ∙ ap (λ k. with_found (map test (range_with_len k n)) zs filling) two
fill-run test [] zs (f ∷ new) filling a m b n same long ends all = absurd (omega (arith, same))
fill-run test (x ∷ mid) zs [] filling a m b n same long ends all = absurd (omega (arith, same))
fill-run test (x ∷ mid) zs (f ∷ new) filling a zero b n same long ends all =
    absurd (omega (arith, long))
fill-run test (x ∷ mid) zs (f ∷ new) filling a (suc m) b n same long ends all =
    fill-one (test a) (map test (range_with_len (a + 1) m)) x f (mid ++ zs) (new ++ filling)
    (all a (omega arith) (omega (arith, ends)))
    ∙ ap (λ (rest : List Sector). f ∷ rest)
    (fill-run test mid zs new filling (a + 1) m b n (omega (arith, same)) (omega (arith, long))
    (omega (arith, ends)) (λ s low less. all s (omega (arith, low)) less))

-- ---- a filling, run by run

abbrev pub fill_runs : List Run → (sectors filling : List Sector) → List Sector
fill_runs [] sectors filling = sectors
fill_runs (r ∷ rs) sectors filling =
    fill_runs rs (replaced sectors r.first (take r.count filling)) (drop r.count filling)

-- a list in three parts
pub record Parts (a k : ℕ) (xs gap mid rest : List Sector) : Type 0 where
  pub all : gap ++ (mid ++ rest) ≡ xs
  pub gap_long : length gap ≡ a
  pub mid_long : length mid ≡ k

parts-of : (a k : ℕ) (xs : List Sector) → a + k ≤ length xs
    → Parts a k xs (take a xs) (take k (drop a xs)) (drop k (drop a xs))
parts-of a k xs fits = record {
  all = ap (λ (ys : List Sector). take a xs ++ ys) (take-append-drop k (drop a xs))
      ∙ take-append-drop a xs;
  gap_long = omega (arith, fits, length-take a xs);
  mid_long = omega (arith, fits, length-take k (drop a xs), length-drop a xs);
}

-- what one run replaces, told by the parts before, in and behind it
replaced-part : (pre gap mid rest new : List Sector) (first : ℕ) → length pre + length gap ≡ first
    → length mid ≡ length new
    → replaced (pre ++ (gap ++ (mid ++ rest))) first new ≡ (pre ++ (gap ++ new)) ++ rest
replaced-part pre gap mid rest new first at long =
    let xs : List Sector = pre ++ (gap ++ (mid ++ rest)) in
    let front : List Sector = pre ++ gap in
    let shape : xs ≡ front ++ (mid ++ rest) = sym (append_assoc pre gap (mid ++ rest)) in
    let n : length front ≡ first = length-append pre gap ∙ at in
    let before : take first xs ≡ front =
    ap (take first) shape ∙ ap (λ k. take k (front ++ (mid ++ rest))) (sym n)
    ∙ take-append_seam front (mid ++ rest) in
    let behind : drop (first + length new) xs ≡ rest =
    ap (drop (first + length new)) (shape ∙ sym (append_assoc front mid rest))
    ∙ ap (λ k. drop k ((front ++ mid) ++ rest))
    (let m : first + length new
    ≡ length (front ++ mid) = omega (arith, n, long, length-append front mid) in m)
    ∙ drop-append_seam (front ++ mid) rest in
    ap (λ (ys : List Sector). ys ++ new ++ drop (first + length new) xs) before
    ∙ ap (λ (ys : List Sector). front ++ new ++ ys) behind
    ∙ ap (λ (ys : List Sector). ys ++ rest) (append_assoc pre gap new)

fill_runs-at : (rs : List Run) (m : ℕ) (pre suf filling : List Sector) → AreSpacedFrom m rs
    → length pre ≡ m → AllByRecursion (λ r. end_of r ≤ m + length suf) rs
    → length filling ≡ sum_by (λ (r : Run). r.count) rs
    → fill_runs rs (pre ++ suf) filling
    ≡ pre ++ with_found (map (in_runs rs) (range_with_len m (length suf))) suf filling
fill_runs-at [] m pre suf filling spaced at ends long =
    ap (λ (ys : List Sector). pre ++ ys) (sym (
    ap (λ (ys : List Sector). with_found (map (in_runs []) (range_with_len m (length suf))) ys
    filling) (sym (append-nil suf))
    ∙ fill-gap (in_runs []) suf [] filling m (length suf) (m + length suf) 0 (omega arith) refl
    (λ s low less. refl) ∙ append-nil suf))
fill_runs-at (r ∷ rs) m pre suf filling spaced at ends long =
    let a : ℕ = r.first - m in
    let sum = sum_by-cons (λ (q : Run). q.count) r rs in
    let fits : a + r.count ≤ length suf = omega (arith, ends.0, spaced.0) in
    let parts = parts-of a r.count suf fits in
    let gap : List Sector = take a suf in
    let mid : List Sector = take r.count (drop a suf) in
    let rest : List Sector = drop r.count (drop a suf) in
    let new : List Sector = take r.count filling in
    let more : List Sector = drop r.count filling in
    let gap_long : length gap ≡ a = parts.gap_long in
    let mid_long : length mid ≡ r.count = parts.mid_long in
    let new_long : length new ≡ r.count = omega (arith, length-take r.count filling, long, sum) in
    let rest_long : length suf ≡ a + r.count + length rest =
    sym (ap (λ (ys : List Sector). length ys) parts.all) ∙ length-append gap (mid ++ rest)
    ∙ (let l = length-append mid rest in omega (arith, l, gap_long, mid_long)) in
    let made : replaced (pre ++ suf) r.first new ≡ (pre ++ (gap ++ new)) ++ rest =
    ap (λ (ys : List Sector). replaced (pre ++ ys) r.first new) (sym parts.all)
    ∙ replaced-part pre gap mid rest new r.first (omega (arith, at, gap_long, spaced.0))
    (omega (arith, mid_long, new_long)) in
    let front_long : length (pre ++ (gap ++ new)) ≡ end_of r =
    length-append pre (gap ++ new)
    ∙ (let l = length-append gap new in omega (arith, l, at, gap_long, new_long, spaced.0)) in
    let ends_rest : AllByRecursion (λ q. end_of q ≤ end_of r + length rest) rs =
    subst (λ n. AllByRecursion (λ q. end_of q ≤ n) rs)
    (let same : m + length suf ≡ end_of r + length rest = omega (arith, rest_long, spaced.0) in
    same) ends.1 in
    let on = fill_runs-at rs (end_of r) (pre ++ (gap ++ new)) rest more
    (from_earlier (end_of r + 1) (end_of r) rs spaced.2 (omega arith)) front_long ends_rest
    (omega (arith, length-drop r.count filling, long, sum)) in
    let later : map (in_runs rs) (range_with_len (end_of r) (length rest))
    ≡ map (in_runs (r ∷ rs)) (range_with_len (end_of r) (length rest)) =
    map-range_same (in_runs rs) (in_runs (r ∷ rs)) (end_of r) (length rest)
    (λ s low less. sym (past_first r rs s low)) in
    let told : with_found (map (in_runs (r ∷ rs)) (range_with_len m (length suf))) suf filling
    ≡ gap ++ (new ++ with_found (map (in_runs (r ∷ rs)) (range_with_len (end_of r) (length rest)))
    rest more) =
    ap (λ (ys : List Sector). with_found (map (in_runs (r ∷ rs)) (range_with_len m (length suf))) ys
    filling) (sym parts.all)
    ∙ fill-gap (in_runs (r ∷ rs)) gap (mid ++ rest) filling m (length suf) r.first
    (r.count + length rest) (omega (arith, gap_long, rest_long))
    (omega (arith, gap_long, spaced.0))
    (λ s low less. none_in_gap m r rs s spaced less)
    ∙ ap (λ (ys : List Sector). gap ++ ys) (
    ap (λ (ys : List Sector). with_found
    (map (in_runs (r ∷ rs)) (range_with_len r.first (r.count + length rest))) (mid ++ rest) ys)
    (sym (take-append-drop r.count filling))
    ∙ fill-run (in_runs (r ∷ rs)) mid rest new more r.first (r.count + length rest) (end_of r)
    (length rest) (omega (arith, mid_long, new_long)) (omega (arith, mid_long))
    (omega (arith, mid_long))
    (λ s low less. in_first r rs s low less)) in
    ap (λ (ys : List Sector). fill_runs rs ys more) made ∙ on
    ∙ append_assoc pre (gap ++ new)
    (with_found (map (in_runs rs) (range_with_len (end_of r) (length rest))) rest more)
    ∙ ap (λ (ys : List Sector). pre ++ ys)
    (append_assoc gap new
    (with_found (map (in_runs rs) (range_with_len (end_of r) (length rest))) rest more)
    ∙ ap (λ (l : List Bool). gap ++ (new ++ with_found l rest more)) later ∙ sym told)

pub fill_runs-is : (rs : List Run) (sectors filling : List Sector) → AreSpaced rs
    → AllByRecursion (λ r. end_of r ≤ length sectors) rs
    → length filling ≡ sum_by (λ (r : Run). r.count) rs
    → fill_runs rs sectors filling ≡ with_found (flags_of (length sectors) rs) sectors filling
fill_runs-is rs sectors filling spaced ends long =
    fill_runs-at rs 0 [] sectors filling spaced refl
    (subst (λ n. AllByRecursion (λ r. end_of r ≤ n) rs)
    (let same : length sectors ≡ 0 + length sectors = omega arith in same) ends) long

-- ---- how many are loose

count-tight : (test : ℕ → Bool) (a n : ℕ) → ((s : ℕ) → a ≤ s → s < a + n → test s ≡ false)
    → count_by (λ (b : Bool). b) (map test (range_with_len a n)) ≡ 0
count-tight test a zero none = refl
count-tight test a (suc n) none =
    let one = sum_by-cons (λ (b : Bool). cond b 1 0) (test a) (map test (range_with_len (a + 1) n))
    in
    let first = ap {B = ℕ} (λ (b : Bool). cond b 1 0) (none a (omega arith) (omega arith)) in
    let more = count-tight test (a + 1) n
    (λ s low less. none s (omega (arith, low)) (omega (arith, less))) in
    omega (arith, one, first, more)

count-gap : (test : ℕ → Bool) (a k n : ℕ) → ((s : ℕ) → a ≤ s → s < a + k → test s ≡ false)
    → count_by (λ (b : Bool). b) (map test (range_with_len a (k + n)))
    ≡ count_by (λ (b : Bool). b) (map test (range_with_len (a + k) n))
count-gap test a zero n none =
    ap (λ m. count_by (λ (b : Bool). b) (map test (range_with_len a m)))
    (let z : 0 + n ≡ n = omega arith in z)
    ∙ ap (λ m. count_by (λ (b : Bool). b) (map test (range_with_len m n)))
    (let z : a ≡ a + 0 = omega arith in z)
count-gap test a (suc k) n none =
    let next : suc k + n ≡ suc (k + n) = omega arith in
    let one = sum_by-cons (λ (b : Bool). cond b 1 0) (test a)
    (map test (range_with_len (a + 1) (k + n))) in
    let first = ap {B = ℕ} (λ (b : Bool). cond b 1 0) (none a (omega arith) (omega arith)) in
    let more = count-gap test (a + 1) k n
    (λ s low less. none s (omega (arith, low)) (omega (arith, less))) in
    ap (λ m. count_by (λ (b : Bool). b) (map test (range_with_len a m))) next
    ∙ (let here : count_by (λ (b : Bool). b) (map test (range_with_len a (suc (k + n))))
    ≡ count_by (λ (b : Bool). b) (map test (range_with_len (a + 1) (k + n))) =
    omega (arith, one, first) in here)
    ∙ more ∙ ap (λ m. count_by (λ (b : Bool). b) (map test (range_with_len m n)))
    (let z : a + 1 + k ≡ a + suc k = omega arith in z)

count-run : (test : ℕ → Bool) (a k n : ℕ) → ((s : ℕ) → a ≤ s → s < a + k → test s ≡ true)
    → count_by (λ (b : Bool). b) (map test (range_with_len a (k + n)))
    ≡ k + count_by (λ (b : Bool). b) (map test (range_with_len (a + k) n))
count-run test a zero n all =
    ap (λ m. count_by (λ (b : Bool). b) (map test (range_with_len a m)))
    (let z : 0 + n ≡ n = omega arith in z)
    ∙ ap (λ m. count_by (λ (b : Bool). b) (map test (range_with_len m n)))
    (let z : a ≡ a + 0 = omega arith in z)
    ∙ (let z : count_by (λ (b : Bool). b) (map test (range_with_len (a + 0) n))
    ≡ 0 + count_by (λ (b : Bool). b) (map test (range_with_len (a + 0) n)) = omega arith in z)
count-run test a (suc k) n all =
    let next : suc k + n ≡ suc (k + n) = omega arith in
    let one = sum_by-cons (λ (b : Bool). cond b 1 0) (test a)
    (map test (range_with_len (a + 1) (k + n))) in
    let first = ap {B = ℕ} (λ (b : Bool). cond b 1 0) (all a (omega arith) (omega arith)) in
    let more = count-run test (a + 1) k n
    (λ s low less. all s (omega (arith, low)) (omega (arith, less))) in
    let there = ap (λ m. count_by (λ (b : Bool). b) (map test (range_with_len m n)))
    (let z : a + 1 + k ≡ a + suc k = omega arith in z) in
    ap (λ m. count_by (λ (b : Bool). b) (map test (range_with_len a m))) next
    ∙ (let here : count_by (λ (b : Bool). b) (map test (range_with_len a (suc (k + n))))
    ≡ suc k + count_by (λ (b : Bool). b) (map test (range_with_len (a + suc k) n)) =
    omega (arith, one, first, more, there) in here)

counted-at : (rs : List Run) (m n : ℕ) → AreSpacedFrom m rs
    → AllByRecursion (λ r. end_of r ≤ m + n) rs
    → count_by (λ (b : Bool). b) (map (in_runs rs) (range_with_len m n))
    ≡ sum_by (λ (r : Run). r.count) rs
counted-at [] m n spaced ends = count-tight (in_runs []) m n (λ s low less. refl)
counted-at (r ∷ rs) m n spaced ends =
    let a : ℕ = r.first - m in
    let k : ℕ = m + n - end_of r in
    let split : n ≡ a + (r.count + k) = omega (arith, spaced.0, ends.0) in
    let start : m + a ≡ r.first = omega (arith, spaced.0) in
    let sum = sum_by-cons (λ (q : Run). q.count) r rs in
    let on = counted-at rs (end_of r) k
    (from_earlier (end_of r + 1) (end_of r) rs spaced.2 (omega arith))
    (subst (λ x. AllByRecursion (λ q. end_of q ≤ x) rs)
    (let same : m + n ≡ end_of r + k = omega (arith, ends.0) in same) ends.1) in
    let later = ap (λ (l : List Bool). count_by (λ (b : Bool). b) l)
    (map-range_same (in_runs (r ∷ rs)) (in_runs rs) (end_of r) k
    (λ s low less. past_first r rs s low)) in
    let run = count-run (in_runs (r ∷ rs)) r.first r.count k
    (λ s low less. in_first r rs s low less) in
    ap (λ x. count_by (λ (b : Bool). b) (map (in_runs (r ∷ rs)) (range_with_len m x))) split
    ∙ count-gap (in_runs (r ∷ rs)) m a (r.count + k)
    (λ s low less. none_in_gap m r rs s spaced (omega (arith, less, start)))
    ∙ ap (λ x. count_by (λ (b : Bool). b) (map (in_runs (r ∷ rs)) (range_with_len x (r.count + k))))
    start
    ∙ (let here : count_by (λ (b : Bool). b)
    (map (in_runs (r ∷ rs)) (range_with_len r.first (r.count + k)))
    ≡ sum_by (λ (q : Run). q.count) (r ∷ rs) = omega (arith, run, later, on, sum) in here)

pub loose_runs_count : LooseRunsCount
loose_runs_count sectors loose spaced ends =
    counted-at loose 0 (length sectors) spaced
    (recursion_from_All (λ r. end_of r ≤ 0 + length sectors) loose
    (subst (λ n. All (λ r. end_of r ≤ n) loose)
    (let same : length sectors ≡ 0 + length sectors = omega arith in same) ends))

-- ---- a write and a flush

flag-at : (n : ℕ) (runs : List Run) (k : ℕ) → k < n
    → slice_get (flags_of n runs) k ≡ Some (in_runs runs k)
flag-at n runs k less =
    slice_get-map (in_runs runs) (range_with_len 0 n) k
    ∙ ap (option_map (in_runs runs))
    (slice_get-get_or (range_with_len 0 n) k 0 (omega (arith, less, length-range_with_len 0 n))
    ∙ ap Some (get_or-range_with_len 0 n k 0 less ∙ (let z : 0 + k ≡ k = omega arith in z)))

length-flags : (n : ℕ) (runs : List Run) → length (flags_of n runs) ≡ n
length-flags n runs = length-map-range_with_len (in_runs runs) 0 n

grown-at : (n : ℕ) (loose new : List Run) (first count k : ℕ) → first + count ≤ n → k < n
    → ((s : ℕ) → in_runs new s
    ≡ (in_runs loose s || has s (record { first = first; count = count })))
    → slice_get (flags_of n new) k
    ≡ slice_get (replaced (flags_of n loose) first (replicate count true)) k
grown-at n loose new first count k fits less grown =
    let long : length (replicate count true) ≡ count = length-replicate count true in
    let room : first + length (replicate count true) ≤ length (flags_of n loose) =
    omega (arith, fits, long, length-flags n loose) in
    flag-at n new k less ∙ ap Some (grown k) ∙ elim (cases_lt k first) [
      | inl before ↦
          ap (λ b. Some (in_runs loose k || (b && ltb k (first + count)))) (lt-leb first k before)
          ∙ ap Some (or-false (in_runs loose k))
          ∙ sym (replaced-before (flags_of n loose) (replicate count true) first
          (omega (arith, room)) k before ∙ flag-at n loose k less)
      | inr from ↦ elim (cases_lt k (first + count)) [
        | inl inside ↦
            ap (λ b. Some (in_runs loose k || (b && ltb k (first + count)))) (le-leb first k from)
            ∙ ap (λ b. Some (in_runs loose k || b)) (lt-ltb k (first + count) inside)
            ∙ ap Some (or-true (in_runs loose k))
            ∙ sym (replaced-within (flags_of n loose) (replicate count true) first
            (omega (arith, room)) k from (omega (arith, inside, long))
            ∙ slice_get-replicate count (k - first) true (omega (arith, inside, from)))
        | inr past ↦
            ap (λ b. Some (in_runs loose k || b))
            (and_right (leb first k) (ltb k (first + count)) (le-ltb k (first + count) past))
            ∙ ap Some (or-false (in_runs loose k))
            ∙ sym (replaced-behind (flags_of n loose) (replicate count true) first
            (omega (arith, room)) k (omega (arith, past, long)) ∙ flag-at n loose k less)
      ]
    ]

pub loose_runs_grow : LooseRunsGrow
loose_runs_grow sectors loose new first written fits grown =
    let n : ℕ = length sectors in
    let count : ℕ = length written in
    let long : length (replicate count true) ≡ count = length-replicate count true in
    let room : first + length (replicate count true) ≤ length (flags_of n loose) =
    omega (arith, fits, long, length-flags n loose) in
    let kept : length (replaced sectors first written) ≡ n =
    length-replaced sectors written first fits in
    let same : flags_of n new ≡ replaced (flags_of n loose) first (replicate count true) =
    same_items (flags_of n new) (replaced (flags_of n loose) first (replicate count true))
    (length-flags n new ∙ sym (length-replaced (flags_of n loose) (replicate count true) first room
    ∙ length-flags n loose))
    (λ k less. grown-at n loose new first count k fits (omega (arith, less, length-flags n new))
    grown) in
    ap (λ (l : List Bool). record { sectors = replaced sectors first written; loose = l })
    (ap (λ k. flags_of k new) kept ∙ same)

pub no_loose_runs : NoLooseRuns
no_loose_runs sectors loose =
    ap (λ (l : List Bool). record { sectors = sectors; loose = l })
    (map-range_alike (in_runs []) false 0 (length sectors) (λ k. refl)
    ∙ ap (λ k. replicate k false) (sym (length-flags (length sectors) loose)))
