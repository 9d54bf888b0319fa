-- Epochs and numbers of a list with one entry more, and of its parts.
use Rattle.std.proofs.Common.{◌≡◌, ℕ, ◌+◌, ◌≤◌, List, [], ◌∷◌, ◌++◌, take, drop, Bool, true, false, cond, Option, Some, None, unwrap_or, subst, sym, ap, refl, ◌∙◌, arith}
use Rattle.std.specs.List.{fold}
use Rattle.std.proofs.lemmas.List.{take-append-drop, take-take}
use Rattle.std.proofs.lemmas.List.Sums.{fold-append, sum_by-append, sum_by-cons, sum_by-take-le, sum_by-take-drop}
use Rattle.change_id.specs.History.{Reading, epoch, counted, counted_after, number}

pub counted-last : {E : Type 0} (reading : Reading E) (log : List E) (e : E)
    → counted reading (log ++ e ∷ []) ≡ counted_after reading (counted reading log) e
counted-last {E = E} reading log e = fold-append (counted_after reading) None log (e ∷ [])

pub epoch-append : {E : Type 0} (reading : Reading E) (xs ys : List E)
    → epoch reading (xs ++ ys) ≡ epoch reading xs + epoch reading ys
epoch-append {E = E} reading xs ys = sum_by-append (λ e. cond (reading.resets e) 1 0) xs ys

-- an entry that resets nothing of d keeps the epoch
pub epoch-last : {E : Type 0} (reading : Reading E) (log : List E) (e : E)
    → reading.resets e ≡ false → epoch reading (log ++ e ∷ []) ≡ epoch reading log
epoch-last {E = E} reading log e keeps =
    let one : epoch reading (e ∷ []) ≡ 0 = ap (λ b. 0 + cond b 1 0) keeps in
    omega (arith, epoch-append reading log (e ∷ []))

pub number-last : {E : Type 0} (reading : Reading E) (log : List E) (e : E) (o : Option ℕ)
    → counted reading log ≡ o
    → number reading (log ++ e ∷ []) ≡ unwrap_or (counted_after reading o e) 0
number-last {E = E} reading log e o same =
    ap (λ (x : Option ℕ). unwrap_or x 0) (counted-last reading log e
    ∙ ap (λ (x : Option ℕ). counted_after reading x e) same)

pub not_started : (b : Bool) → ◌≡◌ {A = ℕ} (unwrap_or (cond b (Some 0) None) 0) 0
not_started true = refl
not_started false = refl

-- ---- while nothing is reset

abbrev NoFall : {E : Type 0} → Reading E → List E → Type 0
NoFall {E = E} reading rest = (a : ℕ) → epoch reading rest ≡ 0
    → a ≤ unwrap_or (fold (counted_after reading) (Some a) rest) 0

rises_by : {E : Type 0} (reading : Reading E) (a : ℕ) (e : E) (rest : List E) (r s : Bool)
    → reading.resets e ≡ r → reading.is_snap e ≡ s → NoFall reading rest
    → cond (reading.resets e) 1 0 + epoch reading rest ≡ 0
    → a ≤ unwrap_or (fold (counted_after reading) (counted_after reading (Some a) e) rest) 0
rises_by {E = E} reading a e rest true s is_r is_s more none =
    let one : ◌≡◌ {A = ℕ} (cond (reading.resets e) 1 0) 1 = ap (λ b. cond b 1 0) is_r in
    absurd (omega arith)
rises_by {E = E} reading a e rest false true is_r is_s more none =
    let next : counted_after reading (Some a) e ≡ Some (a + 1) =
    ap (λ b. cond b (Some 0) (cond (reading.is_snap e) (Some (a + 1)) (Some a))) is_r
    ∙ ap (λ b. cond b (Some (a + 1)) (Some a)) is_s in
    subst (λ (o : Option ℕ). a ≤ unwrap_or (fold (counted_after reading) o rest) 0) (sym next)
    (omega (arith, more (a + 1) (omega arith)))
rises_by {E = E} reading a e rest false false is_r is_s more none =
    let same : counted_after reading (Some a) e ≡ Some a =
    ap (λ b. cond b (Some 0) (cond (reading.is_snap e) (Some (a + 1)) (Some a))) is_r
    ∙ ap (λ b. cond b (Some (a + 1)) (Some a)) is_s in
    subst (λ (o : Option ℕ). a ≤ unwrap_or (fold (counted_after reading) o rest) 0) (sym same)
    (more a (omega arith))

-- while nothing of d is reset, its number doesn't fall
pub number-rises : {E : Type 0} (reading : Reading E) (rest : List E) → NoFall reading rest
number-rises {E = E} reading [] a none = omega arith
number-rises {E = E} reading (e ∷ rest) a none =
    rises_by reading a e rest (reading.resets e) (reading.is_snap e) refl refl
    (number-rises reading rest) (sym (sum_by-cons (λ x. cond (reading.resets x) 1 0) e rest) ∙ none)

-- ---- prefixes

pub epoch-parts : {E : Type 0} (reading : Reading E) (k : ℕ) (log : List E)
    → epoch reading (take k log) + epoch reading (drop k log) ≡ epoch reading log
epoch-parts {E = E} reading k log = sum_by-take-drop (λ e. cond (reading.resets e) 1 0) log k

-- the epoch rises from a prefix to a longer one
pub epoch-take-le : {E : Type 0} (reading : Reading E) (m k : ℕ) (log : List E) → m ≤ k
    → epoch reading (take m log) ≤ epoch reading (take k log)
epoch-take-le {E = E} reading m k log le =
    let e : epoch reading (take m (take k log)) ≡ epoch reading (take m log) =
    ap (epoch reading) (take-take m k log le) in
    let h = sum_by-take-le (λ x. cond (reading.resets x) 1 0) (take k log) m in
    omega (arith, e, h)

pub epoch-le : {E : Type 0} (reading : Reading E) (k : ℕ) (log : List E)
    → epoch reading (take k log) ≤ epoch reading log
epoch-le {E = E} reading k log = sum_by-take-le (λ x. cond (reading.resets x) 1 0) log k

-- where a prefix has the epoch of the whole log, so has each longer one
pub epoch-between : {E : Type 0} (reading : Reading E) (m k : ℕ) (log : List E) → m ≤ k
    → epoch reading (take m log) ≡ epoch reading log
    → epoch reading (take k log) ≡ epoch reading log
epoch-between {E = E} reading m k log le same = let low = epoch-take-le reading m k log le in
    let high = epoch-le reading k log in omega (arith, low, high, same)

grows_at : {E : Type 0} (reading : Reading E) (ys : List E) (o : Option ℕ) → epoch reading ys ≡ 0
    → unwrap_or o 0 ≤ unwrap_or (fold (counted_after reading) o ys) 0
grows_at {E = E} reading ys None none = omega arith
grows_at {E = E} reading ys (Some a) none = number-rises reading ys a none

-- while nothing of the disk is reset, its number doesn't fall
pub number-grows : {E : Type 0} (reading : Reading E) (xs ys : List E) → epoch reading ys ≡ 0
    → number reading xs ≤ number reading (xs ++ ys)
number-grows {E = E} reading xs ys none =
    subst (λ (o : Option ℕ). number reading xs ≤ unwrap_or o 0)
    (sym (fold-append (counted_after reading) None xs ys))
    (grows_at reading ys (counted reading xs) none)

pub number-take-le : {E : Type 0} (reading : Reading E) (m k : ℕ) (log : List E) → m ≤ k
    → epoch reading (take m log) ≡ epoch reading log
    → number reading (take m log) ≤ number reading (take k log)
number-take-le {E = E} reading m k log le same =
    let short : take m (take k log) ≡ take m log = take-take m k log le in
    let parts = epoch-parts reading m (take k log) in
    let e : epoch reading (take m (take k log)) ≡ epoch reading (take m log) =
    ap (epoch reading) short in
    let high = epoch-le reading k log in
    let none : epoch reading (drop m (take k log)) ≡ 0 = omega (arith, parts, e, same, high) in
    let grown = number-grows reading (take m (take k log)) (drop m (take k log)) none in
    let all : number reading (take m (take k log) ++ drop m (take k log))
    ≡ number reading (take k log) = ap (number reading) (take-append-drop m (take k log)) in
    let front : number reading (take m (take k log)) ≡ number reading (take m log) =
    ap (number reading) short in
    omega (arith, grown, all, front)

pub number-le : {E : Type 0} (reading : Reading E) (m : ℕ) (log : List E)
    → epoch reading (take m log) ≡ epoch reading log
    → number reading (take m log) ≤ number reading log
number-le {E = E} reading m log same =
    let parts = epoch-parts reading m log in
    let none : epoch reading (drop m log) ≡ 0 = omega (arith, parts, same) in
    let grown = number-grows reading (take m log) (drop m log) none in
    let all : number reading (take m log ++ drop m log) ≡ number reading log =
    ap (number reading) (take-append-drop m log) in
    omega (arith, grown, all)
