-- The sequence numbers of one epoch: each is given, and once.
use Rattle.std.proofs.Common.{◌≡◌, ℕ, ◌+◌, ◌<◌, ◌≤◌, List, [], ◌∷◌, ◌++◌, length, take, drop, Bool, true, false, cond, Option, Some, None, unwrap_or, subst, sym, ap, refl, ◌∙◌, arith, length-append, add-one, inl, inr}
use Rattle.std.specs.List.{fold}
use Rattle.std.proofs.lemmas.Bool.{cases_eq, cases_lt}
use Rattle.std.proofs.lemmas.List.{take-append-le, take-append-drop, take-take, take_all}
use Rattle.std.proofs.lemmas.List.Sums.{fold-append, sum_by-take-le}
use Rattle.change_id.specs.History.{Reading, epoch, counted, counted_after, number, GivesNumber}
use Rattle.change_id.proofs.Ends.{by_last, at_place, read-front, read-last}
use Rattle.change_id.proofs.Counts.{epoch-append, number-last, not_started, number-rises}

-- what was given stays given while the epoch lasts
pub still-given : {E : Type 0} (reading : Reading E) (n : ℕ) (log more : List E) (place : ℕ)
    → epoch reading more ≡ 0 → GivesNumber reading n log place
    → GivesNumber reading n (log ++ more) place
still-given {E = E} reading n log more place none given =
    let within = given.snapshot.within in
    let le : place + 1 ≤ length log = omega (arith, within) in
    let same : take (place + 1) (log ++ more) ≡ take (place + 1) log =
    take-append-le (place + 1) log more le in
    let longer = epoch-append reading log more in
    let stays : epoch reading log ≡ epoch reading (log ++ more) = omega (arith, longer, none) in
    record {
      snapshot = record {
        within = omega (arith, within, length-append log more);
        by_snap = λ x read. given.snapshot.by_snap x (read-front log more place x within read);
      };
      same_epoch = ap (epoch reading) same ∙ given.same_epoch ∙ stays;
      numbered = ap (number reading) same ∙ given.numbered;
    }

-- a snapshot at the end gives the next number
gives_next : {E : Type 0} (reading : Reading E) (n : ℕ) (log : List E) (e : E)
    → reading.is_snap e ≡ true → number reading (log ++ e ∷ []) ≡ n
    → GivesNumber reading n (log ++ e ∷ []) (length log)
gives_next {E = E} reading n log e snap next =
    let all : take (length log + 1) (log ++ e ∷ []) ≡ log ++ e ∷ [] =
    take_all (length log + 1) (log ++ e ∷ []) (omega (arith, length-append log (e ∷ []))) in
    record {
      snapshot = record {
        within = omega (arith, length-append log (e ∷ []));
        by_snap = λ x read. subst (λ (y : E). reading.is_snap y ≡ true) (read-last log e x read)
            snap;
      };
      same_epoch = ap (epoch reading) all;
      numbered = ap (number reading) all ∙ next;
    }

abbrev Given : {E : Type 0} → Reading E → List E → Type 0
Given {E = E} reading log = (n : ℕ) → 1 ≤ n → n ≤ number reading log
    → (place : ℕ) × GivesNumber reading n log place

gap_step : {E : Type 0} (reading : Reading E) (log : List E) (e : E) (o : Option ℕ) (r s : Bool)
    → counted reading log ≡ o → reading.resets e ≡ r → reading.is_snap e ≡ s → Given reading log
    → Given reading (log ++ e ∷ [])
gap_step {E = E} reading log e None r s same is_r is_s given n low high =
    let now : number reading (log ++ e ∷ []) ≡ 0 =
    number-last reading log e None same ∙ not_started (reading.enables e) in
    absurd (omega arith)
gap_step {E = E} reading log e (Some m) true s same is_r is_s given n low high =
    let now : number reading (log ++ e ∷ []) ≡ 0 =
    number-last reading log e (Some m) same
    ∙ ap (λ b. unwrap_or (cond b (Some 0) (cond (reading.is_snap e) (Some (m + 1)) (Some m))) 0)
    is_r in absurd (omega arith)
gap_step {E = E} reading log e (Some m) false false same is_r is_s given n low high =
    let now : number reading (log ++ e ∷ []) ≡ m =
    number-last reading log e (Some m) same
    ∙ ap (λ b. unwrap_or (cond b (Some 0) (cond (reading.is_snap e) (Some (m + 1)) (Some m))) 0)
    is_r ∙ ap (λ b. unwrap_or (cond b (Some (m + 1)) (Some m)) 0) is_s in
    let was : number reading log ≡ m = ap (λ (x : Option ℕ). unwrap_or x 0) same in
    let old = given n low (omega arith) in
    (old.0, still-given reading n log (e ∷ []) old.0 (ap (λ b. 0 + cond b 1 0) is_r) old.1)
gap_step {E = E} reading log e (Some m) false true same is_r is_s given n low high =
    let now : number reading (log ++ e ∷ []) ≡ m + 1 =
    number-last reading log e (Some m) same
    ∙ ap (λ b. unwrap_or (cond b (Some 0) (cond (reading.is_snap e) (Some (m + 1)) (Some m))) 0)
    is_r ∙ ap (λ b. unwrap_or (cond b (Some (m + 1)) (Some m)) 0) is_s in
    let was : number reading log ≡ m = ap (λ (x : Option ℕ). unwrap_or x 0) same in
    elim (cases_eq n (m + 1)) [
      | inl next ↦ (length log, gives_next reading n log e is_s (now ∙ sym next))
      | inr older ↦ let old = given n low (omega arith) in
          (old.0, still-given reading n log (e ∷ []) old.0 (ap (λ b. 0 + cond b 1 0) is_r) old.1)
    ]

pub numbers_have_no_gap : {E : Type 0} (reading : Reading E) (n : ℕ) (log : List E) → 1 ≤ n
    → n ≤ number reading log → (place : ℕ) × GivesNumber reading n log place
numbers_have_no_gap {E = E} reading n log low high =
    by_last (Given reading) (λ n low high. absurd (omega arith))
    (λ log e given. gap_step reading log e (counted reading log) (reading.resets e)
    (reading.is_snap e) refl refl refl given) log n low high

-- a number above 0 is what was counted
counted_is : (o : Option ℕ) (n : ℕ) → 1 ≤ n → unwrap_or o 0 ≡ n → o ≡ Some n
counted_is None n low same = absurd (omega arith)
counted_is (Some m) n low same = ap Some same

-- a snapshot adds one to a number that it makes positive
one_less : {E : Type 0} (reading : Reading E) (n : ℕ) (log : List E) (e : E) (o : Option ℕ)
    (r : Bool) → counted reading log ≡ o → reading.resets e ≡ r → reading.is_snap e ≡ true → 1 ≤ n
    → number reading (log ++ e ∷ []) ≡ n → number reading log + 1 ≡ n
one_less {E = E} reading n log e None r same is_r snap low now =
    let zero_now : number reading (log ++ e ∷ []) ≡ 0 =
    number-last reading log e None same ∙ not_started (reading.enables e) in
    absurd (omega arith)
one_less {E = E} reading n log e (Some m) true same is_r snap low now =
    let zero_now : number reading (log ++ e ∷ []) ≡ 0 =
    number-last reading log e (Some m) same
    ∙ ap (λ b. unwrap_or (cond b (Some 0) (cond (reading.is_snap e) (Some (m + 1)) (Some m))) 0)
    is_r in absurd (omega arith)
one_less {E = E} reading n log e (Some m) false same is_r snap low now =
    let next : number reading (log ++ e ∷ []) ≡ m + 1 =
    number-last reading log e (Some m) same
    ∙ ap (λ b. unwrap_or (cond b (Some 0) (cond (reading.is_snap e) (Some (m + 1)) (Some m))) 0)
    is_r ∙ ap (λ b. unwrap_or (cond b (Some (m + 1)) (Some m)) 0) snap in
    let was : number reading log ≡ m = ap (λ (x : Option ℕ). unwrap_or x 0) same in
    omega arith

-- no earlier place had the number that a snapshot gives
pub once : {E : Type 0} (reading : Reading E) (n i k : ℕ) (log : List E) → 1 ≤ n → i < k
    → epoch reading (take (i + 1) log) ≡ epoch reading log → number reading (take (i + 1) log) ≡ n
    → GivesNumber reading n log k → ⊥
once {E = E} reading n i k log low less first_epoch first_number second =
    let here = at_place log k second.snapshot.within in
    let e : E = here.0 in
    let short : List E = take k log in
    let upto : take (k + 1) log ≡ short ++ e ∷ [] = ap (λ m. take m log) (add-one k) ∙ here.2 in
    let last : number reading short + 1 ≡ n =
    one_less reading n short e (counted reading short) (reading.resets e) refl refl
    (second.snapshot.by_snap e here.1) low (ap (number reading) (sym upto) ∙ second.numbered) in
    let le : i + 1 ≤ k = omega arith in
    let front : take (i + 1) short ≡ take (i + 1) log = take-take (i + 1) k log le in
    let rest : List E = drop (i + 1) short in
    let whole : take (i + 1) short ++ rest ≡ short = take-append-drop (i + 1) short in
    let front_epoch : epoch reading (take (i + 1) short) ≡ epoch reading log =
    ap (epoch reading) front ∙ first_epoch in
    let sums : epoch reading short ≡ epoch reading (take (i + 1) short) + epoch reading rest =
    ap (epoch reading) (sym whole) ∙ epoch-append reading (take (i + 1) short) rest in
    let most = sum_by-take-le (λ x. cond (reading.resets x) 1 0) log k in
    let none : epoch reading rest ≡ 0 = omega arith in
    let started : counted reading (take (i + 1) short) ≡ Some n =
    counted_is (counted reading (take (i + 1) short)) n low (ap (number reading) front
    ∙ first_number) in
    let then : counted reading short ≡ fold (counted_after reading) (Some n) rest =
    ap (counted reading) (sym whole)
    ∙ fold-append (counted_after reading) None (take (i + 1) short) rest
    ∙ ap (λ (o : Option ℕ). fold (counted_after reading) o rest) started in
    let now : number reading short ≡ unwrap_or (fold (counted_after reading) (Some n) rest) 0 =
    ap (λ (o : Option ℕ). unwrap_or o 0) then in
    omega (arith, number-rises reading rest n none)

pub numbers_differ : {E : Type 0} (reading : Reading E) (n i k : ℕ) (log : List E) → 1 ≤ n
    → GivesNumber reading n log i → GivesNumber reading n log k → i ≡ k
numbers_differ {E = E} reading n i k log low first second =
    elim (cases_eq i k) [
      | inl same ↦ same
      | inr other ↦ elim (cases_lt i k) [
        | inl less ↦ absurd (once reading n i k log low less first.same_epoch first.numbered
            second)
        | inr more ↦ let less : k < i = omega arith in
            absurd (once reading n k i log low less second.same_epoch second.numbered first)
      ]
    ]

-- an entry that takes no snapshot gives no new number
pub no_new_number : {E : Type 0} (reading : Reading E) (n : ℕ) (log : List E) (e : E) (o : Option ℕ)
    (r : Bool) → counted reading log ≡ o → reading.resets e ≡ r → reading.is_snap e ≡ false → 1 ≤ n
    → number reading (log ++ e ∷ []) ≡ n
    → (number reading log ≡ n) × (reading.resets e ≡ false)
no_new_number {E = E} reading n log e None r same is_r none low now =
    let zero_now : number reading (log ++ e ∷ []) ≡ 0 =
    number-last reading log e None same ∙ not_started (reading.enables e) in
    absurd (omega arith)
no_new_number {E = E} reading n log e (Some m) true same is_r none low now =
    let zero_now : number reading (log ++ e ∷ []) ≡ 0 =
    number-last reading log e (Some m) same
    ∙ ap (λ b. unwrap_or (cond b (Some 0) (cond (reading.is_snap e) (Some (m + 1)) (Some m))) 0)
    is_r in absurd (omega arith)
no_new_number {E = E} reading n log e (Some m) false same is_r none low now =
    let stays : number reading (log ++ e ∷ []) ≡ m =
    number-last reading log e (Some m) same
    ∙ ap (λ b. unwrap_or (cond b (Some 0) (cond (reading.is_snap e) (Some (m + 1)) (Some m))) 0)
    is_r ∙ ap (λ b. unwrap_or (cond b (Some (m + 1)) (Some m)) 0) none in
    let was : number reading log ≡ m = ap (λ (x : Option ℕ). unwrap_or x 0) same in
    (was ∙ sym stays ∙ now, is_r)
