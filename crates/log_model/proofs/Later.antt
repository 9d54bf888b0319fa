-- What later entries leave, and which place gave a number.
use Rattle.std.proofs.Common.{◌≡◌, ℕ, zero, suc, ◌+◌, ◌<◌, ◌≤◌, List, [], ◌∷◌, ◌++◌, length, take, Bool, true, false, cond, ◌==◌, ◌&&◌, Option, Some, unwrap_or, subst, sym, ap, refl, ◌∙◌, arith, add-one}
use Rattle.std.specs.List.{find, range_with_len}
use Rattle.std.proofs.lemmas.Bool.{and_from, and_parts, eqb-true, eq-eqb, false≢true}
use Rattle.std.proofs.lemmas.Option.{same_Some}
use Rattle.log_model.specs.declared.entry.Entry.{Entry}
use Rattle.log_model.specs.Entry.{is_snap, is_enable, resets, contents}
use Rattle.log_model.specs.Marks.{reading_of, epoch, counted, number}
use Rattle.log_model.specs.Frozen.{last_off}
use Rattle.log_model.specs.PlainMachine.{numbered_place}
use Rattle.log_model.specs.Laws.{GivesNumber, NumberedPlaceGives, LaterEntriesKeep}
use Rattle.change_id.proofs.Ends.{at_place}
use Rattle.change_id.proofs.Counts.{epoch-last, not_started}
use Rattle.change_id.proofs.Numbers.{numbers_have_no_gap, no_new_number}
use Rattle.change_id.proofs.IdMarks as any
use Rattle.change_id.specs.HistoryLaws.{LaterKeep}

pub later_entries_keep : LaterEntriesKeep
later_entries_keep s log more less =
    let keep : (d : ℕ) → LaterKeep (reading_of d) s log more =
    λ d. any.later_entries_keep (reading_of d) s log more less in
    record {
      mark_stays = (keep 0).mark_stays;
      contents_stay = λ c d. ap (contents c d) (keep 0).before_stays;
      id_stays = λ machine d. (keep d).id_stays machine d;
      off_place_stays = ap last_off (keep 0).before_stays;
    }

-- ---- the first place that passes a test

pub record First (test : ℕ → Bool) (a n i : ℕ) : Type 0 where
  pub k : ℕ
  pub early : k ≤ i
  pub found : find test (range_with_len a n) ≡ Some (a + k)
  pub passes : test (a + k) ≡ true
  pub none : (j : ℕ) → j < k → test (a + j) ≡ false

first_none : (test : ℕ → Bool) (a k j : ℕ) → test a ≡ false → j < suc k
    → ((j : ℕ) → j < k → test (a + 1 + j) ≡ false) → test (a + j) ≡ false
first_none test a k zero is less none = let at : a + 0 ≡ a = omega arith in ap test at ∙ is
first_none test a k (suc j) is less none = let at : a + suc j ≡ a + 1 + j = omega arith in
    ap test at ∙ none j (omega arith)

first_at : (test : ℕ → Bool) (a n i : ℕ) (b : Bool) → test a ≡ b → i < suc n → test (a + i) ≡ true
    → ((i : ℕ) → i < n → test (a + 1 + i) ≡ true → First test (a + 1) n i) → First test a (suc n) i
first_at test a n i true is less here more =
    let at : a + 0 ≡ a = omega arith in
    record {
      k = 0;
      early = omega arith;
      found = ap (λ b. cond b (Some a) (find test (range_with_len (a + 1) n))) is
          ∙ ap Some (sym at);
      passes = ap test at ∙ is;
      none = λ j h. absurd (omega arith);
    }
first_at test a n zero false is less here more = let at : a + 0 ≡ a = omega arith in
    absurd (false≢true (sym is ∙ ap test (sym at) ∙ here))
first_at test a n (suc i) false is less here more =
    let at : a + suc i ≡ a + 1 + i = omega arith in
    let rest : First test (a + 1) n i = more i (omega arith) (ap test (sym at) ∙ here) in
    let k : ℕ = rest.k in
    let back : a + 1 + k ≡ a + suc k = omega arith in
    record {
      k = suc k;
      early = omega (arith, rest.early);
      found = ap (λ b. cond b (Some a) (find test (range_with_len (a + 1) n))) is ∙ rest.found
          ∙ ap Some back;
      passes = ap test (sym back) ∙ rest.passes;
      none = λ j h. first_none test a k j is h rest.none;
    }

pub first_passing : (test : ℕ → Bool) (a n i : ℕ) → i < n → test (a + i) ≡ true → First test a n i
first_passing test a zero i less here = absurd (omega arith)
first_passing test a (suc n) i less here =
    first_at test a n i (test a) refl less here
    (λ i less here. first_passing test (a + 1) n i less here)

-- ---- the first place with the number is that of a Snap entry

abbrev gives : ℕ → ℕ → List Entry → ℕ → Bool
gives d n log k = epoch d (take (k + 1) log) == epoch d log && number d (take (k + 1) log) == n

-- where an entry takes no snapshot, the place before it had the number too
no_snap : (d n k : ℕ) (log : List Entry) (e : Entry) → 1 ≤ n
    → take (suc k) log ≡ take k log ++ e ∷ [] → is_snap e.act ≡ false
    → epoch d (take (suc k) log) ≡ epoch d log
    → number d (take (suc k) log) ≡ n → ((j : ℕ) → j < k → gives d n log j ≡ false) → ⊥
no_snap d n zero log e low upto none epochs numbered first =
    let zero_now : number d (take 1 log) ≡ 0 = ap (number d) upto ∙ not_started (is_enable e.act) in
    omega arith
no_snap d n (suc j) log e low upto none epochs numbered first =
    let short : List Entry = take (suc j) log in
    let old = no_new_number (reading_of d) n short e (counted d short) (resets d e.act) refl refl
    none low (ap (number d) (sym upto) ∙ numbered) in
    let same_place : take (j + 1) log ≡ short = ap (λ m. take m log) (add-one j) in
    let epoch_here : epoch d (take (j + 1) log) ≡ epoch d log =
    ap (epoch d) same_place ∙ sym (ap (epoch d) upto ∙ epoch-last (reading_of d) short e old.1)
    ∙ epochs in
    let number_here : number d (take (j + 1) log) ≡ n = ap (number d) same_place ∙ old.0 in
    false≢true (sym (first j (omega arith))
    ∙ and_from (epoch d (take (j + 1) log) == epoch d log) (number d (take (j + 1) log) == n)
    (eq-eqb (epoch d (take (j + 1) log)) (epoch d log) epoch_here)
    (eq-eqb (number d (take (j + 1) log)) n number_here))

is_taken : (d n k : ℕ) (log : List Entry) (e : Entry) (s : Bool) → 1 ≤ n
    → take (suc k) log ≡ take k log ++ e ∷ [] → is_snap e.act ≡ s
    → epoch d (take (suc k) log) ≡ epoch d log
    → number d (take (suc k) log) ≡ n → ((j : ℕ) → j < k → gives d n log j ≡ false)
    → is_snap e.act ≡ true
is_taken d n k log e true low upto is epochs numbered first = is
is_taken d n k log e false low upto is epochs numbered first =
    absurd (no_snap d n k log e low upto is epochs numbered first)

pub numbered_place_gives : NumberedPlaceGives
numbered_place_gives d n log low high =
    let some = numbers_have_no_gap (reading_of d) n log low high in
    let place : ℕ = some.0 in
    let at : 0 + place ≡ place = omega arith in
    let passes : gives d n log (0 + place) ≡ true =
    ap (gives d n log) at
    ∙ and_from (epoch d (take (place + 1) log) == epoch d log)
    (number d (take (place + 1) log) == n)
    (eq-eqb (epoch d (take (place + 1) log)) (epoch d log) some.1.same_epoch)
    (eq-eqb (number d (take (place + 1) log)) n some.1.numbered) in
    let first : First (gives d n log) 0 (length log) place =
    first_passing (gives d n log) 0 (length log) place some.1.snapshot.within passes in
    let k : ℕ = first.k in
    let start : 0 + k ≡ k = omega arith in
    let here : numbered_place d n log ≡ k =
    ap (λ (o : Option ℕ). unwrap_or o (length log)) first.found ∙ start in
    let parts = and_parts (epoch d (take (k + 1) log) == epoch d log)
    (number d (take (k + 1) log) == n) (ap (gives d n log) (sym start) ∙ first.passes) in
    let epochs : epoch d (take (k + 1) log) ≡ epoch d log =
    eqb-true (epoch d (take (k + 1) log)) (epoch d log) parts.0 in
    let numbered : number d (take (k + 1) log) ≡ n =
    eqb-true (number d (take (k + 1) log)) n parts.1 in
    let inside : k < length log = omega (arith, first.early, some.1.snapshot.within) in
    let entry = at_place log k inside in
    let next : take (suc k) log ≡ take (k + 1) log = ap (λ m. take m log) (sym (add-one k)) in
    let taken : is_snap (entry.0).act ≡ true =
    is_taken d n k log entry.0 (is_snap (entry.0).act) low entry.2 refl (ap (epoch d) next ∙ epochs)
    (ap (number d) next ∙ numbered) (λ j less. let same : 0 + j ≡ j = omega arith in
    ap (gives d n log) (sym same) ∙ first.none j less) in
    subst (GivesNumber d n log) (sym here) (record {
      snapshot = record {
        within = inside;
        by_snap = λ x read. subst (λ (y : Entry). is_snap y.act ≡ true)
            (same_Some entry.0 x (sym entry.1 ∙ read)) taken;
      };
      same_epoch = epochs;
      numbered = numbered;
    })
