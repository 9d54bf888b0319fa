-- What a query answers once more entries came, and what a snapshot's own identifier is answered.
use Rattle.std.proofs.Common.{◌≡◌, ℕ, ◌+◌, ◌<◌, ◌≤◌, List, ◌++◌, length, take, drop, Bool, true, false, cond, ◌&&◌, ◌==◌, nat_le, Option, unwrap_or, Ok, Err, sym, ap, refl, ◌∙◌, arith, ◌⊎◌, inl, inr}
use Rattle.std.proofs.lemmas.Bool.{cases_eq, eqb-true, eq-eqb, ne_eqb, le-leb, leb-true, false≢true}
use Rattle.std.proofs.lemmas.List.{take-append-le}
use Rattle.sector_model.specs.Run.{touched_blocks, areas_of}
use Rattle.sector_model.specs.declared.run.Run.{Run}
use Rattle.change_id.specs.ChangeId.{packed}
use Rattle.change_id.specs.declared.ChangeId.{ChangeId}
use Rattle.change_id.specs.declared.Since.TheVariants.{All as Everything, From}
use Rattle.log_model.specs.declared.entry.Entry.{Entry}
use Rattle.log_model.specs.Entry.{writes_of}
use Rattle.log_model.specs.Marks.{reading_of, mark, before, through, epoch, number, in_force, mark_of_id, HasId}
use Rattle.log_model.specs.Touched.{touched_areas}
use Rattle.log_model.specs.Query.{changed_areas, accepts}
use Rattle.log_model.specs.PlainMachine.{numbered_place}
use Rattle.log_model.specs.Laws.{AnswersStay, IdsAnswerBetween, NumberedPlaceIsMark}
use Rattle.change_id.proofs.Counts.{epoch-append, epoch-between, number-take-le, number-le}
use Rattle.log_model.proofs.Later.{later_entries_keep, numbered_place_gives}
use Rattle.change_id.proofs.Answered.{ok_part}
use Rattle.change_id.proofs.IdMarks.{found-has, epoch-there, in_force-parts, in_force-made, same-epochs}
use Rattle.log_model.proofs.Readings.{apart, marks_of_ids}

-- ---- a test of four parts

pub record FourHold (a b c e : Bool) : Type 0 where
  pub one : a ≡ true
  pub two : b ≡ true
  pub three : c ≡ true
  pub four : e ≡ true

four-parts : (a b c e : Bool) → (a && b && c && e) ≡ true → FourHold a b c e
four-parts true true true e h = record { one = refl; two = refl; three = refl; four = h }
four-parts true true false e h = absurd (false≢true h)
four-parts true false c e h = absurd (false≢true h)
four-parts false b c e h = absurd (false≢true h)

four-made : (a b c e : Bool) → FourHold a b c e → (a && b && c && e) ≡ true
four-made a b c e h =
    ap (λ x. x && b && c && e) h.one ∙ ap (λ x. x && c && e) h.two ∙ ap (λ x. x && e) h.three
    ∙ h.four

first-fails : (a b c e : Bool) → a ≡ false → (a && b && c && e) ≡ false
first-fails a b c e h = ap (λ x. x && b && c && e) h

second-fails : (a b c e : Bool) → b ≡ false → (a && b && c && e) ≡ false
second-fails true b c e h = ap (λ x. x && c && e) h
second-fails false b c e h = refl

-- ---- after more entries

touched-same : (c d i s : ℕ) (log more : List Entry) → mark s log < length log
    → touched_areas c d i (mark s (log ++ more)) (log ++ more)
    ≡ touched_areas c d i (mark s log) log
touched-same c d i s log more less =
    let keep = later_entries_keep s log more less in
    ap (λ n. touched_areas c d i n (log ++ more)) keep.mark_stays
    ∙ ap (λ (xs : List Entry). areas_of c (touched_blocks c (writes_of d (drop i xs))))
    (take-append-le (mark s log) log more (omega arith))

-- a snapshot's number is one of those given, while its epoch lasts
number-within : (d s q : ℕ) (log : List Entry) → epoch d (before s log) ≡ epoch d log
    → q ≤ number d (through s log) → q ≤ number d log
number-within d s q log same le =
    let upto : epoch d (through s log) ≡ epoch d log =
    epoch-between (reading_of d) (mark s log) (mark s log + 1) log (omega arith) same in
    let grown = number-le (reading_of d) (mark s log + 1) log upto in
    omega (arith, grown, le)

-- an accepted identifier is had by the snapshot whose number it has
pub numbered_place_is_mark : NumberedPlaceIsMark
numbered_place_is_mark machine d s id log accepted =
    let parts = four-parts (id.uuid == packed machine d (epoch d log))
    (epoch d (before s log) == epoch d log) (nat_le 1 id.seq)
    (nat_le id.seq (number d (through s log))) accepted in
    let low : 1 ≤ id.seq = leb-true 1 id.seq parts.three in
    let high : id.seq ≤ number d log =
    number-within d s id.seq log (eqb-true (epoch d (before s log)) (epoch d log) parts.two)
    (leb-true id.seq (number d (through s log)) parts.four) in
    let place : ℕ = numbered_place d id.seq log in
    let given = numbered_place_gives d id.seq log low high in
    let numbered = given.numbered in
    found-has (reading_of d) machine d id log place (record {
      snapshot = given.snapshot;
      identified = in_force-made (reading_of d) machine d id (take (place + 1) log) (record {
        counted = omega (arith, low, numbered);
        uuid = eqb-true id.uuid (packed machine d (epoch d log)) parts.one
            ∙ ap (packed machine d) (sym given.same_epoch);
        seq = sym numbered;
      });
    })

from-stays : (machine c d s : ℕ) (id : ChangeId) (log more : List Entry) (areas : List Run)
    → mark s log < length log → accepts machine d s id log ≡ true
    → touched_areas c d (unwrap_or (mark_of_id machine d id log) 0) (mark s log) log ≡ areas
    → (changed_areas machine c d s (From id) (log ++ more) ≡ Ok areas)
    ⊎ (changed_areas machine c d s (From id) (log ++ more)
    ≡ Err (in_force machine d (log ++ more)))
from-stays machine c d s id log more areas less accepted told =
    let parts = four-parts (id.uuid == packed machine d (epoch d log))
    (epoch d (before s log) == epoch d log) (nat_le 1 id.seq)
    (nat_le id.seq (number d (through s log))) accepted in
    let was_same : epoch d (before s log) ≡ epoch d log =
    eqb-true (epoch d (before s log)) (epoch d log) parts.two in
    let keep = later_entries_keep s log more less in
    let short : mark s log ≤ length log = omega arith in
    let next : mark s log + 1 ≤ length log = omega arith in
    let front : before s (log ++ more) ≡ before s log =
    ap (λ n. take n (log ++ more)) keep.mark_stays
    ∙ take-append-le (mark s log) log more short in
    let upto : through s (log ++ more) ≡ through s log =
    ap (λ n. take (n + 1) (log ++ more)) keep.mark_stays
    ∙ take-append-le (mark s log + 1) log more next in
    let longer = epoch-append (reading_of d) log more in
    elim (cases_eq (epoch d more) 0) [
      | inl none ↦
          let stays : epoch d (log ++ more) ≡ epoch d log = omega (arith, longer, none) in
          let all : accepts machine d s id (log ++ more) ≡ true =
          four-made (id.uuid == packed machine d (epoch d (log ++ more)))
          (epoch d (before s (log ++ more)) == epoch d (log ++ more)) (nat_le 1 id.seq)
          (nat_le id.seq (number d (through s (log ++ more))))
          (record {
            one = ap (λ n. id.uuid == packed machine d n) stays ∙ parts.one;
            two = eq-eqb (epoch d (before s (log ++ more))) (epoch d (log ++ more))
                (ap (epoch d) front ∙ was_same ∙ sym stays);
            three = parts.three;
            four = ap (λ (xs : List Entry). nat_le id.seq (number d xs)) upto ∙ parts.four;
          }) in
          let here = numbered_place_is_mark machine d s id log accepted in
          let later = (marks_of_ids machine d id log).stays (numbered_place d id.seq log) more here
          in
          inl (ap (λ b. cond b (Ok
          (touched_areas c d (unwrap_or (mark_of_id machine d id (log ++ more)) 0)
          (mark s (log ++ more)) (log ++ more))) (Err (in_force machine d (log ++ more)))) all
          ∙ ap Ok (ap (λ (o : Option ℕ). touched_areas c d (unwrap_or o 0) (mark s (log ++ more))
          (log ++ more)) (later ∙ sym here)
          ∙ touched-same c d (unwrap_or (mark_of_id machine d id log) 0) s log more less ∙ told))
      | inr some ↦
          let apart : epoch d (before s (log ++ more)) ≡ epoch d (log ++ more) → ⊥ =
          λ same. absurd (omega (arith, same, ap (epoch d) front, was_same, longer, some)) in
          let none : accepts machine d s id (log ++ more) ≡ false =
          second-fails (id.uuid == packed machine d (epoch d (log ++ more)))
          (epoch d (before s (log ++ more)) == epoch d (log ++ more)) (nat_le 1 id.seq)
          (nat_le id.seq (number d (through s (log ++ more))))
          (ne_eqb (epoch d (before s (log ++ more))) (epoch d (log ++ more)) apart) in
          inr (ap (λ b. cond b (Ok
          (touched_areas c d (unwrap_or (mark_of_id machine d id (log ++ more)) 0)
          (mark s (log ++ more)) (log ++ more))) (Err (in_force machine d (log ++ more)))) none)
    ]

ok_only : (b : Bool) (x y : List Run) (e : Option ChangeId) → cond b (Ok x) (Err e) ≡ Ok y
    → b ≡ true
ok_only true x y e h = refl
ok_only false x y e h = absurd (cc)

pub answers_stay : AnswersStay
answers_stay machine c d s Everything log more areas less found =
    inl (ap Ok (touched-same c d 0 s log more less) ∙ found)
answers_stay machine c d s (From id) log more areas less found =
    let told : List Run =
    touched_areas c d (unwrap_or (mark_of_id machine d id log) 0) (mark s log) log in
    from-stays machine c d s id log more areas less
    (ok_only (accepts machine d s id log) told areas (in_force machine d log) found)
    (ok_part (accepts machine d s id log) told areas (in_force machine d log) found)

-- ---- the identifier of the snapshot at a place

accepted-between : (machine c d place s : ℕ) (id : ChangeId) (log : List Entry)
    → HasId machine d id log place → place ≤ mark s log → mark s log < length log
    → epoch d (take place log) ≡ epoch d log
    → changed_areas machine c d s (From id) log ≡ Ok (touched_areas c d place (mark s log) log)
accepted-between machine c d place s id log has le within front =
    let own = in_force-parts (reading_of d) machine d id (take (place + 1) log) has.identified in
    let upto : epoch d (take (place + 1) log) ≡ epoch d log =
    epoch-between (reading_of d) place (place + 1) log (omega arith) front in
    let here : epoch d (before s log) ≡ epoch d log =
    epoch-between (reading_of d) place (mark s log) log le front in
    let grown = number-take-le (reading_of d) (place + 1) (mark s log + 1) log (omega arith) upto in
    let low : 1 ≤ id.seq = let l = own.counted in let q = own.seq in omega (arith, l, q) in
    let all : accepts machine d s id log ≡ true =
    four-made (id.uuid == packed machine d (epoch d log))
    (epoch d (before s log) == epoch d log) (nat_le 1 id.seq)
    (nat_le id.seq (number d (through s log)))
    (record {
      one = eq-eqb id.uuid (packed machine d (epoch d log)) (own.uuid ∙ ap (packed machine d) upto);
      two = eq-eqb (epoch d (before s log)) (epoch d log) here;
      three = le-leb 1 id.seq low;
      four = le-leb id.seq (number d (through s log)) (let q = own.seq in omega (arith, grown, q));
    }) in
    ap (λ x. cond x (Ok (touched_areas c d (unwrap_or (mark_of_id machine d id log) 0) (mark s log)
    log)) (Err (in_force machine d log))) all
    ∙ ap Ok (ap (λ (o : Option ℕ). touched_areas c d (unwrap_or o 0) (mark s log) log)
    (found-has (reading_of d) machine d id log place has))

strange-between : (machine c d place s : ℕ) (id : ChangeId) (log : List Entry)
    → HasId machine d id log place → (epoch d (take place log) ≡ epoch d log → ⊥)
    → changed_areas machine c d s (From id) log ≡ Err (in_force machine d log)
strange-between machine c d place s id log has reset =
    let own = in_force-parts (reading_of d) machine d id (take (place + 1) log) has.identified in
    let apart : id.uuid ≡ packed machine d (epoch d log) → ⊥ = λ same.
    reset (sym (epoch-there (reading_of d) log place (apart d) has.snapshot)
    ∙ same-epochs machine d (epoch d (take (place + 1) log)) (epoch d log)
    (sym own.uuid ∙ same)) in
    ap (λ x. cond x (Ok (touched_areas c d (unwrap_or (mark_of_id machine d id log) 0) (mark s log)
    log)) (Err (in_force machine d log)))
    (first-fails (id.uuid == packed machine d (epoch d log)) (epoch d (before s log) == epoch d log)
    (nat_le 1 id.seq) (nat_le id.seq (number d (through s log)))
    (ne_eqb id.uuid (packed machine d (epoch d log)) apart))

pub ids_answer_between : IdsAnswerBetween
ids_answer_between machine c d place s id log has le within = record {
  accepted = accepted-between machine c d place s id log has le within;
  strange = strange-between machine c d place s id log has;
}

-- what an accepted identifier is answered, from the place that has its number
pub told-from : (machine c d s place : ℕ) (id : ChangeId) (log : List Entry)
    → accepts machine d s id log ≡ true → place ≡ numbered_place d id.seq log
    → changed_areas machine c d s (From id) log ≡ Ok (touched_areas c d place (mark s log) log)
told-from machine c d s place id log accepted at =
    ap (λ x. cond x (Ok (touched_areas c d (unwrap_or (mark_of_id machine d id log) 0) (mark s log)
    log)) (Err (in_force machine d log))) accepted
    ∙ ap Ok (ap (λ (o : Option ℕ). touched_areas c d (unwrap_or o 0) (mark s log) log)
    (numbered_place_is_mark machine d s id log accepted)
    ∙ ap (λ k. touched_areas c d k (mark s log) log) (sym at))
