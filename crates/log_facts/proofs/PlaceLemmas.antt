-- What stands at each place of a log, one entry after another.
use Rattle.std.proofs.Common.{◌≡◌, ℕ, ◌+◌, ◌<◌, List, [], ◌∷◌, ◌++◌, length, take, get_or, Bool, true, false, cond, ◌||◌, Some, sym, ap, refl, ◌∙◌, arith, inl, inr}
use Rattle.std.specs.List.{slice_get}
use Rattle.std.proofs.lemmas.Bool.{cases_eq}
use Rattle.std.proofs.lemmas.List.{length_push, length-take-le}
use Rattle.basics.proofs.ItemAt.{slice_get-front, slice_get-last, take-next_read}
use Rattle.log_model.specs.declared.entry.Entry.{Entry}
use Rattle.log_model.specs.Entry.{is_enable}
use Rattle.log_model.specs.Legal.{is_enabled}
use Rattle.log_model.specs.Frozen.{last_off, off_after}
use Rattle.log_model.proofs.IdsExist.{enabled-last}
use Rattle.log_model.proofs.OffLaws.{last_off-last}
use Rattle.log_facts.specs.declared.places.PlaceFacts.{PlaceFacts}
use Rattle.log_facts.specs.Places.{place_after, place_facts}

or_cond : (x y : Bool) → (x || y) ≡ cond y true x
or_cond true true = refl
or_cond true false = refl
or_cond false true = refl
or_cond false false = refl

place_last : (log : List Entry) (e : Entry)
    → place_after (place_facts log) (length log) e ≡ place_facts (log ++ e ∷ [])
place_last log e =
    let enabled : (is_enabled log || is_enable e.act) ≡ is_enabled (log ++ e ∷ []) =
    or_cond (is_enabled log) (is_enable e.act) ∙ sym (enabled-last log e) in
    let off : off_after (last_off log) (length log, e) ≡ last_off (log ++ e ∷ []) =
    sym (last_off-last log e) in
    cc

pub place_more : (log : List Entry) (i : ℕ) (now : PlaceFacts) (e : Entry) → i < length log
    → e ≡ get_or log i e → now ≡ place_facts (take i log)
    → place_after now i e ≡ place_facts (take (i + 1) log)
place_more log i now e less is at =
    ap (λ (p : PlaceFacts). place_after p i e) at
    ∙ ap (λ j. place_after (place_facts (take i log)) j e)
    (sym (length-take-le i log (omega (arith, less))))
    ∙ place_last (take i log) e ∙ ap place_facts (sym (take-next_read log i e less is))

-- the first n places
pub record AreFirstPlaces (log : List Entry) (n : ℕ) (places : List PlaceFacts) : Type 0 where
  pub long : length places ≡ n
  pub each : (k : ℕ) → k < n → slice_get places k ≡ Some (place_facts (take k log))

pub kept_more : (log : List Entry) (n : ℕ) (places : List PlaceFacts) (x : PlaceFacts)
    → AreFirstPlaces log n places → x ≡ place_facts (take n log)
    → AreFirstPlaces log (n + 1) (places ++ x ∷ [])
kept_more log n places x kept is = record {
  long = omega (arith, length_push places x, kept.long);
  each = λ k less. elim (cases_eq k n) [
    | inl same ↦ ap (slice_get (places ++ x ∷ [])) (same ∙ sym kept.long) ∙ slice_get-last places x
        ∙ ap Some (is ∙ ap (λ j. place_facts (take j log)) (sym same))
    | inr other ↦ slice_get-front places (x ∷ []) k (omega (arith, less, other, kept.long))
        ∙ kept.each k (omega (arith, less, other))
  ];
}
