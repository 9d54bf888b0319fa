-- What a log says of a snapshot, one entry after another.
use Rattle.std.proofs.Common.{◌≡◌, ℕ, ◌+◌, ◌<◌, List, [], ◌∷◌, ◌++◌, length, take, get_or, Bool, true, false, cond, eqb, ◌||◌, ◌⊎◌, Option, Some, None, option_map, sym, ap, refl, ◌∙◌, inl, inr}
use Rattle.std.specs.List.{slice_get}
use Rattle.std.specs.Option.{option_map_or}
use Rattle.std.proofs.Math.ListN.{set}
use Rattle.std.proofs.Math.Bool.{or-false}
use Rattle.std.proofs.lemmas.Bool.{cases_eq, eq-eqb, ne_eqb}
use Rattle.std.proofs.lemmas.Option.{slice_get_within}
use Rattle.std.proofs.lemmas.List.Folds.{list_any-append}
use Rattle.basics.proofs.ItemAt.{slice_get-set_same, slice_get-set_other, take-next_read}
use Rattle.log_model.specs.declared.entry.Owner.{Owner}
use Rattle.log_model.specs.declared.entry.Act.{Act}
use Rattle.log_model.specs.declared.entry.Act.TheVariants.{Write, Snap, Remove, Reset, Enable, Off, On}
use Rattle.log_model.specs.declared.entry.Entry.{Entry}
use Rattle.log_model.specs.Entry.{removes}
use Rattle.log_model.specs.Legal.{owner_of, owner_after, owner_after_act}
use Rattle.log_model.proofs.OwnedLaws.{owner_of-last}
use Rattle.ctl_state.specs.Asks.{is_removed}
use Rattle.ctl_state.proofs.ListFacts.{length-change_at}
use Rattle.log_facts.specs.declared.snapshots.SnapshotFacts.{SnapshotFacts}
use Rattle.log_facts.specs.Snapshots.{with_owner, facts_after, snapshot_fact}

-- ---- one number is changed

changed_at : {X : Type 0} (xs : List X) (id s : ℕ) (f : X → X) (o : Option X) → slice_get xs id ≡ o
    → slice_get (option_map_or (λ x. set xs id (f x)) o xs) s
    ≡ option_map (λ x. cond (eqb id s) (f x) x) (slice_get xs s)
changed_at {X} xs id s f o at = by o at (cases_eq id s)
  where
    kept : (p : Option X) → (id ≡ s → ⊥) → p ≡ option_map (λ x. cond (eqb id s) (f x) x) p
    kept None apart = refl
    kept (Some x) apart = ap (λ b. Some (cond b (f x) x)) (sym (ne_eqb id s apart))

    by : (p : Option X) → slice_get xs id ≡ p → (id ≡ s) ⊎ (id ≡ s → ⊥)
        → slice_get (option_map_or (λ x. set xs id (f x)) p xs) s
        ≡ option_map (λ x. cond (eqb id s) (f x) x) (slice_get xs s)
    by None none (inl same) =
        let here : slice_get xs s ≡ None = ap (slice_get xs) (sym same) ∙ none in
        here ∙ sym (ap (option_map (λ x. cond (eqb id s) (f x) x)) here)
    by None none (inr apart) = kept (slice_get xs s) apart
    by (Some x) is (inl same) =
        let here : slice_get xs s ≡ Some x = ap (slice_get xs) (sym same) ∙ is in
        ap (slice_get (set xs id (f x))) (sym same)
        ∙ slice_get-set_same xs id (f x) (slice_get_within xs id x is)
        ∙ sym (ap (option_map (λ y. cond (eqb id s) (f y) y)) here
        ∙ ap (λ b. Some (cond b (f x) x)) (eq-eqb id s same))
    by (Some x) is (inr apart) =
        slice_get-set_other xs id s (f x) apart ∙ kept (slice_get xs s) apart

-- ---- what an act makes of one

abbrev fact_after : ℕ → SnapshotFacts → Act → SnapshotFacts
fact_after s fact act =
    record { owner = owner_after_act s fact.owner act; removed = fact.removed || removes s act }

abbrev with_removed : Option Owner → Bool → SnapshotFacts
with_removed owner removed = record { owner = owner; removed = removed }

stays : (fact : SnapshotFacts) → fact ≡ with_removed fact.owner (fact.removed || false)
stays fact = ap (with_removed fact.owner) (sym (or-false fact.removed))

snap_makes : (by : Owner) (b : Bool) (fact : SnapshotFacts)
    → cond b (with_owner (Some by) false fact) fact
    ≡ with_removed (cond b (Some by) fact.owner) (fact.removed || false)
snap_makes by true fact = refl
snap_makes by false fact = stays fact

remove_makes : (b : Bool) (fact : SnapshotFacts)
    → cond b (with_owner None true fact) fact
    ≡ with_removed (cond b None fact.owner) (fact.removed || b)
remove_makes true fact = refl
remove_makes false fact = stays fact

mapped : (f g : SnapshotFacts → SnapshotFacts) (o : Option SnapshotFacts) (fact : SnapshotFacts)
    → o ≡ Some fact → f fact ≡ g fact → option_map f o ≡ Some (g fact)
mapped f g o fact is same = ap (option_map f) is ∙ ap Some same

followed : (s : ℕ) (act : Act) (facts : List SnapshotFacts) (fact : SnapshotFacts)
    → slice_get facts s ≡ Some fact
    → slice_get (facts_after act facts) s ≡ Some (fact_after s fact act)
followed s (Snap id by) facts fact at =
    changed_at facts id s (with_owner (Some by) false) (slice_get facts id) refl
    ∙ mapped (λ x. cond (eqb id s) (with_owner (Some by) false x) x)
    (λ x. fact_after s x (Snap id by)) (slice_get facts s) fact at
    (snap_makes by (eqb id s) fact)
followed s (Remove id) facts fact at =
    changed_at facts id s (with_owner None true) (slice_get facts id) refl
    ∙ mapped (λ x. cond (eqb id s) (with_owner None true x) x) (λ x. fact_after s x (Remove id))
    (slice_get facts s) fact at (remove_makes (eqb id s) fact)
followed s (Write d first sectors) facts fact at = at ∙ ap Some (stays fact)
followed s (Reset d) facts fact at = at ∙ ap Some (stays fact)
followed s Enable facts fact at = at ∙ ap Some (stays fact)
followed s Off facts fact at = at ∙ ap Some (stays fact)
followed s On facts fact at = at ∙ ap Some (stays fact)

pub as_long : (act : Act) (facts : List SnapshotFacts)
    → length (facts_after act facts) ≡ length facts
as_long (Snap id by) facts = length-change_at facts id (with_owner (Some by) false)
as_long (Remove id) facts = length-change_at facts id (with_owner None true)
as_long (Write d first sectors) facts = refl
as_long (Reset d) facts = refl
as_long Enable facts = refl
as_long Off facts = refl
as_long On facts = refl

-- ---- an entry more

removed_last : (s : ℕ) (log : List Entry) (e : Entry)
    → is_removed s (log ++ e ∷ []) ≡ (is_removed s log || removes s e.act)
removed_last s log e =
    list_any-append (λ (x : Entry). removes s x.act) log (e ∷ [])
    ∙ ap (λ b. is_removed s log || b) (or-false (removes s e.act))

fact_last : (s : ℕ) (log : List Entry) (e : Entry)
    → fact_after s (snapshot_fact s log) e.act ≡ snapshot_fact s (log ++ e ∷ [])
fact_last s log e =
    let owner : owner_after s (owner_of s log) e ≡ owner_of s (log ++ e ∷ []) =
    sym (owner_of-last s log e) in
    let removed = removed_last s log e in
    cc

pub fact_more : (s : ℕ) (log : List Entry) (i : ℕ) (e : Entry) (facts : List SnapshotFacts)
    → i < length log → e ≡ get_or log i e
    → slice_get facts s ≡ Some (snapshot_fact s (take i log))
    → slice_get (facts_after e.act facts) s ≡ Some (snapshot_fact s (take (i + 1) log))
fact_more s log i e facts less is at =
    followed s e.act facts (snapshot_fact s (take i log)) at
    ∙ ap Some (fact_last s (take i log) e
    ∙ ap (snapshot_fact s) (sym (take-next_read log i e less is)))
