-- What is found of a snapshot, and the answers to a query of it.
use Rattle.std.proofs.Common.{◌≡◌, ◌≢◌, ℕ, zero, suc, ◌+◌, ◌-◌, ◌<◌, ◌≤◌, List, [], ◌∷◌, length, take, get_or, Bool, true, false, cond, ◌&&◌, ◌||◌, ◌==◌, eqb, ltb, leb, not, Option, Some, None, Bor, unwrap_or, Result, Ok, Err, IsOk, sym, ap, refl, ◌∙◌, arith, inl, inr}
use Rattle.std.specs.List.{list_any, slice_get}
use Rattle.std.specs.List.Sorted.{IsPartitionPoint, IsNonDecreasingBy}
use Rattle.std.specs.Slice.{IsItemAt}
use Rattle.std.proofs.lemmas.Bool.{and_parts, cases_eq, cases_lt, eq-eqb, ne_eqb, eqb-true, ltb-true, ltb-false, lt-leb, leb-true, false≢true, and_right, or_right}
use Rattle.std.proofs.lemmas.List.{get_or_default}
use Rattle.std.proofs.lemmas.Option.{same_Some, none-some}
use Rattle.std.proofs.lemmas.List.Folds.{list_any_none}
use Rattle.sector_model.specs.Run.{blocks_where, areas_of}
use Rattle.basics.specs.Refusal.{IsRefusedBy}
use Rattle.change_id.specs.ChangeId.{id_of, packed}
use Rattle.change_id.specs.History as history
use Rattle.change_id.specs.declared.ChangeId.{ChangeId}
use Rattle.change_id.specs.declared.Since.TheVariants.{All, From}
use Rattle.change_id.proofs.IdMarks.{in_force-parts, same-epochs, marks_of_ids}
use Rattle.change_tracker.specs.declared.frozen_snapshot.FrozenSnapshot.{FrozenSnapshot}
use Rattle.change_tracker.specs.declared.refusals.TrackRefused.{TrackRefused}
use Rattle.change_tracker.specs.declared.refusals.TrackRefused.TheVariants.{UnknownSnap, Range}
use Rattle.change_tracker.specs.Tracker.{TrackerState, Snapshot}
use Rattle.change_tracker.specs.Fields.{IdsAscend, is_accepted, in_force_of}
use Rattle.change_tracker.specs.History.{TrackStep, reading, runs_between, areas_between, answered, mark, id_at, is_met, changed_in, IsFrozenAs, StandsFor}
use Rattle.sector_model.proofs.Among.{same_blocks}
use Rattle.change_tracker.proofs.Steps.{epoch_of, number_of, force, place_of_id, apart}

-- ---- the place of an id

ids_past : (from bound : ℕ) (ks : List FrozenSnapshot) (j : ℕ) (d : FrozenSnapshot)
    → IdsAscend from bound ks
    → j < length ks → from ≤ (get_or ks j d).id
ids_past from bound [] j d are less = absurd (omega arith)
ids_past from bound (k ∷ ks) zero d are less = are.0
ids_past from bound (k ∷ ks) (suc j) d are less =
    omega (arith, ids_past (k.id + 1) bound ks j d are.1 (omega (arith, less)), are.0)

pub ids_rise : (from bound : ℕ) (ks : List FrozenSnapshot) → IdsAscend from bound ks
    → IsNonDecreasingBy (λ k. k.id) ks
ids_rise from bound [] are i j d le less = absurd (omega arith)
ids_rise from bound (k ∷ ks) are zero zero d le less = omega arith
ids_rise from bound (k ∷ ks) are zero (suc j) d le less =
    omega (arith, ids_past (k.id + 1) bound ks j d are.1 (omega (arith, less)))
ids_rise from bound (k ∷ ks) are (suc i) zero d le less = absurd (omega arith)
ids_rise from bound (k ∷ ks) are (suc i) (suc j) d le less =
    ids_rise (k.id + 1) bound ks are.1 i j d (omega (arith, le)) (omega (arith, less))

-- the place behind the lower ids has another id, or there is none
pub none_with_id : (ks : List FrozenSnapshot) (id place : ℕ) (r : Option (Bor FrozenSnapshot))
    → IsPartitionPoint (λ k. ltb k.id id ≡ true) (λ k. ltb k.id id ≡ false) ks place
    → IsNonDecreasingBy (λ k. k.id) ks
    → ((d : FrozenSnapshot) → place < length ks → (get_or ks place d).id ≢ id)
    → list_any (λ k. k.id == id) ks ≡ false
none_with_id ks id place r point rise other =
    list_any_none (λ k. k.id == id) ks (λ i d less. elim (cases_lt i place) [
      | inl before ↦ let low = ltb-true (get_or ks i d).id id (point.0 i d (omega arith) before) in
          ne_eqb (get_or ks i d).id id (λ e. absurd (omega (arith, e, low)))
      | inr behind ↦
          let inside : place < length ks = omega (arith, behind, less) in
          let high = ltb-false (get_or ks place d).id id (point.1 place d (omega arith) inside) in
          let up = rise place i d behind less in
          ne_eqb (get_or ks i d).id id (λ e. absurd (other d inside (omega (arith, e, high, up))))
    ])

pub other_here : (ks : List FrozenSnapshot) (id place : ℕ) (x : Bor FrozenSnapshot)
    → IsItemAt ks place (Some x)
    → (x.now.id ≡ id → ⊥) → (d : FrozenSnapshot) → place < length ks → (get_or ks place d).id ≢ id
other_here ks id place x is other d less e =
    other (ap (λ (k : FrozenSnapshot). k.id) (is.1 ∙ get_or_default ks place x.now d less) ∙ e)

pub none_here : (ks : List FrozenSnapshot) (id place : ℕ) (r : Option (Bor FrozenSnapshot))
    → IsItemAt ks place r
    → r ≡ None → (d : FrozenSnapshot) → place < length ks → (get_or ks place d).id ≢ id
none_here ks id place None is none d less e = absurd (omega (arith, is.3, less))
none_here ks id place (Some x) is some d less e = absurd (none-some x (sym some))

pub known_at : (ks : List FrozenSnapshot) (place id : ℕ) (k : FrozenSnapshot) → slice_get ks place
    ≡ Some k → k.id ≡ id
    → list_any (λ x. x.id == id) ks ≡ true
known_at [] place id k at is = absurd (none-some k at)
known_at (x ∷ ks) zero id k at is =
    ap (λ b. b || list_any (λ y. y.id == id) ks)
    (eq-eqb x.id id (ap (λ (y : FrozenSnapshot). y.id) (same_Some x k at) ∙ is))
known_at (x ∷ ks) (suc place) id k at is = ap (λ b. eqb x.id id || b) (known_at ks place id k at is)
    ∙ or_right (eqb x.id id) true refl

-- ---- refusals

pub refuse_unknown : {T : Type 0} (known : Bool) (r : Result T TrackRefused) → known ≡ false
    → r ≡ Err UnknownSnap → IsRefusedBy (cond known None (Some UnknownSnap)) r
refuse_unknown true r is told = absurd (false≢true (sym is))
refuse_unknown false r is told = told

pub accept_known : {T : Type 0} (known : Bool) (r : Result T TrackRefused) → known ≡ true → IsOk r
    → IsRefusedBy (cond known None (Some UnknownSnap)) r
accept_known true r is ok = ok
accept_known false r is ok = absurd (false≢true is)

pub query_unknown : {T : Type 0} (known : Bool) (rest : Option TrackRefused)
    (r : Result T TrackRefused) → known ≡ false → r ≡ Err UnknownSnap
    → IsRefusedBy (cond (not known) (Some UnknownSnap) rest) r
query_unknown true rest r is told = absurd (false≢true (sym is))
query_unknown false rest r is told = told

pub query_known : {T : Type 0} (known : Bool) (rest : Option TrackRefused)
    (r : Result T TrackRefused) → known ≡ true → IsRefusedBy rest r
    → IsRefusedBy (cond (not known) (Some UnknownSnap) rest) r
query_known true rest r is told = told
query_known false rest r is told = absurd (false≢true is)

pub query_outside : {T : Type 0} (within : Bool) (rest : Option TrackRefused)
    (r : Result T TrackRefused) → within ≡ false → r ≡ Err Range
    → IsRefusedBy (cond (not within) (Some Range) rest) r
query_outside true rest r is told = absurd (false≢true (sym is))
query_outside false rest r is told = told

pub query_within : {T : Type 0} (within : Bool) (rest : Option TrackRefused)
    (r : Result T TrackRefused) → within ≡ true → IsRefusedBy rest r
    → IsRefusedBy (cond (not within) (Some Range) rest) r
query_within true rest r is told = told
query_within false rest r is told = absurd (false≢true is)

-- ---- an identifier that is accepted

no_number : (q n : ℕ) (a b : Bool) → n ≡ 0 → (a && b && leb 1 q && leb q n) ≡ false
no_number zero n a b none = ap (λ x. x && leb 0 n) (and_right (a && b) false refl)
no_number (suc q) n a b none =
    ap (λ x. (a && b && leb 1 (suc q)) && x) (lt-leb (suc q) n (omega (arith, none)))
    ∙ and_right (a && b && leb 1 (suc q)) false refl

same_uuid : (machine disk a b : ℕ) → eqb a b ≡ eqb (packed machine disk a) (packed machine disk b)
same_uuid machine disk a b = elim (cases_eq a b) [
  | inl same ↦ eq-eqb a b same
      ∙ sym (eq-eqb (packed machine disk a) (packed machine disk b) (ap (packed machine disk) same))
  | inr other ↦ ne_eqb a b other
      ∙ sym (ne_eqb (packed machine disk a) (packed machine disk b)
      (λ e. other (same-epochs machine disk a b e)))
]

no_force : (machine disk : ℕ) (h : List TrackStep) → force machine disk h ≡ None → number_of h ≡ 0
no_force machine disk h none = by (eqb (number_of h) 0) refl
  where
    by : (b : Bool) → eqb (number_of h) 0 ≡ b → number_of h ≡ 0
    by true is = eqb-true (number_of h) 0 is
    by false is = absurd (none-some _
        (sym none ∙ ap (λ b. cond b None
        (Some (record { uuid = packed machine disk (epoch_of h); seq = number_of h }))) is))

pub accepts_same : (t : TrackerState) (h : List TrackStep) (k : Snapshot) (from : ChangeId)
    → StandsFor t h → IsFrozenAs t h k
    → history.accepts reading t.machine t.disk k.id from h
    ≡ is_accepted (packed t.machine t.disk t.epoch) k.change_id from
accepts_same t h k from stands frozen = by k.change_id refl
  where
    by : (o : Option ChangeId) → k.change_id ≡ o
        → history.accepts reading t.machine t.disk k.id from h
        ≡ is_accepted (packed t.machine t.disk t.epoch) k.change_id from
    by None is =
        no_number from.seq (number_of (take (mark k.id h + 1) h))
        (eqb from.uuid (packed t.machine t.disk (epoch_of h)))
        (eqb (epoch_of (take (mark k.id h) h)) (epoch_of h))
        (no_force t.machine t.disk (take (mark k.id h + 1) h) (sym frozen.change_id ∙ is))
        ∙ sym (ap (λ (o : Option ChangeId). is_accepted (packed t.machine t.disk t.epoch) o from)
        is)
    by (Some x) is =
        let parts = in_force-parts reading t.machine t.disk x (take (mark k.id h + 1) h)
        (sym frozen.change_id ∙ is) in
        let now : epoch_of h ≡ t.epoch = sym stands.epoch in
        let uuid : packed t.machine t.disk (epoch_of (take (mark k.id h) h)) ≡ x.uuid =
        sym (parts.uuid ∙ ap (packed t.machine t.disk) frozen.epoch) in
        (λ i. eqb from.uuid (packed t.machine t.disk (now i)) && same_uuid t.machine t.disk
        (epoch_of (take (mark k.id h) h)) (now i) i && leb 1 from.seq && leb from.seq
        (sym parts.seq i))
        ∙ ap (λ u. eqb from.uuid (packed t.machine t.disk t.epoch) && eqb u
        (packed t.machine t.disk t.epoch) && leb 1 from.seq && leb from.seq x.seq) uuid
        ∙ sym (ap (λ (o : Option ChangeId). is_accepted (packed t.machine t.disk t.epoch) o from)
        is)

pub record Accepted (uuid : ℕ) (x from : ChangeId) : Type 0 where
  pub from_is : from.uuid ≡ uuid
  pub at_is : x.uuid ≡ uuid
  pub low : 1 ≤ from.seq
  pub high : from.seq ≤ x.seq

pub accepted_parts : (uuid : ℕ) (x from : ChangeId) → is_accepted uuid (Some x) from ≡ true
    → Accepted uuid x from
accepted_parts uuid x from is =
    let a : Bool = eqb from.uuid uuid in
    let b : Bool = eqb x.uuid uuid in
    let four = and_parts (a && b && leb 1 from.seq) (leb from.seq x.seq) is in
    let three = and_parts (a && b) (leb 1 from.seq) four.0 in
    let two = and_parts a b three.0 in
    record {
      from_is = eqb-true from.uuid uuid two.0;
      at_is = eqb-true x.uuid uuid two.1;
      low = leb-true 1 from.seq three.1;
      high = leb-true from.seq x.seq four.1;
    }

-- what an accepted identifier is answered
pub since_told : (t : TrackerState) (h : List TrackStep) (place : ℕ) (k : Snapshot)
    (x from : ChangeId) → StandsFor t h → slice_get t.snapshots place ≡ Some k
    → k.change_id ≡ Some x
    → is_accepted (packed t.machine t.disk t.epoch) (Some x) from ≡ true
    → answered t.machine t.disk t.capacity k.id (From from) h
    ≡ Ok (areas_of t.capacity
    (blocks_where t.capacity (changed_in t (place + 1 - (x.seq - from.seq)) (place + 1))))
since_told t h place k x from stands at told accepted =
    let frozen = stands.frozen place k at in
    let parts = accepted_parts (packed t.machine t.disk t.epoch) x from accepted in
    let numbers = stands.numbers place k x at told in
    let earlier = numbers.each from.seq parts.low parts.high in
    let p : ℕ = place + 1 - (x.seq - from.seq) - 1 in
    let next : p + 1 ≡ place + 1 - (x.seq - from.seq) =
    omega (arith, parts.low, parts.high, numbers.enough) in
    let up : p ≤ place = omega arith in
    let same : id_of x.uuid from.seq ≡ from =
    ap (λ u. id_of u from.seq) (parts.at_is ∙ sym parts.from_is) in
    let before = stands.frozen p earlier.0 earlier.1 in
    let its_id : id_at t.machine t.disk (earlier.0).id h ≡ Some from =
    sym before.change_id ∙ earlier.2 ∙ ap Some same in
    let found : place_of_id t.machine t.disk from h ≡ Some (mark (earlier.0).id h) =
    (marks_of_ids reading t.machine t.disk from h apart).of_snapshot (earlier.0).id
    before.within its_id in
    let tells = stands.changes p earlier.0 earlier.1 (id_of x.uuid from.seq, earlier.2, parts.at_is)
    in
    let accepts : history.accepts reading t.machine t.disk k.id from h ≡ true =
    accepts_same t h k from stands frozen
    ∙ ap (λ (o : Option ChangeId). is_accepted (packed t.machine t.disk t.epoch) o from) told
    ∙ accepted in
    ap (λ b. cond b (Ok (areas_between t.capacity
    (unwrap_or (place_of_id t.machine t.disk from h) 0) (mark k.id h) h))
    (Err (force t.machine t.disk h))) accepts
    ∙ ap (λ (o : Option ℕ). Ok (areas_between t.capacity (unwrap_or o 0) (mark k.id h) h)) found
    ∙ ap (λ (bs : List ℕ). Ok (areas_of t.capacity bs))
    (sym (same_blocks t.capacity (changed_in t (place + 1 - (x.seq - from.seq)) (place + 1))
    (λ b. is_met b (runs_between (mark (earlier.0).id h) (mark k.id h) h))
    (λ b less. ap (λ n. changed_in t n (place + 1) b) (sym next)
    ∙ tells.upto place k up at b less)))

-- and one that isn't
pub since_strange : (t : TrackerState) (h : List TrackStep) (place : ℕ) (k : Snapshot)
    (from : ChangeId) → StandsFor t h → slice_get t.snapshots place ≡ Some k
    → is_accepted (packed t.machine t.disk t.epoch) k.change_id from ≡ false
    → answered t.machine t.disk t.capacity k.id (From from) h
    ≡ Err (in_force_of (packed t.machine t.disk t.epoch) t.counted)
since_strange t h place k from stands at refused =
    ap (λ b. cond b (Ok (areas_between t.capacity
    (unwrap_or (place_of_id t.machine t.disk from h) 0) (mark k.id h) h))
    (Err (force t.machine t.disk h))) (accepts_same t h k from stands (stands.frozen place k at)
    ∙ refused)
    ∙ ap Err (sym ((λ i. in_force_of (packed t.machine t.disk (stands.epoch i)) (stands.counted i))
    ∙ refl))

-- since the beginning
pub all_told : (t : TrackerState) (h : List TrackStep) (place : ℕ) (k : Snapshot) → StandsFor t h
    → slice_get t.snapshots place ≡ Some k
    → answered t.machine t.disk t.capacity k.id All h ≡ Ok (areas_of t.capacity k.blocks)
all_told t h place k stands at =
    ap (λ (bs : List ℕ). Ok (areas_of t.capacity bs)) (sym (stands.frozen place k at).blocks)
