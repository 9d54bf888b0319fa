use Rattle.std.proofs.Common.{◌≡◌, ℕ, ◌+◌, ◌≤◌, ◌∷◌, ◌++◌, [], List, length, Option, Some, None, option_map, unwrap_or, false, sym, ap, subst, refl, ◌∙◌, arith, rules, length-append}
use Rattle.std.proofs.lemmas.Bool.{false≢true}
use Rattle.change_id.specs.ChangeId.{id_of, packed}
use Rattle.change_id.specs.declared.ChangeId.{ChangeId}
use Rattle.change_tracker.specs.declared.frozen_snapshot.FrozenSnapshot.{FrozenSnapshot}
use Rattle.change_tracker.specs.Tracker.{TrackerState, after_freezing}
use Rattle.change_tracker.specs.Fields.{state_of, IdsAscend}
use Rattle.change_tracker.proofs.States.{frozen_state, ids_push, by_now_more, no_later_more, none_later_more}
use Rattle.change_tracker.proofs.tracker.Tracker.add_snapshot.Goals as goal

counts : (o : Option ℕ) (n : ℕ) → unwrap_or o 0 ≤ n
    → unwrap_or (option_map (λ k. k + 1) o) 0 ≤ n + 1
counts None n le = omega arith
counts (Some k) n le = omega (arith, le)

numbered : (u : ℕ) (o : Option ℕ)
    → option_map (λ n. id_of u n) (option_map (λ n. n + 1) o) ≡ option_map (λ n. id_of u (n + 1)) o
numbered u None = refl
numbered u (Some n) = refl

pub invariant_of-self : goal.invariant_of-self
invariant_of-self c =
    let was = c.self.inside in
    let k : FrozenSnapshot = record { id = c.args.id; change_id = c.map-change_id.result } in
    let items : c.push.new.self.items ≡ was.snapshots.items ++ k ∷ [] = search rules in
    let counted : c.map-self-inside.result ≡ option_map (λ n. n + 1) was.counted = search rules in
    let long : length c.push.new.self.items ≡ length was.snapshots.items + 1 =
    ap length items ∙ length-append was.snapshots.items (k ∷ []) in
    let free : was.free_from ≤ c.args.id =
    subst (λ (s : TrackerState). s.free_from ≤ c.args.id) (sym c.self.view_is) c.requires.free
    in
    record {
      ascending = (let P : List FrozenSnapshot
          → Type 0 = λ ks. IdsAscend 0 (c.from.result + 1) ks in
          let Q : ℕ → Type 0 = λ n. IdsAscend 0 (n + 1) (was.snapshots.items ++ k ∷ []) in
          subst P (sym items) (subst Q (sym c.from.ensures)
          (ids_push 0 was.free_from was.snapshots.items k c.self.invariant.ascending free)));
      few = (let P : Option ℕ → Type 0 = λ o. unwrap_or o 0 ≤ length c.push.new.self.items in
          let low = counts was.counted (length was.snapshots.items) c.self.invariant.few in
          subst P (sym counted) (omega (arith, low, long)));
      later = none_later_more was.maps (length was.snapshots.items) (length c.push.new.self.items)
          (omega (arith, long)) c.self.invariant.later;
      first_past = by_now_more was.maps.first (length was.snapshots.items)
          (length c.push.new.self.items) (omega (arith, long)) c.self.invariant.first_past;
      changes_past = no_later_more was.maps.changes (length was.snapshots.items)
          (length c.push.new.self.items) (omega (arith, long)) c.self.invariant.changes_past;
      can_mark = tt;
      can_freeze = λ is. absurd (false≢true is);
    }

pub returns-clause-frozen : goal.returns-clause-frozen
returns-clause-frozen c =
    let was = c.self.inside in
    let k : FrozenSnapshot = record { id = c.args.id; change_id = c.map-change_id.result } in
    let items : c.push.new.self.items ≡ was.snapshots.items ++ k ∷ [] = search rules in
    let counted : c.map-self-inside.result ≡ option_map (λ n. n + 1) was.counted = search rules in
    let uuid : c.pack-uuid.result ≡ packed was.machine was.disk was.resets = c.pack-uuid.ensures in
    let made : c.map-change_id.result
    ≡ option_map (λ n. record { uuid = c.pack-uuid.result; seq = n }) c.map-self-inside.result =
    search rules in
    let told : k.change_id
    ≡ option_map (λ n. record { uuid = packed was.machine was.disk was.resets; seq = n + 1 })
    was.counted =
    made ∙ (λ i. option_map (λ n. record { uuid = uuid i; seq = n }) (counted i))
    ∙ numbered (packed was.machine was.disk was.resets) was.counted in
    (λ i. state_of was.machine was.disk was.capacity was.resets (counted i) was.maps (items i)
    (c.from.ensures i + 1) None false)
    ∙ frozen_state was.machine was.disk was.capacity was.resets was.counted was.maps
    was.snapshots.items was.free_from was.mark_room was.freeze_room k
    c.self.invariant.first_past c.self.invariant.changes_past told
    ∙ ap (after_freezing c.args.id) c.self.view_is
