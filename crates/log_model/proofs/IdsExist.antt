-- When a snapshot has an identifier.
use Rattle.std.proofs.Common.{◌≡◌, ℕ, ◌+◌, ◌≤◌, List, [], ◌∷◌, ◌++◌, take, Bool, true, false, cond, ◌||◌, eqb, Option, Some, None, is_some, unwrap_or, subst, sym, ap, refl, ◌∙◌, arith, add-one}
use Rattle.std.proofs.lemmas.Bool.{false≢true}
use Rattle.std.proofs.lemmas.List.Sums.{fold-append}
use Rattle.change_id.specs.ChangeId.{id_of, packed}
use Rattle.change_id.specs.declared.ChangeId.{ChangeId}
use Rattle.log_model.specs.declared.entry.Act.{Act}
use Rattle.log_model.specs.declared.entry.Act.TheVariants.{Write, Snap, Remove, Reset, Enable, Off, On}
use Rattle.log_model.specs.declared.entry.Entry.{Entry}
use Rattle.log_model.specs.declared.folds.Tracking.{Tracking}
use Rattle.log_model.specs.declared.folds.Tracking.TheVariants.{Never, Enabled, Active}
use Rattle.log_model.specs.Entry.{is_snap, is_enable, is_on, resets}
use Rattle.log_model.specs.Legal.{is_enabled, enabled_after}
use Rattle.log_model.specs.Marks.{reading_of, takes_in, mark, before, through, epoch, counted, counted_after, number, tracking, tracking_after, in_force}
use Rattle.log_model.specs.Laws.{SnapshotsHaveIds, NextHasId, ActiveIsEnabled}
use Rattle.change_id.proofs.Ends.{by_last, at_place}
use Rattle.change_id.proofs.Counts.{counted-last}
use Rattle.change_id.proofs.IdMarks.{takes-at_mark, in_force-made}
use Rattle.log_model.proofs.Readings.{snap-takes, snap-resets_none}

pub enabled-last : (log : List Entry) (e : Entry)
    → is_enabled (log ++ e ∷ []) ≡ enabled_after (is_enabled log) e
enabled-last log e = fold-append enabled_after false log (e ∷ [])

-- ---- a count stands exactly where an Enable entry does

started : (b : Bool) → is_some {T = ℕ} (cond b (Some 0) None) ≡ cond b true false
started true = refl
started false = refl

goes_on : (r s : Bool) (n : ℕ) → is_some (cond r (Some 0) (cond s (Some (n + 1)) (Some n))) ≡ true
goes_on true s n = refl
goes_on false true n = refl
goes_on false false n = refl

either : (b : Bool) → cond b true true ≡ true
either true = refl
either false = refl

counted-step : (d : ℕ) (e : Entry) (o : Option ℕ)
    → is_some (counted_after d o e) ≡ enabled_after (is_some o) e
counted-step d e None = started (is_enable e.act)
counted-step d e (Some n) =
    goes_on (resets d e.act) (is_snap e.act) n ∙ sym (either (is_enable e.act))

counted-enabled : (d : ℕ) (log : List Entry) → is_some (counted d log) ≡ is_enabled log
counted-enabled d =
    by_last (λ log. is_some (counted d log) ≡ is_enabled log) refl
    (λ log e h. ap (λ (o : Option ℕ). is_some o) (counted-last (reading_of d) log e)
    ∙ counted-step d e (counted d log) ∙ ap (λ b. enabled_after b e) h
    ∙ sym (enabled-last log e))

-- ---- a snapshot that is taken next

next-number : (d : ℕ) (e : Entry) (o : Option ℕ) → is_some o ≡ true → is_snap e.act ≡ true
    → 1 ≤ unwrap_or (counted_after d o e) 0
next-number d e None some snap = absurd (false≢true some)
next-number d e (Some n) some snap =
    let counts : counted_after d (Some n) e ≡ Some (n + 1) =
    ap (λ b. cond b (Some 0) (cond (is_snap e.act) (Some (n + 1)) (Some n)))
    (snap-resets_none d e.act snap) ∙ ap (λ b. cond b (Some (n + 1)) (Some n)) snap in
    subst (λ (o : Option ℕ). 1 ≤ unwrap_or o 0) (sym counts) (omega arith)

pub next_has_id : NextHasId
next_has_id machine d log e enabled snap =
    let whole : List Entry = log ++ e ∷ [] in
    let id : ChangeId = record { uuid = packed machine d (epoch d whole); seq = number d whole } in
    let low : 1 ≤ number d whole =
    subst (λ (o : Option ℕ). 1 ≤ unwrap_or o 0) (sym (counted-last (reading_of d) log e))
    (next-number d e (counted d log) (counted-enabled d log ∙ enabled) snap) in (
      id,
      in_force-made (reading_of d) machine d id whole
          (record { counted = low; uuid = refl; seq = refl }),
    )

snap-enables_none : (act : Act) → is_snap act ≡ true → is_enable act ≡ false
snap-enables_none (Write disk first sectors) h = refl
snap-enables_none (Snap id owner) h = refl
snap-enables_none (Remove id) h = refl
snap-enables_none (Reset disk) h = refl
snap-enables_none Enable h = absurd (false≢true h)
snap-enables_none Off h = refl
snap-enables_none On h = refl

never-number : (d : ℕ) (e : Entry) (o : Option ℕ) → is_some o ≡ false → is_snap e.act ≡ true
    → unwrap_or (counted_after d o e) 0 ≡ 0
never-number d e None none snap =
    ap (λ b. unwrap_or (cond b (Some 0) None) 0) (snap-enables_none e.act snap)
never-number d e (Some n) none snap = absurd (cc)

never-id : (machine d : ℕ) (log : List Entry) (e : Entry) → is_enabled log ≡ false
    → is_snap e.act ≡ true → in_force machine d (log ++ e ∷ []) ≡ None
never-id machine d log e never snap =
    let whole : List Entry = log ++ e ∷ [] in
    let zero : number d whole ≡ 0 =
    ap (λ (o : Option ℕ). unwrap_or o 0) (counted-last (reading_of d) log e)
    ∙ never-number d e (counted d log) (counted-enabled d log ∙ never) snap in
    ap (λ n. cond (eqb n 0) None (Some (id_of (packed machine d (epoch d whole)) (number d whole))))
    zero

pub snapshots_have_ids : SnapshotsHaveIds
snapshots_have_ids s log within =
    let here = at_place log (mark s log) within in
    let e : Entry = here.0 in
    let upto : through s log ≡ before s log ++ e ∷ [] =
    ap (λ m. take m log) (add-one (mark s log)) ∙ here.2 in
    let snap : is_snap e.act ≡ true = snap-takes s e.act (takes-at_mark takes_in s log e here.1) in
    record {
      enabled = λ machine d is. let found = next_has_id machine d (before s log) e is snap in
          (found.0, ap (in_force machine d) upto ∙ found.1);
      never = λ machine d is. ap (in_force machine d) upto
          ∙ never-id machine d (before s log) e is snap;
    }

-- ---- tracking that is active was enabled

abbrev Fits : Tracking → Bool → Type 0
Fits Never enabled = Unit {0}
Fits Enabled enabled = enabled ≡ true
Fits Active enabled = enabled ≡ true

still : (b enabled : Bool) → enabled ≡ true → cond b true enabled ≡ true
still true enabled h = refl
still false enabled h = h

never-step : (b enabled : Bool) → Fits (cond b Enabled Never) (cond b true enabled)
never-step true enabled = refl
never-step false enabled = tt

enabled-step : (c b enabled : Bool) → enabled ≡ true
    → Fits (cond c Active Enabled) (cond b true enabled)
enabled-step true b enabled h = still b enabled h
enabled-step false b enabled h = still b enabled h

track-step : (t : Tracking) (enabled : Bool) (e : Entry) → Fits t enabled
    → Fits (tracking_after t e) (enabled_after enabled e)
track-step Never enabled e h = never-step (is_enable e.act) enabled
track-step Enabled enabled e h =
    enabled-step (is_snap e.act || is_on e.act) (is_enable e.act) enabled h
track-step Active enabled e h = still (is_enable e.act) enabled h

tracking-fits : (log : List Entry) → Fits (tracking log) (is_enabled log)
tracking-fits =
    by_last (λ log. Fits (tracking log) (is_enabled log)) tt
    (λ log e h. subst (λ (t : Tracking). Fits t (is_enabled (log ++ e ∷ [])))
    (sym (fold-append tracking_after Never log (e ∷ [])))
    (subst (λ b. Fits (tracking_after (tracking log) e) b) (sym (enabled-last log e))
    (track-step (tracking log) (is_enabled log) e h)))

pub active_is_enabled : ActiveIsEnabled
active_is_enabled log active =
    subst (λ (t : Tracking). Fits t (is_enabled log)) active (tracking-fits log)
