-- What one step more changes in the words of a list of steps.
use Rattle.std.proofs.Common.{◌≡◌, ℕ, zero, suc, ◌+◌, ◌<◌, ◌≤◌, List, [], ◌∷◌, ◌++◌, length, take, drop, Bool, true, false, not, cond, ◌||◌, Option, Some, None, unwrap_or, option_map, sym, ap, refl, ◌∙◌, arith}
use Rattle.std.specs.List.{list_any, filter_map}
use Rattle.std.proofs.lemmas.Bool.{false≢true}
use Rattle.std.proofs.lemmas.List.{take-append-le, drop-append-le, take_all, drop_all}
use Rattle.std.proofs.lemmas.List.Elements.{filter_map-append}
use Rattle.sector_model.specs.declared.run.Run.{Run}
use Rattle.change_id.specs.ChangeId.{packed}
use Rattle.change_id.specs.History.{IsApart}
use Rattle.change_id.specs.History as history
use Rattle.change_id.specs.declared.ChangeId.{ChangeId}
use Rattle.change_id.proofs.IdMarks.{in_force-made}
use Rattle.change_tracker.specs.History.{TrackStep, Marked, Frozen, Enabled, Reset, reading, freezes, is_frozen, is_reset, run_in, runs_between, mark}

-- ---- places

pub place_known : (s : ℕ) (h : List TrackStep) → list_any (freezes s) h ≡ true → mark s h < length h
place_known s [] some = absurd (false≢true some)
place_known s (x ∷ h) some = by (freezes s x) refl (λ later. place_known s h later)
  where
    by : (b : Bool) → freezes s x ≡ b → (list_any (freezes s) h ≡ true → mark s h < length h)
        → cond (not (freezes s x)) (1 + mark s h) 0 < suc (length h)
    by true is rest = rw is (omega arith)
    by false is rest = rw is (omega (arith, rest (rw is at some)))

pub place_none : (s : ℕ) (h : List TrackStep) → list_any (freezes s) h ≡ false → mark s h ≡ length h
place_none s [] none = refl
place_none s (x ∷ h) none = by (freezes s x) refl (λ later. place_none s h later)
  where
    by : (b : Bool) → freezes s x ≡ b → (list_any (freezes s) h ≡ false → mark s h ≡ length h)
        → cond (not (freezes s x)) (1 + mark s h) 0 ≡ suc (length h)
    by true is rest = absurd (false≢true (sym none ∙ ap (λ b. b || list_any (freezes s) h) is))
    by false is rest = rw is (let last = rest (rw is at none) in omega (arith, last))

pub place_new : (s : ℕ) (h : List TrackStep) (x : TrackStep) → list_any (freezes s) h ≡ false
    → freezes s x ≡ true → mark s (h ++ x ∷ []) ≡ length h
place_new s [] x none here = rw here refl
place_new s (y ∷ h) x none here = by (freezes s y) refl (λ later. place_new s h x later here)
  where
    by : (b : Bool) → freezes s y ≡ b
        → (list_any (freezes s) h ≡ false → mark s (h ++ x ∷ []) ≡ length h)
        → cond (not (freezes s y)) (1 + mark s (h ++ x ∷ [])) 0 ≡ suc (length h)
    by true is rest = absurd (false≢true (sym none ∙ ap (λ b. b || list_any (freezes s) h) is))
    by false is rest = rw is (let last = rest (rw is at none) in omega (arith, last))

-- ---- counts

abbrev pub epoch_of : List TrackStep → ℕ
epoch_of h = history.epoch reading h

abbrev pub counted_of : List TrackStep → Option ℕ
counted_of h = history.counted reading h

abbrev pub number_of : List TrackStep → ℕ
number_of h = history.number reading h

pub counts_mark : (o : Option ℕ) (r : Run) → history.counted_after reading o (Marked r) ≡ o
counts_mark None r = refl
counts_mark (Some n) r = refl

pub counts_freeze : (o : Option ℕ) (id : ℕ)
    → history.counted_after reading o (Frozen id) ≡ option_map (λ n. n + 1) o
counts_freeze None id = refl
counts_freeze (Some n) id = refl

pub counts_enable : (o : Option ℕ) → history.counted_after reading o Enabled ≡ Some (unwrap_or o 0)
counts_enable None = refl
counts_enable (Some n) = refl

pub counts_reset : (o : Option ℕ) → history.counted_after reading o Reset ≡ option_map (λ n. 0) o
counts_reset None = refl
counts_reset (Some n) = refl

-- ---- runs between two places

pub runs_stay : (from end : ℕ) (h more : List TrackStep) → end ≤ length h
    → runs_between from end (h ++ more) ≡ runs_between from end h
runs_stay from end h more le =
    ap (λ (xs : List TrackStep). filter_map run_in (drop from xs)) (take-append-le end h more le)

pub runs_push : (from : ℕ) (h : List TrackStep) (x : TrackStep) → from ≤ length h
    → runs_between from (length (h ++ x ∷ [])) (h ++ x ∷ [])
    ≡ runs_between from (length h) h ++ filter_map run_in (x ∷ [])
runs_push from h x le =
    ap (λ (xs : List TrackStep). filter_map run_in (drop from xs))
    (take_all (length (h ++ x ∷ [])) (h ++ x ∷ []) (omega arith))
    ∙ ap (λ (xs : List TrackStep). filter_map run_in xs) (drop-append-le from h (x ∷ []) le)
    ∙ filter_map-append run_in (drop from h) (x ∷ [])
    ∙ ap (λ (xs : List TrackStep). filter_map run_in (drop from xs) ++ filter_map run_in (x ∷ []))
    (sym (take_all (length h) h (omega arith)))

pub runs_none : (n : ℕ) (h : List TrackStep) → runs_between n n h ≡ []
runs_none n h = ap (λ (xs : List TrackStep). filter_map run_in xs)
    (drop_all n (take n h) (short n h))
  where
    short : (n : ℕ) (h : List TrackStep) → length (take n h) ≤ n
    short zero h = omega arith
    short (suc n) [] = omega arith
    short (suc n) (x ∷ h) = omega (arith, short n h)

-- ---- identifiers

abbrev pub force : (machine disk : ℕ) → List TrackStep → Option ChangeId
force machine disk h = history.in_force reading machine disk h

pub force_some : (machine disk : ℕ) (h : List TrackStep) → 1 ≤ number_of h
    → force machine disk h
    ≡ Some (record { uuid = packed machine disk (epoch_of h); seq = number_of h })
force_some machine disk h some =
    in_force-made reading machine disk
    (record { uuid = packed machine disk (epoch_of h); seq = number_of h }) h
    (record { counted = some; uuid = refl; seq = refl })

abbrev pub place_of_id : (machine disk : ℕ) → ChangeId → List TrackStep → Option ℕ
place_of_id machine disk id h = history.mark_of_id reading machine disk id h

-- what freezes a snapshot is a step that resets nothing
freeze_is : (s : ℕ) (x : TrackStep) → freezes s x ≡ true → is_frozen x ≡ true
freeze_is s (Marked r) h = absurd (false≢true h)
freeze_is s (Frozen id) h = refl
freeze_is s Enabled h = absurd (false≢true h)
freeze_is s Reset h = absurd (false≢true h)

freeze_resets : (x : TrackStep) → is_frozen x ≡ true → is_reset x ≡ false
freeze_resets (Marked r) h = refl
freeze_resets (Frozen id) h = refl
freeze_resets Enabled h = refl
freeze_resets Reset h = absurd (false≢true h)

pub apart : IsApart reading
apart = record { takes_snap = freeze_is; snap_resets_none = freeze_resets }
