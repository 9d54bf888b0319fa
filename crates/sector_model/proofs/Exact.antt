-- The runs of a test have exactly the sectors that pass it.
use Rattle.std.proofs.Common.{◌≡◌, ℕ, zero, suc, ◌+◌, ◌&&◌, ◌||◌, Bool, true, false, cond, inl, inr, eqb, ltb, List, [], ◌∷◌, refl, sym, ap, ◌∙◌, arith}
use Rattle.std.proofs.Math.Bool.{or_assoc, or-true, or-false}
use Rattle.std.proofs.lemmas.Bool.{eqb-true, eq-eqb, ne_eqb, lt-ltb, le-ltb, cases_eq, and_right}
use Rattle.std.proofs.lemmas.Bool.Decides.{nat_tests}
use Rattle.sector_model.specs.Run.{end_of, has, in_runs, with_sector, runs_of}
use Rattle.sector_model.specs.declared.run.Run.{Run}

has_grown : (r : Run) (n s : ℕ) → end_of r ≡ n
    → has s (record { first = r.first; count = r.count + 1 }) ≡ (has s r || eqb s n)
has_grown r n s ends = grind (arith, nat_tests)

has_one : (n s : ℕ) → has s (record { first = n; count = 1 }) ≡ eqb s n
has_one n s = grind (arith, nat_tests)

in_last : (b : Bool) (r : Run) (n s : ℕ) → eqb (end_of r) n ≡ b
    → in_runs (cond b (record { first = r.first; count = r.count + 1 } ∷ [])
    (r ∷ record { first = n; count = 1 } ∷ [])) s ≡ (in_runs (r ∷ []) s || eqb s n)
in_last true r n s e = or-false (has s (record { first = r.first; count = r.count + 1 }))
    ∙ has_grown r n s (eqb-true (end_of r) n e) ∙ ap (λ x. x || eqb s n) (sym (or-false (has s r)))
in_last false r n s e =
    ap (λ x. has s r || x) (or-false (has s (record { first = n; count = 1 })) ∙ has_one n s)
    ∙ ap (λ x. x || eqb s n) (sym (or-false (has s r)))

in_with_sector : (rs : List Run) (n s : ℕ)
    → in_runs (with_sector rs n) s ≡ (in_runs rs s || eqb s n)
in_with_sector [] n s = or-false (has s (record { first = n; count = 1 })) ∙ has_one n s
in_with_sector (r ∷ []) n s = in_last (eqb (end_of r) n) r n s refl
in_with_sector (r ∷ q ∷ rs) n s =
    ap (λ x. has s r || x) (in_with_sector (q ∷ rs) n s)
    ∙ sym (or_assoc (has s r) (in_runs (q ∷ rs) s) (eqb s n))

here : (test : ℕ → Bool) (n : ℕ) → test n ≡ true
    → ((ltb n n && test n) || eqb n n) ≡ (ltb n (suc n) && test n)
here test n passes = rw (passes, eq-eqb n n refl, lt-ltb n (suc n) (omega arith))
    (or-true (ltb n n && true))

elsewhere : (s n : ℕ) → (s ≡ n → ⊥) → ltb s n ≡ ltb s (suc n)
elsewhere s n other = grind (arith, nat_tests)

-- a sector below n + 1 is below n, or is n
in_step : (b : Bool) (test : ℕ → Bool) (rs : List Run) (n s : ℕ) → test n ≡ b
    → in_runs rs s ≡ (ltb s n && test s)
    → in_runs (cond b (with_sector rs n) rs) s ≡ (ltb s (suc n) && test s)
in_step true test rs n s passes before = in_with_sector rs n s ∙ ap (λ x. x || eqb s n) before
    ∙ elim (cases_eq s n) [
      | inl e ↦ rw e (here test n passes)
      | inr other ↦ rw (ne_eqb s n other) (or-false (ltb s n && test s)
          ∙ ap (λ x. x && test s) (elsewhere s n other))
    ]
in_step false test rs n s fails before = before ∙ elim (cases_eq s n) [
  | inl e ↦ rw (e, fails) (and_right (ltb n n) false refl
      ∙ sym (and_right (ltb n (suc n)) false refl))
  | inr other ↦ ap (λ x. x && test s) (elsewhere s n other)
]

pub in_runs_of : (test : ℕ → Bool) (n s : ℕ) → in_runs (runs_of test n) s ≡ (ltb s n && test s)
unfolding runs_of
in_runs_of test zero s = rw (le-ltb s 0 (omega arith)) refl
in_runs_of test (suc n) s = in_step (test n) test (runs_of test n) n s refl (in_runs_of test n s)
