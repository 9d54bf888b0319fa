-- Which sectors a page of areas has.
use Rattle.std.proofs.Common.{◌≡◌, ℕ, ◌+◌, ◌<◌, ◌≤◌, false, leb, ◌&&◌, ◌||◌, List, [], ◌∷◌, refl, sym, ap, ◌∙◌, arith, inl, inr}
use Rattle.std.specs.List.{AllByRecursion}
use Rattle.std.proofs.Math.Bool.{or-false, and-true}
use Rattle.std.proofs.lemmas.Bool.{cases_lt, lt-ltb, le-ltb, lt-leb, and_right}
use Rattle.std.proofs.lemmas.Bool.Decides.{nat_tests}
use Rattle.std.proofs.lemmas.List.Elements.{recursion_from_All}
use Rattle.std.proofs.lemmas.List.Folds.{list_any-append}
use Rattle.basics.proofs.Truth.{and_or}
use Rattle.sector_model.specs.Run.{end_of, has, in_runs, from_sector}
use Rattle.sector_model.specs.Page.{areas_from, page_from}
use Rattle.sector_model.specs.Laws.{AreasFromAreExact, PagesAreExact}
use Rattle.sector_model.specs.declared.run.Run.{Run}
use Rattle.sector_model.proofs.PageLaws.{kept, dropped, page_then_rest}
use Rattle.sector_model.proofs.PageWithin.{page_lies_within}

has-clipped : (r : Run) (start s : ℕ) → start < end_of r
    → has s (from_sector start r) ≡ (leb start s && has s r)
has-clipped r start s past = grind (arith, nat_tests)

has-dropped : (r : Run) (start s : ℕ) → end_of r ≤ start → (leb start s && has s r) ≡ false
has-dropped r start s over = grind (arith, nat_tests)

pub areas_from_are_exact : AreasFromAreExact
areas_from_are_exact [] start s = sym (and_right (leb start s) false refl)
areas_from_are_exact (r ∷ rs) start s =
    elim (cases_lt start (end_of r)) [
      | inl past ↦
          ap (λ (xs : List Run). in_runs xs s) (kept start r rs past)
          ∙ ap (λ b. b || in_runs (areas_from start rs) s) (has-clipped r start s past)
          ∙ ap (λ b. (leb start s && has s r) || b) (areas_from_are_exact rs start s)
          ∙ and_or (leb start s) (has s r) (in_runs rs s)
      | inr over ↦
          ap (λ (xs : List Run). in_runs xs s) (dropped start r rs over)
          ∙ areas_from_are_exact rs start s
          ∙ sym (sym (and_or (leb start s) (has s r) (in_runs rs s))
          ∙ ap (λ b. b || (leb start s && in_runs rs s)) (has-dropped r start s over))
    ]

-- what ends by a sector doesn't have it
none-behind : (e s : ℕ) (rs : List Run) → AllByRecursion (λ r. end_of r ≤ e) rs → e ≤ s
    → in_runs rs s ≡ false
none-behind e s [] ends past = refl
none-behind e s (r ∷ rs) ends past =
    let first = ends.0 in
    ap (λ b. (leb r.first s && b) || in_runs rs s) (le-ltb s (end_of r) (omega (arith, first)))
    ∙ ap (λ b. b || in_runs rs s) (and_right (leb r.first s) false refl)
    ∙ none-behind e s rs ends.1 past

pub pages_are_exact : PagesAreExact
pages_are_exact capacity areas start s spaced ends before =
    let page = page_from capacity areas start in
    let e : ℕ = start + page.length in
    let all : (in_runs page.areas s || in_runs (areas_from e areas) s)
    ≡ (leb start s && in_runs areas s) =
    sym (ap (λ (xs : List Run). in_runs xs s)
    (page_then_rest capacity areas start spaced ends before)
    ∙ list_any-append (has s) page.areas (areas_from e areas))
    ∙ areas_from_are_exact areas start s in
    elim (cases_lt s e) [
      | inl inside ↦
          let none : in_runs (areas_from e areas) s ≡ false =
          areas_from_are_exact areas e s ∙ ap (λ b. b && in_runs areas s) (lt-leb e s inside) in
          sym (or-false (in_runs page.areas s)) ∙ ap (λ b. in_runs page.areas s || b) (sym none)
          ∙ all
          ∙ sym (ap (λ b. leb start s && b && in_runs areas s) (lt-ltb s e inside)
          ∙ ap (λ b. b && in_runs areas s) (and-true (leb start s)))
      | inr past ↦
          none-behind e s page.areas
          (recursion_from_All (λ r. end_of r ≤ e) page.areas
          (page_lies_within capacity areas start spaced ends before).end_inside) past
          ∙ sym (ap (λ b. leb start s && b && in_runs areas s) (le-ltb s e past)
          ∙ ap (λ b. b && in_runs areas s) (and_right (leb start s) false refl))
    ]
