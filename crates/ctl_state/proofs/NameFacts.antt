-- The map of the plans' names, with one name more.
use Rattle.std.proofs.Common.{◌≡◌, ℕ, Bool, true, false, cond, List, [], ◌∷◌, ◌++◌, not, Option, Some, None, is_some, is_none, option_map, refl, ap, subst, sym, ◌∙◌}
use Rattle.std.specs.List.{find, list_any}
use Rattle.std.specs.Option.{option_or}
use Rattle.std.specs.BTreeMap.{BTreeMap, get, is_at}
use Rattle.std.specs.Cmp.Lexicographic.{slice_cmp}
use Rattle.std.specs.Ordering.{nat_cmp, is_eq}
use Rattle.std.specs.Str.{bytes_eq}
use Rattle.std.proofs.lemmas.List.Folds.{find-append}
use Rattle.std.proofs.lemmas.Slice.Eq.{bytes_eq-Decides}
use Rattle.std.proofs.lemmas.Map.Text.{is_eq-slice_cmp}
use Rattle.basics.proofs.Options.{none_is}
use Rattle.plan_model.specs.declared.plan.Plan.{Plan}
use Rattle.plan_model.specs.Plans.{is_taken}
use Rattle.ctl_state.specs.Value.{plan_named}
use Rattle.ctl_state.specs.Lookups.{AreNames}
use Rattle.ctl_state.proofs.ListFacts.{any-found}

named_by : (b : Bool) (plans : List Plan) (p : Plan) (q : List ℕ) → bytes_eq p.name q ≡ b
    → is_taken p.name plans ≡ false
    → plan_named (plans ++ p ∷ []) q ≡ cond b (Some p.number) (plan_named plans q)
named_by true plans p q e free =
    let same : p.name ≡ q = (bytes_eq-Decides p.name q).0 e in
    let test : Plan → Bool = λ plan. bytes_eq plan.name q in
    let absent : find test plans ≡ None = none_is (find test plans)
    (sym (any-found test plans) ∙ ap (λ (name : List ℕ). is_taken name plans) (sym same) ∙ free) in
    ap (λ (o : Option Plan). option_map (λ (plan : Plan). plan.number) o)
    (find-append test plans (p ∷ [])
    ∙ ap (λ (o : Option Plan). option_or o (find test (p ∷ []))) absent
    ∙ ap (λ b. cond b (Some p) None) e)
named_by false plans p q e free =
    let test : Plan → Bool = λ plan. bytes_eq plan.name q in
    ap (λ (o : Option Plan). option_map (λ (plan : Plan). plan.number) o)
    (find-append test plans (p ∷ [])
    ∙ ap (λ b. option_or (find test plans) (cond b (Some p) None)) e
    ∙ (elim (find test plans) as (λ (o : Option Plan). option_or o None ≡ o)
    [ None ↦ refl | Some x ↦ refl ]))

-- a name that no plan had is that of the plan which is added
pub name_added : (plans : List Plan) (p : Plan) (key q : List ℕ) (old new : Option ℕ)
    → is_taken p.name plans ≡ false → key ≡ p.name
    → new ≡ cond (is_eq (slice_cmp nat_cmp key q)) (Some p.number) old
    → old ≡ plan_named plans q → new ≡ plan_named (plans ++ p ∷ []) q
name_added plans p key q old new free same e k =
    e ∙ ap (λ b. cond b (Some p.number) old) (is_eq-slice_cmp key q)
    ∙ ap (λ (n : List ℕ). cond (bytes_eq n q) (Some p.number) old) same
    ∙ ap (cond (bytes_eq p.name q) (Some p.number)) k
    ∙ sym (named_by (bytes_eq p.name q) plans p q refl free)
