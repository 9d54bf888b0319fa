use Rattle.std.proofs.Common.{◌≡◌, ◌+◌, ◌-◌, [], ◌∷◌, ◌++◌, take, true, false, cond, Some, sym, ap, subst, ◌∙◌, arith}
use Rattle.std.proofs.lemmas.List.{take_more}
use Rattle.std.proofs.lemmas.Option.{slice_get-get_or}
use Rattle.std.proofs.lemmas.Slice.Eq.{bytes_eq-Decides}
use Rattle.std.specs.List.{slice_get}
use Rattle.std.specs.Option.{IsSomeAnd}
use Rattle.std.specs.Str.{bytes_eq}
use Rattle.json.specs.Find.{get_member}
use Rattle.json.specs.Value.{value_view, members_view}
use Rattle.json.proofs.Trees.{get_member-push}
use Rattle.cmd_json.proofs.MemberLemmas.{Entry}
use Rattle.cmd_json.proofs.members.last_named.Goals as goal

pub returns-then-eq-clause-some : goal.returns-then-eq-clause-some
returns-then-eq-clause-some c =
    let xs = c.args.list.now.items in
    let i = c.loop-left.left - 1 in
    let m = c.index.result.now in
    let name = c.args.name.now in
    let next : c.loop-left.left ≡ i + 1 = omega arith in
    let here : slice_get xs i ≡ Some m =
    slice_get-get_or xs i m (omega arith) ∙ ap Some (sym c.index.ensures) in
    let front : take c.loop-left.left xs ≡ take i xs ++ m ∷ [] =
    ap (λ k. take k xs) next ∙ take_more xs i m (omega arith)
    ∙ ap (λ y. take i xs ++ y ∷ []) (sym c.index.ensures) in
    let named : bytes_eq m.0.now name ≡ true = sym c.if-eq.ensures in
    let found : get_member name (members_view xs) ≡ Some (value_view m.1) =
    c.loop-left.invariant.0 ∙ ap (λ ys. get_member name (members_view ys)) front
    ∙ get_member-push name (take i xs) m
    ∙ ap (λ b. cond b (Some (value_view m.1)) (get_member name (members_view (take i xs)))) named in
    subst (λ o. IsSomeAnd o (λ (e : Entry). (e.0.now ≡ name)
    × (get_member name (members_view xs) ≡ Some (value_view e.1)))) (sym here)
    ((bytes_eq-Decides m.0.now name).0 named, found)

pub loop-left-preserved : goal.loop-left-preserved
loop-left-preserved c =
    let xs = c.args.list.now.items in
    let i = c.loop-left.left - 1 in
    let m = c.index.result.now in
    let name = c.args.name.now in
    let next : c.loop-left.left ≡ i + 1 = omega arith in
    let front : take c.loop-left.left xs ≡ take i xs ++ m ∷ [] =
    ap (λ k. take k xs) next ∙ take_more xs i m (omega arith)
    ∙ ap (λ y. take i xs ++ y ∷ []) (sym c.index.ensures) in
    let other : bytes_eq m.0.now name ≡ false = sym c.if-eq.ensures in (
      c.loop-left.invariant.0 ∙ ap (λ ys. get_member name (members_view ys)) front
          ∙ get_member-push name (take i xs) m
          ∙ ap (λ b. cond b (Some (value_view m.1)) (get_member name (members_view (take i xs))))
          other,
      omega arith,
    )
