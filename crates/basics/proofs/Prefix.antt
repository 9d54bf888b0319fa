-- Lists that begin with others.
use Rattle.std.proofs.Common.{◌≡◌, ℕ, ◌≤◌, List, ◌++◌, length, take, drop, refl, sym, ap, ◌∙◌, arith, length-take}
use Rattle.std.proofs.lemmas.List.{take-take, take-append-le, take-append-drop}
use Rattle.std.proofs.Math.Seq.{take-append_seam, take-length}
use Rattle.basics.specs.Prefix.{IsPrefix}

module _ {X : Type 0} where
  pub prefix-self : (xs : List X) → IsPrefix xs xs
  prefix-self xs = take-length xs

  -- a list with others behind it
  pub prefix-appended : (xs ys : List X) → IsPrefix xs (xs ++ ys)
  prefix-appended xs ys = take-append_seam xs ys

  pub prefix-fits : (xs ys : List X) → IsPrefix xs ys → length xs ≤ length ys
  prefix-fits xs ys h = omega (arith, ap length h, length-take (length xs) ys)

  pub prefix-trans : (xs ys zs : List X) → IsPrefix xs ys → IsPrefix ys zs → IsPrefix xs zs
  prefix-trans xs ys zs first second =
      sym (take-take (length xs) (length ys) zs (prefix-fits xs ys first))
      ∙ ap (take (length xs)) second ∙ first

  -- it stays one, whatever comes behind
  pub prefix-append : (xs ys added : List X) → IsPrefix xs ys → IsPrefix xs (ys ++ added)
  prefix-append xs ys added h =
      take-append-le (length xs) ys added (prefix-fits xs ys h) ∙ h

  -- of two beginnings of one list the shorter begins the other
  pub prefix-between : (xs ys zs : List X) → IsPrefix xs zs → IsPrefix ys zs
      → length xs ≤ length ys → IsPrefix xs ys
  prefix-between xs ys zs first second le =
      ap (take (length xs)) (sym second) ∙ take-take (length xs) (length ys) zs le ∙ first

  -- the list is its beginning, and what stands behind that
  pub prefix-parts : (xs ys : List X) → IsPrefix xs ys → ys ≡ xs ++ drop (length xs) ys
  prefix-parts xs ys h =
      sym (take-append-drop (length xs) ys) ∙ ap (λ zs. zs ++ drop (length xs) ys) h
