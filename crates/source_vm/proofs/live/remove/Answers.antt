use Rattle.std.proofs.Common.{◌≡◌, ◌≢◌, ℕ, ◌<◌, List, length, Some, subst, sym, ap, ◌∙◌, arith}
use Rattle.std.specs.List.{slice_get}
use Rattle.std.proofs.lemmas.Option.{slice_get_within, slice_get_read, get_or_from_slice_get}
use Rattle.source_vm.specs.declared.live.LiveSnap.{LiveSnap}
use Rattle.source_vm.specs.Live.{without}
use Rattle.source_vm.proofs.LiveLemmas.{Point, none_of_id, without-none, without-at}
use Rattle.source_vm.proofs.live.remove.Goals as goal
use Rattle.source_vm.proofs.live.remove.Goals.{else-place-len-via-then-place-len+else-index-id, else-place-len-via-else-place-len}

pub returns-then-index-id : goal.returns-then-index-id
returns-then-index-id c =
    let xs : List LiveSnap = c.args.live.now.items in
    let place : ℕ = c.place_from-place.result in
    let x : LiveSnap = c.index.result.now in
    let inside : place < length xs =
    omega (
      arith,
      c.if-place-len.true,
      c.len.ensures,
      c.as_slice.ensures.len,
      ap length
          c.as_slice.ensures.value,
    ) in
    let at : slice_get xs place ≡ Some x =
    slice_get_read xs (length xs) place x (omega arith) inside c.index.ensures in
    c.remove.ensures.items ∙ without-at xs place x c.requires at
    ∙ ap (λ n. without n xs) c.if-index-id.true

pub returns-else-place-len : goal.returns-else-place-len
returns-else-place-len c =
    let xs : List LiveSnap = c.args.live.now.items in
    let place : ℕ = c.place_from-place.result in
    let point : Point c.args.id xs place =
    subst (λ (ys : List LiveSnap). Point c.args.id ys place) c.as_slice.ensures.value
    c.place_from-place.ensures.point in
    let other : (y : LiveSnap) → slice_get xs place ≡ Some y → y.id ≢ c.args.id = λ y at same.
    elim c.else-place-len.branch [
      | else-place-len-via-then-place-len+else-index-id w ↦
          let here : w.index.result.now ≡ y =
          w.index.ensures ∙ get_or_from_slice_get xs place y w.index.result.now at in
          w.if-index-id.false (ap (λ (z : LiveSnap). z.id) here ∙ same)
      | else-place-len-via-else-place-len w ↦
          absurd (omega (
            arith,
            w.if-place-len.false,
            c.len.ensures,
            c.as_slice.ensures.len,
            ap
                length c.as_slice.ensures.value,
            slice_get_within xs place y at,
          ))
    ] in
    sym (without-none c.args.id xs (none_of_id c.args.id xs place c.requires point other))
