use Rattle.std.proofs.Common.{◌≡◌, ℕ, suc, ◌+◌, ◌-◌, ◌≤◌, ◌/◌, ◌^◌, List, [], ◌∷◌, ◌++◌, sym, ◌∙◌, ap, length, arith, append_assoc, length-append}
use Rattle.basics.specs.Generator.{advance}
use Rattle.edge_traits.specs.MemDisk.{noise}
use Rattle.edge_traits.proofs.Images.{length-noise}
use Rattle.edge_traits.proofs.overlay.noise.Goals as goal

-- what was given and what is left are the same all along
one_more : (count seen x next : ℕ) (old new all : List ℕ) → seen + 1 ≤ count → next ≡ advance x
    → new ≡ old ++ next / 2 ^ 56 ∷ [] → old ++ noise (count - seen) x ≡ all
    → new ++ noise (count - (seen + 1)) next ≡ all
one_more count seen x next old new all within is pushed before =
    let left : count - seen ≡ suc (count - (seen + 1)) = omega arith in
    let rest : List ℕ = noise (count - (seen + 1)) (advance x) in
    let split : old ++ noise (count - seen) x ≡ old ++ (advance x / 2 ^ 56 ∷ rest) =
    ap (λ n. old ++ noise n x) left in
    let moved : (old ++ advance x / 2 ^ 56 ∷ []) ++ rest ≡ old ++ (advance x / 2 ^ 56 ∷ rest) =
    append_assoc old (advance x / 2 ^ 56 ∷ []) rest in
    rw (pushed, is) (moved ∙ sym split ∙ before)

pub loop-preserved : goal.loop-preserved
loop-preserved c =
    one_more c.args.count c.loop.counter c.loop.x _ c.loop.bytes.items c.push.new.self.items _
    (omega arith)
    c.advance-x.ensures c.in_ok-push.ensures.items c.loop.invariant

pub returns-clause-len : goal.returns-clause-len
returns-clause-len c =
    let whole : length (c.loop.bytes.items ++ noise (c.args.count - c.loop.counter) c.loop.x)
    ≡ length (noise c.args.count c.args.seed) = ap length c.loop.invariant in
    omega (
      arith,
      whole,
      length-append c.loop.bytes.items (noise (c.args.count - c.loop.counter) c.loop.x),
      length-noise (c.args.count - c.loop.counter) c.loop.x,
      length-noise c.args.count c.args.seed,
    )
