-- Three freezes leave three snapshots, and one sector lies in one block.
use Rattle.std.proofs.Common.{◌≡◌, ℕ, ◌+◌, ◌*◌, ◌≤◌, length, []}
use Rattle.std.proofs.Common.{ap, ◌∙◌, arith, length-append, ◌∷◌, refl}
use Rattle.sector_model.specs.Disk.{Write}
use Rattle.snapshot_chain.specs.Chain.{ChainState, fresh, after_writing, after_freezing}
use Rattle.snapshot_chain.specs.Reading.{blocks_met}
use Rattle.snapshot_chain.proofs.tests.read_of_a_large_disk.Goals as goal

count : ChainState → ℕ
count chain = length chain.snapshots

begun : (c : ℕ) (new : ChainState) → new ≡ fresh c → count new ≡ 0
unfolding count
begun c new is = ap count is

written : (w : Write) (old new : ChainState) → new ≡ after_writing w old → count new ≡ count old
unfolding count
written w old new is = ap count is

frozen : (id : ℕ) (old new : ChainState) → new ≡ after_freezing id old → count new ≡ count old + 1
unfolding count
frozen id old new is =
    ap count is
    ∙ length-append old.snapshots
    (record { id = id; contents = old.present; blocks = old.blocks } ∷ [])

counted : (chain : ChainState) → length chain.snapshots ≡ count chain
unfolding count
counted chain = refl

pub returns : goal.returns
returns g c =
    let none : count c.in_ok-chain.chain ≡ 0 =
    begun _ c.in_ok-chain.chain c.in_ok-chain.ensures.fresh in
    let first : count c.write.new.self ≡ count c.in_ok-chain.chain =
    written (record { first = 0; sectors = c.filled.result ∷ [] }) c.in_ok-chain.chain
    c.write.new.self c.in_ok-write.ensures.ok in
    let one : count c.freeze.new.self ≡ count c.write.new.self + 1 =
    frozen 1 c.write.new.self c.freeze.new.self c.in_ok-freeze.ensures.ok in
    let second : count c.write-2.new.self ≡ count c.freeze.new.self =
    written (record { first = 128; sectors = c.filled-2.result ∷ [] }) c.freeze.new.self
    c.write-2.new.self c.in_ok-write-2.ensures.ok in
    let two : count c.freeze-2.new.self ≡ count c.write-2.new.self + 1 =
    frozen 2 c.write-2.new.self c.freeze-2.new.self c.in_ok-freeze-2.ensures.ok in
    let third : count c.write-3.new.self ≡ count c.freeze-2.new.self =
    written (record { first = _; sectors = c.filled-3.result ∷ [] }) c.freeze-2.new.self
    c.write-3.new.self c.in_ok-write-3.ensures.ok in
    let three : count c.freeze-3.new.self ≡ count c.write-3.new.self + 1 =
    frozen 3 c.write-3.new.self c.freeze-3.new.self c.in_ok-freeze-3.ensures.ok in
    let all : length c.freeze-3.new.self.snapshots ≡ 3 =
    counted c.freeze-3.new.self ∙ omega (arith, none, first, one, second, two, third, three) in
    let cost : c.read_steps.new.steps ≤ c.args.steps.now + (3 + 1) * blocks_met 128 1 =
    rw (all, c.requires) at c.read_steps.ensures.cost in
    omega (arith, cost)
