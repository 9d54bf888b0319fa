-- Keys of blocks: no two blocks share one, and each key of 64 bits is led back to its block.
use Rattle.std.proofs.Common.{◌≡◌, ◌≢◌, ℕ, ◌+◌, ◌*◌, ◌%◌, ◌^◌, ◌<◌, ◌≤◌, Option, nat_cmp, false, cond, sym, ap, refl, ◌∙◌, arith, inl, inr}
use Rattle.std.proofs.lemmas.Bool.{cases_lt, lt-ltb, le-ltb, ne_eqb}
use Rattle.std.proofs.lemmas.Nat.{mul-mod_first, mod-mul-add, mod_below}
use native.Mathlib.Nat.{mul_assoc, mul-add, mul-one}
use Rattle.std.specs.BTreeMap.{is_at}
use Rattle.std.specs.Map.{lookup}
use Rattle.sector_model.proofs.Among.{at_is}
use Rattle.snapshot_chain.specs.declared.layer.TheConstants.{SPREAD, GATHER}
use Rattle.snapshot_chain.specs.Page128.{PageState}
use Rattle.snapshot_chain.specs.Layer.{LayerState, key_of, slot_of}

-- a factor and its inverse
led_back : (a s g q m : ℕ) → s * g ≡ q * m + 1 → a < m → (a * s % m * g) % m ≡ a
led_back a s g q m one less =
    mul-mod_first (a * s) g m
    ∙ ap (λ x. x % m) (mul_assoc a s g ∙ ap (λ x. a * x) one ∙ mul-add a (q * m) 1
    ∙ ap (λ x. a * (q * m) + x) (mul-one a) ∙ ap (λ x. x + a) (sym (mul_assoc a q m)))
    ∙ mod-mul-add (a * q) m a less

-- the key of a block of 64 bits, and of another number
pub of_block : (b : ℕ) → b < 2 ^ 64 → key_of b ≡ b * SPREAD % 2 ^ 64
unfolding key_of
of_block b less = ap (λ x. cond x (b * SPREAD % 2 ^ 64) b) (lt-ltb b (2 ^ 64) less)

of_other : (b : ℕ) → 2 ^ 64 ≤ b → key_of b ≡ b
unfolding key_of
of_other b from = ap (λ x. cond x (b * SPREAD % 2 ^ 64) b) (le-ltb b (2 ^ 64) from)

block_from : (b : ℕ) → b < 2 ^ 64 → (key_of b * GATHER) % 2 ^ 64 ≡ b
block_from b less = ap (λ x. (x * GATHER) % 2 ^ 64) (of_block b less)
    ∙ led_back b SPREAD GATHER 10771413168148108919 (2 ^ 64) refl less

pub key_back : (key : ℕ) → key < 2 ^ 64 → key_of (key * GATHER % 2 ^ 64) ≡ key
key_back key less =
    of_block (key * GATHER % 2 ^ 64) (mod_below (key * GATHER) (2 ^ 64) (omega arith))
    ∙ led_back key GATHER SPREAD 10771413168148108919 (2 ^ 64) refl less

pub same_block : (a b : ℕ) → key_of a ≡ key_of b → a ≡ b
same_block a b is = elim (cases_lt a (2 ^ 64)) [
  | inl low ↦ elim (cases_lt b (2 ^ 64)) [
    | inl less ↦ sym (block_from a low) ∙ ap (λ x. (x * GATHER) % 2 ^ 64) is ∙ block_from b less
    | inr from ↦ absurd (apart a b low from is)
  ]
  | inr high ↦ elim (cases_lt b (2 ^ 64)) [
    | inl less ↦ absurd (apart b a less high (sym is))
    | inr from ↦ sym (of_other a high) ∙ is ∙ of_other b from
  ]
]
  where
    apart : (a b : ℕ) → a < 2 ^ 64 → 2 ^ 64 ≤ b → key_of a ≢ key_of b
    apart a b low from is = omega (
      arith,
      mod_below (a * SPREAD) (2 ^ 64) (omega arith),
      from,
      sym (of_block a low) ∙ is ∙ of_other b from,
    )

pub keys_differ : (a b : ℕ) → a ≢ b → key_of a ≢ key_of b
keys_differ a b apart is = apart (same_block a b is)

-- another block isn't found at the key of this one
pub other_key : (block other : ℕ) → other ≢ block
    → is_at (nat_cmp (key_of block)) (key_of other) ≡ false
other_key block other apart = at_is (key_of block) (key_of other)
    ∙ ne_eqb (key_of block) (key_of other) (keys_differ block other (λ same. apart (sym same)))

-- what stands under a key is in the slot of its block
abbrev pub at_key : LayerState → (key : ℕ) → Option PageState
at_key layer key = lookup (is_at (nat_cmp key)) layer

pub by_key : (layer : LayerState) (b key : ℕ) → key_of b ≡ key
    → slot_of layer b ≡ at_key layer key
by_key layer b key is = ap (at_key layer) is
