-- A read goes down layer by layer: what one layer more gives to it.
use Rattle.std.proofs.Common.{◌≡◌, ℕ, zero, suc, ◌+◌, ◌-◌, ◌*◌, ◌/◌, ◌%◌, ◌<◌, ◌≤◌, min, max, inl, inr, length-take, length-drop, length-append, List, [], ◌∷◌, ◌++◌, length, take, drop, get_or, Bool, true, false, Option, Some, None, is_some, sym, ap, subst, refl, ◌∙◌, arith}
use Rattle.std.specs.Option.{option_or, option_and_then, unwrap_or}
use Rattle.std.specs.Prelude.{◌==◌, if◌then◌else◌}
use Rattle.std.specs.List.{slice_get}
use borrow.Rule.Slice.PartMut.{put_mid, post_of}
use Rattle.std.proofs.lemmas.Bool.{false≢true, cases_lt, cases_eq, ne_eqb}
use Rattle.snapshot_chain.proofs.Masks.{empty_none}
use Rattle.basics.proofs.ItemAt.{slice_get-front, slice_get-back, slice_get-take}
use Rattle.basics.proofs.Options.{or_none}
use Rattle.std.proofs.lemmas.List.{drop_all, get_or_default}
use Rattle.std.proofs.Math.Seq.{drop-cons}
use Rattle.std.proofs.Math.Nat.{mul-suc}
use Rattle.basics.proofs.Options.{some_or}
use Rattle.sector_model.specs.Sector.{zero_sector}
use Rattle.sector_model.specs.declared.sector.Sector.{Sector}
use Rattle.snapshot_chain.specs.Page128.{PageState, sector_at}
use Rattle.snapshot_chain.specs.Layer.{LayerState, slot_of, page_of, if_written, sector_of, sector_in}
use Rattle.snapshot_chain.specs.Layers.{found, sector_found, layer_at}
use Rattle.snapshot_chain.specs.Reading.{IsRead, TakesMissing}

pub none_yet : (layers : List LayerState) (block offset : ℕ) (was : Bool) (read : Option Sector)
    → IsRead None was read → IsRead (found (drop (length layers) layers) block offset) was read
none_yet layers block offset was read is =
    let P : List LayerState → Type 0 = λ ls. IsRead (found ls block offset) was read in
    subst P (sym (drop_all (length layers) layers (omega arith))) is

taken : (upper : Option Sector) (sector : Option Sector) (was : Bool) (old : Option Sector)
    (now : Bool) (new : Option Sector) → IsRead upper was old → TakesMissing sector was old now new
    → IsRead (option_or upper sector) now new
taken None sector true old now new is takes = absurd (false≢true is.0)
taken (Some x) sector true old now new is takes = rw takes.0 (refl, takes.1 ∙ is.1)
taken upper (Some sector) false old now new is takes = rw (takes.0, is.0) (refl, takes.1)
taken upper None false old now new is takes = rw (takes.0, is.0) (refl, takes.1 ∙ is.1)

next_layer : (layers : List LayerState) (left : ℕ) → 0 < left → left ≤ length layers
    → drop (left - 1) layers ≡ layer_at layers (left - 1) ∷ drop left layers
next_layer layers left some bound =
    let at : left - 1 < length layers = omega (arith, some, bound) in
    drop-cons layers (left - 1) [] at
    ∙ (let e : suc (left - 1) ≡ left = omega (arith, some) in
    ap (λ (n : ℕ). layer_at layers (left - 1) ∷ drop n layers) e)

-- a page without sectors holds what no page does
chosen : (b : Bool) (kept page : PageState) → (if b then None else Some kept) ≡ Some page
    → Some kept ≡ Some page
chosen true kept page is = absurd (false≢true (ap is_some is))
chosen false kept page is = is

page_here : (slot : Option PageState) (page : PageState) (offset : ℕ)
    → option_and_then if_written slot ≡ Some page → sector_of slot offset ≡ sector_at page offset
page_here None page offset is = absurd (false≢true (ap is_some is))
page_here (Some kept) page offset is =
    ap (λ (o : Option PageState). sector_of o offset) (chosen (kept.mask == 0) kept page is)

no_page_here : (slot : Option PageState) (offset : ℕ) → option_and_then if_written slot ≡ None
    → sector_of slot offset ≡ None
no_page_here None offset is = refl
no_page_here (Some kept) offset is = elim (cases_eq kept.mask 0) [
  | inl empty ↦ empty_none kept offset empty
  | inr some ↦ absurd (false≢true (sym (ap is_some (rw (ne_eqb kept.mask 0 some) at is))))
]

pub one_more : (layers : List LayerState) (left block offset : ℕ) (layer : LayerState)
    (page : PageState) (was : Bool) (old : Option Sector) (now : Bool) (new : Option Sector)
    → 0 < left → left ≤ length layers
    → layer ≡ get_or layers (left - 1) layer → page_of layer block ≡ Some page
    → IsRead (found (drop left layers) block offset) was old
    → TakesMissing (sector_at page offset) was old now new
    → IsRead (found (drop (left - 1) layers) block offset) now new
one_more layers left block offset layer page was old now new some bound is has read takes =
    let same : layer ≡ layer_at layers (left - 1) =
    is ∙ get_or_default layers (left - 1) layer [] (omega (arith, some, bound)) in
    let here : sector_in (layer_at layers (left - 1)) block offset ≡ sector_at page offset =
    ap (λ (l : LayerState). sector_in l block offset) (sym same)
    ∙ page_here (slot_of layer block) page offset has in
    let P : List LayerState → Type 0 = λ ls. IsRead (found ls block offset) now new in
    subst P (sym (next_layer layers left some bound))
    (let Q : Option Sector
    → Type 0 = λ o. IsRead (option_or (found (drop left layers) block offset) o) now new in
    subst Q (sym here) (taken (found (drop left layers) block offset) (sector_at page offset) was
    old now new read takes))

pub none_more : (layers : List LayerState) (left block offset : ℕ) (layer : LayerState) (was : Bool)
    (old : Option Sector) → 0 < left → left ≤ length layers
    → layer ≡ get_or layers (left - 1) layer → page_of layer block ≡ None
    → IsRead (found (drop left layers) block offset) was old
    → IsRead (found (drop (left - 1) layers) block offset) was old
none_more layers left block offset layer was old some bound is has read =
    let same : layer ≡ layer_at layers (left - 1) =
    is ∙ get_or_default layers (left - 1) layer [] (omega (arith, some, bound)) in
    let here : sector_in (layer_at layers (left - 1)) block offset ≡ None =
    ap (λ (l : LayerState). sector_in l block offset) (sym same)
    ∙ no_page_here (slot_of layer block) offset has in
    let P : List LayerState → Type 0 = λ ls. IsRead (found ls block offset) was old in
    subst P (sym (next_layer layers left some bound))
    (let Q : Option Sector → Type 0 = λ o. IsRead o was old in
    subst Q (sym (ap (option_or (found (drop left layers) block offset)) here
    ∙ or_none (found (drop left layers) block offset))) read)

-- all layers were looked at
pub all_read : (sector : Option Sector) (was : Bool) (read : Option Sector) → IsRead sector was read
    → read ≡ Some (unwrap_or sector zero_sector)
all_read None true read is = absurd (false≢true is.0)
all_read (Some x) true read is = is.1
all_read sector false read is = rw is.0 is.1

found-drop : (layers : List LayerState) (n block offset : ℕ)
    → is_some (found (drop n layers) block offset) ≡ true
    → found layers block offset ≡ found (drop n layers) block offset
found-drop layers zero block offset some = refl
found-drop [] (suc n) block offset some = refl
found-drop (l ∷ layers) (suc n) block offset some =
    ap (λ (o : Option Sector). option_or o (sector_in l block offset))
    (found-drop layers n block offset some)
    ∙ some_or (found (drop n layers) block offset) (sector_in l block offset) some

-- all offsets were found before
pub found_early : (layers : List LayerState) (left block offset : ℕ) (was : Bool)
    (read : Option Sector) → IsRead (found (drop left layers) block offset) was read → was ≡ true
    → read ≡ Some (unwrap_or (found layers block offset) zero_sector)
found_early layers left block offset true read is early =
    is.1 ∙ sym (found-drop layers left block offset is.0)
    ∙ some (found layers block offset) (ap is_some (found-drop layers left block offset is.0)
    ∙ is.0)
  where
    some : (o : Option Sector) → is_some o ≡ true → o ≡ Some (unwrap_or o zero_sector)
    some None h = absurd (false≢true h)
    some (Some x) h = refl
found_early layers left block offset false read is early = absurd (false≢true early)

-- one block more of a read: its part stands in the buffer from offset a on
pub block_more : (layers : List LayerState) (first block from offset count a n k : ℕ)
    (buf part : List Sector)
    → from ≡ max first (128 * block) → offset ≡ from % 128
    → count ≡ min (first + length buf - from) (128 - offset) → a ≡ from - first → n ≡ count
    → a + n ≤ length buf
    → first / 128 ≤ block → 128 * block < first + length buf + 128
    → length part ≡ n → ((j : ℕ) → j < length part
    → slice_get part j ≡ Some (unwrap_or (found layers block (offset + j)) zero_sector))
    → ((j : ℕ) → j < length buf → first + j < 128 * block
    → slice_get buf j ≡ Some (sector_found layers (first + j)))
    → k < length buf → first + k < 128 * (block + 1)
    → slice_get (put_mid a n buf part) k ≡ Some (sector_found layers (first + k))
block_more layers first block from offset count a n k buf part from_is place_is count_is a_is n_is
    fits low high long read before less now = elim (cases_lt k a) [
      | inl early ↦
          slice_get-front (take a buf) (part ++ post_of a n buf) k
          (omega (arith, early, fits, length-take a buf)) ∙ slice_get-take buf a k early
          ∙ before k less (omega (arith, early, a_is, from_is))
      | inr late ↦
          let inside : k - a < length part =
          omega (arith, late, long, n_is, count_is, place_is, from_is, a_is, less, now) in
          let at : length (take a buf) + (k - a)
          ≡ k = omega (arith, late, fits, length-take a buf) in
          let block_at : (first + k) / 128 ≡ block =
          omega (arith, late, a_is, from_is, less, now, low) in
          let place_at : (first + k) % 128 ≡ offset + (k - a) =
          omega (
            arith,
            late,
            a_is,
            from_is,
            place_is,
            less,
            now,
            low,
            inside,
            long,
            n_is,
            count_is,
            block_at,
          ) in
          ap (slice_get (put_mid a n buf part)) (sym at)
          ∙ slice_get-back (take a buf) (part ++ post_of a n buf) (k - a)
          ∙ slice_get-front part (post_of a n buf) (k - a) inside ∙ read (k - a) inside
          ∙ sym (ap (λ (b : ℕ). Some (unwrap_or (found layers b ((first + k) % 128)) zero_sector))
          block_at ∙ ap (λ (p : ℕ). Some (unwrap_or (found layers block p) zero_sector)) place_at)
    ]

pub one_block_more : (n block low : ℕ) → low ≤ block → n * (block + 1 - low) ≡ n * (block - low) + n
one_block_more n block low le =
    (let e : block + 1 - low ≡ block - low + 1 = omega (arith, le) in ap (λ (m : ℕ). n * m) e)
    ∙ (let one_more : block - low + 1 ≡ suc (block - low) = omega arith in
    ap (λ (m : ℕ). n * m) one_more) ∙ mul-suc n (block - low)

pub length-put_mid : (a n : ℕ) (xs ys : List Sector) → a + n ≤ length xs → length ys ≡ n
    → length (put_mid a n xs ys) ≡ length xs
length-put_mid a n xs ys fits long =
    omega (
      arith,
      fits,
      long,
      length-append (take a xs) (ys ++ post_of a n xs),
      length-append ys
          (post_of a n xs),
      length-take a xs,
      length-drop n (drop a xs),
      length-drop a xs,
      length-drop
          (a + n) xs,
    )
