-- What a crash may leave of a settled disk that is written at its end, at one gate, or cut.
use Rattle.std.proofs.Common.{◌≡◌, ℕ, suc, ◌+◌, ◌-◌, ◌<◌, ◌≤◌, min, max, nat_lt, nat_le, Bool, true, false, List, [], ◌∷◌, ◌++◌, length, get_or, take, drop, refl, sym, ◌∙◌, ap, subst, ◌⊎◌, inl, inr, arith, append_assoc, length-append, length-take, length-drop}
use Rattle.std.proofs.lemmas.List.{ext_get_or, get_or-take, take-append-drop, take_all, take-append-le, drop_all, append-nil}
use Rattle.std.proofs.Math.Seq.{drop-append_seam}
use Rattle.std.proofs.lemmas.Bool.{cases_lt}
use Rattle.std.proofs.lemmas.Bool.Decides.{nat_tests}
use Rattle.basics.specs.Replaced.{replaced}
use Rattle.edge_traits.specs.Disk.{DiskContents, IsImage, is_loose, settled, loosened, shortened}
use Rattle.basics.proofs.Replaced.{length-replaced_past, get_or-replaced_before, get_or-replaced_within, get_or-replaced_behind}
use Rattle.journal.specs.Devices.{IsSettled, IsCutAppend}

-- lists that agree as far as the first goes
starts_same : (front image : List ℕ) → length front ≤ length image
    → ((k : ℕ) → k < length front → get_or image k 0 ≡ get_or front k 0)
    → take (length front) image ≡ front
starts_same front image long same =
    let len : length (take (length front) image) ≡ length front =
    omega (arith, length-take (length front) image) in
    ext_get_or 0 (take (length front) image) front len
    (λ k below.
    let inside : k < length front = omega arith in
    get_or-take (length front) image k 0 inside ∙ same k inside)

before_it : (k first count : ℕ) (file : List ℕ) → k < first
    → is_loose k (loosened first count (settled file)) ≡ false
before_it k first count file below = grind (arith, nat_tests)

behind_it : (k first count : ℕ) (file : List ℕ) → first + count ≤ k
    → is_loose k (loosened first count (settled file)) ≡ false
behind_it k first count file behind = grind (arith, nat_tests)

-- an image of a settled disk that was written at its end
image_of_longer : (file : List ℕ) (count : ℕ) (image : List ℕ)
    → IsImage (loosened (length file) count (settled file)) image
    → (image ≡ file ++ drop (length file) image) × (length (drop (length file) image) ≤ count)
image_of_longer file count image is =
    let long : length file ≤ length image = is.long in
    let short : length image ≤ max (length file) (length file + count) = is.short in
    let same : (k : ℕ) → k < length file → get_or image k 0 ≡ get_or file k 0 =
    λ k below.
    let within : k < length image = omega arith in
    is.kept k within below (before_it k (length file) count file below) in
    let starts : take (length file) image ≡ file = starts_same file image long same in (
      sym (take-append-drop (length file) image) ∙ ap (λ xs. xs ++ drop (length file) image) starts,
      omega (arith, length-drop (length file) image),
    )

pub replaced_at_end : (file written : List ℕ)
    → replaced file (length file) written ≡ file ++ written
replaced_at_end file written =
    let front : take (length file) file ≡ file = take_all (length file) file (omega arith) in
    let none : drop (length file + length written) file ≡ [] =
    drop_all (length file + length written) file (omega arith) in
    rw (front, none) (append-nil (file ++ written))

-- one byte of a file with something behind it
pub replaced_gate : (file cell : List ℕ) (gate : ℕ) → 1 ≤ length file
    → replaced (file ++ cell) (length file - 1) (gate ∷ [])
    ≡ take (length file - 1) file ++ gate ∷ cell
replaced_gate file cell gate some =
    let within : length file - 1 ≤ length file = omega arith in
    let front : take (length file - 1) (file ++ cell) ≡ take (length file - 1) file =
    take-append-le (length file - 1) file cell within in
    let end : length file - 1 + 1 ≡ length file = omega arith in
    let rest : drop (length file - 1 + 1) (file ++ cell) ≡ cell =
    ap (λ n. drop n (file ++ cell)) end ∙ drop-append_seam file cell in
    ap (λ xs. (xs ++ gate ∷ []) ++ drop (length file - 1 + 1) (file ++ cell)) front
    ∙ ap (λ xs. (take (length file - 1) file ++ gate ∷ []) ++ xs) rest
    ∙ append_assoc (take (length file - 1) file) (gate ∷ []) cell

-- an image of a settled disk of which one byte was written
image_of_gate : (file : List ℕ) (at : ℕ) (image : List ℕ) → at < length file
    → IsImage (loosened at 1 (settled file)) image
    → image ≡ replaced file at (get_or image at 0 ∷ [])
image_of_gate file at image within is =
    let long : length file ≤ length image = is.long in
    let short : length image ≤ max (length file) (at + 1) = is.short in
    let gate : ℕ = get_or image at 0 in
    let len : length (replaced file at (gate ∷ [])) ≡ max (length file) (at + 1) =
    length-replaced_past file (gate ∷ []) at (omega arith) in
    let same : length image ≡ length (replaced file at (gate ∷ [])) = omega arith in
    let begins : at ≤ length file = omega arith in
    ext_get_or 0 image (replaced file at (gate ∷ [])) same
    (λ k below.
    let inside : k < length file = omega arith in
    elim (cases_lt k at) [
      | inl before ↦
          is.kept k below inside (before_it k at 1 file before)
          ∙ sym (get_or-replaced_before file (gate ∷ []) at begins k 0 before)
      | inr from ↦
          elim (cases_lt at k) [
            | inl behind ↦
                let past : at + 1 ≤ k = omega arith in
                is.kept k below inside (behind_it k at 1 file past)
                ∙ sym (get_or-replaced_behind file (gate ∷ []) at begins k 0 past)
            | inr to ↦
                let here : k ≡ at = omega arith in
                let none : k - at ≡ 0 = omega arith in
                let only : k < at + 1 = omega arith in
                ap (λ n. get_or image n 0) here
                ∙ ap (λ n. get_or (gate ∷ []) n 0) (sym none)
                ∙ sym (get_or-replaced_within file (gate ∷ []) at begins k 0 from only)
          ]
    ])

-- a disk that is cut keeps the bytes that it has
pub image_of_shorter : (file : List ℕ) (end : ℕ) (image : List ℕ) → end ≤ length file
    → IsImage (shortened end (settled file)) image
    → (end ≤ length image) × (image ≡ take (length image) file)
image_of_shorter file end image within is =
    let long : min (length file) end ≤ length image = is.long in
    let short : length image ≤ length file = is.short in
    let len : length (take (length image) file) ≡ length image =
    omega (arith, length-take (length image) file) in (
      omega arith,
      ext_get_or 0 image (take (length image) file) (sym len)
          (λ k below.
          let inside : k < length file = omega arith in
          is.kept k below inside refl ∙ sym (get_or-take (length image) file k 0 below)),
    )

-- an append that was cut before its record was on the disk
pub cut_before : (c : DiskContents) (len : ℕ) (cell image : List ℕ) → IsSettled c
    → len ≡ length c.bytes → IsImage (loosened len (length cell) c) image
    → IsCutAppend c.bytes cell image
cut_before c len cell image at_rest long is =
    let here : IsImage (loosened (length c.bytes) (length cell) c) image =
    subst (λ (n : ℕ). IsImage (loosened n (length cell) c) image) long is in
    let settled_here : IsImage (loosened (length c.bytes) (length cell) (settled c.bytes)) image =
    subst (λ (d : DiskContents). IsImage (loosened (length c.bytes) (length cell) d) image) at_rest
    here in
    let parts = image_of_longer c.bytes (length cell) image settled_here in
    inl (drop (length c.bytes) image, parts.0, parts.1)

-- and one that was cut later
pub cut_after : (file cell image : List ℕ) → 1 ≤ length file
    → IsImage (loosened (length file - 1) 1 (settled (file ++ cell))) image
    → IsCutAppend file cell image
cut_after file cell image some is =
    let within : length file - 1 < length (file ++ cell) = omega (arith, length-append file cell) in
    inr (
      get_or image (length file - 1) 0,
      image_of_gate (file ++ cell) (length file - 1) image within is
          ∙ replaced_gate file cell (get_or image (length file - 1) 0) some,
    )
