-- What the steps of an opening read, and leave of a disk, where it tells that.
use Rattle.std.proofs.Common.{◌≡◌, ℕ, ◌+◌, ◌-◌, ◌<◌, ◌≤◌, ◌%◌, min, max, List, [], ◌∷◌, ◌++◌, length, take, drop, refl, sym, ◌∙◌, ap, subst, ◌⊎◌, inl, inr, arith, length-append, length-take, length-drop}
use Rattle.std.specs.Prelude.{Option, Some, None, option_map, IfSome}
use Rattle.std.specs.Option.{ForSome}
use Rattle.std.proofs.lemmas.List.{take_all}
use Rattle.std.proofs.lemmas.Bool.{cases_lt}
use Rattle.std.proofs.Math.Seq.{take-append_seam, take-add}
use Rattle.basics.specs.Replaced.{replaced}
use Rattle.edge_traits.specs.Disk.{DiskContents, IsImage, IsBrokenWrite, IsBrokenCut, WhereTold, settled, loosened, shortened, after_write, after_cut, after_sync}
use Rattle.edge_traits.proofs.Images.{images_of_write, broken_write_images, broken_cut_images}
use Rattle.journal.specs.Devices.{IsSettled, LeavesFew}
use Rattle.journal.specs.declared.format.TheConstants.{PIECE_BYTES}

-- one more piece of the file is read
pub piece_read : (at end : ℕ) (old new file : List ℕ) → at ≤ end → end ≤ length old
    → length old ≡ length file → take at old ≡ take at file
    → new ≡ replaced old at (take (end - at) (drop at file)) → take end new ≡ take end file
piece_read at end old new file begun within same before is =
    let count : ℕ = end - at in
    let split : at + count ≡ end = omega arith in
    let front : take at old ++ take count (drop at file) ≡ take end file =
    ap (λ xs. xs ++ take count (drop at file)) before ∙ sym (take-add at count file)
    ∙ ap (λ n. take n file) split in
    let len : length (take end file) ≡ end = omega (arith, length-take end file) in
    let rest : List ℕ = drop (at + length (take count (drop at file))) old in
    let whole : new ≡ take end file ++ rest = is ∙ ap (λ xs. xs ++ rest) front in
    ap (λ xs. take end xs) whole
    ∙ ap (λ n. take n (take end file ++ rest)) (sym len)
    ∙ take-append_seam (take end file) rest

-- when all pieces are read
pub all_read : (at : ℕ) (bytes file : List ℕ) → length bytes ≤ at → length bytes ≡ length file
    → take at bytes ≡ take at file → bytes ≡ file
all_read at bytes file done same before =
    sym (take_all at bytes done) ∙ before ∙ take_all at file (omega arith)

-- where the next piece begins
pub next_piece : (at end len : ℕ) → (at % PIECE_BYTES ≡ 0) ⊎ (at ≡ len) → at < len
    → end ≡ min len (at + PIECE_BYTES) → (end % PIECE_BYTES ≡ 0) ⊎ (end ≡ len)
next_piece at end len (inl begins) more is =
    elim (cases_lt (at + PIECE_BYTES) len) [
      | inl within ↦ inl (omega arith)
      | inr last ↦ inr (omega arith)
    ]
next_piece at end len (inr done) more is = absurd (omega arith)

few_now : (c : DiskContents) (most : ℕ) → IsSettled c → length c.bytes ≤ most → c.greatest ≤ most
few_now c most at_rest few =
    let greatest : c.greatest ≡ length c.bytes = ap (λ (d : DiskContents). d.greatest) at_rest in
    omega arith

-- a creation of which the cut failed
pub cut_few : (old new : Option DiskContents) (most : ℕ) → ForSome old IsSettled
    → ForSome old (λ c. length c.bytes ≤ most) → WhereTold (IsBrokenCut 0) old new
    → WhereTold (LeavesFew most) old new
cut_few None None most at_rest few broken = broken
cut_few None (Some new) most at_rest few broken = broken
cut_few (Some old) None most at_rest few broken = broken
cut_few (Some old) (Some new) most at_rest few broken = λ image is.
    omega (
      arith,
      (broken_cut_images old new 0 broken image is).short,
      few_now old most
          (at_rest old refl) (few old refl),
    )

-- or the write
pub write_few : (old cut new : Option DiskContents) (count most : ℕ) → count ≤ most
    → ForSome old IsSettled → ForSome old (λ c. length c.bytes ≤ most)
    → cut ≡ option_map (after_cut 0) old → WhereTold (IsBrokenWrite 0 count) cut new
    → WhereTold (LeavesFew most) old new
write_few None cut new count most within at_rest few is broken = gone new (rw is at broken)
  where
    gone : (new : Option DiskContents) → WhereTold (IsBrokenWrite 0 count) None new
        → WhereTold (LeavesFew most) None new
    gone None broken = broken
    gone (Some new) broken = broken
write_few (Some old) cut new count most within at_rest few is broken = there new (rw is at broken)
  where
    there : (new : Option DiskContents)
        → WhereTold (IsBrokenWrite 0 count) (Some (after_cut 0 old)) new
        → WhereTold (LeavesFew most) (Some old) new
    there None broken = broken
    there (Some new) broken = λ image i.
        omega (
          arith,
          (broken_write_images (after_cut 0 old) new 0 count broken image i).short,
          few_now old most (at_rest old refl) (few old refl),
        )

-- or the sync
pub sync_few : (old cut written new : Option DiskContents) (file : List ℕ) (most : ℕ)
    → length file ≤ most → ForSome old IsSettled → ForSome old (λ c. length c.bytes ≤ most)
    → cut ≡ option_map (after_cut 0) old → written ≡ option_map (after_write 0 file) cut
    → new ≡ written → WhereTold (LeavesFew most) old new
sync_few None cut written new file most within at_rest few is then same = rw (same, then, is) tt
sync_few (Some old) cut written new file most within at_rest few is then same =
    rw (same, then, is) (λ image i.
    let short : length image ≤ max old.greatest (0 + length file) = i.short in
    omega (arith, short, few_now old most (at_rest old refl) (few old refl)))
