-- What the steps of an append leave of a disk, where it tells that.
use Rattle.std.proofs.Common.{◌≡◌, ℕ, ◌+◌, ◌-◌, ◌<◌, ◌≤◌, List, [], ◌∷◌, ◌++◌, length, take, drop, refl, sym, ◌∙◌, ap, subst, arith, length-append}
use Rattle.std.specs.Prelude.{Option, Some, None, option_map}
use Rattle.std.specs.Option.{ForSome}
use Rattle.basics.specs.Replaced.{replaced}
use Rattle.edge_traits.specs.Disk.{DiskContents, IsImage, IsBrokenWrite, WhereTold, settled, loosened, after_write, after_sync}
use Rattle.edge_traits.proofs.Images.{images_of_write, broken_write_images}
use Rattle.journal.specs.Devices.{IsSettled, LeavesCutAppend}
use Rattle.journal.specs.declared.format.TheConstants.{OPEN_GATE}
use Rattle.journal.proofs.ImageLemmas.{cut_before, cut_after, replaced_at_end, replaced_gate}

-- the disk with the cell, when that is synced
abbrev pub with_cell : (len : ℕ) (cell : List ℕ) → DiskContents → DiskContents
with_cell len cell c = after_sync (after_write len cell c)

pub with_cell_is : (c : DiskContents) (len : ℕ) (cell : List ℕ) → len ≡ length c.bytes
    → with_cell len cell c ≡ settled (c.bytes ++ cell)
with_cell_is c len cell long =
    ap (λ n. settled (replaced c.bytes n cell)) long ∙ ap settled (replaced_at_end c.bytes cell)

later_images : (c : DiskContents) (len : ℕ) (cell image : List ℕ) → len ≡ length c.bytes → 1 ≤ len
    → IsImage (loosened (len - 1) 1 (with_cell len cell c)) image
    → IsImage (loosened (length c.bytes - 1) 1 (settled (c.bytes ++ cell))) image
later_images c len cell image long some is =
    let there : IsImage (loosened (len - 1) 1 (settled (c.bytes ++ cell))) image =
    subst (λ (d : DiskContents). IsImage (loosened (len - 1) 1 d) image)
    (with_cell_is c len cell long) is in
    subst (λ (n : ℕ). IsImage (loosened (n - 1) 1 (settled (c.bytes ++ cell))) image) long there

-- the record's write failed
pub write_cut : (old new : Option DiskContents) (len : ℕ) (cell : List ℕ) → ForSome old IsSettled
    → ForSome old (λ c. len ≡ length c.bytes)
    → WhereTold (IsBrokenWrite len (length cell)) old new → WhereTold (LeavesCutAppend cell) old new
write_cut None None len cell at_rest long broken = broken
write_cut None (Some new) len cell at_rest long broken = broken
write_cut (Some old) None len cell at_rest long broken = broken
write_cut (Some old) (Some new) len cell at_rest long broken = λ image is.
    cut_before old len cell image (at_rest old refl) (long old refl)
    (broken_write_images old new len (length cell) broken image is)

-- its sync failed
pub sync_cut : (old written new : Option DiskContents) (len : ℕ) (cell : List ℕ)
    → ForSome old IsSettled → ForSome old (λ c. len ≡ length c.bytes)
    → written ≡ option_map (after_write len cell) old → new ≡ written
    → WhereTold (LeavesCutAppend cell) old new
sync_cut None written new len cell at_rest long is same = rw (same, is) tt
sync_cut (Some old) written new len cell at_rest long is same =
    rw (same, is) (λ image i.
    cut_before old len cell image (at_rest old refl) (long old refl)
    (images_of_write old len cell image i))

-- the gate's write failed
pub gate_cut : (old synced new : Option DiskContents) (len : ℕ) (cell : List ℕ)
    → ForSome old (λ c. len ≡ length c.bytes) → 1 ≤ len
    → synced ≡ option_map (with_cell len cell) old
    → WhereTold (IsBrokenWrite (len - 1) 1) synced new → WhereTold (LeavesCutAppend cell) old new
gate_cut None synced new len cell long some is broken = gone new (rw is at broken)
  where
    gone : (new : Option DiskContents) → WhereTold (IsBrokenWrite (len - 1) 1) None new
        → WhereTold (LeavesCutAppend cell) None new
    gone None broken = broken
    gone (Some new) broken = broken
gate_cut (Some old) synced new len cell long some is broken = there new (rw is at broken)
  where
    there : (new : Option DiskContents)
        → WhereTold (IsBrokenWrite (len - 1) 1) (Some (with_cell len cell old)) new
        → WhereTold (LeavesCutAppend cell) (Some old) new
    there None broken = broken
    there (Some new) broken = λ image i.
        let bytes : 1 ≤ length old.bytes = omega (arith, long old refl, some) in
        cut_after old.bytes cell image bytes
        (later_images old len cell image (long old refl) some
        (broken_write_images (with_cell len cell old) new (len - 1) 1 broken image i))

-- the last sync failed
pub last_cut : (old synced opened new : Option DiskContents) (len : ℕ) (cell : List ℕ)
    → ForSome old (λ c. len ≡ length c.bytes) → 1 ≤ len
    → synced ≡ option_map (with_cell len cell) old
    → opened ≡ option_map (after_write (len - 1) (OPEN_GATE ∷ [])) synced → new ≡ opened
    → WhereTold (LeavesCutAppend cell) old new
last_cut None synced opened new len cell long some is gate same = rw (same, gate, is) tt
last_cut (Some old) synced opened new len cell long some is gate same =
    rw (same, gate, is) (λ image i.
    let bytes : 1 ≤ length old.bytes = omega (arith, long old refl, some) in
    cut_after old.bytes cell image bytes
    (later_images old len cell image (long old refl) some
    (images_of_write (with_cell len cell old) (len - 1) (OPEN_GATE ∷ []) image i)))

opened_is : (c : DiskContents) (len : ℕ) (cell : List ℕ) → len ≡ length c.bytes → 1 ≤ len
    → after_sync (after_write (len - 1) (OPEN_GATE ∷ []) (with_cell len cell c))
    ≡ settled (take (len - 1) c.bytes ++ OPEN_GATE ∷ cell)
opened_is c len cell long some =
    let bytes : 1 ≤ length c.bytes = omega (arith, long, some) in
    ap (λ (d : DiskContents). after_sync (after_write (len - 1) (OPEN_GATE ∷ []) d))
    (with_cell_is c len cell long)
    ∙ ap (λ n. settled (replaced (c.bytes ++ cell) (n - 1) (OPEN_GATE ∷ []))) long
    ∙ ap settled (replaced_gate c.bytes cell OPEN_GATE bytes)
    ∙ ap (λ n. settled (take (n - 1) c.bytes ++ OPEN_GATE ∷ cell)) (sym long)

-- all of it was done
pub all_done : (old synced opened new : Option DiskContents) (len : ℕ) (cell : List ℕ)
    → ForSome old (λ c. len ≡ length c.bytes) → 1 ≤ len
    → synced ≡ option_map (with_cell len cell) old
    → opened ≡ option_map (after_write (len - 1) (OPEN_GATE ∷ [])) synced
    → new ≡ option_map after_sync opened
    → new ≡ option_map (λ c. settled (take (len - 1) c.bytes ++ OPEN_GATE ∷ cell)) old
all_done None synced opened new len cell long some is gate done = rw (done, gate, is) refl
all_done (Some old) synced opened new len cell long some is gate done =
    rw (done, gate, is) (ap (λ (d : DiskContents). Some d)
    (opened_is old len cell (long old refl) some))

-- the gate lies within the disk
pub gate_within : (old synced : Option DiskContents) (len : ℕ) (cell : List ℕ)
    → ForSome old (λ c. len ≡ length c.bytes) → synced ≡ option_map (with_cell len cell) old
    → ForSome synced (λ c. len - 1 ≤ length c.bytes)
gate_within None synced len cell long is = λ c at. absurd (cc)
gate_within (Some old) synced len cell long is = λ c at.
    let same : c ≡ with_cell len cell old = cc in
    let whole : c ≡ settled (old.bytes ++ cell) =
    same ∙ with_cell_is old len cell (long old refl) in
    let bytes : length c.bytes ≡ length (old.bytes ++ cell) =
    ap (λ (d : DiskContents). length d.bytes) whole in
    omega (arith, bytes, length-append old.bytes cell, long old refl)

pub synced_is : (old written synced : Option DiskContents) (len : ℕ) (cell : List ℕ)
    → written ≡ option_map (after_write len cell) old → synced ≡ option_map after_sync written
    → synced ≡ option_map (with_cell len cell) old
synced_is None written synced len cell is done = rw (done, is) refl
synced_is (Some old) written synced len cell is done = rw (done, is) refl
