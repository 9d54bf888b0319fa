-- How images follow from one another.
use Rattle.std.proofs.Common.{◌≡◌, ℕ, zero, suc, ◌+◌, ◌-◌, ◌/◌, ◌%◌, ◌^◌, ◌<◌, ◌≤◌, min, max, nat_lt, nat_le, Bool, true, false, not, if◌then◌else◌, ◌||◌, ◌&&◌, List, [], ◌∷◌, ◌++◌, length, get_or, take, drop, refl, sym, ◌∙◌, ap, ◌⊎◌, inl, inr, arith, length-take, length-drop, length-append}
use Rattle.std.specs.Prelude.{Option, Some, None, option_map, Result, Ok, Err, OnOk, OnErr}
use Rattle.std.specs.Option.{ForSome}
use Rattle.std.specs.List.{list_any}
use Rattle.std.proofs.lemmas.List.{get_or-take, ext_get_or, take_all}
use Rattle.std.proofs.lemmas.Bool.{cases_lt, or_parts}
use Rattle.std.proofs.lemmas.List.Folds.{list_any-append}
use Rattle.std.proofs.lemmas.Bool.Decides.{nat_tests}
use Rattle.edge_traits.specs.declared.span.Span.{Span}
use Rattle.basics.specs.Replaced.{replaced}
use Rattle.edge_traits.specs.Disk.{DiskContents, IsImage, covers, is_loose, settled, loosened, shortened, after_write, after_cut, IsBrokenWrite, IsBrokenCut, WhereTold}
use Rattle.edge_traits.specs.MemDisk.{IsConsistent, IsOverlaid, IsMixed, mixed_length, noise}
use Rattle.basics.specs.Generator.{advance}
use Rattle.basics.proofs.Replaced.{length-replaced_past, get_or-replaced_before, get_or-replaced_behind, take-replaced, drop-replaced, drop_on}

-- each image now is one that could be before
abbrev pub AllowsNoMore : (before now : DiskContents) → Type 0
AllowsNoMore before now = (image : List ℕ) → IsImage now image → IsImage before image

-- a byte that isn't loose after a range became loose is outside that range, and was not before
pub not_loosened : (c : DiskContents) (first count offset : ℕ)
    → is_loose offset (loosened first count c) ≡ false
    → (is_loose offset c ≡ false)
    × (covers offset (record { first = first; count = count }) ≡ false)
not_loosened c first count offset h =
    let span : Span = record { first = first; count = count } in
    let both : (list_any (covers offset) c.loose || list_any (covers offset) (span ∷ [])) ≡ false =
    sym (list_any-append (covers offset) c.loose (span ∷ [])) ∙ h in
    let parts = or_parts (list_any (covers offset) c.loose) (list_any (covers offset) (span ∷ []))
    both in
    (parts.0, (or_parts (covers offset span) false parts.1).0)

pub still_not_loosened : (c : DiskContents) (first count offset : ℕ) → is_loose offset c ≡ false
    → covers offset (record { first = first; count = count }) ≡ false
    → is_loose offset (loosened first count c) ≡ false
still_not_loosened c first count offset old new =
    let span : Span = record { first = first; count = count } in
    list_any-append (covers offset) c.loose (span ∷ [])
    ∙ rw (old, new) refl

-- an offset outside a span is before it or behind it
pub not_covered : (offset first count : ℕ)
    → covers offset (record { first = first; count = count }) ≡ false → first ≤ offset
    → first + count ≤ offset
not_covered offset first count h from = grind (arith, nat_tests)

pub covered_less : (offset first count more : ℕ) → count ≤ more
    → covers offset (record { first = first; count = more }) ≡ false
    → covers offset (record { first = first; count = count }) ≡ false
covered_less offset first count more le h = grind (arith, nat_tests)

-- what is settled has one image
pub settled_image : (bytes image : List ℕ) → IsImage (settled bytes) image → image ≡ bytes
settled_image bytes image is =
    let long : length bytes ≤ length image = is.long in
    let short : length image ≤ length bytes = is.short in
    let same : length image ≡ length bytes = omega arith in
    ext_get_or 0 image bytes same
    (λ k below. let within : k < length bytes = omega arith in is.kept k below within refl)

pub settled_consistent : (bytes : List ℕ) → IsConsistent (settled bytes)
settled_consistent bytes = record {
  read = record { long = omega arith; short = omega arith; kept = λ k b s l. refl };
  synced = record { long = omega arith; short = omega arith; kept = λ k b s l. refl };
}

-- what a write leaves of a byte that is not loose
written_kept : (c : DiskContents) (offset : ℕ) (bytes : List ℕ) (k : ℕ) → IsImage c c.bytes
    → offset ≤ length c.bytes → k < max (length c.bytes) (offset + length bytes)
    → k < length c.synced → is_loose k c ≡ false → (offset ≤ k → offset + length bytes ≤ k)
    → get_or (replaced c.bytes offset bytes) k 0 ≡ get_or c.synced k 0
written_kept c offset bytes k image begins below synced loose outside =
    elim (cases_lt k offset) [
      | inl before ↦
          let within : k < length c.bytes = omega arith in
          get_or-replaced_before c.bytes bytes offset begins k 0 before
          ∙ image.kept k within synced loose
      | inr from ↦
          let behind : offset + length bytes ≤ k = outside from in
          let within : k < length c.bytes = omega arith in
          get_or-replaced_behind c.bytes bytes offset begins k 0 behind
          ∙ image.kept k within synced loose
    ]

-- a write leaves what it gives to read among the images
pub write_possible : (c : DiskContents) (offset : ℕ) (bytes : List ℕ) → IsImage c c.bytes
    → offset ≤ length c.bytes → IsImage (after_write offset bytes c) (replaced c.bytes offset bytes)
write_possible c offset bytes is begins =
    let len : length (replaced c.bytes offset bytes)
    ≡ max (length c.bytes) (offset + length bytes) =
    length-replaced_past c.bytes bytes offset begins in
    let long : c.least ≤ length c.bytes = is.long in
    let short : length c.bytes ≤ c.greatest = is.short in
    let kept : (k : ℕ) → k < length (replaced c.bytes offset bytes) → k < length c.synced
    → is_loose k (after_write offset bytes c) ≡ false
    → get_or (replaced c.bytes offset bytes) k 0 ≡ get_or c.synced k 0 =
    λ k below synced loose.
    let parts = not_loosened c offset (length bytes) k loose in
    let reached : k < max (length c.bytes) (offset + length bytes) = omega arith in
    written_kept c offset bytes k is begins reached synced parts.0
    (not_covered k offset (length bytes) parts.1) in
    record { long = omega arith; short = omega arith; kept = kept }

pub write_consistent : (c : DiskContents) (offset : ℕ) (bytes : List ℕ) → IsConsistent c
    → offset ≤ length c.bytes → IsConsistent (after_write offset bytes c)
write_consistent c offset bytes is begins =
    let synced_long : c.least ≤ length c.synced = is.synced.long in
    let synced_short : length c.synced ≤ c.greatest = is.synced.short in
    record {
      read = write_possible c offset bytes is.read begins;
      synced = record { long = omega arith; short = omega arith; kept = λ k b s l. refl };
    }

pub cut_consistent : (c : DiskContents) (len : ℕ) → IsConsistent c → len ≤ length c.bytes
    → IsConsistent (after_cut len c)
cut_consistent c len is within =
    let long : c.least ≤ length c.bytes = is.read.long in
    let short : length c.bytes ≤ c.greatest = is.read.short in
    let synced_long : c.least ≤ length c.synced = is.synced.long in
    let synced_short : length c.synced ≤ c.greatest = is.synced.short in
    let left : length (take len c.bytes) ≡ len = omega (arith, length-take len c.bytes) in
    let kept : (k : ℕ) → k < length (take len c.bytes) → k < length c.synced
    → is_loose k c ≡ false → get_or (take len c.bytes) k 0 ≡ get_or c.synced k 0 =
    λ k below synced loose.
    let inside : k < len = omega arith in
    let whole : k < length c.bytes = omega arith in
    get_or-take len c.bytes k 0 inside ∙ is.read.kept k whole synced loose in
    record {
      read = record { long = omega arith; short = omega arith; kept = kept };
      synced = record { long = omega arith; short = omega arith; kept = λ k b s l. refl };
    }

-- the images of a disk don't depend on what a read gives
pub images_of_write : (c : DiskContents) (offset : ℕ) (bytes : List ℕ)
    → AllowsNoMore (loosened offset (length bytes) c) (after_write offset bytes c)
images_of_write c offset bytes image is =
    record { long = is.long; short = is.short; kept = is.kept }

pub images_of_cut : (c : DiskContents) (len : ℕ)
    → AllowsNoMore (shortened len c) (after_cut len c)
images_of_cut c len image is = record { long = is.long; short = is.short; kept = is.kept }

-- a disk that a failed call left as it was is one that it may leave
pub unbroken_write : (c : DiskContents) (offset count : ℕ) → IsBrokenWrite offset count c c
unbroken_write c offset count = record {
  synced = refl;
  loose = λ k l. (not_loosened c offset count k l).0;
  least = omega arith;
  greatest = omega arith;
  possible = λ is. is;
  no_shorter = omega arith;
  no_longer = omega arith;
  before = refl;
  behind = refl;
}

pub unbroken_cut : (c : DiskContents) (len : ℕ) → IsBrokenCut len c c
unbroken_cut c len = record {
  synced = refl;
  loose = λ k l. l;
  least = omega arith;
  greatest = omega arith;
  possible = λ is. is;
  no_shorter = omega arith;
  front = sym (take_all (length c.bytes) c.bytes (omega arith));
}

-- what is not loose for a range is not for a lesser one
still_less : (c : DiskContents) (first count more k : ℕ) → count ≤ more
    → is_loose k (loosened first more c) ≡ false → is_loose k (loosened first count c) ≡ false
still_less c first count more k le l =
    let parts = not_loosened c first more k l in
    still_not_loosened c first count k parts.0 (covered_less k first count more le parts.1)

-- half of a write is a part of it
pub half_write : (c : DiskContents) (offset : ℕ) (bytes : List ℕ) (n : ℕ) → offset ≤ length c.bytes
    → n ≤ length bytes
    → IsBrokenWrite offset (length bytes) c (after_write offset (take n bytes) c)
half_write c offset bytes n begins within =
    let some : List ℕ = take n bytes in
    let few : length some ≤ length bytes = omega (arith, length-take n bytes) in
    let len : length (replaced c.bytes offset some) ≡ max (length c.bytes) (offset + length some) =
    length-replaced_past c.bytes some offset begins in
    record {
      synced = refl;
      loose = λ k l. still_less c offset (length some) (length bytes) k few l;
      least = omega arith;
      greatest = omega arith;
      possible = λ is. write_possible c offset some is begins;
      no_shorter = omega arith;
      no_longer = omega arith;
      before = take-replaced c.bytes some offset begins;
      behind = drop-replaced c.bytes some offset begins (offset + length bytes) (omega arith);
    }

-- a part of a part is a part
pub wider_break : (old new : DiskContents) (offset count more : ℕ) → count ≤ more
    → IsBrokenWrite offset count old new → IsBrokenWrite offset more old new
wider_break old new offset count more le is = record {
  synced = is.synced;
  loose = λ k l. is.loose k (still_less old offset count more k le l);
  least = is.least;
  greatest = omega (arith, is.greatest);
  possible = is.possible;
  no_shorter = is.no_shorter;
  no_longer = omega (arith, is.no_longer);
  before = is.before;
  behind = drop_on (offset + count) (offset + more) new.bytes old.bytes (omega arith) is.behind;
}

-- a failed write allows what its loose range allows, and a failed cut what the lesser length does
pub broken_write_images : (old new : DiskContents) (offset count : ℕ)
    → IsBrokenWrite offset count old new → AllowsNoMore (loosened offset count old) new
broken_write_images old new offset count broken image is =
    let short : length image ≤ new.greatest = is.short in
    let long : new.least ≤ length image = is.long in
    record {
      long = omega (arith, broken.least);
      short = omega (arith, broken.greatest);
      kept = λ k below synced loose.
          let there : k < length new.synced = omega (arith, ap length broken.synced) in
          is.kept k below there (broken.loose k loose) ∙ ap (λ xs. get_or xs k 0) broken.synced;
    }

pub broken_cut_images : (old new : DiskContents) (len : ℕ) → IsBrokenCut len old new
    → AllowsNoMore (shortened len old) new
broken_cut_images old new len broken image is =
    let short : length image ≤ new.greatest = is.short in
    let long : new.least ≤ length image = is.long in
    record {
      long = omega (arith, broken.least);
      short = omega (arith, broken.greatest);
      kept = λ k below synced loose.
          let there : k < length new.synced = omega (arith, ap length broken.synced) in
          is.kept k below there (broken.loose k loose) ∙ ap (λ xs. get_or xs k 0) broken.synced;
    }

pub length-noise : (count seed : ℕ) → length (noise count seed) ≡ count
length-noise zero seed = refl
length-noise (suc count) seed = ap suc (length-noise count (advance seed))

lower_there : (k n : ℕ) (loose : Bool) (x y : ℕ) → k < n → loose ≡ false
    → (if nat_lt k n && not loose then x else y) ≡ x
lower_there k n loose x y below not_loose =
    rw not_loose (grind (arith, nat_tests))

-- a mixed image is one that a crash may leave
pub mixed_possible : (seed : ℕ) (c : DiskContents) (image : List ℕ) → IsConsistent c
    → IsMixed seed c image → IsImage c image
mixed_possible seed c image is mixed =
    let long : c.least ≤ length c.synced = is.synced.long in
    let short : length c.synced ≤ c.greatest = is.synced.short in
    let len : length image ≡ mixed_length seed c =
    mixed.long ∙ length-noise (mixed_length seed c) (advance seed) in
    record {
      long = omega arith;
      short = omega arith;
      kept = λ k below synced loose.
          let inside : k < length (noise (mixed_length seed c) (advance seed)) =
          omega (arith, mixed.long) in
          mixed.each k inside ∙ lower_there k (length c.synced) (is_loose k c) _ _ synced loose;
    }

bytes_there : (k n : ℕ) (loose : Bool) (x y : ℕ) → (k < n → loose ≡ false → x ≡ y)
    → (if nat_lt k n && not loose then x else y) ≡ y
bytes_there k n true x y same = either_way (nat_lt k n) x y
  where
    either_way : (b : Bool) (x y : ℕ) → (if b && false then x else y) ≡ y
    either_way true x y = refl
    either_way false x y = refl
bytes_there k n false x y same =
    elim (cases_lt k n) [
      | inl below ↦
          let test : nat_lt k n ≡ true = grind (arith, nat_tests) in
          rw test (same below refl)
      | inr past ↦
          let test : nat_lt k n ≡ false = grind (arith, nat_tests) in
          rw test refl
    ]

-- what is loose is all that the synced bytes lack
pub synced_up : (c : DiskContents) (synced : List ℕ) → IsConsistent c
    → IsOverlaid c.loose c.synced c.bytes synced → synced ≡ c.bytes
synced_up c synced is laid =
    ext_get_or 0 synced c.bytes laid.long
    (λ k below.
    let inside : k < length c.bytes = omega (arith, laid.long) in
    laid.each k inside
    ∙ bytes_there k (length c.synced) (is_loose k c) _ _
    (λ within loose. sym (is.read.kept k inside within loose)))

-- what a disk leaves that did a part of a write, where it tells that
pub part_told : (old new : Option DiskContents) (offset : ℕ) (bytes : List ℕ) (n : ℕ)
    → n ≤ length bytes → ForSome old (λ c. offset ≤ length c.bytes)
    → new ≡ option_map (after_write offset (take n bytes)) old
    → WhereTold (IsBrokenWrite offset (length bytes)) old new
part_told None None offset bytes n within begins is = tt
part_told None (Some new) offset bytes n within begins is = absurd (cc)
part_told (Some old) None offset bytes n within begins is = absurd (cc)
part_told (Some old) (Some new) offset bytes n within begins is =
    let same : new ≡ after_write offset (take n bytes) old = cc in
    rw same (half_write old offset bytes n (begins old refl) within)

pub wider_told : (old new : Option DiskContents) (offset count more : ℕ) → count ≤ more
    → WhereTold (IsBrokenWrite offset count) old new → WhereTold (IsBrokenWrite offset more) old new
wider_told None None offset count more le is = tt
wider_told None (Some new) offset count more le is = is
wider_told (Some old) None offset count more le is = is
wider_told (Some old) (Some new) offset count more le is =
    wider_break old new offset count more le is

pub unbroken_told : (old new : Option DiskContents) (offset count : ℕ) → new ≡ old
    → WhereTold (IsBrokenWrite offset count) old new
unbroken_told None None offset count is = tt
unbroken_told None (Some new) offset count is = absurd (cc)
unbroken_told (Some old) None offset count is = absurd (cc)
unbroken_told (Some old) (Some new) offset count is =
    let same : new ≡ old = cc in
    rw same (unbroken_write old offset count)

-- what a disk leaves that was asked to do the first part of a write
pub part_asked : {T E : Type 0} (result : Result T E) (old new : Option DiskContents) (offset : ℕ)
    (bytes : List ℕ) (n : ℕ) → n ≤ length bytes → ForSome old (λ c. offset ≤ length c.bytes)
    → OnOk result (new ≡ option_map (after_write offset (take n bytes)) old)
    → OnErr result (WhereTold (IsBrokenWrite offset (length (take n bytes))) old new)
    → WhereTold (IsBrokenWrite offset (length bytes)) old new
part_asked (Ok answer) old new offset bytes n within begins done broken =
    part_told old new offset bytes n within begins done
part_asked (Err refusal) old new offset bytes n within begins done broken =
    wider_told old new offset (length (take n bytes)) (length bytes)
    (omega (arith, length-take n bytes)) broken
