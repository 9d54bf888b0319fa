-- A volume as far as it is copied.
use Rattle.std.proofs.Common.{◌≡◌, ℕ, ◌+◌, ◌^◌, ◌<◌, ◌≤◌, Bool, true, false, List, ◌++◌, length, get_or, take, drop, Option, Some, None, Result, Ok, Err, option_map, refl, sym, ap, subst, ◌∙◌, arith}
use Rattle.std.specs.Prelude.{replicate, IfSome, IsOk, IsTrue}
use Rattle.std.proofs.lemmas.Bool.{false≢true}
use Rattle.std.proofs.Math.Seq.{take-add}
use Rattle.std.proofs.lemmas.List.{take_at, drop_at, drop-drop, take_all, drop_all, append-nil, length-take-le, length-replicate, length-drop, replicate-append-replicate, same_lists, get_or-replicate, get_or-take, get_or-drop, get_or_default}
use Rattle.basics.specs.Faults.{counted_by}
use Rattle.basics.specs.Replaced.{replaced}
use Rattle.sector_model.specs.Sector.{zero_sector}
use Rattle.sector_model.specs.VolumeContents.{VolumeContents, IsSized, volume_written, volume_flushed}
use Rattle.sector_model.specs.declared.sector.Sector.{Sector}
use Rattle.target_volume.specs.Volume.{VolumeState, after_write, after_zero, after_flush, Breaks, VolumeFails}
use Rattle.basics.specs.Faults.{HasRisen}
use Rattle.migrate_server.specs.Copy.{after_copy, contents_copied_to, copied_contents, copied_to, CopyFails}

-- items behind a front of n
behind_front : {X : Type 0} (p q : List X) (n k : ℕ) → length p ≡ n
    → drop (n + k) (p ++ q) ≡ drop k q
behind_front p q n k long = sym (drop-drop k n (p ++ q)) ∙ ap (drop k) (drop_at p q n long)

over_front : {X : Type 0} (p ys xs : List X) (at : ℕ) → length p ≡ at
    → replaced (p ++ drop at ys) at xs ≡ (p ++ xs) ++ drop (at + length xs) ys
over_front p ys xs at long =
    ap (λ front. front ++ xs ++ drop (at + length xs) (p ++ drop at ys))
    (take_at p (drop at ys) at long)
    ∙ ap (λ rest. p ++ xs ++ rest) (behind_front p (drop at ys) at (length xs) long
    ∙ drop-drop (length xs) at ys)

sectors_step : (disk old xs : List Sector) (at n : ℕ) → at + n ≤ length disk
    → xs ≡ take n (drop at disk) → length xs ≡ n
    → replaced (take at disk ++ drop at old) at xs ≡ take (at + n) disk ++ drop (at + n) old
sectors_step disk old xs at n within is long =
    over_front (take at disk) old xs at (length-take-le at disk (omega arith))
    ∙ ap (λ ys. (take at disk ++ ys) ++ drop (at + length xs) old) is
    ∙ ap (λ front. front ++ drop (at + length xs) old) (sym (take-add at n disk))
    ∙ ap (λ k. take (at + n) disk ++ drop (at + k) old) long

loose_step : (old : List Bool) (at n k : ℕ) → k ≡ n
    → replaced (replicate at true ++ drop at old) at (replicate k true)
    ≡ replicate (at + n) true ++ drop (at + n) old
loose_step old at n k is =
    over_front (replicate at true) old (replicate k true) at (length-replicate at true)
    ∙ ap (λ front. front ++ drop (at + length (replicate k true)) old)
    (replicate-append-replicate at k true)
    ∙ ap (λ m. replicate (at + k) true ++ drop (at + m) old) (length-replicate k true)
    ∙ ap (λ m. replicate (at + m) true ++ drop (at + m) old) is

same_contents : (s t : List Sector) (l m : List Bool) → s ≡ t → l ≡ m
    → ◌≡◌ {A = VolumeContents} (record { sectors = s; loose = l })
    (record { sectors = t; loose = m })
same_contents s t l m p q =
    ap (λ x. record { sectors = x; loose = l }) p ∙ ap (λ x. record { sectors = t; loose = x }) q

abbrev state_with : VolumeState → Option VolumeContents → ℕ → VolumeState
state_with v contents written =
    record {
      name = v.name;
      capacity = v.capacity;
      contents = contents;
      written = written;
      faults =
          v.faults;
      sound = v.sound;
    }

same_state : (v : VolumeState) (a b : Option VolumeContents) (m n : ℕ) → a ≡ b → m ≡ n
    → state_with v a m ≡ state_with v b n
same_state v a b m n p q = ap (λ x. state_with v x m) p ∙ ap (λ x. state_with v b x) q

contents_more : (disk xs : List Sector) (at n : ℕ) (o : Option VolumeContents)
    → at + n ≤ length disk → xs ≡ take n (drop at disk) → length xs ≡ n
    → option_map (volume_written at xs) (option_map (contents_copied_to disk at) o)
    ≡ option_map (contents_copied_to disk (at + n)) o
contents_more disk xs at n None within is long = refl
contents_more disk xs at n (Some c) within is long =
    ap Some (same_contents _ _ _ _ (sectors_step disk c.sectors xs at n within is long)
    (loose_step c.loose at n (length xs) long))

-- a write of the next sectors of the disk
pub copied_more : (disk xs : List Sector) (at n : ℕ) (v : VolumeState) → at + n ≤ length disk
    → at + n < 2 ^ 64 → xs ≡ take n (drop at disk) → length xs ≡ n
    → after_write at xs (copied_to disk at v) ≡ copied_to disk (at + n) v
copied_more disk xs at n v within fits is long =
    same_state v _ _ (counted_by (length xs) at) (at + n)
    (contents_more disk xs at n v.contents within is long) (omega (arith, long))

-- zeros over sectors of the disk that are zero
pub copied_zeros : (disk : List Sector) (at n : ℕ) (v : VolumeState) → at + n ≤ length disk
    → at + n < 2 ^ 64 → replicate n zero_sector ≡ take n (drop at disk)
    → after_zero at n (copied_to disk at v) ≡ copied_to disk (at + n) v
copied_zeros disk at n v within fits is =
    same_state v _ _ (counted_by n at) (at + n)
    (contents_more disk (replicate n zero_sector) at n v.contents within is
    (length-replicate n zero_sector)) (omega arith)

-- a range that is clear is what zeroing leaves
pub cleared : (disk : List Sector) (at n : ℕ) → at + n ≤ length disk
    → ((s : ℕ) → at ≤ s → s < at + n → get_or disk s zero_sector ≡ zero_sector)
    → replicate n zero_sector ≡ take n (drop at disk)
cleared disk at n within clear =
    let long : length (take n (drop at disk)) ≡ n =
    length-take-le n (drop at disk) (let e = length-drop at disk in omega arith) in
    same_lists (replicate n zero_sector) (take n (drop at disk)) (length-replicate n zero_sector
    ∙ sym long)
    (λ k d h.
    let below : k < n = let e = length-replicate n zero_sector in omega arith in
    get_or-replicate n k zero_sector d below
    ∙ sym (get_or-take n (drop at disk) k d below ∙ get_or-drop at disk k d
    ∙ get_or_default disk (at + k) d zero_sector (omega arith)
    ∙ clear (at + k) (omega arith) (omega arith)))

none_copied : (disk : List Sector) (o : Option VolumeContents)
    → o ≡ option_map (contents_copied_to disk 0) o
none_copied disk None = refl
none_copied disk (Some c) = refl

pub copied_none : (disk : List Sector) (v : VolumeState) → v.written ≡ 0 → v ≡ copied_to disk 0 v
copied_none disk v none =
    same_state v v.contents (option_map (contents_copied_to disk 0) v.contents) v.written 0
    (none_copied disk v.contents) none

contents_all : (disk : List Sector) (at : ℕ) (o : Option VolumeContents)
    → IfSome o (IsSized (length disk)) → at ≡ length disk
    → option_map volume_flushed (option_map (contents_copied_to disk at) o)
    ≡ option_map (λ _. copied_contents disk) o
contents_all disk at None sized all = refl
contents_all disk at (Some c) sized all =
    let whole : take at disk ++ drop at c.sectors ≡ disk =
    ap (λ rest. take at disk ++ rest) (drop_all at c.sectors (omega (arith, sized.0)))
    ∙ append-nil (take at disk) ∙ take_all at disk (omega arith) in
    let long : length (replicate at true ++ drop at c.loose) ≡ length disk =
    ap (λ rest. length (replicate at true ++ rest)) (drop_all at c.loose (omega (arith, sized.1)))
    ∙ ap length (append-nil (replicate at true)) ∙ length-replicate at true ∙ all in
    ap Some (same_contents _ _ _ _ whole (ap (λ k. replicate k false) long))

-- the flush behind the last sector
pub copied_all : (disk : List Sector) (at : ℕ) (v : VolumeState)
    → IfSome v.contents (IsSized (length disk)) → at ≡ length disk
    → after_flush (copied_to disk at v) ≡ after_copy disk v
copied_all disk at v sized all =
    same_state v _ _ at (length disk) (contents_all disk at v.contents sized all) all

-- ---- a volume that failed

-- what a failure leaves open
abbrev with_open : VolumeState → VolumeState → VolumeState
with_open v after = record v
    { contents = after.contents; written = after.written; faults = after.faults }

err_not_ok : {T E : Type 0} (result : Result T E) (e : E) → result ≡ Err e → IsOk result → ⊥
err_not_ok (Ok v) e is ok = cc
err_not_ok (Err f) e is ok = absurd (false≢true ok)

not_sound : {T E : Type 0} (sound : Bool) (result : Result T E) (e : E) → result ≡ Err e
    → (IsTrue sound → IsOk result) → sound ≡ false
not_sound false result e is ok = refl
not_sound true result e is ok = absurd (err_not_ok result e is (ok refl))

pub write_fails : {T E : Type 0} (disk : List Sector) (at first count : ℕ)
    (old now after : VolumeState) (result : Result T E) (e : E) → now ≡ copied_to disk at old
    → result ≡ Err e
    → (IsTrue now.sound → IsOk result) → Breaks first count now after → CopyFails old after
write_fails disk at first count old now after result e is err ok breaks = record {
  unsound = sym (ap (λ (v : VolumeState). v.sound) is) ∙ not_sound now.sound result e err ok;
  rises = subst (λ (n : ℕ). HasRisen n after.faults) (ap (λ (v : VolumeState). v.faults) is)
      breaks.rises;
  kept = breaks.kept ∙ ap (λ (v : VolumeState). with_open v after) is;
}

fails_with : (now after : VolumeState) → after ≡ record now { faults = after.faults }
    → after ≡ with_open now after
fails_with now after kept =
    kept ∙ ap (λ (x : Option VolumeContents). record {
      name = now.name;
      capacity = now.capacity;
      contents = x;
      written = now.written;
      faults =
          after.faults;
      sound = now.sound;
    }) (sym (ap (λ (v : VolumeState). v.contents) kept))
    ∙ ap (λ (x : ℕ). record {
      name = now.name;
      capacity = now.capacity;
      contents = after.contents;
      written = x;
      faults =
          after.faults;
      sound = now.sound;
    }) (sym (ap (λ (v : VolumeState). v.written) kept))

pub flush_fails : {T E : Type 0} (disk : List Sector) (at : ℕ) (old now after : VolumeState)
    (result : Result T E) (e : E) → now ≡ copied_to disk at old → result ≡ Err e
    → (IsTrue now.sound → IsOk result) → VolumeFails now after → CopyFails old after
flush_fails disk at old now after result e is err ok fails = record {
  unsound = sym (ap (λ (v : VolumeState). v.sound) is) ∙ not_sound now.sound result e err ok;
  rises = subst (λ (n : ℕ). HasRisen n after.faults) (ap (λ (v : VolumeState). v.faults) is)
      fails.rises;
  kept = fails_with now after fails.kept ∙ ap (λ (v : VolumeState). with_open v after) is;
}
