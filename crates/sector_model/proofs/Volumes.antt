-- What a volume holds after a write, a flush, a stop and a failed write.
use Rattle.std.proofs.Common.{◌≡◌, ℕ, zero, suc, ◌+◌, ◌-◌, ◌<◌, ◌≤◌, List, [], ◌∷◌, length, replicate, Bool, true, false, cond, leb, ltb, ◌&&◌, ◌||◌, get_or, ◌⊎◌, Option, unwrap_or, Some, refl, sym, ap, subst, ◌∙◌, arith, inl, inr}
use Rattle.std.specs.List.{slice_get, count_by}
use Rattle.std.proofs.Math.Bool.{or-true, or-false}
use Rattle.std.proofs.lemmas.Bool.{cases_lt, le-ltb, lt-ltb, le-leb, lt-leb, and_right}
use Rattle.std.proofs.lemmas.Option.{unwrap_or-slice_get, same_Some}
use Rattle.std.proofs.lemmas.List.{length-replicate}
use Rattle.std.proofs.lemmas.List.Sums.{sum_by-cons}
use Rattle.sector_model.specs.Sector.{zero_sector}
use Rattle.basics.specs.Replaced.{replaced}
use Rattle.sector_model.specs.VolumeContents.{VolumeContents, IsSized, IsFlushed, loose_count, volume_written, volume_zeroed, IsBrokenAt, with_found, volume_stopped, loose_of, loose_sectors, DiffersOnlyWhereLoose}
use Rattle.sector_model.specs.Laws.{VolumesKeepTheirSize, IsStopped, DiffersInARow, FlushedIsNoneLoose, LooseThen}
use Rattle.sector_model.specs.declared.sector.Sector.{Sector}
use Rattle.basics.proofs.ItemAt.{slice_get-take, slice_get-drop, slice_get-replicate}
use Rattle.basics.proofs.Replaced.{length-replaced, replaced-before, replaced-within, replaced-behind}

-- ---- sizes

pub written-sized : (capacity first : ℕ) (sectors : List Sector) (v : VolumeContents)
    → IsSized capacity v → first + length sectors ≤ capacity
    → IsSized capacity (volume_written first sectors v)
written-sized capacity first sectors v sized fits =
    let n : length (replicate (length sectors) true) ≡ length sectors =
    length-replicate (length sectors) true in (
      length-replaced v.sectors sectors first (omega (arith, sized.0)) ∙ sized.0,
      length-replaced v.loose (replicate (length sectors) true) first (omega (arith, sized.1, n))
          ∙ sized.1,
    )

pub length-with_found : (loose : List Bool) (sectors found : List Sector)
    → length (with_found loose sectors found) ≡ length sectors
length-with_found [] sectors found = refl
length-with_found (b ∷ loose) [] found = refl
length-with_found (false ∷ loose) (s ∷ sectors) found = let more =
    length-with_found loose sectors found in omega arith
length-with_found (true ∷ loose) (s ∷ sectors) [] = refl
length-with_found (true ∷ loose) (s ∷ sectors) (f ∷ found) = let more =
    length-with_found loose sectors found in omega arith

broken-sized : (capacity first count : ℕ) (old new : VolumeContents) → IsSized capacity old
    → first + count ≤ capacity → IsBrokenAt first count old new → IsSized capacity new
broken-sized capacity first count old new sized fits broken =
    let n : length (replicate count true) ≡ count = length-replicate count true in (
      broken.long ∙ sized.0,
      ap length broken.loose
          ∙ length-replaced old.loose (replicate count true) first (omega (arith, sized.1, n))
          ∙ sized.1,
    )

pub keep_their_size : (capacity : ℕ) (v : VolumeContents) → IsSized capacity v
    → VolumesKeepTheirSize capacity v
keep_their_size capacity v sized = record {
  written = λ first sectors fits. written-sized capacity first sectors v sized fits;
  zeroed = λ first count fits. written-sized capacity first (replicate count zero_sector) v sized
      (let n : length (replicate count zero_sector) ≡ count = length-replicate count zero_sector in
      omega (arith, n, fits));
  flushed = (sized.0, length-replicate (length v.loose) false ∙ sized.1);
  stopped = λ found. (length-with_found v.loose v.sectors found ∙ sized.0, sized.1);
  broken = λ first count new fits broken. broken-sized capacity first count v new sized fits broken;
}

-- ---- stops

found_nowhere : (n : ℕ) (sectors found : List Sector)
    → with_found (replicate n false) sectors found ≡ sectors
found_nowhere zero sectors found = refl
found_nowhere (suc n) [] found = refl
found_nowhere (suc n) (s ∷ sectors) found =
    ap (λ (rest : List Sector). s ∷ rest) (found_nowhere n sectors found)

pub stop_leaves_flushed : (capacity : ℕ) (v : VolumeContents) (found : List Sector)
    → IsSized capacity v → IsFlushed v → volume_stopped found v ≡ v
stop_leaves_flushed capacity v found sized flushed =
    let same : with_found v.loose v.sectors found ≡ v.sectors =
    ap (λ (loose : List Bool). with_found loose v.sectors found) flushed
    ∙ found_nowhere (length v.sectors) v.sectors found in
    ap (λ (sectors : List Sector). record { sectors = sectors; loose = v.loose }) same

found_leaves_others : (loose : List Bool) (sectors found : List Sector) (s : ℕ)
    → slice_get loose s ≡ Some false
    → slice_get (with_found loose sectors found) s ≡ slice_get sectors s
found_leaves_others [] sectors found s tight = refl
found_leaves_others (b ∷ loose) [] found s tight = refl
found_leaves_others (false ∷ loose) (x ∷ sectors) found zero tight = refl
found_leaves_others (false ∷ loose) (x ∷ sectors) found (suc s) tight =
    found_leaves_others loose sectors found s tight
found_leaves_others (true ∷ loose) (x ∷ sectors) [] s tight = refl
found_leaves_others (true ∷ loose) (x ∷ sectors) (f ∷ found) zero tight = absurd (cc)
found_leaves_others (true ∷ loose) (x ∷ sectors) (f ∷ found) (suc s) tight =
    found_leaves_others loose sectors found s tight

pub stop_leaves_others : (capacity : ℕ) (v : VolumeContents) (found : List Sector)
    → IsSized capacity v → DiffersOnlyWhereLoose v (volume_stopped found v)
stop_leaves_others capacity v found sized = record {
  same_loose = refl;
  long = length-with_found v.loose v.sectors found;
  others = found_leaves_others v.loose v.sectors found;
}

abbrev volume : List Sector → List Bool → VolumeContents
volume sectors loose = record { sectors = sectors; loose = loose }

abbrev Same : List Bool → List Sector → List Sector → Type 0
Same loose old new = (s : ℕ) → slice_get loose s ≡ Some false → slice_get new s ≡ slice_get old s

found_again : (loose : List Bool) (old new : List Sector) → length loose ≡ length old
    → length new ≡ length old → Same loose old new → new ≡ with_found loose old (loose_of loose new)
found_again [] [] [] sized long same = refl
found_again [] [] (y ∷ new) sized long same = absurd (omega arith)
found_again [] (x ∷ old) new sized long same = absurd (omega arith)
found_again (b ∷ loose) [] new sized long same = absurd (omega arith)
found_again (b ∷ loose) (x ∷ old) [] sized long same = absurd (omega arith)
found_again (false ∷ loose) (x ∷ old) (y ∷ new) sized long same =
    ap (λ (z : Sector). z ∷ new) (same_Some y x (same 0 refl))
    ∙ ap (λ (rest : List Sector). x ∷ rest)
    (found_again loose old new (omega arith) (omega arith) (λ s tight. same (suc s) tight))
found_again (true ∷ loose) (x ∷ old) (y ∷ new) sized long same =
    ap (λ (rest : List Sector). y ∷ rest)
    (found_again loose old new (omega arith) (omega arith) (λ s tight. same (suc s) tight))

length-loose_of : (loose : List Bool) (sectors : List Sector) → length loose ≡ length sectors
    → length (loose_of loose sectors) ≡ count_by (λ is_loose. is_loose) loose
length-loose_of [] sectors sized = refl
length-loose_of (b ∷ loose) [] sized = absurd (omega arith)
length-loose_of (false ∷ loose) (x ∷ sectors) sized =
    let more = length-loose_of loose sectors (omega arith) in
    let none = sum_by-cons (λ (b : Bool). cond b 1 0) false loose in
    omega (arith, more, none)
length-loose_of (true ∷ loose) (x ∷ sectors) sized =
    let more = length-loose_of loose sectors (omega arith) in
    let one = sum_by-cons (λ (b : Bool). cond b 1 0) true loose in
    omega (arith, more, one)

stopped_at : (old new : List Sector) (loose now : List Bool) → length loose ≡ length old
    → length new ≡ length old → now ≡ loose → Same loose old new
    → (◌≡◌ {A = VolumeContents} (record { sectors = new; loose = now })
    (record { sectors = with_found loose old (loose_of now new); loose = loose }))
    × (length (loose_of now new) ≡ count_by (λ is_loose. is_loose) loose)
stopped_at old new loose now sized long is same = (
  ap (λ (l : List Bool). record { sectors = new; loose = l }) is
      ∙ ap (λ (xs : List Sector). volume xs loose) (found_again loose old new sized long same
      ∙ ap (λ (l : List Bool). with_found loose old (loose_of l new)) (sym is)),
  ap (λ (l : List Bool). length (loose_of l new)) is ∙ length-loose_of loose new (omega arith),
)

pub each_is_a_stop : (capacity : ℕ) (old new : VolumeContents) → IsSized capacity old
    → DiffersOnlyWhereLoose old new → IsStopped old new
each_is_a_stop capacity old new sized differs =
    let h = stopped_at old.sectors new.sectors old.loose new.loose (sized.1 ∙ sym sized.0)
    differs.long differs.same_loose differs.others in
    record { same = h.0; long = h.1 }

-- ---- a write that failed

tight_outside : (capacity first : ℕ) (n : ℕ) (loose : List Bool) (s : ℕ) → length loose ≡ capacity
    → first + n ≤ capacity → first ≤ s → s < first + n
    → slice_get (replaced loose first (replicate n true)) s ≡ Some false → ⊥
tight_outside capacity first n loose s sized fits from before tight =
    let k : length (replicate n true) ≡ n = length-replicate n true in
    let here : slice_get (replaced loose first (replicate n true)) s ≡ Some true =
    replaced-within loose (replicate n true) first (omega (arith, k, sized)) s from
    (omega (arith, k)) ∙ slice_get-replicate n (s - first) true (omega arith) in
    let wrong : Some true ≡ Some false = sym here ∙ tight in cc

broken_others : (capacity first : ℕ) (sectors : List Sector) (old new : VolumeContents)
    → IsSized capacity old → first + length sectors ≤ capacity
    → IsBrokenAt first (length sectors) old new
    → (s : ℕ) → slice_get (volume_written first sectors old).loose s ≡ Some false
    → slice_get new.sectors s ≡ slice_get (volume_written first sectors old).sectors s
broken_others capacity first sectors old new sized fits broken s tight =
    let within : first + length sectors ≤ length old.sectors = omega (arith, sized.0) in
    elim (cases_lt s first) [
      | inl less ↦
          sym (slice_get-take new.sectors first s less)
          ∙ ap (λ (xs : List Sector). slice_get xs s) broken.before
          ∙ slice_get-take old.sectors first s less
          ∙ sym (replaced-before old.sectors sectors first (omega (arith, within)) s less)
      | inr from ↦ elim (cases_lt s (first + length sectors)) [
        | inl inside ↦ absurd
            (tight_outside capacity first (length sectors) old.loose s sized.1 fits from inside
            tight)
        | inr past ↦
            let at : first + length sectors + (s - (first + length sectors)) ≡ s = omega arith in
            sym (slice_get-drop new.sectors (first + length sectors) (s - (first + length sectors))
            ∙ ap (slice_get new.sectors) at)
            ∙ ap (λ (xs : List Sector). slice_get xs (s - (first + length sectors))) broken.behind
            ∙ slice_get-drop old.sectors (first + length sectors) (s - (first + length sectors))
            ∙ ap (slice_get old.sectors) at
            ∙ sym (replaced-behind old.sectors sectors first (omega (arith, within)) s past)
      ]
    ]

pub broken_is_written : (capacity first : ℕ) (sectors : List Sector) (old new : VolumeContents)
    → IsSized capacity old → first + length sectors ≤ capacity
    → IsBrokenAt first (length sectors) old new
    → DiffersOnlyWhereLoose (volume_written first sectors old) new
broken_is_written capacity first sectors old new sized fits broken =
    let wide = written-sized capacity first sectors old sized fits in
    record {
      same_loose = broken.loose;
      long = broken.long ∙ sized.0 ∙ sym wide.0;
      others = broken_others capacity first sectors old new sized fits broken;
    }

-- a zeroing is a write of zero sectors
pub broken_is_zeroed : (capacity first count : ℕ) (old new : VolumeContents) → IsSized capacity old
    → first + count ≤ capacity
    → IsBrokenAt first count old new → DiffersOnlyWhereLoose (volume_zeroed first count old) new
broken_is_zeroed capacity first count old new sized fits broken =
    let n : length (replicate count zero_sector) ≡ count = length-replicate count zero_sector in
    broken_is_written capacity first (replicate count zero_sector) old new sized
    (omega (arith, n, fits)) (subst (λ k. IsBrokenAt first k old new) (sym n) broken)

-- ---- stops in order and in a row

pick : (loose : List Bool) (sectors found : List Sector) → length loose ≡ length sectors
    → length found ≡ count_by (λ loose. loose) loose
    → loose_of loose (with_found loose sectors found) ≡ found
pick [] sectors [] sized long = refl
pick [] sectors (f ∷ found) sized long = absurd (omega arith)
pick (b ∷ loose) [] found sized long = absurd (omega arith)
pick (false ∷ loose) (s ∷ sectors) found sized long =
    let none = sum_by-cons (λ (b : Bool). cond b 1 0) false loose in
    pick loose sectors found (omega arith) (omega (arith, none, long))
pick (true ∷ loose) (s ∷ sectors) [] sized long =
    let one = sum_by-cons (λ (b : Bool). cond b 1 0) true loose in absurd (omega (arith, one, long))
pick (true ∷ loose) (s ∷ sectors) (f ∷ found) sized long =
    let one = sum_by-cons (λ (b : Bool). cond b 1 0) true loose in
    ap (λ (rest : List Sector). f ∷ rest)
    (pick loose sectors found (omega arith) (omega (arith, one, long)))

pub found_are_read : (capacity : ℕ) (v : VolumeContents) (found : List Sector) → IsSized capacity v
    → length found ≡ loose_count v → loose_sectors (volume_stopped found v) ≡ found
found_are_read capacity v found sized long =
    pick v.loose v.sectors found (sized.1 ∙ sym sized.0) long

differs-flushed : (capacity : ℕ) (a b : VolumeContents) → IsSized capacity a → IsFlushed a
    → DiffersOnlyWhereLoose a b → b ≡ a
differs-flushed capacity a b sized flushed differs =
    (each_is_a_stop capacity a b sized differs).same
    ∙ stop_leaves_flushed capacity a (loose_sectors b) sized flushed

pub differs_in_a_row : (a b c : VolumeContents) → DiffersInARow a b c
differs_in_a_row a b c = record {
  none = record { same_loose = refl; long = refl; others = λ s tight. refl };
  two = λ first second. record {
    same_loose = second.same_loose ∙ first.same_loose;
    long = second.long ∙ first.long;
    others = λ s tight. second.others s (ap (λ (l : List Bool). slice_get l s) first.same_loose
        ∙ tight) ∙ first.others s tight;
  };
  flushed = λ capacity sized flushed differs. differs-flushed capacity a b sized flushed differs;
}

-- ---- which sectors are loose

none-counted : (n : ℕ) → count_by (λ loose. loose) (replicate n false) ≡ 0
none-counted zero = refl
none-counted (suc n) = let more = none-counted n in let step =
    sum_by-cons (λ (b : Bool). cond b 1 0) false (replicate n false) in omega (arith, more, step)

counted-none : (loose : List Bool) → count_by (λ loose. loose) loose ≡ 0
    → loose ≡ replicate (length loose) false
counted-none [] none = refl
counted-none (true ∷ loose) none = let step = sum_by-cons (λ (b : Bool). cond b 1 0) true loose in
    absurd (omega (arith, step, none))
counted-none (false ∷ loose) none =
    let step = sum_by-cons (λ (b : Bool). cond b 1 0) false loose in
    ap (λ (rest : List Bool). false ∷ rest) (counted-none loose (omega (arith, step, none)))

pub flushed_is_none_loose : (capacity : ℕ) (v : VolumeContents) → IsSized capacity v
    → FlushedIsNoneLoose capacity v
flushed_is_none_loose capacity v sized = record {
  none = λ flushed. ap (λ (l : List Bool). count_by (λ loose. loose) l) flushed
      ∙ none-counted (length v.sectors);
  flushed = λ none. counted-none v.loose none ∙ ap (λ n. replicate n false) (sized.1 ∙ sym sized.0);
  by_flush = ap (λ n. replicate n false) (sized.1 ∙ sym sized.0);
}

at-default : (xs : List Bool) (s : ℕ) → get_or xs s false ≡ unwrap_or (slice_get xs s) false
at-default xs s = sym (unwrap_or-slice_get xs s false)

pub in-range : (first n s : ℕ) → (s < first) ⊎ (first + n ≤ s)
    → (leb first s && ltb s (first + n)) ≡ false
in-range first n s (inl less) = ap (λ b. b && ltb s (first + n)) (lt-leb first s less)
in-range first n s (inr past) = ap (λ b. leb first s && b) (le-ltb s (first + n) past)
    ∙ and_right (leb first s) false refl

loose-at : (loose : List Bool) (first n s : ℕ) → first + n ≤ length loose
    → get_or (replaced loose first (replicate n true)) s false
    ≡ (get_or loose s false || leb first s && ltb s (first + n))
loose-at loose first n s fits =
    let k : length (replicate n true) ≡ n = length-replicate n true in
    let within : first + length (replicate n true) ≤ length loose = omega (arith, k, fits) in
    elim (cases_lt s first) [
      | inl less ↦
          at-default (replaced loose first (replicate n true)) s
          ∙ ap (λ (o : Option Bool). unwrap_or o false)
          (replaced-before loose (replicate n true) first (omega (arith, within)) s less)
          ∙ sym (at-default loose s)
          ∙ sym (ap (λ b. get_or loose s false || b) (in-range first n s (inl less))
          ∙ or-false (get_or loose s false))
      | inr from ↦ elim (cases_lt s (first + n)) [
        | inl inside ↦
            at-default (replaced loose first (replicate n true)) s
            ∙ ap (λ (o : Option Bool). unwrap_or o false)
            (replaced-within loose (replicate n true) first (omega (arith, within)) s from
            (omega (arith, k, inside)) ∙ slice_get-replicate n (s - first) true (omega arith))
            ∙ sym (ap (λ b. get_or loose s false || b && ltb s (first + n)) (le-leb first s from)
            ∙ ap (λ b. get_or loose s false || b) (lt-ltb s (first + n) inside)
            ∙ or-true (get_or loose s false))
        | inr past ↦
            at-default (replaced loose first (replicate n true)) s
            ∙ ap (λ (o : Option Bool). unwrap_or o false)
            (replaced-behind loose (replicate n true) first (omega (arith, within)) s
            (omega (arith, k, past))) ∙ sym (at-default loose s)
            ∙ sym (ap (λ b. get_or loose s false || b) (in-range first n s (inr past))
            ∙ or-false (get_or loose s false))
      ]
    ]

get_or-none : (n s : ℕ) → get_or (replicate n false) s false ≡ false
get_or-none zero s = refl
get_or-none (suc n) zero = refl
get_or-none (suc n) (suc s) = get_or-none n s

pub loose_then : (capacity : ℕ) (v : VolumeContents) (s : ℕ) → IsSized capacity v
    → LooseThen capacity v s
loose_then capacity v s sized = record {
  written = λ first sectors fits. loose-at v.loose first (length sectors) s
      (omega (arith, sized.1, fits));
  zeroed = λ first count fits.
      let n : length (replicate count zero_sector) ≡ count = length-replicate count zero_sector in
      loose-at v.loose first (length (replicate count zero_sector)) s
      (omega (arith, n, sized.1, fits))
      ∙ ap (λ k. get_or v.loose s false || leb first s && ltb s (first + k)) n;
  flushed = get_or-none (length v.loose) s;
  stopped = λ found. refl;
  broken = λ first count new fits broken. ap (λ (l : List Bool). get_or l s false) broken.loose
      ∙ loose-at v.loose first count s (omega (arith, sized.1, fits));
}
