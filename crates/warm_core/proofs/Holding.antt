-- What writes, fillings and broken writes leave of a volume that stands on a base.
use Rattle.std.proofs.Common.{◌≡◌, ℕ, ◌+◌, ◌-◌, ◌<◌, ◌≤◌, List, [], length, replicate, slice_index_or, Bool, true, false, cond, ◌||◌, ◌&&◌, leb, ltb, Option, Some, None, refl, sym, ap, subst, ◌∙◌, arith, ◌⊎◌, inl, inr}
use Rattle.std.specs.List.{slice_get}
use Rattle.std.proofs.Math.Bool.{or-false}
use Rattle.std.proofs.lemmas.Bool.{cases_lt, lt-leb, le-ltb, false≢true, and_right}
use Rattle.std.proofs.lemmas.Option.{slice_get_past, slice_get-get_or}
use Rattle.std.proofs.lemmas.List.{length-replicate}
use Rattle.sector_model.specs.Run.{in_blocks}
use Rattle.sector_model.specs.Sector.{zero_sector}
use Rattle.sector_model.specs.VolumeContents.{VolumeContents, IsSized, is_loose, volume_written, IsBrokenAt, DiffersOnlyWhereLoose}
use Rattle.sector_model.specs.declared.sector.Sector.{Sector}
use Rattle.basics.proofs.Replaced.{replaced-outside, replaced-within}
use Rattle.sector_model.proofs.Volumes.{loose_then, broken_is_written, written-sized, in-range}
use Rattle.log_model.specs.declared.entry.Entry.{Entry}
use Rattle.log_model.specs.declared.link.Snapped.{Snapped}
use Rattle.log_model.specs.Touched.{touched}
use Rattle.warm_core.specs.declared.disk_world.Base.{Base}
use Rattle.warm_core.specs.Staged.{is_unfinished, open_blocks, blocks_asked, IsOnBase}
use Rattle.warm_core.specs.Laws.{FillingsStay}

-- ---- one sector of a volume

module _ (c first : ℕ) (xs : List Sector) (v : VolumeContents) (sized : IsSized c v)
    (fits : first + length xs ≤ c) where
  pub outside : (s : ℕ) → (s < first) ⊎ (first + length xs ≤ s)
      → slice_get (volume_written first xs v).sectors s ≡ slice_get v.sectors s
  outside s out = replaced-outside v.sectors xs first (omega (arith, fits, sized.0)) s out

  pub inside : (s : ℕ) → first ≤ s → s < first + length xs
      → slice_get (volume_written first xs v).sectors s ≡ slice_get xs (s - first)
  inside s from less = replaced-within v.sectors xs first (omega (arith, fits, sized.0)) s from less

  pub loose-outside : (s : ℕ) → (s < first) ⊎ (first + length xs ≤ s)
      → is_loose s (volume_written first xs v) ≡ is_loose s v
  loose-outside s out =
      (loose_then c v s sized).written first xs fits
      ∙ ap (λ b. is_loose s v || b) (in-range first (length xs) s out) ∙ or-false (is_loose s v)

-- ---- a volume on a base

-- a write within the open blocks keeps it there
pub on_base-written : (c d : ℕ) (log : List Entry) (b : Base) (snap : Option Snapped)
    (v : VolumeContents) (first : ℕ) (xs : List Sector) → IsSized c v → first + length xs ≤ c
    → ((s : ℕ) → first ≤ s → s < first + length xs
    → in_blocks (open_blocks c d log b snap) s ≡ true)
    → IsOnBase c d log b snap v → IsOnBase c d log b snap (volume_written first xs v)
on_base-written c d log b snap v first xs sized fits all on = record {
  as_base = λ s none. elim (cases_lt s first) [
    | inl less ↦ outside c first xs v sized fits s (inl less) ∙ on.as_base s none
    | inr from ↦ elim (cases_lt s (first + length xs)) [
      | inl within ↦ absurd (false≢true (sym none ∙ all s from within))
      | inr past ↦ outside c first xs v sized fits s (inr past) ∙ on.as_base s none
    ]
  ];
  loose_inside = λ s loose. elim (cases_lt s first) [
    | inl less ↦ on.loose_inside s (sym (loose-outside c first xs v sized fits s (inl less))
        ∙ loose)
    | inr from ↦ elim (cases_lt s (first + length xs)) [
      | inl within ↦ all s from within
      | inr past ↦ on.loose_inside s (sym (loose-outside c first xs v sized fits s (inr past))
          ∙ loose)
    ]
  ];
}

-- and so does whatever its loose sectors hold
tight-same : (c : ℕ) (old new : VolumeContents) (s : ℕ) → IsSized c old
    → DiffersOnlyWhereLoose old new → is_loose s old ≡ false
    → slice_get new.sectors s ≡ slice_get old.sectors s
tight-same c old new s sized differs tight =
    let long = differs.long in
    elim (cases_lt s c) [
      | inl less ↦ differs.others s
          (slice_get-get_or old.loose s false (omega (arith, less, sized.1)) ∙ ap Some tight)
      | inr past ↦ slice_get_past new.sectors s (omega (arith, past, long, sized.0))
          ∙ sym (slice_get_past old.sectors s (omega (arith, past, sized.0)))
    ]

tight-outside : (blocks : List ℕ) (s : ℕ) (v : VolumeContents) (b : Bool) → is_loose s v ≡ b
    → (is_loose s v ≡ true → in_blocks blocks s ≡ true) → in_blocks blocks s ≡ false
    → is_loose s v ≡ false
tight-outside blocks s v true is loose none = absurd (false≢true (sym none ∙ loose is))
tight-outside blocks s v false is loose none = is

pub on_base-filled : (c d : ℕ) (log : List Entry) (b : Base) (snap : Option Snapped)
    (old new : VolumeContents) → IsSized c old → DiffersOnlyWhereLoose old new
    → IsOnBase c d log b snap old → IsOnBase c d log b snap new
on_base-filled c d log b snap old new sized differs on = record {
  as_base = λ s none.
      let tight = tight-outside (open_blocks c d log b snap) s old (is_loose s old) refl
      (on.loose_inside s) none in
      tight-same c old new s sized differs tight ∙ on.as_base s none;
  loose_inside = λ s loose. on.loose_inside s
      (sym (ap (λ (l : List Bool). slice_index_or l s false) differs.same_loose) ∙ loose);
}

pub fillings_stay : FillingsStay
fillings_stay c d log None snap old new sized staged differs = tt
fillings_stay c d log (Some b) snap old new sized (inl on) differs =
    inl (on_base-filled c d log b snap old new sized differs on)
fillings_stay c d log (Some b) snap old new sized (inr forgotten) differs = inr forgotten

-- what is open over an unfinished snapshot is what a partial stage asks for
pub open-asked : (c d : ℕ) (log : List Entry) (b : Base) (snap : Snapped)
    → is_unfinished (Some b) (Some snap) ≡ true
    → open_blocks c d log b (Some snap) ≡ blocks_asked c d log (Some b) snap false
open-asked c d log b snap unfinished =
    ap (λ x. cond x (touched c d b.mark snap.mark log) []) unfinished

-- ---- a broken piece

pub on_base-broken : (c d : ℕ) (log : List Entry) (b : Base) (snap : Option Snapped)
    (v new : VolumeContents) (first count : ℕ) → IsSized c v → first + count ≤ c
    → ((s : ℕ) → first ≤ s → s < first + count → in_blocks (open_blocks c d log b snap) s ≡ true)
    → IsBrokenAt first count v new → IsOnBase c d log b snap v → IsOnBase c d log b snap new
on_base-broken c d log b snap v new first count sized fits all broken on =
    let zeros : List Sector = replicate count zero_sector in
    let n : length zeros ≡ count = length-replicate count zero_sector in
    let room : first + length zeros ≤ c = omega (arith, n, fits) in
    on_base-filled c d log b snap (volume_written first zeros v) new
    (written-sized c first zeros v sized room)
    (broken_is_written c first zeros v new sized room
    (subst (λ k. IsBrokenAt first k v new) (sym n) broken))
    (on_base-written c d log b snap v first zeros sized room
    (λ s from less. all s from (omega (arith, n, less))) on)
