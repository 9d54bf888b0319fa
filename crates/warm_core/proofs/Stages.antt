-- What the steps of a stage leave of what is known of it and of its volume.
use Rattle.std.proofs.Common.{◌≡◌, ℕ, ◌+◌, ◌-◌, ◌<◌, ◌≤◌, List, [], ◌++◌, length, take, drop, replicate, Bool, true, false, cond, ◌||◌, Option, Some, None, Ok, Err, refl, sym, ap, subst, ◌∙◌, arith, ◌⊎◌, inl, inr, IsSome, slice_index_or, length-take, length-drop}
use Rattle.std.specs.List.{slice_get, slice_range}
use Rattle.std.specs.Option.{is_none}
use Rattle.std.proofs.lemmas.Bool.{cases_lt, false≢true}
use Rattle.std.proofs.lemmas.Option.{same_Some}
use Rattle.std.proofs.lemmas.List.{length-replicate}
use Rattle.sector_model.specs.Run.{end_of, in_blocks}
use Rattle.sector_model.specs.Sector.{zero_sector}
use Rattle.sector_model.specs.VolumeContents.{VolumeContents, IsSized, IsFlushed, is_loose, volume_written, volume_zeroed, volume_flushed, IsBrokenAt}
use Rattle.sector_model.specs.declared.run.Run.{Run}
use Rattle.sector_model.specs.declared.sector.Sector.{Sector}
use Rattle.basics.proofs.ItemAt.{slice_get-take, slice_get-drop, slice_get-replicate, same_items}
use Rattle.sector_model.proofs.Volumes.{loose_then, flushed_is_none_loose, written-sized, keep_their_size}
use Rattle.change_id.specs.declared.ChangeId.{ChangeId}
use Rattle.log_model.specs.declared.entry.Entry.{Entry}
use Rattle.log_model.specs.declared.link.Snapped.{Snapped}
use Rattle.log_model.specs.Legal.{Legal, only}
use Rattle.log_model.specs.Marks.{in_force}
use Rattle.log_model.proofs.LegalLogs.{prefixes_are_legal}
use Rattle.log_model.proofs.TouchedLaws.{untouched_stays, length-contents}
use Rattle.warm_core.specs.declared.disk_world.Base.{Base}
use Rattle.warm_core.specs.declared.stage_state.StageState.{StageState}
use Rattle.warm_core.specs.StageState.{IsPiece, with_page, made_full, with_piece, at_its_end, has_to_write, MayAsk, MayCopy, MayZero, MayFlush}
use Rattle.warm_core.specs.Staged.{is_unfinished, since_mark, open_blocks, blocks_asked, answer, disk_at, IsOnBase, HasToBeFull, Staged, StageFits, RunsOnBase, HasWritten, with_copy}
use Rattle.warm_core.specs.Events.{page_end_of}
use Rattle.warm_core.specs.Laws.{IsGround, StageStands, StagesWithVolumesStay, StagesBegin, NumbersBegin, WrittenAtEnd, EntriesStay}
use Rattle.warm_core.proofs.Counting.{sectors_below-le}
use Rattle.warm_core.proofs.NumbersStay.{numbers_stay, zeroed-fits}
use Rattle.warm_core.proofs.Answering.{answers-between, mark-within, base-within, disk_at-later, asked-later, forgotten-later, fits-later, answer-not-err}
use Rattle.warm_core.proofs.Holding.{outside, inside, on_base-written, open-asked, on_base-broken}

-- ---- the disk at a mark

pub length-disk_at : (c d m : ℕ) (log : List Entry) → Legal (only d c) log
    → length (disk_at c d m log) ≡ c
length-disk_at c d m log legal =
    length-contents (only d c) c d (take m log) (prefixes_are_legal (only d c) log m legal)
    (refl, refl)

-- outside what a stage asks for the disk is the same at the place since which it asks and at its
-- mark
unasked-same : (machine c d : ℕ) (log : List Entry) (base : Option Base) (snap : Snapped)
    (full : Bool) (s : ℕ) → IsGround machine c d log base snap → since_mark full base ≤ snap.mark
    → in_blocks (blocks_asked c d log base snap full) s ≡ false
    → slice_get (disk_at c d snap.mark log) s
    ≡ slice_get (disk_at c d (since_mark full base) log) s
unasked-same machine c d log base snap full s ground le none =
    untouched_stays (only d c) c d (since_mark full base) snap.mark log s ground.legal (refl, refl)
    le none

-- ---- a stage that isn't at its end

module _ {c d : ℕ} {log : List Entry} {base : Option Base} {snap : Snapped} {t : StageState}
    (fits : StageFits c d log base snap t) where
  not-flushed : t.at < c → t.flushed ≡ true → ⊥
  not-flushed less flushed =
      let ended = fits.order.ended flushed in
      let sized = fits.sized in
      omega (arith, ended, less, sized)

-- ---- a page

some-base-runs : (machine c d : ℕ) (log : List Entry) (base : Option Base) (snap : Snapped)
    (v : VolumeContents) (areas : List Run) → IsGround machine c d log base snap → IsSome base
    → answer machine c d log base snap false ≡ Ok areas → Staged c d log base (Some snap) v
    → RunsOnBase c d log base snap v
some-base-runs machine c d log None snap v areas ground some ok staged = absurd (false≢true some)
some-base-runs machine c d log (Some b) snap v areas ground some ok (inl on) = on
some-base-runs machine c d log (Some b) snap v areas ground some ok (inr forgotten) =
    let between = answers-between machine c d log b snap ground in
    absurd (answer-not-err areas (in_force machine d log)
    (sym ok ∙ between.strange forgotten.reset))

pub answered-stands : (machine c d : ℕ) (log : List Entry) (base : Option Base) (snap : Snapped)
    (t : StageState) (v : VolumeContents) (areas : List Run) → IsGround machine c d log base snap
    → StageStands c d log base snap t v → MayAsk (blocks_asked c d log base snap t.full) t
    → answer machine c d log base snap t.full ≡ Ok areas
    → StageStands c d log base snap (with_page (page_end_of c t.covered (Ok areas)) t) v
answered-stands machine c d log base snap t v areas ground stands ask ok =
    let fits = stands.fits in
    let holds = stands.holds in
    record {
      sized = stands.sized;
      fits = (numbers_stay machine c d log base snap t ground fits).answered areas ask ok;
      holds = record {
        copied = λ s less due. elim (cases_lt s t.at) [
          | inl before ↦ holds.copied s before due
          | inr from ↦ absurd (false≢true (sym (ask.ready s from less) ∙ due))
        ];
        tight = holds.tight;
        whole = holds.whole;
        on_base = λ partial some.
            some-base-runs machine c d log base snap v areas ground (fits.partial partial)
            (sym (ap (answer machine c d log base snap) partial) ∙ ok) stands.staged;
      };
      staged = stands.staged;
    }

pub refused-stands : (machine c d : ℕ) (log : List Entry) (base : Option Base) (snap : Snapped)
    (t : StageState) (v : VolumeContents) (found : Option ChangeId)
    → IsGround machine c d log base snap
    → StageStands c d log base snap t v → MayAsk (blocks_asked c d log base snap t.full) t
    → t.full ≡ false → answer machine c d log base snap t.full ≡ Err found
    → StageStands c d log base snap (made_full t) v
refused-stands machine c d log base snap t v found ground stands ask partial err =
    let fits = stands.fits in
    let holds = stands.holds in
    record {
      sized = stands.sized;
      fits = (numbers_stay machine c d log base snap t ground fits).refused found ask partial err;
      holds = record {
        copied = λ s less due. absurd (omega (arith, less));
        tight = holds.tight;
        whole = holds.whole;
        on_base = λ is some. absurd (false≢true (sym is));
      };
      staged = stands.staged;
    }

-- ---- a piece

-- a full stage has no base, or one that is forgotten, so what is staged doesn't speak of the volume
full-staged : (c d : ℕ) (log : List Entry) (base : Option Base) (snap : Snapped)
    (v : VolumeContents) → HasToBeFull d log base snap → Staged c d log base (Some snap) v
full-staged c d log None snap v must = tt
full-staged c d log (Some b) snap v must = inr must

runs-staged : (c d : ℕ) (log : List Entry) (base : Option Base) (snap : Snapped)
    (v : VolumeContents) → RunsOnBase c d log base snap v → Staged c d log base (Some snap) v
runs-staged c d log None snap v runs = absurd runs
runs-staged c d log (Some b) snap v runs = inl runs

runs-written : (c d : ℕ) (log : List Entry) (base : Option Base) (snap : Snapped)
    (v : VolumeContents) (first : ℕ) (xs : List Sector) → IsSized c v → first + length xs ≤ c
    → is_unfinished base (Some snap) ≡ true
    → ((s : ℕ) → first ≤ s → s < first + length xs
    → in_blocks (blocks_asked c d log base snap false) s ≡ true)
    → RunsOnBase c d log base snap v → RunsOnBase c d log base snap (volume_written first xs v)
runs-written c d log None snap v first xs sized fits unfinished all runs = runs
runs-written c d log (Some b) snap v first xs sized fits unfinished all runs =
    on_base-written c d log b (Some snap) v first xs sized fits
    (λ s from less. ap (λ (bs : List ℕ). in_blocks bs s) (open-asked c d log b snap unfinished)
    ∙ all s from less) runs

runs-broken : (c d : ℕ) (log : List Entry) (base : Option Base) (snap : Snapped)
    (v new : VolumeContents) (first count : ℕ) → IsSized c v → first + count ≤ c
    → is_unfinished base (Some snap) ≡ true
    → ((s : ℕ) → first ≤ s → s < first + count
    → in_blocks (blocks_asked c d log base snap false) s ≡ true)
    → IsBrokenAt first count v new → RunsOnBase c d log base snap v
    → RunsOnBase c d log base snap new
runs-broken c d log None snap v new first count sized fits unfinished all broken runs = runs
runs-broken c d log (Some b) snap v new first count sized fits unfinished all broken runs =
    on_base-broken c d log b (Some snap) v new first count sized fits
    (λ s from less. ap (λ (bs : List ℕ). in_blocks bs s) (open-asked c d log b snap unfinished)
    ∙ all s from less) broken runs

-- what is staged after a stage wrote, by whether it is a full one
staged-by : (c d : ℕ) (log : List Entry) (base : Option Base) (snap : Snapped) (v : VolumeContents)
    (full : Bool)
    → (full ≡ true → HasToBeFull d log base snap) → (full ≡ false → RunsOnBase c d log base snap v)
    → Staged c d log base (Some snap) v
staged-by c d log base snap v true must runs = full-staged c d log base snap v (must refl)
staged-by c d log base snap v false must runs = runs-staged c d log base snap v (runs refl)

-- `xs` was written as the run: each sector that the stage has to write there is as at the mark
written-stands : (machine c d : ℕ) (log : List Entry) (base : Option Base) (snap : Snapped)
    (t : StageState) (v : VolumeContents) (run : Run) (xs : List Sector)
    → IsGround machine c d log base snap
    → StageStands c d log base snap t v → IsPiece run t → length xs ≡ run.count
    → StageFits c d log base snap (with_piece run t)
    → ((s : ℕ) → t.at ≤ s → s < run.first
    → has_to_write (blocks_asked c d log base snap t.full) t s ≡ false)
    → (t.full ≡ false → (s : ℕ) → run.first ≤ s → s < end_of run
    → in_blocks (blocks_asked c d log base snap t.full) s ≡ true)
    → ((s : ℕ) → run.first ≤ s → s < end_of run
    → slice_get xs (s - run.first) ≡ slice_get (disk_at c d snap.mark log) s)
    → StageStands c d log base snap (with_piece run t) (volume_written run.first xs v)
written-stands machine c d log base snap t v run xs ground stands piece long fits none all same =
    let old = stands.fits in
    let holds = stands.holds in
    let order = old.order in
    let sized = old.sized in
    let from = piece.from in
    let some = piece.some in
    let end = piece.within in
    let within = order.within in
    let room : run.first + length xs ≤ c = omega (arith, long, end, within, sized) in
    let on : t.full ≡ false → RunsOnBase c d log base snap (volume_written run.first xs v) =
    λ partial.
    runs-written c d log base snap v run.first xs stands.sized room old.unfinished
    (λ s low high. ap (λ b. in_blocks (blocks_asked c d log base snap b) s) (sym partial)
    ∙ all partial s low (omega (arith, long, high)))
    (holds.on_base partial (omega (arith, some, end))) in
    record {
      sized = written-sized c run.first xs v stands.sized room;
      fits = fits;
      holds = record {
        copied = λ s less due. elim (cases_lt s run.first) [
          | inl before ↦ outside c run.first xs v stands.sized room s (inl before)
              ∙ elim (cases_lt s t.at) [
                | inl done ↦ holds.copied s done due
                | inr left ↦ absurd (false≢true (sym (none s left before) ∙ due))
              ]
          | inr low ↦ inside c run.first xs v stands.sized room s low (omega (arith, long, less))
              ∙ same s low less
        ];
        tight = λ flushed. absurd
            (not-flushed old (omega (arith, from, some, end, within, sized)) flushed);
        whole = λ flushed. absurd
            (not-flushed old (omega (arith, from, some, end, within, sized)) flushed);
        on_base = λ partial some. on partial;
      };
      staged = staged-by c d log base snap (volume_written run.first xs v) t.full old.full on;
    }

pub length-slice : (xs : List Sector) (first count : ℕ) → first + count ≤ length xs
    → length (slice_range xs first (first + count)) ≡ count
length-slice xs first count fits =
    omega (arith, fits, length-take (first + count - first) (drop first xs), length-drop first xs)

in-slice : (xs : List Sector) (first count s : ℕ) → first ≤ s → s < first + count
    → slice_get (slice_range xs first (first + count)) (s - first) ≡ slice_get xs s
in-slice xs first count s from less =
    slice_get-take (drop first xs) (first + count - first) (s - first) (omega arith)
    ∙ slice_get-drop xs first (s - first)
    ∙ ap (slice_get xs) (let at : first + (s - first) ≡ s = omega arith in at)

pub copied-stands : (machine c d : ℕ) (log : List Entry) (base : Option Base) (snap : Snapped)
    (t : StageState) (v : VolumeContents) (run : Run) → IsGround machine c d log base snap
    → StageStands c d log base snap t v → MayCopy (blocks_asked c d log base snap t.full) run t
    → StageStands c d log base snap (with_piece run t) (with_copy c d snap.mark log run v)
copied-stands machine c d log base snap t v run ground stands may =
    let fits = stands.fits in
    let disk : List Sector = disk_at c d snap.mark log in
    let whole = length-disk_at c d snap.mark log ground.legal in
    let end = may.piece.within in
    let within = fits.order.within in
    let sized = fits.sized in
    written-stands machine c d log base snap t v run (slice_range disk run.first (end_of run))
    ground stands may.piece
    (length-slice disk run.first run.count (omega (arith, whole, end, within, sized)))
    ((numbers_stay machine c d log base snap t ground fits).copied run may) may.is_next
    (λ partial. may.in_area)
    (λ s low high. in-slice disk run.first run.count s low high)

-- what was never written is zero
gap-is-zero : (machine c d : ℕ) (log : List Entry) (base : Option Base) (snap : Snapped)
    (full : Bool) (first count s : ℕ) → IsGround machine c d log base snap → full ≡ true
    → in_blocks (blocks_asked c d log base snap full) s ≡ false → first ≤ s → s < first + count
    → s < c
    → slice_get (replicate count zero_sector) (s - first) ≡ slice_get (disk_at c d snap.mark log) s
gap-is-zero machine c d log base snap full first count s ground is none low high less =
    let gap : in_blocks (blocks_asked c d log base snap true) s ≡ false =
    ap (λ b. in_blocks (blocks_asked c d log base snap b) s) (sym is) ∙ none in
    slice_get-replicate count (s - first) zero_sector (omega arith)
    ∙ sym (unasked-same machine c d log base snap true s ground (omega arith) gap
    ∙ slice_get-replicate c s zero_sector less)

pub zeroed-stands : (machine c d : ℕ) (log : List Entry) (base : Option Base) (snap : Snapped)
    (t : StageState) (v : VolumeContents) (run : Run) → IsGround machine c d log base snap
    → StageStands c d log base snap t v → MayZero (blocks_asked c d log base snap t.full) run t
    → StageStands c d log base snap (with_piece run t) (volume_zeroed run.first run.count v)
zeroed-stands machine c d log base snap t v run ground stands may =
    let fits = stands.fits in
    let end = may.piece.within in
    let within = fits.order.within in
    let sized = fits.sized in
    let next = may.is_next in
    written-stands machine c d log base snap t v run (replicate run.count zero_sector) ground stands
    may.piece (length-replicate run.count zero_sector)
    (zeroed-fits c d log base snap t run fits may)
    (λ s from less. absurd (omega (arith, next, from, less)))
    (λ partial. absurd (false≢true (sym partial ∙ may.full)))
    (λ s low high. gap-is-zero machine c d log base snap t.full run.first run.count s ground
    may.full (may.in_gap s low high) low high (omega (arith, high, end, within, sized)))

-- ---- a flush

-- a sector that a partial stage doesn't have to write is as at the base, and so as at the mark
unwritten-same : (machine c d : ℕ) (log : List Entry) (base : Option Base) (snap : Snapped)
    (v : VolumeContents) (s : ℕ) → IsGround machine c d log base snap
    → is_unfinished base (Some snap) ≡ true → RunsOnBase c d log base snap v
    → in_blocks (blocks_asked c d log base snap false) s ≡ false
    → slice_get v.sectors s ≡ slice_get (disk_at c d snap.mark log) s
unwritten-same machine c d log None snap v s ground unfinished runs none = absurd runs
unwritten-same machine c d log (Some b) snap v s ground unfinished runs none =
    runs.as_base s (ap (λ (bs : List ℕ). in_blocks bs s) (open-asked c d log b snap unfinished)
    ∙ none)
    ∙ sym (unasked-same machine c d log (Some b) snap false s ground (ground.from_base b refl) none)

-- at its end each sector is as at the mark
ended-same : (machine c d : ℕ) (log : List Entry) (base : Option Base) (snap : Snapped)
    (full : Bool) (at : ℕ) (v : VolumeContents) (s : ℕ) (b : Bool)
    → IsGround machine c d log base snap
    → is_unfinished base (Some snap) ≡ true
    → ((s : ℕ) → s < at → (full || in_blocks (blocks_asked c d log base snap full) s) ≡ true
    → slice_get v.sectors s ≡ slice_get (disk_at c d snap.mark log) s)
    → ((s : ℕ) → at ≤ s → s < c
    → (full || in_blocks (blocks_asked c d log base snap full) s) ≡ false)
    → (full ≡ false → RunsOnBase c d log base snap v) → s < c
    → (full || in_blocks (blocks_asked c d log base snap full) s) ≡ b
    → slice_get v.sectors s ≡ slice_get (disk_at c d snap.mark log) s
ended-same machine c d log base snap full at v s true ground unfinished copied ready runs less is =
    elim (cases_lt s at) [
      | inl before ↦ copied s before is
      | inr from ↦ absurd (false≢true (sym (ready s from less) ∙ is))
    ]
ended-same machine c d log base snap true at v s false ground unfinished copied ready runs less is =
    absurd (false≢true (sym is))
ended-same machine c d log base snap false at v s false ground unfinished copied ready runs less is
    = unwritten-same machine c d log base snap v s ground unfinished (runs refl) is

flushed-on_base : (c d : ℕ) (log : List Entry) (b : Base) (snap : Option Snapped)
    (v : VolumeContents) → IsSized c v → IsOnBase c d log b snap v
    → IsOnBase c d log b snap (volume_flushed v)
flushed-on_base c d log b snap v sized on = record {
  as_base = on.as_base;
  loose_inside = λ s loose. absurd (false≢true (sym ((loose_then c v s sized).flushed) ∙ loose));
}

flushed-runs : (c d : ℕ) (log : List Entry) (base : Option Base) (snap : Snapped)
    (v : VolumeContents) → IsSized c v → RunsOnBase c d log base snap v
    → RunsOnBase c d log base snap (volume_flushed v)
flushed-runs c d log None snap v sized runs = runs
flushed-runs c d log (Some b) snap v sized runs = flushed-on_base c d log b (Some snap) v sized runs

flushed-staged : (c d : ℕ) (log : List Entry) (base : Option Base) (snap : Option Snapped)
    (v : VolumeContents) → IsSized c v → Staged c d log base snap v
    → Staged c d log base snap (volume_flushed v)
flushed-staged c d log None snap v sized staged = tt
flushed-staged c d log (Some b) snap v sized (inl on) =
    inl (flushed-on_base c d log b snap v sized on)
flushed-staged c d log (Some b) snap v sized (inr forgotten) = inr forgotten

pub flushed-stands : (machine c d : ℕ) (log : List Entry) (base : Option Base) (snap : Snapped)
    (t : StageState) (v : VolumeContents) → IsGround machine c d log base snap
    → StageStands c d log base snap t v → MayFlush (blocks_asked c d log base snap t.full) t
    → StageStands c d log base snap (at_its_end t) (volume_flushed v)
flushed-stands machine c d log base snap t v ground stands may =
    let fits = stands.fits in
    let holds = stands.holds in
    let sized = fits.sized in
    let all = may.all in
    let same : (s : ℕ) → s < c → slice_get v.sectors s ≡ slice_get (disk_at c d snap.mark log) s =
    λ s less.
    ended-same machine c d log base snap t.full t.at v s
    (has_to_write (blocks_asked c d log base snap t.full) t s) ground fits.unfinished
    holds.copied
    (λ s from below. may.ready s from (omega (arith, all, sized, below)))
    (λ partial. holds.on_base partial (omega (arith, all, sized, less))) less refl in
    let whole : v.sectors ≡ disk_at c d snap.mark log =
    same_items v.sectors (disk_at c d snap.mark log)
    (stands.sized.0 ∙ sym (length-disk_at c d snap.mark log ground.legal))
    (λ s less. same s (omega (arith, less, stands.sized.0))) in
    record {
      sized = (keep_their_size c v stands.sized).flushed;
      fits = (numbers_stay machine c d log base snap t ground fits).flushed may;
      holds = record {
        copied = λ s less due. same s (omega (arith, less, sized));
        tight = λ flushed. (flushed_is_none_loose c v stands.sized).by_flush;
        whole = λ flushed. whole;
        on_base = λ partial some. flushed-runs c d log base snap v stands.sized
            (holds.on_base partial some);
      };
      staged = flushed-staged c d log base (Some snap) v stands.sized stands.staged;
    }

-- ---- a stage that is done, and one that broke

none-loose : (c : ℕ) (v : VolumeContents) (s : ℕ) → IsSized c v → IsFlushed v → is_loose s v ≡ false
none-loose c v s sized flushed =
    ap (λ (l : List Bool). slice_index_or l s false)
    (flushed ∙ ap (λ n. replicate n false) (sized.0 ∙ sym sized.1))
    ∙ (loose_then c v s sized).flushed

pub done-staged : (c d : ℕ) (log : List Entry) (base : Option Base) (snap : Snapped)
    (t : StageState) (v : VolumeContents) (id : ChangeId) → StageStands c d log base snap t v
    → t.flushed ≡ true
    → Staged c d log (Some (record { mark = snap.mark; id = id })) (Some snap) v
done-staged c d log base snap t v id stands flushed =
    let holds = stands.holds in
    inl (record {
      as_base = λ s none. ap (λ (xs : List Sector). slice_get xs s) (holds.whole flushed);
      loose_inside = λ s loose. absurd
          (false≢true (sym (none-loose c v s stands.sized (holds.tight flushed)) ∙ loose));
    })

broken-copy : (c d : ℕ) (log : List Entry) (base : Option Base) (snap : Snapped) (t : StageState)
    (v new : VolumeContents) (run : Run) → StageStands c d log base snap t v
    → MayCopy (blocks_asked c d log base snap t.full) run t → IsBrokenAt run.first run.count v new
    → Staged c d log base (Some snap) new
broken-copy c d log base snap t v new run stands may broken =
    let fits = stands.fits in
    let some = may.piece.some in
    let end = may.piece.within in
    let within = fits.order.within in
    let sized = fits.sized in
    staged-by c d log base snap new t.full fits.full (λ partial.
    runs-broken c d log base snap v new run.first run.count stands.sized
    (omega (arith, end, within, sized)) fits.unfinished
    (λ s low high. ap (λ b. in_blocks (blocks_asked c d log base snap b) s) (sym partial)
    ∙ may.in_area s low high) broken
    (stands.holds.on_base partial (omega (arith, some, end))))

pub broken-staged : (c d : ℕ) (log : List Entry) (base : Option Base) (snap : Snapped)
    (t : StageState) (v new : VolumeContents) (run : Run) → StageStands c d log base snap t v
    → (MayCopy (blocks_asked c d log base snap t.full) run t)
    ⊎ (MayZero (blocks_asked c d log base snap t.full) run t)
    → IsBrokenAt run.first run.count v new → Staged c d log base (Some snap) new
broken-staged c d log base snap t v new run stands (inl copy) broken =
    broken-copy c d log base snap t v new run stands copy broken
broken-staged c d log base snap t v new run stands (inr zero_) broken =
    full-staged c d log base snap new (stands.fits.full zero_.full)

-- ---- later entries

on_base-later : (c d : ℕ) (log more : List Entry) (b : Base) (snap : Option Snapped)
    (v : VolumeContents) → b.mark ≤ length log
    → open_blocks c d (log ++ more) b snap ≡ open_blocks c d log b snap
    → IsOnBase c d log b snap v → IsOnBase c d (log ++ more) b snap v
on_base-later c d log more b snap v le same on = record {
  as_base = λ s none.
      on.as_base s (ap (λ (bs : List ℕ). in_blocks bs s) (sym same) ∙ none)
      ∙ ap (λ (xs : List Sector). slice_get xs s) (sym (disk_at-later c d b.mark log more le));
  loose_inside = λ s loose. ap (λ (bs : List ℕ). in_blocks bs s) same ∙ on.loose_inside s loose;
}

pub open-later : (c d : ℕ) (log more : List Entry) (b : Base) (snap : Option Snapped)
    → ((s : Snapped) → snap ≡ Some s → s.mark ≤ length log)
    → open_blocks c d (log ++ more) b snap ≡ open_blocks c d log b snap
open-later c d log more b None within = refl
open-later c d log more b (Some snap) within =
    ap (λ (bs : List ℕ). cond (is_unfinished (Some b) (Some snap)) bs [])
    (asked-later c d log more (Some b) snap false (within snap refl))

pub staged-later : EntriesStay
staged-later c d log more None snap v low within staged = tt
staged-later c d log more (Some b) snap v low within (inl on) =
    inl (on_base-later c d log more b snap v (low b refl) (open-later c d log more b snap within)
    on)
staged-later c d log more (Some b) snap v low within (inr forgotten) =
    inr (forgotten-later d log more b snap (low b refl) forgotten)

runs-later : (machine c d : ℕ) (log more : List Entry) (base : Option Base) (snap : Snapped)
    (v : VolumeContents) → IsGround machine c d log base snap
    → RunsOnBase c d log base snap v → RunsOnBase c d (log ++ more) base snap v
runs-later machine c d log more None snap v ground runs = runs
runs-later machine c d log more (Some b) snap v ground runs =
    on_base-later c d log more b (Some snap) v (base-within machine c d log b snap ground)
    (open-later c d log more b (Some snap)
    (λ s is. subst (λ (x : Snapped). x.mark ≤ length log) (same_Some snap s is)
    (mark-within machine c d log (Some b) snap ground))) runs

pub later-stands : (machine c d : ℕ) (log more : List Entry) (base : Option Base) (snap : Snapped)
    (t : StageState) (v : VolumeContents) → IsGround machine c d log base snap
    → StageStands c d log base snap t v → StageStands c d (log ++ more) base snap t v
later-stands machine c d log more base snap t v ground stands =
    let holds = stands.holds in
    let mark = mark-within machine c d log base snap ground in
    let disk = disk_at-later c d snap.mark log more mark in
    let asked = asked-later c d log more base snap t.full mark in
    record {
      sized = stands.sized;
      fits = fits-later machine c d log more base snap t ground stands.fits;
      holds = record {
        copied = λ s less due.
            holds.copied s less (ap (λ (bs : List ℕ). has_to_write bs t s) (sym asked) ∙ due)
            ∙ ap (λ (xs : List Sector). slice_get xs s) (sym disk);
        tight = holds.tight;
        whole = λ flushed. holds.whole flushed ∙ sym disk;
        on_base = λ partial some. runs-later machine c d log more base snap v ground
            (holds.on_base partial some);
      };
      staged = staged-later c d log more base (Some snap) v
          (λ b is. base-within machine c d log b snap
          (subst (λ (o : Option Base). IsGround machine c d log o snap) is ground))
          (λ s is. subst (λ (x : Snapped). x.mark ≤ length log) (same_Some snap s is) mark)
          stands.staged;
    }

-- ---- all together

pub stages_stay : StagesWithVolumesStay
stages_stay machine c d log base snap t v ground stands = record {
  answered = λ areas ask ok. answered-stands machine c d log base snap t v areas ground stands ask
      ok;
  refused = λ found ask partial err. refused-stands machine c d log base snap t v found ground
      stands ask partial err;
  copied = λ run may. copied-stands machine c d log base snap t v run ground stands may;
  zeroed = λ run may. zeroed-stands machine c d log base snap t v run ground stands may;
  flushed = λ may. flushed-stands machine c d log base snap t v ground stands may;
  entries = λ more legal. later-stands machine c d log more base snap t v ground stands;
  done = λ id flushed. done-staged c d log base snap t v id stands flushed;
  broken = λ run new may broken. broken-staged c d log base snap t v new run stands may broken;
}

-- ---- a stage that begins

begun-written : (c d : ℕ) (log : List Entry) (base : Option Base) (snap : Snapped)
    → HasWritten c d log base snap (is_none base) 0 0
begun-written c d log None snap = refl
begun-written c d log (Some b) snap = let zero_at =
    sectors_below-le (blocks_asked c d log (Some b) snap false) 0 in omega (arith, zero_at)

begun-must : (d : ℕ) (log : List Entry) (base : Option Base) (snap : Snapped) → is_none base ≡ true
    → HasToBeFull d log base snap
begun-must d log None snap full = tt
begun-must d log (Some b) snap full = absurd (false≢true full)

begun-base : (base : Option Base) → is_none base ≡ false → IsSome base
begun-base None partial = absurd (false≢true (sym partial))
begun-base (Some b) partial = refl

begun-bound : (full : Bool) (c : ℕ) → 0 ≤ cond full (c + 0) 0
begun-bound true c = omega arith
begun-bound false c = omega arith

pub begun-fits : NumbersBegin
begun-fits c d log base snap unfinished = record {
  unfinished = unfinished;
  sized = refl;
  order = record {
    passed = omega arith;
    within = omega arith;
    ended = λ flushed. absurd (false≢true flushed);
    counted = begun-bound (is_none base) c;
  };
  written = begun-written c d log base snap;
  full = λ is. begun-must d log base snap is;
  partial = λ is. begun-base base is;
}

pub begun-stands : StagesBegin
begun-stands c d log base snap v sized unfinished staged = record {
  sized = sized;
  fits = begun-fits c d log base snap unfinished;
  holds = record {
    copied = λ s less due. absurd (omega (arith, less));
    tight = λ flushed. absurd (false≢true flushed);
    whole = λ flushed. absurd (false≢true flushed);
    on_base = λ partial some. absurd (omega (arith, some));
  };
  staged = staged;
}

-- ---- a stage that was flushed

pub written-at-end : WrittenAtEnd
written-at-end c d log base snap t fits flushed = record {
  written = subst (λ n. HasWritten c d log base snap t.full n t.written) (fits.order.ended flushed
      ∙ fits.sized) fits.written;
  full = fits.full;
}
