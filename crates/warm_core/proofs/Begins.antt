-- What a stage that begins leaves of a sound world.
use Rattle.std.proofs.Common.{◌≡◌, ℕ, ◌<◌, ◌≤◌, List, [], Bool, true, false, not, cond, Option, Some, None, refl, sym, ap, subst, ◌∙◌, arith, inl, inr}
use Rattle.std.specs.Option.{is_none, IfSome}
use Rattle.std.proofs.lemmas.Bool.{false_from_ne_true, false≢true, ne_eqb, or_left}
use Rattle.std.proofs.lemmas.Option.{same_Some, none-some}
use Rattle.basics.proofs.Options.{some_value}
use Rattle.sector_model.specs.Run.{in_blocks}
use Rattle.log_model.specs.declared.entry.Entry.{Entry}
use Rattle.log_model.specs.declared.link.Snapped.{Snapped}
use Rattle.log_model.specs.Legal.{only, owner_of}
use Rattle.log_model.specs.Touched.{touched}
use Rattle.log_model.proofs.SnapMarks.{live_was_taken}
use Rattle.log_model.proofs.TouchedLaws.{touched_joins}
use Rattle.warm_core.specs.declared.disk_world.Base.{Base}
use Rattle.warm_core.specs.declared.stage_state.StageState.{StageState}
use Rattle.warm_core.specs.StageState.{begun}
use Rattle.warm_core.specs.Staged.{is_unfinished, open_blocks, Staged}
use Rattle.warm_core.specs.World.{World, IsSnapOf, IsLive, StageIsSound, IsSound}
use Rattle.warm_core.specs.Events.{MayBegin, snapped_of}
use Rattle.warm_core.specs.Laws.{StageStands, LaterSnapshotsStay}
use Rattle.warm_core.proofs.Stages.{begun-stands}

-- the blocks that are open over a snapshot are open over each later one
open-at : (b : Bool) (blocks : List ℕ) (s : ℕ) → in_blocks (cond b blocks []) s ≡ true
    → in_blocks blocks s ≡ true
open-at true blocks s h = h
open-at false blocks s h = absurd (false≢true h)

open-grows : (c d : ℕ) (log : List Entry) (b : Base) (old new : Snapped) (s : ℕ)
    → is_unfinished (Some b) (Some new) ≡ true → b.mark ≤ old.mark → old.mark ≤ new.mark
    → in_blocks (open_blocks c d log b (Some old)) s ≡ true
    → in_blocks (open_blocks c d log b (Some new)) s ≡ true
open-grows c d log b old new s unfinished low high inside =
    let early : in_blocks (touched c d b.mark old.mark log) s ≡ true =
    open-at (is_unfinished (Some b) (Some old)) (touched c d b.mark old.mark log) s inside in
    ap (λ x. in_blocks (cond x (touched c d b.mark new.mark log) []) s) unfinished
    ∙ touched_joins c d b.mark old.mark new.mark log s low high
    ∙ or_left (in_blocks (touched c d b.mark old.mark log) s)
    (in_blocks (touched c d old.mark new.mark log) s) early

pub staged-grows : LaterSnapshotsStay
staged-grows c d log None old new v unfinished after staged = tt
staged-grows c d log (Some b) None new v unfinished after (inl on) = inl (record {
  as_base = λ s none. on.as_base s refl;
  loose_inside = λ s loose. absurd (false≢true (on.loose_inside s loose));
})
staged-grows c d log (Some b) None new v unfinished after (inr forgotten) =
    inr (record { unfinished = unfinished; reset = forgotten.reset })
staged-grows c d log (Some b) (Some old) new v unfinished after (inl on) =
    let marks = after old refl in
    let grows : (s : ℕ) → in_blocks (open_blocks c d log b (Some old)) s ≡ true
    → in_blocks (open_blocks c d log b (Some new)) s ≡ true =
    λ s. open-grows c d log b old new s unfinished (marks.0 b refl) marks.1 in
    inl (record {
      as_base = λ s none. on.as_base s
          (false_from_ne_true (in_blocks (open_blocks c d log b (Some old)) s)
          (λ inside. false≢true (sym none ∙ grows s inside)));
      loose_inside = λ s loose. grows s (on.loose_inside s loose);
    })
staged-grows c d log (Some b) (Some old) new v unfinished after (inr forgotten) =
    inr (record { unfinished = unfinished; reset = forgotten.reset })

high-at : (snap : Option Snapped) (n : ℕ) → IfSome snap (λ s. s.mark ≤ n) → (s : Snapped)
    → snap ≡ Some s → s.mark ≤ n
high-at None n high s is = absurd (none-some s is)
high-at (Some x) n high s is = let same = ap (λ (y : Snapped). y.mark) (same_Some x s is) in
    omega (arith, high, same)

-- a snapshot above the base is unfinished
above-unfinished : (base : Option Base) (new : Snapped) → IfSome base (λ b. b.mark < new.mark)
    → is_unfinished base (Some new) ≡ true
above-unfinished None new above = refl
above-unfinished (Some b) new above =
    ap not (ne_eqb new.mark b.mark (λ same. omega (arith, above, same)))

low-base : (base : Option Base) (n : ℕ) → IfSome base (λ b. b.mark < n) → (b : Base) → base ≡ Some b
    → b.mark ≤ n
low-base None n above b is = absurd (none-some b is)
low-base (Some x) n above b is = let same = ap (λ (y : Base). y.mark) (same_Some x b is) in
    omega (arith, above, same)

pub begun-sound : (w : World) (snapshot : ℕ) (last : Bool) → IsSound w → MayBegin snapshot last w
    → IsSound (record w {
      snap = Some (snapped_of snapshot w.log);
      last = last;
      stage = Some
          (begun w.capacity (is_none w.base));
    })
begun-sound w snapshot last sound may =
    let new : Snapped = snapped_of snapshot w.log in
    let t : StageState = begun w.capacity (is_none w.base) in
    let next : World = record w { snap = Some new; last = last; stage = Some t } in
    let owner = some_value (owner_of snapshot w.log) may.live in
    let taken = live_was_taken (only w.disk w.capacity) w.log snapshot owner.0 sound.legal owner.1
    in
    let unfinished : is_unfinished w.base (Some new) ≡ true =
    above-unfinished w.base new may.above_base in
    let snap_is : IsSnapOf w.log new =
    record { within = taken.within; mark_is = refl; off_place_is = refl } in
    let staged : Staged w.capacity w.disk w.log w.base (Some new) w.volume =
    staged-grows w.capacity w.disk w.log w.base w.snap new w.volume unfinished
    (λ s is. (sound.snap_from_base s is, high-at w.snap new.mark may.from_current s is))
    sound.staged in
    let stands : StageStands w.capacity w.disk w.log w.base new t w.volume =
    begun-stands w.capacity w.disk w.log w.base new w.volume sound.sized unfinished staged in
    let here : StageIsSound next new t =
    record {
      running = may.running;
      has_id = may.has_id;
      fits = stands.fits;
      holds =
          stands.holds;
    } in
    record {
      legal = sound.legal;
      sized = sound.sized;
      base_is = sound.base_is;
      base_has_snap = λ _. refl;
      snap_is = λ snap is. subst (λ (x : Snapped). IsSnapOf w.log x) (same_Some new snap is)
          snap_is;
      snap_from_base = λ snap is base is'.
          subst (λ (x : Snapped). base.mark ≤ x.mark) (same_Some new snap is)
          (low-base w.base new.mark may.above_base base is');
      snap_lives = λ snap is _. inl
          (subst (λ (x : Snapped). IsLive x.id w.log) (same_Some new snap is) may.live);
      last_is_off = may.last_is_off;
      stage_has_snap = λ _. refl;
      stage_is = λ snap is t' is'.
          subst (λ (x : StageState). StageIsSound next snap x) (same_Some t t' is')
          (subst (λ (x : Snapped). StageIsSound next x t) (same_Some new snap is) here);
      complete_is = λ p is. absurd (none-some p (sym may.incomplete ∙ is));
      staged = staged;
    }
