-- The law of the core: whatever happens to a sound world, and in a row.
use Rattle.std.proofs.Common.{◌≡◌, ℕ, ◌<◌, ◌≤◌, ◌^◌, List, [], ◌∷◌, ◌++◌, length, take, Option, Some, None, refl, sym, ap, subst, ◌∙◌, arith, inl, inr, length-append}
use Rattle.std.proofs.lemmas.Option.{none-some}
use Rattle.std.proofs.lemmas.List.{take-append-le, take_all, take-take}
use Rattle.std.proofs.Math.Bool.{or-false}
use Rattle.basics.specs.Prefix.{IsPrefix}
use Rattle.basics.proofs.Prefix.{prefix-trans}
use Rattle.log_model.specs.declared.entry.Entry.{Entry}
use Rattle.log_model.specs.declared.link.Snapped.{Snapped}
use Rattle.log_model.specs.Entry.{removes, contents}
use Rattle.log_model.specs.Marks.{id_at}
use Rattle.warm_core.specs.declared.event.Event.{Event}
use Rattle.warm_core.specs.declared.event.Event.TheVariants.{Machine, Begin, PageAnswered, PageRefused, Copied, Zeroed, Flushed, StageDone, Stop, Restart, Cancel, Complete}
use Rattle.warm_core.specs.declared.stage_state.StageState.{StageState}
use Rattle.warm_core.specs.Staged.{disk_at, with_copy}
use Rattle.warm_core.specs.World.{World, IsSound}
use Rattle.warm_core.specs.StageState.{with_page, with_piece}
use Rattle.warm_core.specs.Events.{MayHappen, after, at_stage, base_of, answer_now, page_end_of, Steps, Follows}
use Rattle.warm_core.specs.Events.{MayAdd}
use Rattle.warm_core.specs.Laws.{EventsKeepSound, MayAddAll, LawOfTheCore}
use Rattle.warm_core.proofs.Worlds.{answered-sound, refused-sound, copied-sound, zeroed-sound, flushed-sound, done-sound}
use Rattle.warm_core.proofs.Begins.{begun-sound}
use Rattle.warm_core.proofs.Entries.{entries_keep_sound, complete-within}
use Rattle.warm_core.proofs.Ends.{stopped-sound, restarted-sound, cancelled-sound, completed-sound}

one-entry : (entry : Entry) (w : World) → MayAdd entry w → MayAddAll (entry ∷ []) w
one-entry entry w may = record {
  legal = may.legal;
  keeps = λ snap is unfinished removed. may.keeps snap is unfinished
      (sym (or-false (removes snap.id entry.act)) ∙ removed);
}

pub events_keep_sound : EventsKeepSound
events_keep_sound (Machine entry) w small sound may =
    entries_keep_sound (entry ∷ []) w small sound (one-entry entry w may)
events_keep_sound (Begin snap last) w small sound may = begun-sound w snap last sound may
events_keep_sound PageAnswered w small sound may = answered-sound w small sound may
events_keep_sound PageRefused w small sound may = refused-sound w small sound may
events_keep_sound (Copied run) w small sound may = copied-sound w run small sound may
events_keep_sound (Zeroed run) w small sound may = zeroed-sound w run small sound may
events_keep_sound Flushed w small sound may = flushed-sound w small sound may
events_keep_sound StageDone w small sound may = done-sound w small sound may
events_keep_sound (Stop filling) w small sound may = stopped-sound w filling sound
events_keep_sound Restart w small sound may = restarted-sound w sound
events_keep_sound Cancel w small sound may = cancelled-sound w sound may.2
events_keep_sound Complete w small sound may = completed-sound w sound may

-- ---- what no event changes

-- the disk, and what the log begins with
pub record Keeps (old new : World) : Type 0 where
  pub machine : new.machine ≡ old.machine
  pub disk : new.disk ≡ old.disk
  pub capacity : new.capacity ≡ old.capacity
  pub log : IsPrefix old.log new.log
  pub longer : length old.log ≤ length new.log

keeps-log : (w new : World) → new.machine ≡ w.machine → new.disk ≡ w.disk
    → new.capacity ≡ w.capacity → new.log ≡ w.log → Keeps w new
keeps-log w new m d c l = record {
  machine = m;
  disk = d;
  capacity = c;
  log = ap (take (length w.log)) l ∙ take_all (length w.log) w.log (omega arith);
  longer = (let same = ap (λ (xs : List Entry). length xs) l in omega (arith, same));
}

at_stage-keeps : (f : Snapped → StageState → World → World) (snap : Option Snapped)
    (stage : Option StageState) (w : World)
    → ((s : Snapped) (t : StageState) → Keeps w (f s t w)) → Keeps w (at_stage f snap stage w)
at_stage-keeps f (Some s) (Some t) w keeps = keeps s t
at_stage-keeps f (Some s) None w keeps = keeps-log w w refl refl refl refl
at_stage-keeps f None stage w keeps = keeps-log w w refl refl refl refl

keeps-self : (w : World) → Keeps w w
keeps-self w = keeps-log w w refl refl refl refl

keeps-entry : (entry : Entry) (w : World) → Keeps w (record w { log = w.log ++ entry ∷ [] })
keeps-entry entry w = record {
  machine = refl;
  disk = refl;
  capacity = refl;
  log = take-append-le (length w.log) w.log (entry ∷ []) (omega arith)
      ∙ take_all (length w.log) w.log (omega arith);
  longer = omega (arith, length-append w.log (entry ∷ []));
}

after-keeps : (event : Event) (w : World) → Keeps w (after event w)
after-keeps (Machine entry) w = keeps-entry entry w
after-keeps (Begin snap last) w = keeps-log w (after (Begin snap last) w) refl refl refl refl
after-keeps PageAnswered w =
    at_stage-keeps (λ snap t w. record w
    { stage = Some (with_page (page_end_of w.capacity t.covered (answer_now w snap t)) t) })
    w.snap w.stage w
    (λ s t. keeps-log w (record w
    { stage = Some (with_page (page_end_of w.capacity t.covered (answer_now w s t)) t) }) refl
    refl refl refl)
after-keeps PageRefused w = keeps-log w (after PageRefused w) refl refl refl refl
after-keeps (Copied run) w =
    at_stage-keeps (λ snap t w. record w {
      volume = with_copy w.capacity w.disk snap.mark w.log run w.volume;
      stage = Some
          (with_piece run t);
    }) w.snap w.stage w
    (λ s t. keeps-log w (record w {
      volume = with_copy w.capacity w.disk s.mark w.log run w.volume;
      stage = Some
          (with_piece run t);
    }) refl refl refl refl)
after-keeps (Zeroed run) w = keeps-log w (after (Zeroed run) w) refl refl refl refl
after-keeps Flushed w = keeps-log w (after Flushed w) refl refl refl refl
after-keeps StageDone w =
    at_stage-keeps (λ snap t w. record w
    { base = base_of snap.mark (id_at w.machine w.disk snap.id w.log); stage = None }) w.snap
    w.stage w
    (λ s t. keeps-log w (record w
    { base = base_of s.mark (id_at w.machine w.disk s.id w.log); stage = None }) refl refl refl
    refl)
after-keeps (Stop filling) w = keeps-log w (after (Stop filling) w) refl refl refl refl
after-keeps Restart w = keeps-log w (after Restart w) refl refl refl refl
after-keeps Cancel w = keeps-log w (after Cancel w) refl refl refl refl
after-keeps Complete w = keeps-log w (after Complete w) refl refl refl refl

-- a world that is complete stays complete
at_stage-complete : (f : Snapped → StageState → World → World) (snap : Option Snapped)
    (stage : Option StageState) (w : World)
    → ((s : Snapped) (t : StageState) → (f s t w).complete ≡ w.complete)
    → (at_stage f snap stage w).complete ≡ w.complete
at_stage-complete f (Some s) (Some t) w same = same s t
at_stage-complete f (Some s) None w same = refl
at_stage-complete f None stage w same = refl

after-complete : (event : Event) (w : World) (p : ℕ) → MayHappen event w → w.complete ≡ Some p
    → (after event w).complete ≡ Some p
after-complete (Machine entry) w p may is = is
after-complete (Begin snap last) w p may is = is
after-complete PageAnswered w p may is =
    at_stage-complete (λ snap t w. record w
    { stage = Some (with_page (page_end_of w.capacity t.covered (answer_now w snap t)) t) })
    w.snap w.stage w (λ s t. refl) ∙ is
after-complete PageRefused w p may is = is
after-complete (Copied run) w p may is =
    at_stage-complete (λ snap t w. record w {
      volume = with_copy w.capacity w.disk snap.mark w.log run w.volume;
      stage = Some
          (with_piece run t);
    }) w.snap w.stage w (λ s t. refl) ∙ is
after-complete (Zeroed run) w p may is = is
after-complete Flushed w p may is = is
after-complete StageDone w p may is =
    at_stage-complete (λ snap t w. record w
    { base = base_of snap.mark (id_at w.machine w.disk snap.id w.log); stage = None }) w.snap
    w.stage w (λ s t. refl) ∙ is
after-complete (Stop filling) w p may is = is
after-complete Restart w p may is = is
after-complete Cancel w p may is = is
after-complete Complete w p may is = absurd (none-some p (sym may.incomplete ∙ is))

-- ---- one step, and more in a row

pub record Stays (old new : World) : Type 0 where
  pub keeps : Keeps old new
  pub sound : IsSound new
  pub complete : (p : ℕ) → old.complete ≡ Some p → new.complete ≡ Some p

step-stays : (event : Event) (old new : World) → old.capacity < 2 ^ 64 → IsSound old
    → Steps event old new → Stays old new
step-stays event old new small sound (inl happens) =
    let made : Stays old (after event old) = record {
      keeps = after-keeps event old;
      sound = events_keep_sound event old small sound happens.0;
      complete = λ p is. after-complete event old p happens.0 is;
    } in
    subst (λ (w : World). Stays old w) (sym happens.1) made
step-stays event old new small sound (inr refused) =
    let made : Stays old old =
    record { keeps = keeps-self old; sound = sound; complete = λ p is. is } in
    subst (λ (w : World). Stays old w) (sym refused.1) made

keeps-join : (a b e : World) → Keeps a b → Keeps b e → Keeps a e
keeps-join a b e one two =
    record {
      machine = two.machine ∙ one.machine;
      disk = two.disk ∙ one.disk;
      capacity = two.capacity ∙ one.capacity;
      log = prefix-trans a.log b.log e.log one.log two.log;
      longer = (let first = one.longer in let next = two.longer in omega (arith, first, next));
    }

stays-join : (a b e : World) → Stays a b → Stays b e → Stays a e
stays-join a b e one two = record {
  keeps = keeps-join a b e one.keeps two.keeps;
  sound = two.sound;
  complete = λ p is. two.complete p (one.complete p is);
}

all-stay : (events : List Event) (old new : World) → old.capacity < 2 ^ 64 → IsSound old
    → Follows events old new → Stays old new
all-stay [] old new small sound same =
    let made : Stays old old =
    record { keeps = keeps-self old; sound = sound; complete = λ p is. is } in
    subst (λ (w : World). Stays old w) (sym same) made
all-stay (event ∷ events) old new small sound follows =
    let next = follows.0 in
    let one : Stays old next = step-stays event old next small sound follows.1 in
    let fits = one.keeps.capacity in
    stays-join old next new one
    (all-stay events next new (omega (arith, small, fits)) one.sound follows.2)

-- what the log up to a place leaves stays what it was
prefix-same : (old new : World) (p : ℕ) → Keeps old new → p ≤ length old.log
    → disk_at new.capacity new.disk p new.log ≡ disk_at old.capacity old.disk p old.log
prefix-same old new p keeps le =
    ap (λ c. disk_at c new.disk p new.log) keeps.capacity
    ∙ ap (λ d. disk_at old.capacity d p new.log) keeps.disk
    ∙ ap (contents old.capacity old.disk) (sym (take-take p (length old.log) new.log le)
    ∙ ap (take p) keeps.log)

pub law_of_the_core : LawOfTheCore
law_of_the_core events old new small sound follows =
    let stays = all-stay events old new small sound follows in
    let keeps = stays.keeps in
    record {
      machine = keeps.machine;
      disk = keeps.disk;
      capacity = keeps.capacity;
      log = keeps.log;
      complete = λ p is.
          let there = stays.complete p is in
          let complete = stays.sound.complete_is p there in
          record {
            complete = there;
            tight = complete.tight;
            same = complete.same ∙ prefix-same old new p keeps
                (complete-within old p sound (sound.complete_is p is));
          };
      sound = stays.sound;
    }
