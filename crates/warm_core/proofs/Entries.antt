-- What entries of the machine's log leave of a sound world.
use Rattle.std.proofs.Common.{◌≡◌, ℕ, ◌<◌, ◌≤◌, List, [], ◌∷◌, ◌++◌, length, Bool, true, false, cond, eqb, Option, Some, None, refl, sym, subst, ◌∙◌, arith, ◌⊎◌, inl, inr, IsSome, length-append}
use Rattle.std.specs.List.{list_any, fold}
use Rattle.std.specs.Option.{IsSomeAnd}
use Rattle.std.proofs.lemmas.Bool.{false≢true, or_parts}
use Rattle.std.proofs.lemmas.Option.{same_Some, none-some}
use Rattle.std.proofs.lemmas.List.Sums.{fold-append}
use Rattle.change_id.proofs.IdMarks.{stays-has}
use Rattle.log_model.specs.declared.entry.Act.{Act}
use Rattle.log_model.specs.declared.entry.Act.TheVariants.{Write, Snap, Remove, Reset, Enable, Off, On}
use Rattle.log_model.specs.declared.entry.Entry.{Entry}
use Rattle.log_model.specs.declared.entry.Owner.{Owner}
use Rattle.log_model.specs.declared.link.Snapped.{Snapped}
use Rattle.log_model.specs.Entry.{removes}
use Rattle.log_model.specs.Legal.{owner_of, owner_after, owner_after_act, machine_on}
use Rattle.log_model.specs.Marks.{mark, before, id_at, reading_of}
use Rattle.log_model.specs.Frozen.{last_off}
use Rattle.log_model.specs.Laws.{HasOffPlace}
use Rattle.log_model.proofs.Later.{later_entries_keep}
use Rattle.log_model.proofs.LegalLogs.{length-take-le}
use Rattle.log_model.proofs.OffPlace.{off_has_place}
use Rattle.warm_core.specs.Staged.{is_unfinished}
use Rattle.warm_core.specs.World.{World, IsSnapOf, IsLive, MayLose, IsCompleteAt, IsSound}
use Rattle.warm_core.specs.Laws.{MayAddAll, EntriesKeepSound, GroundsStay}
use Rattle.warm_core.proofs.Answering.{disk_at-later, asked-later, mark-within}
use Rattle.warm_core.proofs.Stages.{later-stands, staged-later}
use Rattle.warm_core.proofs.Worlds.{ground-of, stands-of}

-- ---- one fact of a snapshot or a base

snap-later : (log more : List Entry) (snap : Snapped) → IsSnapOf log snap
    → IsSnapOf (log ++ more) snap
snap-later log more snap is =
    let within = is.within in
    let at = is.mark_is in
    let keep = later_entries_keep snap.id log more (omega (arith, within, at)) in
    record {
      within = omega (arith, within, length-append log more);
      mark_is = keep.mark_stays ∙ at;
      off_place_is = keep.off_place_stays ∙ is.off_place_is;
    }

id-later : (machine d : ℕ) (log more : List Entry) (snap : Snapped) → IsSnapOf log snap
    → IsSome (id_at machine d snap.id log) → IsSome (id_at machine d snap.id (log ++ more))
id-later machine d log more snap is some =
    let within = is.within in
    let at = is.mark_is in
    let keep = later_entries_keep snap.id log more (omega (arith, within, at)) in
    subst IsSome (sym (keep.id_stays machine d)) some

-- ---- what a stage works on

pub grounds_stay : GroundsStay
grounds_stay machine c d log more base snap ground legal =
    let within = mark-within machine c d log base snap ground in
    record {
      ground = record {
        small = ground.small;
        legal = legal;
        base_is = λ b is. stays-has (reading_of d) machine d b.id log more b.mark
            (ground.base_is b is);
        from_base = ground.from_base;
        snap_is = snap-later log more snap ground.snap_is;
      };
      asked = λ full. asked-later c d log more base snap full within;
      frozen = disk_at-later c d snap.mark log more within;
    }

-- ---- a snapshot stays live until it is removed

still-owned-at : (s id : ℕ) (owner : Owner) (b : Bool) → eqb id s ≡ b → b ≡ false
    → IsSome (cond b None (Some owner))
still-owned-at s id owner true is none = absurd (false≢true (sym none))
still-owned-at s id owner false is none = refl

by-snap : (b : Bool) (new old : Owner) → IsSome (cond b (Some new) (Some old))
by-snap true new old = refl
by-snap false new old = refl

still-owned : (s : ℕ) (owner : Owner) (act : Act) → removes s act ≡ false
    → IsSome (owner_after_act s (Some owner) act)
still-owned s owner (Write disk first sectors) none = refl
still-owned s owner (Snap id by) none = by-snap (eqb id s) by owner
still-owned s owner (Remove id) none = still-owned-at s id owner (eqb id s) refl none
still-owned s owner (Reset disk) none = refl
still-owned s owner Enable none = refl
still-owned s owner Off none = refl
still-owned s owner On none = refl

owned-on : (s : ℕ) (more : List Entry) (o : Option Owner) → IsSome o
    → list_any (λ e. removes s e.act) more ≡ false → IsSome (fold (owner_after s) o more)
owned-on s [] o some none = some
owned-on s (e ∷ more) None some none = absurd (false≢true some)
owned-on s (e ∷ more) (Some owner) some none =
    owned-on s more (owner_after s (Some owner) e)
    (still-owned s owner e.act
    (or_parts (removes s e.act) (list_any (λ e. removes s e.act) more) none).0)
    (or_parts (removes s e.act) (list_any (λ e. removes s e.act) more) none).1

live-later : (s : ℕ) (log more : List Entry) → IsLive s log
    → list_any (λ e. removes s e.act) more ≡ false → IsLive s (log ++ more)
live-later s log more live none =
    let start : Option Owner = None in
    subst IsSome (sym (fold-append (owner_after s) start log more))
    (owned-on s more (owner_of s log) live none)

lives-later : (w : World) (more : List Entry) (snap : Snapped) (b : Bool) → MayAddAll more w
    → w.snap ≡ Some snap → is_unfinished w.base (Some snap) ≡ true
    → list_any (λ e. removes snap.id e.act) more ≡ b → IsLive snap.id w.log ⊎ MayLose w
    → IsLive snap.id (w.log ++ more) ⊎ MayLose (record w { log = w.log ++ more })
lives-later w more snap true may is unfinished removed old =
    let lose = may.keeps snap is unfinished removed in
    inr (record { cancelled = lose.cancelled; no_stage = lose.no_stage })
lives-later w more snap false may is unfinished kept (inl live) =
    inl (live-later snap.id w.log more live kept)
lives-later w more snap false may is unfinished kept (inr lose) =
    inr (record { cancelled = lose.cancelled; no_stage = lose.no_stage })

-- ---- a complete world

place-within : (on : Bool) (place : Option ℕ) (log : List Entry) (p : ℕ) → HasOffPlace on place log
    → place ≡ Some p → p < length log
place-within true place log p h is = absurd (none-some p (sym h ∙ is))
place-within false place log p h is = let same = same_Some h.0 p (sym h.1 ∙ is) in
    omega (arith, h.2, same)

pub off-within : (log : List Entry) (snap : Snapped) (p : ℕ) → IsSnapOf log snap
    → snap.off_place ≡ Some p → p ≤ length log
off-within log snap p is place =
    let front : List Entry = before snap.id log in
    let less = place-within (machine_on front) (last_off front) front p (off_has_place front)
    (is.off_place_is ∙ place) in
    omega (arith, less, length-take-le (mark snap.id log) log)

place-and : (o : Option Snapped) (p : ℕ) → IsSomeAnd o (λ snap. snap.off_place ≡ Some p)
    → (s : Snapped) × (o ≡ Some s) × (s.off_place ≡ Some p)
place-and None p h = absurd h
place-and (Some s) p h = (s, refl, h)

pub complete-within : (w : World) (p : ℕ) → IsSound w → IsCompleteAt w p → p ≤ length w.log
complete-within w p sound complete =
    let parts = place-and w.snap p complete.off_place in
    off-within w.log parts.0 p (sound.snap_is parts.0 parts.1) parts.2

complete-later : (w : World) (more : List Entry) (p : ℕ) → IsSound w → IsCompleteAt w p
    → IsCompleteAt (record w { log = w.log ++ more }) p
complete-later w more p sound complete = record {
  last = complete.last;
  no_stage = complete.no_stage;
  finished = complete.finished;
  off_place = complete.off_place;
  tight = complete.tight;
  same = complete.same ∙ sym
      (disk_at-later w.capacity w.disk p w.log more (complete-within w p sound complete));
}

-- ---- all together

pub entries_keep_sound : EntriesKeepSound
entries_keep_sound more w small sound may =
    let new : World = record w { log = w.log ++ more } in
    record {
      legal = may.legal;
      sized = sound.sized;
      base_is = λ base is. stays-has (reading_of w.disk) w.machine w.disk base.id w.log more
          base.mark
          (sound.base_is base is);
      base_has_snap = sound.base_has_snap;
      snap_is = λ snap is. snap-later w.log more snap (sound.snap_is snap is);
      snap_from_base = sound.snap_from_base;
      snap_lives = λ snap is unfinished.
          lives-later w more snap (list_any (λ e. removes snap.id e.act) more) may is unfinished
          refl (sound.snap_lives snap is unfinished);
      last_is_off = sound.last_is_off;
      stage_has_snap = sound.stage_has_snap;
      stage_is = λ snap is t is'.
          let old = sound.stage_is snap is t is' in
          let stands = later-stands w.machine w.capacity w.disk w.log more w.base snap t w.volume
          (ground-of w snap small sound is)
          (stands-of w snap t sound (record { snap = is; stage = is' })) in
          record {
            running = old.running;
            has_id = id-later w.machine w.disk w.log more snap (sound.snap_is snap is) old.has_id;
            fits = stands.fits;
            holds = stands.holds;
          };
      complete_is = λ p is. complete-later w more p sound (sound.complete_is p is);
      staged = staged-later w.capacity w.disk w.log more w.base w.snap w.volume
          (λ b is. let h = (sound.base_is b is).snapshot.within in omega (arith, h))
          (λ s is. let h = (sound.snap_is s is).within in omega (arith, h)) sound.staged;
    }
