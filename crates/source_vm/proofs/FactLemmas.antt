-- What is kept beside a log follows it.
use Rattle.std.proofs.Common.{◌≡◌, ℕ, ◌+◌, ◌<◌, ◌≤◌, List, [], ◌∷◌, ◌++◌, length, true, false, cond, not, eqb, sym, ap, refl, ◌∙◌, arith, add-zero, ◌⊎◌, inl, inr, ◌||◌}
use Rattle.std.specs.List.{All}
use Rattle.std.proofs.lemmas.Bool.{false≢true}
use Rattle.std.proofs.lemmas.List.Elements.{All-push, All-weaker, All-filter}
use Rattle.std.proofs.lemmas.List.Kept.{AllPairs-filter}
use Rattle.std.proofs.lemmas.List.Sums.{fold-append, sum_by-append}
use Rattle.log_model.specs.declared.entry.Act.{Act}
use Rattle.log_model.specs.declared.entry.Act.TheVariants.{Write, Snap, Remove, Reset, Enable, Off, On}
use Rattle.log_model.specs.declared.entry.Entry.{Entry}
use Rattle.log_model.specs.declared.folds.Tracking.{Tracking}
use Rattle.log_model.specs.declared.folds.Tracking.TheVariants.{Never, Enabled, Active}
use Rattle.log_model.specs.Entry.{sectors_of, is_snap, is_enable, is_on}
use Rattle.log_model.specs.Legal.{Disks, ActMayStand, machine_on, on_after, taken, owner_of, owner_after, is_enabled, enabled_after, written}
use Rattle.log_model.specs.Marks.{tracking, tracking_after}
use Rattle.log_model.specs.Frozen.{last_off, off_after}
use Rattle.change_id.proofs.Ends.{by_last}
use Rattle.log_model.proofs.IdsExist.{enabled-last}
use Rattle.log_model.proofs.OffLaws.{last_off-last, machine_on-last}
use Rattle.log_model.proofs.OwnedLaws.{taken-append, owner_of-last}
use Rattle.source_vm.specs.declared.kept_facts.KeptFacts.{KeptFacts}
use Rattle.source_vm.specs.declared.live.LiveSnap.{LiveSnap}
use Rattle.source_vm.specs.Live.{owner_in, live_after}
use Rattle.source_vm.specs.KeptFacts.{started, was_enabled, facts_after, FactsStand}
use Rattle.source_vm.proofs.LiveLemmas.{ascends-push, owner_in-push, owner_in-without, snap}

-- ---- one entry more

abbrev pub entry : ℕ → Act → Entry
entry who act = record { who = who; act = act }

tracking-last : (log : List Entry) (e : Entry)
    → tracking (log ++ e ∷ []) ≡ tracking_after (tracking log) e
tracking-last log e = fold-append tracking_after Never log (e ∷ [])

written-last : (log : List Entry) (e : Entry)
    → written (log ++ e ∷ []) ≡ written log + sectors_of e.act
written-last log e = omega (arith, sum_by-append (λ x. sectors_of x.act) log (e ∷ []))

-- tracking was enabled where an Enable entry stands
enabled-step : (t : Tracking) (who : ℕ) (act : Act)
    → was_enabled (tracking_after t (entry who act)) ≡ enabled_after (was_enabled t) (entry who act)
enabled-step Never who (Write d f s) = refl
enabled-step Never who (Snap id by) = refl
enabled-step Never who (Remove id) = refl
enabled-step Never who (Reset d) = refl
enabled-step Never who Enable = refl
enabled-step Never who Off = refl
enabled-step Never who On = refl
enabled-step Enabled who (Write d f s) = refl
enabled-step Enabled who (Snap id by) = refl
enabled-step Enabled who (Remove id) = refl
enabled-step Enabled who (Reset d) = refl
enabled-step Enabled who Enable = refl
enabled-step Enabled who Off = refl
enabled-step Enabled who On = refl
enabled-step Active who (Write d f s) = refl
enabled-step Active who (Snap id by) = refl
enabled-step Active who (Remove id) = refl
enabled-step Active who (Reset d) = refl
enabled-step Active who Enable = refl
enabled-step Active who Off = refl
enabled-step Active who On = refl

pub was_enabled_is : (log : List Entry) → was_enabled (tracking log) ≡ is_enabled log
was_enabled_is =
    by_last (λ log. was_enabled (tracking log) ≡ is_enabled log) refl
    (λ log e h. ap was_enabled (tracking-last log e) ∙ enabled-step (tracking log) e.who e.act
    ∙ ap (λ b. enabled_after b e) h ∙ sym (enabled-last log e))

never_enabled : (t : Tracking) → was_enabled t ≡ false → t ≡ Never
never_enabled Never h = refl
never_enabled Enabled h = absurd (false≢true (sym h))
never_enabled Active h = absurd (false≢true (sym h))

-- tracking by a snapshot or a power-on
started_is : (t : Tracking) (who : ℕ) (act : Act) → (is_snap act ≡ true) ⊎ (is_on act ≡ true)
    → is_enable act ≡ false → started t ≡ tracking_after t (entry who act)
started_is t who (Snap id by) h other = by_kind t
  where
    by_kind : (u : Tracking) → started u ≡ tracking_after u (entry who (Snap id by))
    by_kind Never = refl
    by_kind Enabled = refl
    by_kind Active = refl
started_is t who On h other = by_kind t
  where
    by_kind : (u : Tracking) → started u ≡ tracking_after u (entry who On)
    by_kind Never = refl
    by_kind Enabled = refl
    by_kind Active = refl
started_is t who (Write d f s) (inl h) other = absurd (false≢true h)
started_is t who (Write d f s) (inr h) other = absurd (false≢true h)
started_is t who (Remove id) (inl h) other = absurd (false≢true h)
started_is t who (Remove id) (inr h) other = absurd (false≢true h)
started_is t who (Reset d) (inl h) other = absurd (false≢true h)
started_is t who (Reset d) (inr h) other = absurd (false≢true h)
started_is t who Enable h other = absurd (false≢true (sym other))
started_is t who Off (inl h) other = absurd (false≢true h)
started_is t who Off (inr h) other = absurd (false≢true h)

-- tracking by any other act but Enable
stays_is : (t : Tracking) (who : ℕ) (act : Act) → is_snap act ≡ false → is_on act ≡ false
    → is_enable act ≡ false → t ≡ tracking_after t (entry who act)
stays_is Never who act a b d = sym (ap (λ x. cond x Enabled Never) d)
stays_is Enabled who act a b d = sym ((λ i. cond (a i || b i) Active Enabled) ∙ refl)
stays_is Active who act a b d = refl

-- what is kept after an entry that may stand is what the longer log says
abbrev StandAfter : KeptFacts → List LiveSnap → List Entry → ℕ → Act → Type 0
StandAfter facts live log who act =
    FactsStand (facts_after (length log) act facts) (live_after act live)
    (log ++ entry who act ∷ [])

module _ (facts : KeptFacts) (live : List LiveSnap) (log : List Entry) (who : ℕ)
    (stand : FactsStand facts live log) where
  -- of a log with one entry more
  on_is : (act : Act) → on_after facts.on (entry who act) ≡ machine_on (log ++ entry who act ∷ [])
  on_is act = ap (λ b. on_after b (entry who act)) stand.on
      ∙ sym (machine_on-last log (entry who act))

  tracked_is : (act : Act)
      → tracking_after facts.tracking (entry who act) ≡ tracking (log ++ entry who act ∷ [])
  tracked_is act = ap (λ t. tracking_after t (entry who act)) stand.tracked
      ∙ sym (tracking-last log (entry who act))

  taken_is : (act : Act)
      → facts.taken + taken (entry who act ∷ []) ≡ taken (log ++ entry who act ∷ [])
  taken_is act = ap (λ n. n + taken (entry who act ∷ [])) stand.snapped
      ∙ sym (taken-append log (entry who act ∷ []))

  written_is : (act : Act) → facts.written + sectors_of act ≡ written (log ++ entry who act ∷ [])
  written_is act = ap (λ n. n + sectors_of act) stand.sectors
      ∙ sym (written-last log (entry who act))

  off_is : (act : Act) → off_after facts.last_off (length log, entry who act)
      ≡ last_off (log ++ entry who act ∷ [])
  off_is act = ap (λ o. off_after o (length log, entry who act)) stand.off
      ∙ sym (last_off-last log (entry who act))

  owner_is : (act : Act) (s : ℕ)
      → owner_after s (owner_in s live) (entry who act) ≡ owner_of s (log ++ entry who act ∷ [])
  owner_is act s = ap (λ o. owner_after s o (entry who act)) (stand.owners s)
      ∙ sym (owner_of-last s log (entry who act))

  pub stand_after : (disks : Disks) (act : Act) → ActMayStand disks log who act
      → StandAfter facts live log who act
  stand_after disks (Write d f s) may = record {
    on = on_is (Write d f s);
    tracked = stays_is facts.tracking who (Write d f s) refl refl refl ∙ tracked_is (Write d f s);
    snapped = sym (add-zero facts.taken) ∙ taken_is (Write d f s);
    sectors = written_is (Write d f s);
    off = off_is (Write d f s);
    ascending = stand.ascending;
    were_taken = stand.were_taken;
    owners = owner_is (Write d f s);
  }
  stand_after disks (Snap id by) may =
      let next : id ≡ facts.taken + 1 = may.0 ∙ ap (λ n. n + 1) (sym stand.snapped) in
      let below : All (λ s. s.id < id) live =
      All-weaker (λ s. s.id ≤ facts.taken) (λ s. s.id < id) (λ s le. omega (arith, le, next))
      live stand.were_taken in
      record {
        on = on_is (Snap id by);
        tracked = started_is facts.tracking who (Snap id by) (inl refl) refl
            ∙ tracked_is (Snap id by);
        snapped = next ∙ taken_is (Snap id by);
        sectors = sym (add-zero facts.written) ∙ written_is (Snap id by);
        off = off_is (Snap id by);
        ascending = ascends-push live (snap id by) stand.ascending below;
        were_taken = All-push (λ s. s.id ≤ id) live (snap id by)
            (All-weaker (λ s. s.id ≤ facts.taken) (λ s. s.id ≤ id) (λ s le. omega (arith, le, next))
            live stand.were_taken) (omega arith);
        owners = λ s. owner_in-push s live (snap id by) below ∙ owner_is (Snap id by) s;
      }
  stand_after disks (Remove id) may = record {
    on = on_is (Remove id);
    tracked = stays_is facts.tracking who (Remove id) refl refl refl ∙ tracked_is (Remove id);
    snapped = sym (add-zero facts.taken) ∙ taken_is (Remove id);
    sectors = sym (add-zero facts.written) ∙ written_is (Remove id);
    off = off_is (Remove id);
    ascending = AllPairs-filter (λ x later. x.id < later.id) (λ x. not (eqb x.id id)) live
        stand.ascending;
    were_taken = All-filter (λ x. not (eqb x.id id)) (λ s. s.id ≤ facts.taken) live
        stand.were_taken;
    owners = λ s. owner_in-without s id live ∙ owner_is (Remove id) s;
  }
  stand_after disks (Reset d) may = record {
    on = on_is (Reset d);
    tracked = stays_is facts.tracking who (Reset d) refl refl refl ∙ tracked_is (Reset d);
    snapped = sym (add-zero facts.taken) ∙ taken_is (Reset d);
    sectors = sym (add-zero facts.written) ∙ written_is (Reset d);
    off = off_is (Reset d);
    ascending = stand.ascending;
    were_taken = stand.were_taken;
    owners = owner_is (Reset d);
  }
  stand_after disks Enable may =
      let never : facts.tracking ≡ Never =
      never_enabled facts.tracking (ap was_enabled stand.tracked ∙ was_enabled_is log ∙ may) in
      record {
        on = on_is Enable;
        tracked = sym (ap (λ t. tracking_after t (entry who Enable)) never) ∙ tracked_is Enable;
        snapped = sym (add-zero facts.taken) ∙ taken_is Enable;
        sectors = sym (add-zero facts.written) ∙ written_is Enable;
        off = off_is Enable;
        ascending = stand.ascending;
        were_taken = stand.were_taken;
        owners = owner_is Enable;
      }
  stand_after disks Off may = record {
    on = on_is Off;
    tracked = stays_is facts.tracking who Off refl refl refl ∙ tracked_is Off;
    snapped = sym (add-zero facts.taken) ∙ taken_is Off;
    sectors = sym (add-zero facts.written) ∙ written_is Off;
    off = off_is Off;
    ascending = stand.ascending;
    were_taken = stand.were_taken;
    owners = owner_is Off;
  }
  stand_after disks On may = record {
    on = on_is On;
    tracked = started_is facts.tracking who On (inr refl) refl ∙ tracked_is On;
    snapped = sym (add-zero facts.taken) ∙ taken_is On;
    sectors = sym (add-zero facts.written) ∙ written_is On;
    off = off_is On;
    ascending = stand.ascending;
    were_taken = stand.were_taken;
    owners = owner_is On;
  }
