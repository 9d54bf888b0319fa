-- Calls of a link in a row: they go on, and where nobody shares the machine they leave one thing.
use Rattle.std.proofs.Common.{◌≡◌, ℕ, List, [], ◌∷◌, ◌++◌, Bool, true, false, cond, Option, Some, None, ◌||◌, refl, sym, ap, subst, ◌∙◌}
use Rattle.std.proofs.lemmas.Bool.{eq-eqb, false≢true}
use Rattle.std.specs.List.{filter}
use Rattle.log_model.specs.declared.entry.Act.{Act}
use Rattle.log_model.specs.declared.entry.Entry.{Entry}
use Rattle.log_model.specs.Link.{LinkState, IsCall, FollowsFrom, is_by}
use Rattle.log_model.proofs.LinkLaws.{calls_follow}
use Rattle.ctl_state.specs.declared.task.Did.{Did}
use Rattle.ctl_state.specs.declared.task.PhaseTask.{PhaseTask}
use Rattle.ctl_state.specs.Effect.{PhaseWork, no_job, says, by_call, Effect, phase_work, entries_by, HasWorked}
use Rattle.ctl_state.specs.CleanUp.{AddInARow, HasDone, cleaning_calls, is_clean_up}
use Rattle.ctl_state.specs.EffectLaws.{is_work, EffectsAreOne, EffectsGoOn, BegunGoOn}

-- ---- they go on

own-entries : (who : ℕ) (act : Option Act)
    → filter (is_by who) (entries_by who act) ≡ entries_by who act
own-entries who None = refl
own-entries who (Some act) =
    ap (λ b. cond b (record { who = who; act = act } ∷ []) []) (eq-eqb who who refl)

pub call-goes_on : (a b : LinkState) (log : List Entry) (act : Option Act)
    → IsCall log (entries_by a.caller act) a b → FollowsFrom a b
call-goes_on a b log act h =
    (calls_follow a b).call log (entries_by a.caller act) (own-entries a.caller act) h

stays : (a b : LinkState) → b ≡ a → FollowsFrom a b
stays a b e = subst (FollowsFrom a) (sym e) (calls_follow a a).no_call

pub row-goes_on : (todo : List (List Entry → Option Act)) (a b : LinkState) → AddInARow todo a b
    → FollowsFrom a b
row-goes_on [] a b h = stays a b h
row-goes_on (call ∷ todo) a b (between, log, h, rest) =
    (calls_follow a between).in_a_row b (call-goes_on a between log (call log) h)
    (row-goes_on todo between b rest)

worked-goes_on : (work : PhaseWork) (a b : LinkState) (did : Did) → HasWorked work a b did
    → FollowsFrom a b
worked-goes_on no_job a b did h = stays a b h
worked-goes_on (says what) a b did h = stays a b h.0
worked-goes_on (by_call effect) a b did h = call-goes_on a b h.log (effect h.log).act h.is_call

done-goes_on : (cleans : Bool) (task : PhaseTask) (a b : LinkState) (did : Did)
    → HasDone cleans task a b did → FollowsFrom a b
done-goes_on true task a b did h = row-goes_on (cleaning_calls task a.seen) a b h.adds
done-goes_on false task a b did h = worked-goes_on (phase_work a.machine task) a b did h

pub effects_go_on : EffectsGoOn
effects_go_on task a b did h = done-goes_on (is_clean_up task) task a b did h

pub begun_go_on : BegunGoOn
begun_go_on task a b h = row-goes_on _ a b h.adds

-- ---- where nobody else reaches the machine, they leave one thing

after_act : LinkState → (List Entry → Option Act) → LinkState
after_act a call = record a {
  seen = a.seen ++ entries_by a.caller (call a.seen);
  own = a.own ++ entries_by a.caller (call a.seen);
}

after_acts : List (List Entry → Option Act) → LinkState → LinkState
after_acts [] a = a
after_acts (call ∷ todo) a = after_acts todo (after_act a call)

alone-call : (a b : LinkState) (log : List Entry) (call : List Entry → Option Act)
    → a.unshared ≡ true → IsCall log (entries_by a.caller (call log)) a b → b ≡ after_act a call
unfolding after_act
alone-call a b log call only h =
    h.new_is ∙ ap (λ (seen : List Entry). record a {
      seen = seen ++ entries_by a.caller (call seen);
      own = a.own ++ entries_by a.caller
          (call seen);
    }) (h.alone only)

alone-row : (todo : List (List Entry → Option Act)) (a b : LinkState) → a.unshared ≡ true
    → AddInARow todo a b → b ≡ after_acts todo a
unfolding after_act after_acts
alone-row [] a b only h = h
alone-row (call ∷ todo) a b only (between, log, h, rest) =
    let e : between ≡ after_act a call = alone-call a between log call only h in
    alone-row todo between b (ap (λ (x : LinkState). x.unshared) e ∙ only) rest
    ∙ ap (after_acts todo) e

worked-one : (work : PhaseWork) (a b c : LinkState) (did said : Did) → a.unshared ≡ true
    → is_work work ≡ true → HasWorked work a b did → HasWorked work a c said
    → (b ≡ c) × (did ≡ said)
worked-one no_job a b c did said only job one other = absurd (false≢true job)
worked-one (says what) a b c did said only job one other =
    (one.0 ∙ sym other.0, one.1 ∙ sym other.1)
worked-one (by_call effect) a b c did said only job one other = (
  alone-call a b one.log (λ log. (effect log).act) only one.is_call
      ∙ sym (alone-call a c other.log (λ log. (effect log).act) only other.is_call),
  one.says ∙ ap (λ (log : List Entry). (effect log).did)
      (one.is_call.alone only ∙ sym (other.is_call.alone only)) ∙ sym other.says,
)

done-one : (cleans : Bool) (task : PhaseTask) (a b c : LinkState) (did said : Did)
    → a.unshared ≡ true → (cleans || is_work (phase_work a.machine task)) ≡ true
    → HasDone cleans task a b did → HasDone cleans task a c said → (b ≡ c) × (did ≡ said)
done-one true task a b c did said only job one other = (
  alone-row (cleaning_calls task a.seen) a b only one.adds
      ∙ sym (alone-row (cleaning_calls task a.seen) a c only other.adds),
  one.says ∙ sym other.says,
)
done-one false task a b c did said only job one other =
    worked-one (phase_work a.machine task) a b c did said only job one other

pub effects_are_one : EffectsAreOne
effects_are_one task a b c did said only job one other =
    done-one (is_clean_up task) task a b c did said only job one other
