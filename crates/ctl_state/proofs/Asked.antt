-- What records ask of a log, read back.
use Rattle.std.proofs.Common.{◌≡◌, ℕ, ◌+◌, List, Bool, true, false, ◌&&◌, ◌||◌, inl, inr, cond, not, Option, Some, None, refl, sym, ap, subst, ◌∙◌, take}
use Rattle.std.proofs.lemmas.Bool.{or_cases, false≢true}
use Rattle.std.specs.Prelude.{option_map}
use Rattle.change_id.specs.declared.ChangeId.{ChangeId}
use Rattle.log_model.specs.declared.entry.Entry.{Entry}
use Rattle.log_model.specs.Marks.{in_force}
use Rattle.phase_table.specs.declared.phases.Phase.{Phase}
use Rattle.phase_table.specs.declared.phases.Phase.TheVariants.{StoreInitialIds, StoreIds}
use Rattle.warm_core.specs.declared.disk_world.Base.{Base}
use Rattle.ctl_state.specs.declared.migration.Migration.{Migration}
use Rattle.ctl_state.specs.Migration.{same_phase}
use Rattle.ctl_state.specs.MayStand.{goes_on_in}
use Rattle.ctl_state.specs.Asks.{may_lack, BasesAreStored, NamedSnapshotsLive}
use Rattle.ctl_state.proofs.SoundSteps.{goes-on}

pub bases_are_stored : BasesAreStored
bases_are_stored machine disk snap log base id stored at named =
    ap (λ (found : Option ChangeId). option_map (λ id. record { mark = base.mark; id = id }) found)
    (ap (λ (k : ℕ). in_force machine disk (take (k + 1) log)) (sym at) ∙ named)

-- of one written out in its phase
lacks-none : (snap : ℕ) (log : List Entry) (m : Migration) (p : Phase) → m.cancel ≡ false
    → m.phase ≡ p → may_lack snap log (record m { phase = p; cancel = false }) ≡ false
    → may_lack snap log m ≡ false
lacks-none snap log m p going e h =
    ap (λ (c : Bool). may_lack snap log (record m { cancel = c })) going
    ∙ ap (λ (q : Phase). may_lack snap log (record m { phase = q; cancel = false })) e ∙ h

first-lacks-none : (snap : ℕ) (log : List Entry) (m : Migration)
    → may_lack snap log (record m { phase = StoreInitialIds; cancel = false }) ≡ false
unfolding same_phase
first-lacks-none snap log m = refl

next-lacks-none : (snap : ℕ) (log : List Entry) (m : Migration)
    → may_lack snap log (record m { phase = StoreIds; cancel = false }) ≡ false
unfolding same_phase
next-lacks-none snap log m = refl

pub named_snapshots_live : NamedSnapshotsLive
named_snapshots_live mig at records m told snap asks live naming there =
    elim (or_cases (goes_on_in m StoreInitialIds) (goes_on_in m StoreIds) naming) [
      | inl e ↦ (let on = goes-on m StoreInitialIds e in
          asks.of_snapshot live snap there
          (lacks-none snap at.log m StoreInitialIds on.not_cancelled on.phase
          (first-lacks-none snap at.log m)))
      | inr e ↦ (let on = goes-on m StoreIds e in
          asks.of_snapshot live snap there
          (lacks-none snap at.log m StoreIds on.not_cancelled on.phase
          (next-lacks-none snap at.log m)))
    ]
