-- A machine that is off has a power-off place.
use Rattle.std.proofs.Common.{◌≡◌, ℕ, List, [], ◌∷◌, ◌++◌, length, Bool, true, false, Option, Some, subst, sym, refl, ◌∙◌, arith, length-append}
use Rattle.std.specs.List.{slice_get}
use Rattle.std.proofs.lemmas.Option.{same_Some}
use Rattle.basics.proofs.ItemAt.{slice_get-front}
use Rattle.log_model.specs.declared.entry.Act.{Act}
use Rattle.log_model.specs.declared.entry.Act.TheVariants.{Write, Snap, Remove, Reset, Enable, Off, On}
use Rattle.log_model.specs.declared.entry.Entry.{Entry}
use Rattle.log_model.specs.Entry.{is_off}
use Rattle.log_model.specs.Legal.{machine_on, on_after}
use Rattle.log_model.specs.Frozen.{last_off, off_after}
use Rattle.log_model.specs.Laws.{HasOffPlace, OffHasPlace}
use Rattle.change_id.proofs.Ends.{by_last}
use Rattle.basics.proofs.ItemAt.{slice_get-last}
use Rattle.log_model.proofs.OffLaws.{last_off-last, machine_on-last}

-- an entry that powers nothing leaves it
kept : (on : Bool) (place : Option ℕ) (log : List Entry) (e : Entry) → HasOffPlace on place log
    → HasOffPlace on place (log ++ e ∷ [])
kept true place log e h = h
kept false place log e h =
    let within = h.2 in (
      h.0,
      h.1,
      omega (arith, within, length-append log (e ∷ [])),
      λ x read. h.3 x
          (sym (slice_get-front log (e ∷ []) h.0 within) ∙ read),
    )

there : (log : List Entry) (who : ℕ) (x : Entry)
    → slice_get (log ++ record { who = who; act = Off } ∷ []) (length log) ≡ Some x
    → is_off x.act ≡ true
there log who x read =
    let e : Entry = record { who = who; act = Off } in
    subst (λ (y : Entry). is_off y.act ≡ true) (same_Some e x (sym (slice_get-last log e) ∙ read))
    refl

step : (log : List Entry) (on : Bool) (place : Option ℕ) (who : ℕ) (act : Act)
    → HasOffPlace on place log
    → HasOffPlace (on_after on (record { who = who; act = act }))
    (off_after place (length log, record { who = who; act = act }))
    (log ++ record { who = who; act = act } ∷ [])
step log on place who Off h =
    let e : Entry = record { who = who; act = Off } in
    (length log, refl, omega (arith, length-append log (e ∷ [])), there log who)
step log on place who On h = refl
step log on place who (Write disk first sectors) h =
    kept on place log (record { who = who; act = Write disk first sectors }) h
step log on place who (Snap id owner) h =
    kept on place log (record { who = who; act = Snap id owner }) h
step log on place who (Remove id) h = kept on place log (record { who = who; act = Remove id }) h
step log on place who (Reset disk) h = kept on place log (record { who = who; act = Reset disk }) h
step log on place who Enable h = kept on place log (record { who = who; act = Enable }) h

pub off_has_place : OffHasPlace
off_has_place =
    by_last (λ log. HasOffPlace (machine_on log) (last_off log) log) refl
    (λ log e h. subst (λ on. HasOffPlace on (last_off (log ++ e ∷ [])) (log ++ e ∷ []))
    (sym (machine_on-last log e))
    (subst (λ place. HasOffPlace (on_after (machine_on log) e) place (log ++ e ∷ []))
    (sym (last_off-last log e)) (step log (machine_on log) (last_off log) e.who e.act h)))
