-- Moments beside the test for them.
use Rattle.std.proofs.Common.{◌≡◌, ℕ, Bool, true, false, if◌then◌else◌, List, length, Option, Some, None, Result, Ok, Err, IfOk, nat_le, ◌&&◌, refl, sym, arith, ◌↔◌, IsTrue}
use Rattle.std.specs.Result.{result_ok}
use Rattle.basics.specs.Refusal.{IsRefusedBy}
use Rattle.plan_model.specs.Moments.{moment_of, moment_refusal, has_shape, is_moment, reading}
use Rattle.plan_model.specs.declared.moment.Moment.{Moment}
use Rattle.plan_model.specs.declared.moment.MomentRefused.{MomentRefused}
use Rattle.plan_model.specs.declared.moment.MomentRefused.TheVariants.{Form}

refused_moment : (told : Bool) (moment : Moment) (e : MomentRefused)
    → IsRefusedBy {T = Moment} (if told then None else Some Form) (Err e)
    → None ≡ (if told then Some moment else None)
refused_moment true moment e h = cc
refused_moment false moment e h = refl

-- what is read as a moment is the moment that the text tells
pub parsed_moment : (text : List ℕ) (result : Result Moment MomentRefused)
    → IsRefusedBy (moment_refusal text) result
    → IfOk result (λ moment. moment_of text ≡ Some moment) → result_ok result ≡ moment_of text
parsed_moment text (Ok moment) refused told = sym told
parsed_moment text (Err e) refused told =
    refused_moment (has_shape text && is_moment (reading text)) _ e refused
