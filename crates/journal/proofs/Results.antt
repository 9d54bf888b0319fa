-- Facts of results: one refusal for another, and a fact of whatever value there is.
use Rattle.std.proofs.Common.{◌≡◌, refl, sym}
use Rattle.std.specs.Prelude.{Result, Ok, Err, OnOk, OnErr, Option, Some, None, IfSome}
use Rattle.std.specs.Option.{ForSome}
use Rattle.std.specs.Result.{result_or}

-- where one refusal stands for another
pub on_err_or : {T D E : Type 0} (r : Result T D) (s : Result T E) (e : E) (Q P : Type 0)
    → s ≡ result_or r (Err e) → OnErr r Q → (Q → P) → OnErr s P
on_err_or (Ok answer) s e Q P is fact leads = rw is tt
on_err_or (Err refusal) s e Q P is fact leads = rw is (leads fact)

-- a fact of whatever value there is, in its two forms
pub if_each : {T : Type 0} (o : Option T) (P : T → Type 0) → ForSome o P → IfSome o P
if_each None P each = tt
if_each (Some x) P each = each x refl

pub for_each : {T : Type 0} (o : Option T) (P : T → Type 0) → IfSome o P → ForSome o P
for_each o P fact x is = rw is at fact

pub at_some : {T : Type 0} (o : Option T) (x : T) (P : T → Type 0) → o ≡ Some x → IfSome o P → P x
at_some o x P is fact = rw is at fact
