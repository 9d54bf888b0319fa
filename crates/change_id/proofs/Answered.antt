-- What an answer that is accepted or strange tells.
use Rattle.std.proofs.Common.{◌≡◌, Bool, true, false, cond, Ok, Err}

pub ok_part : {A E : Type 0} (b : Bool) (x y : A) (e : E) → cond b (Ok x) (Err e) ≡ Ok y → x ≡ y
ok_part true x y e h = cc
ok_part false x y e h = absurd (cc)
