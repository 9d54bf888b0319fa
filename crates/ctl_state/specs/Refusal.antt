-- Why a record is refused, and the number and the text of that.
use Rattle.std.specs.Prelude.{ℕ, List, Bool, Option, Some, None, codes, if◌then◌else◌}
use Rattle.ctl_state.specs.declared.refusal.StateRefused.{StateRefused}
use Rattle.ctl_state.specs.declared.refusal.StateRefused.TheVariants.{Strange, NoMemory}

-- strange exactly where the record may not stand
abbrev pub strange_unless : (may_stand : Bool) → Option StateRefused
strange_unless may_stand = if may_stand then None else Some Strange

-- want of memory has no number
abbrev pub refusal_number : StateRefused → Option ℕ
refusal_number Strange = Some 1
refusal_number NoMemory = None

abbrev pub refusal_text : StateRefused → List ℕ
refusal_text Strange = codes "the record may not stand after those before it"
refusal_text NoMemory = codes "memory ran out"
