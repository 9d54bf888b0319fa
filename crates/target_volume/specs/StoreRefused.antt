-- The numbers of a store's refusals.
use Rattle.std.specs.Prelude.{ℕ, Option, Some, None}
use Rattle.target_volume.specs.declared.store_refused.StoreRefused.{StoreRefused}
use Rattle.target_volume.specs.declared.store_refused.StoreRefused.TheVariants.{Exists, Failed, NoMemory}

abbrev pub refusal_number : StoreRefused → Option ℕ
refusal_number Exists = Some 1
refusal_number Failed = Some 2
refusal_number NoMemory = None
