-- A log that is legal for a machine, as its machine keeps it.
use Rattle.std.specs.Prelude.{◌≡◌, ℕ, ◌<◌, List, Bool, true}
use Rattle.std.specs.Vec.{vec_len, vec_capacity}
use Rattle.std.specs.declared.vec.Vec.{Vec}
use Rattle.std.specs.declared.alloc.Global.{Global}
use Rattle.log_model.specs.declared.entry.Entry.{Entry}
use Rattle.log_model.specs.Legal.{Legal, all_of}
use Rattle.source_vm.specs.declared.kept_facts.KeptFacts.{KeptFacts}
use Rattle.source_vm.specs.declared.live.LiveSnap.{LiveSnap}
use Rattle.source_vm.specs.KeptFacts.{FactsStand}

-- the capacities of the machine's disks, its entries, and whether the next one takes no memory
pub record LogState : Type 0 where
  pub capacities : List ℕ
  pub entries : List Entry
  pub room : Bool

pub record IsKept (capacities : List ℕ) (entries : Vec Entry Global) (facts : KeptFacts)
    (live : Vec LiveSnap Global) (room : Bool) : Type 0 where
  pub legal : Legal (all_of capacities) entries.items
  pub stand : FactsStand facts live.items entries.items
  pub entry_room : room ≡ true → vec_len entries < vec_capacity entries
  pub live_room : room ≡ true → vec_len live < vec_capacity live
