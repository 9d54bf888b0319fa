-- What a log says of the tracking of each disk: how far the two numbers had come at each snapshot
-- from which its identifier there follows, and the place of its last reset.
use Rattle.std.specs.Prelude.{◌≡◌, ℕ, ◌+◌, nat_le, List, length, take, drop, slice_get, Bool, true, false, Option, Some, None, unwrap_or, if◌then◌else◌}
use Rattle.std.specs.List.{list_any}
use Rattle.change_id.specs.ChangeId.{packed, counted_id}
use Rattle.change_id.specs.declared.ChangeId.{ChangeId}
use Rattle.log_model.specs.declared.entry.Entry.{Entry}
use Rattle.log_model.specs.Entry.{is_snap, resets}
use Rattle.log_model.specs.Legal.{taken}
use Rattle.log_model.specs.Marks.{epoch, counted, counted_after}
use Rattle.log_facts.specs.declared.disks.IdCount.{IdCount}
use Rattle.log_facts.specs.declared.disks.DiskFacts.{DiskFacts}

-- behind one entry more
abbrev pub count_after : (disk : ℕ) → IdCount → Entry → IdCount
count_after disk count e = record {
  resets = if resets disk e.act then count.resets + 1 else count.resets;
  counted = counted_after disk count.counted e;
}

-- behind all entries of a log
abbrev pub id_count_of : (disk : ℕ) → List Entry → IdCount
id_count_of disk log = record { resets = epoch disk log; counted = counted disk log }

-- the identifier that is in force
abbrev pub id_in_force : (machine disk : ℕ) → IdCount → Option ChangeId
id_in_force machine disk count =
    counted_id (packed machine disk count.resets) (unwrap_or count.counted 0)

-- they had come so far at the snapshots, in their order
pub record AreCounts (disk : ℕ) (log : List Entry) (counts : List IdCount) : Type 0 where
  pub one_each : length counts ≡ taken log
  pub each : (place : ℕ) (e : Entry) → slice_get log place ≡ Some e → is_snap e.act ≡ true
      → slice_get counts (taken (take place log)) ≡ Some (id_count_of disk (take (place + 1) log))

-- the last place is that one or a later one
abbrev pub reaches : (place : ℕ) → (last : Option ℕ) → Bool
reaches place None = false
reaches place (Some last) = nat_le place last

-- resets stand up to this place, and none behind it
abbrev pub IsLastReset : (disk : ℕ) → List Entry → (last : Option ℕ) → Type 0
IsLastReset disk log last = (place : ℕ)
    → list_any (λ e. resets disk e.act) (drop place log) ≡ reaches place last

pub record IsDisk (disk : ℕ) (log : List Entry) (facts : DiskFacts) : Type 0 where
  pub counts : AreCounts disk log facts.counts.items
  pub reset : IsLastReset disk log facts.last_reset

-- so many disks, each at its number
pub record AreDisks (disks : ℕ) (log : List Entry) (facts : List DiskFacts) : Type 0 where
  pub count : length facts ≡ disks
  pub each : (disk : ℕ) (fact : DiskFacts) → slice_get facts disk ≡ Some fact
      → IsDisk disk log fact
