-- What holds of every file, and of journals across openings and crashes.
use Rattle.std.specs.Prelude.{◌≡◌, ◌⊎◌, ℕ, List, [], ◌∷◌, IfSome}
use Rattle.edge_traits.specs.Disk.{DiskState, IsCrashOf}
use Rattle.record_codec.specs.declared.record.Record.{Record}
use Rattle.journal.specs.Format.{Standing, StandsFor, NotAJournal as NoJournal, BadRecord as BadAt}
use Rattle.journal.specs.Journal.{LeavesOneOf}
use Rattle.journal.specs.Opening.{Opens, Refuses}
use Rattle.journal.specs.Unrepaired.{Reads}
use Rattle.journal.specs.declared.refusal.JournalRefused.{JournalRefused}
use Rattle.journal.specs.declared.refusal.JournalRefused.TheVariants.{NotAJournal, BadRecord}

-- a file stands for one thing at most
abbrev pub StandsForAtMostOne : Type 0
StandsForAtMostOne = (bytes : List ℕ) (one other : Standing) → StandsFor bytes one
    → StandsFor bytes other → one ≡ other

abbrev pub IsOneOf : List Record → (lists : List (List Record)) → Type 0
IsOneOf records [] = ⊥
IsOneOf records (first ∷ lists) = (records ≡ first) ⊎ IsOneOf records lists

-- an opening gives one of the lists that a crash may have left
abbrev pub OpensOneOf : Type 0
OpensOneOf = (lists : List (List Record)) (old new : DiskState) (records : List Record)
    → LeavesOneOf lists old → Opens old records new
    → IfSome old.contents (λ c. IsOneOf records lists)

-- and so does a reading
abbrev pub ReadsOneOf : Type 0
ReadsOneOf = (lists : List (List Record)) (old new : DiskState) (records : List Record)
    → LeavesOneOf lists old → Reads old records new
    → IfSome old.contents (λ c. IsOneOf records lists)

-- which leaves no other list
abbrev pub ReadsKeep : Type 0
ReadsKeep = (lists : List (List Record)) (old new : DiskState) (records : List Record)
    → LeavesOneOf lists old → Reads old records new → LeavesOneOf lists new

-- nor does a refused opening
abbrev pub RefusesKeep : Type 0
RefusesKeep = (lists : List (List Record)) (old new : DiskState) (why : JournalRefused)
    → LeavesOneOf lists old → Refuses why old new → LeavesOneOf lists new

-- nor a crash
abbrev pub CrashesKeep : Type 0
CrashesKeep = (lists : List (List Record)) (old new : DiskState) → LeavesOneOf lists old
    → IsCrashOf old new → LeavesOneOf lists new

-- a journal's file is never refused for what it holds
abbrev pub NeverStrange : Type 0
NeverStrange = (lists : List (List Record)) (old new : DiskState) (number : ℕ)
    → LeavesOneOf lists old
    → (Refuses NotAJournal old new → IfSome old.contents (λ c. ⊥))
    × (Refuses (BadRecord number) old new → IfSome old.contents (λ c. ⊥))
