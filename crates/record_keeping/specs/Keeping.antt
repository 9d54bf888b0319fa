-- What keeping records leaves of a controller: of its state and of its journal, as its store has no
-- part in that. A record is kept where the journal acknowledged it, and so is on the disk.
use Rattle.std.specs.Prelude.{◌≡◌, ◌⊎◌, ℕ, true, All, List, [], ◌∷◌, ◌++◌, Some, None, IsSome}
use Rattle.basics.specs.Faults.{HasRisen}
use Rattle.record_codec.specs.declared.record.Record.{Record}
use Rattle.record_codec.specs.Record.{KeepsRule}
use Rattle.journal.specs.Journal.{JournalState, full_refusal}
use Rattle.ctl_state.specs.Fold.{IsStateOf, after_record}
use Rattle.ctl_state.specs.MayStand.{record_may_stand}
use Rattle.ctl_state.specs.Value.{CtlValue}
use Rattle.record_keeping.specs.declared.refusal.NotKept.{NotKept}
use Rattle.record_keeping.specs.declared.refusal.NotKept.TheVariants.{Fault, Full, NoMemory}

-- what the records of a journal come to, and the journal
pub record Keeping : Type 0 where
  pub value : CtlValue
  pub journal : JournalState

abbrev pub keeping : CtlValue → JournalState → Keeping
keeping value journal = record { value = value; journal = journal }

-- the state is that of the journal's records, and the journal takes more
pub record IsReady (k : Keeping) : Type 0 where
  pub come_to : IsStateOf k.value k.journal.records
  pub unfailed : k.journal.failure ≡ None

-- behind records that came to a value, these come to one too, and each keeps its rule, so that it
-- can be spelled
pub record MayBeKept (v : CtlValue) (added : List Record) : Type 0 where
  pub stand : (records : List Record) → IsStateOf v records
      → (next : CtlValue) × IsStateOf next (records ++ added)
  pub rules : All KeepsRule added

-- one record may be kept where it may stand and keeps its rule
abbrev pub OneMayBeKept : Type 0
OneMayBeKept = (v : CtlValue) (r : Record) → record_may_stand v r ≡ true → KeepsRule r
    → MayBeKept v (r ∷ [])

-- a front of records that may be kept may be kept
abbrev pub FrontsMayBeKept : Type 0
FrontsMayBeKept = (v : CtlValue) (front left : List Record) → MayBeKept v (front ++ left)
    → MayBeKept v front

-- ---- all of them were kept

pub record Keeps (added : List Record) (old new : Keeping) : Type 0 where
  pub records : new.journal.records ≡ old.journal.records ++ added
  pub ready : IsReady new
  pub opened : new.journal.opened ≡ old.journal.opened
  pub faults : new.journal.disk.faults ≡ old.journal.disk.faults

abbrev pub KeepsOne : Record → (old new : Keeping) → Type 0
KeepsOne r old new = Keeps (r ∷ []) old new × (new.value ≡ after_record old.value r)

-- ---- one of them wasn't, though those before it were

-- the disk failed in the append of the record, for which there was room: after a crash it may stand
-- or not
pub record FailsAtRecord (r : Record) (old new : JournalState) : Type 0 where
  pub at : ℕ
  pub room : full_refusal r new ≡ None
  pub failure : new.failure ≡ Some (record { at = at; refused = r })
  pub rises : HasRisen old.disk.faults new.disk.faults

-- the disk didn't
pub record IsUnfailed (old new : JournalState) : Type 0 where
  pub failure : new.failure ≡ None
  pub faults : new.disk.faults ≡ old.disk.faults

-- why the first of those that are left wasn't kept. Want of memory names none of them, since it may
-- come when the last one was kept already
abbrev pub StopsAt : NotKept → (left : List Record) → (old new : JournalState) → Type 0
StopsAt Fault [] old new = ⊥
StopsAt Fault (r ∷ left) old new = FailsAtRecord r old new
StopsAt Full [] old new = ⊥
StopsAt Full (r ∷ left) old new = IsUnfailed old new × IsSome (full_refusal r new)
StopsAt NoMemory left old new = IsUnfailed old new

pub record KeepsFront (why : NotKept) (added : List Record) (old new : JournalState)
    : Type 0 where
  pub front : List Record
  pub left : List Record
  pub split : added ≡ front ++ left
  pub records : new.records ≡ old.records ++ front
  pub opened : new.opened ≡ old.opened
  pub stops : StopsAt why left old new

-- the one record wasn't, or its effect wasn't
abbrev pub CutOff : NotKept → Record → (old new : JournalState) → Type 0
CutOff why r old new = KeepsFront why (r ∷ []) old new

-- ---- the state then

-- the last record is on the disk, and hasn't taken effect
pub record LacksLast (k : Keeping) : Type 0 where
  pub front : List Record
  pub last : Record
  pub split : k.journal.records ≡ front ++ last ∷ []
  pub come_to : IsStateOf k.value front

-- no record takes effect before it is kept: the state is that of the journal's records or, for want
-- of memory alone, behind them by one
abbrev pub IsBehind : NotKept → Keeping → Type 0
IsBehind Fault k = IsStateOf k.value k.journal.records
IsBehind Full k = IsStateOf k.value k.journal.records
IsBehind NoMemory k = IsStateOf k.value k.journal.records ⊎ LacksLast k
