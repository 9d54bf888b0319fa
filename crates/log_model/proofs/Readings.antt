-- What an entry is to the tracking of a disk keeps what change_id asks of any list of happenings.
use Rattle.std.proofs.Common.{◌≡◌, ℕ, List, true, false, refl}
use Rattle.std.proofs.lemmas.Bool.{false≢true}
use Rattle.change_id.specs.History.{IsApart}
use Rattle.change_id.specs.declared.ChangeId.{ChangeId}
use Rattle.change_id.proofs.IdMarks as any
use Rattle.log_model.specs.declared.entry.Act.{Act}
use Rattle.log_model.specs.declared.entry.Act.TheVariants.{Write, Snap, Remove, Reset, Enable, Off, On}
use Rattle.log_model.specs.declared.entry.Entry.{Entry}
use Rattle.log_model.specs.Entry.{is_snap, takes, resets}
use Rattle.log_model.specs.Marks.{reading_of}
use Rattle.log_model.specs.Laws.{MarksOfIds}

pub snap-takes : (s : ℕ) (act : Act) → takes s act ≡ true → is_snap act ≡ true
snap-takes s (Write disk first sectors) h = absurd (false≢true h)
snap-takes s (Snap id owner) h = refl
snap-takes s (Remove id) h = absurd (false≢true h)
snap-takes s (Reset disk) h = absurd (false≢true h)
snap-takes s Enable h = absurd (false≢true h)
snap-takes s Off h = absurd (false≢true h)
snap-takes s On h = absurd (false≢true h)

pub snap-resets_none : (d : ℕ) (act : Act) → is_snap act ≡ true → resets d act ≡ false
snap-resets_none d (Write disk first sectors) h = refl
snap-resets_none d (Snap id owner) h = refl
snap-resets_none d (Remove id) h = refl
snap-resets_none d (Reset disk) h = absurd (false≢true h)
snap-resets_none d Enable h = refl
snap-resets_none d Off h = refl
snap-resets_none d On h = refl

pub apart : (d : ℕ) → IsApart (reading_of d)
apart d = record {
  takes_snap = λ s e h. snap-takes s e.act h;
  snap_resets_none = λ e h. snap-resets_none d e.act h;
}

pub marks_of_ids : (machine d : ℕ) (id : ChangeId) (log : List Entry) → MarksOfIds machine d id log
marks_of_ids machine d id log = any.marks_of_ids (reading_of d) machine d id log (apart d)
