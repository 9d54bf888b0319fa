-- What a move answers, by what became of its volume.
use Rattle.std.proofs.Common.{◌≡◌, ℕ, cond, List, length, Option, Some, None, is_some, Ok, Err, inl, inr, refl, sym, ap, subst, ◌∙◌}
use Rattle.std.specs.Prelude.{IfSome, IsSome, MatchOption}
use Rattle.basics.specs.Refusal.{IsRefusedBy}
use Rattle.sector_model.specs.declared.sector.Sector.{Sector}
use Rattle.record_codec.specs.declared.record.Record.{Record}
use Rattle.target_volume.specs.VolumeName.{find_volume}
use Rattle.target_volume.specs.VolumeStore.{StoreState, StoredVolume}
use Rattle.target_volume.specs.declared.store_refused.StoreRefused.{StoreRefused}
use Rattle.target_volume.specs.declared.store_refused.StoreRefused.TheVariants.{Exists, Failed}
use Rattle.target_volume.specs.declared.volume_name.VolumeName.{VolumeName}
use Rattle.target_volume.specs.declared.volume_name.VolumeName.TheVariants.{Given}
use Rattle.cmd_json.specs.declared.command.Command.TheVariants.{Move}
use Rattle.cmd_json.specs.declared.command.MoveWrite.{MoveWrite}
use Rattle.fleet.specs.Fleet.{FleetState}
use Rattle.reply_json.specs.declared.reply.Reply.TheVariants.{Moved}
use Rattle.migrate_server.specs.NewVolume.{IsFree, IsTaken, with_new_volume, copied_volume, FailsInCopy, CopyAnswers}
use Rattle.migrate_server.specs.Session.{serving, HasRefusal, Answers}
use Rattle.migrate_server.specs.WrittenDisk.{written_disk}
use Rattle.migrate_server.specs.commands.Moves.{move_refusal, name_refusal, MoveRefusal}
use Rattle.answers.specs.declared.refusal.Refusal.{Refusal}
use Rattle.answers.specs.declared.refusal.Refusal.TheVariants.{NameTaken, Volume}

abbrev Volumes : Type 0
Volumes = List (VolumeName × StoredVolume)

-- a call that was accepted has no refusal
pub not_refused : {T E : Type 0} (refusal : Option E) (v : T) → IsRefusedBy refusal (Ok v)
    → refusal ≡ None
not_refused None v ok = refl
not_refused (Some why) v is = cc

free_told : (name : List ℕ) (o : Option Volumes)
    → IfSome o (λ vs. find_volume (Given name) vs ≡ None)
    → IfSome o (λ vs. None ≡ name_refusal name vs)
free_told name None free = tt
free_told name (Some vs) free =
    sym (ap (λ (found : Option StoredVolume). cond (is_some found) (Some NameTaken) None) free)

taken_told : (name : List ℕ) (o : Option Volumes)
    → IfSome o (λ vs. IsSome (find_volume (Given name) vs))
    → IfSome o (λ vs. Some NameTaken ≡ name_refusal name vs)
taken_told name None taken = tt
taken_told name (Some vs) taken = sym (ap (λ b. cond b (Some NameTaken) None) taken)

-- where nothing that it asks for refuses it, the store says whether its name does
has_refusal : (name : List ℕ) (sectors : ℕ) (writes : List MoveWrite) (refusal : Option Refusal)
    (store : StoreState) → move_refusal sectors writes ≡ None
    → MoveRefusal name refusal store → (fleet : FleetState) (records : List Record)
    → HasRefusal (Move name sectors writes) refusal (serving fleet records store)
has_refusal name sectors writes refusal store none is fleet records =
    subst (λ (r : Option Refusal). MatchOption r (MoveRefusal name refusal store)
    (λ why. refusal ≡ Some why)) (sym none) is

pub moved : (name : List ℕ) (sectors : ℕ) (writes : List MoveWrite) (disk : List Sector)
    (old new : StoreState) → move_refusal sectors writes ≡ None → disk ≡ written_disk sectors writes
    → IsFree (Given name) old → new ≡ with_new_volume (Given name) (copied_volume disk sectors) old
    → (fleet : FleetState) (records : List Record)
    → Answers (Move name sectors writes) (Ok (Moved (length writes) sectors))
    (serving fleet records old) (serving fleet records new)
moved name sectors writes disk old new none same free is fleet records = (
  has_refusal name sectors writes None old none (inl refl, free_told name old.volumes free) fleet
      records,
  refl,
  ap (serving fleet records)
      (is ∙ ap (λ (xs : List Sector). with_new_volume (Given name) (copied_volume xs sectors) old)
      same),
)

pub name_taken : (name : List ℕ) (sectors : ℕ) (writes : List MoveWrite) (disk : List Sector)
    (old new : StoreState) (why : StoreRefused) → move_refusal sectors writes ≡ None → why ≡ Exists
    → CopyAnswers disk (Given name) sectors (Err why) old new
    → (fleet : FleetState) (records : List Record)
    → Answers (Move name sectors writes) (Err NameTaken) (serving fleet records old)
    (serving fleet records new)
name_taken name sectors writes disk old new why none is copied fleet records =
    let exists : IsTaken (Given name) old × (new ≡ old) =
    subst (λ (x : StoreRefused). CopyAnswers disk (Given name) sectors (Err x) old new) is
    copied in
    inl (
      has_refusal name sectors writes (Some NameTaken) old none
          (inr refl, taken_told name old.volumes exists.0) fleet records,
      ap (serving fleet records)
          exists.1,
    )

pub volume_failed : (name : List ℕ) (sectors : ℕ) (writes : List MoveWrite) (disk : List Sector)
    (old new : StoreState) (why : StoreRefused) → move_refusal sectors writes ≡ None → why ≡ Failed
    → CopyAnswers disk (Given name) sectors (Err why) old new
    → (fleet : FleetState) (records : List Record)
    → Answers (Move name sectors writes) (Err Volume) (serving fleet records old)
    (serving fleet records new)
volume_failed name sectors writes disk old new why none is copied fleet records =
    let fails : FailsInCopy (Given name) sectors old new =
    subst (λ (x : StoreRefused). CopyAnswers disk (Given name) sectors (Err x) old new) is
    copied in
    inr (refl, none, (refl, refl, fails))
