-- What a repair answers, from what was read and what its steps do.
use Rattle.std.proofs.Common.{◌≡◌, ℕ, ◌+◌, List, length, refl, ◌∙◌, ap, subst, ◌⊎◌, inl, inr, arith}
use Rattle.std.specs.Prelude.{Option, Some, None, option_map, IfSome}
use Rattle.std.specs.Option.{ForSome}
use Rattle.basics.specs.Faults.{HasRisen}
use Rattle.edge_traits.specs.Disk.{DiskContents, DiskState, IsImage, WhereTold, settled, after_sync}
use Rattle.record_codec.specs.declared.record.Record.{Record}
use Rattle.journal.specs.declared.cells.Found.{Found}
use Rattle.journal.specs.declared.refusal.JournalRefused.TheVariants.{DiskFault}
use Rattle.journal.specs.Format.{Holds, StandsFor, front}
use Rattle.journal.specs.Journal.{IsKept, IsHeldOn}
use Rattle.journal.specs.Opening.{reopened, IsOpenedAs, Opens, KeepsStanding, IsFaultOffset, IsOpenOffset, Refuses, IsWhole}
use Rattle.journal.specs.Unrepaired.{IsReadAs, Reads, IsFoundIn, just_opened}
use Rattle.journal.specs.Devices.{IsSettled}
use Rattle.journal.proofs.Keeping.{reopened_rests}
use Rattle.journal.proofs.Loading.{synced_keeps, keeps_on}

-- the disk after the first sync, where it tells what it holds
settled_there : (old new : Option DiskContents) → new ≡ option_map after_sync old
    → ForSome new IsSettled
settled_there None new is d told = absurd (cc)
settled_there (Some c) new is d told =
    let its : settled c.bytes ≡ d = cc in
    subst (λ (e : DiskContents). IsSettled e) its refl

bytes_there : (P : List ℕ → Type 0) (old new : Option DiskContents)
    → new ≡ option_map after_sync old → IfSome old (λ c. P c.bytes) → ForSome new (λ c. P c.bytes)
bytes_there P None new is fact d told = absurd (cc)
bytes_there P (Some c) new is fact d told =
    let its : settled c.bytes ≡ d = cc in
    subst (λ (e : DiskContents). P e.bytes) its fact

contents_synced : (old : DiskState) (records : List Record) (new : DiskState)
    → Reads old records new → new.contents ≡ option_map after_sync old.contents
contents_synced old records new reads = ap (λ (d : DiskState). d.contents) reads.synced

faults_synced : (old : DiskState) (records : List Record) (new : DiskState) → Reads old records new
    → new.faults ≡ old.faults
faults_synced old records new reads = ap (λ (d : DiskState). d.faults) reads.synced

possible_in : (records : List Record) (old : Option DiskContents) → IfSome old (IsReadAs records)
    → IfSome old (λ c. IsImage c c.bytes)
possible_in records None told = tt
possible_in records (Some c) told = told.0

stands_in : (records : List Record) (old : Option DiskContents) → IfSome old (IsReadAs records)
    → IfSome old (λ c. StandsFor c.bytes (Holds records))
stands_in records None told = tt
stands_in records (Some c) told = told.1

-- what a repair needs of the disk that was read
pub read_settled : (len : ℕ) (found : Found) (old new : DiskState) → IsFoundIn len found old new
    → ForSome new.contents IsSettled
read_settled len found old new is =
    settled_there old.contents new.contents (contents_synced old found.records.items new is.reads)

pub read_long : (len : ℕ) (found : Found) (old new : DiskState) → IsFoundIn len found old new
    → ForSome new.contents (λ c. len ≡ length c.bytes)
read_long len found old new is =
    bytes_there (λ xs. len ≡ length xs) old.contents new.contents
    (contents_synced old found.records.items new is.reads) is.long

pub read_stands : (len : ℕ) (found : Found) (old new : DiskState) → IsFoundIn len found old new
    → ForSome new.contents (λ c. StandsFor c.bytes (Holds found.records.items))
read_stands len found old new is =
    bytes_there (λ xs. StandsFor xs (Holds found.records.items)) old.contents new.contents
    (contents_synced old found.records.items new is.reads)
    (stands_in found.records.items old.contents is.reads.told)

-- a file that was only read keeps what its images stand for
pub reads_keep : (old : DiskState) (records : List Record) (new : DiskState) → Reads old records new
    → WhereTold KeepsStanding old.contents new.contents
reads_keep old records new reads =
    synced_keeps old.contents new.contents (contents_synced old records new reads)
    (possible_in records old.contents reads.told)

-- all was done
pub repaired : (len : ℕ) (found : Found) (old mid new : DiskState) → IsFoundIn len found old mid
    → new.contents ≡ option_map (λ c. settled (reopened found.records.items c.bytes)) mid.contents
    → new.faults ≡ mid.faults → Opens old found.records.items new
repaired len found old mid new is done faults = record {
  faults = faults ∙ faults_synced old found.records.items mid is.reads;
  told = told old.contents mid.contents new.contents
      (contents_synced old found.records.items mid is.reads) is.reads.told done;
  untold = λ none. rw (done, contents_synced old found.records.items mid is.reads, none) refl;
}
  where
    told : (o m n : Option DiskContents) → m ≡ option_map after_sync o
        → IfSome o (IsReadAs found.records.items)
        → n ≡ option_map (λ c. settled (reopened found.records.items c.bytes)) m
        → IfSome o (λ c. IsOpenedAs c found.records.items n)
    told None m n synced read done = tt
    told (Some c) m n synced read done = record {
      possible = read.0;
      stands = read.1;
      left =
          done ∙ ap (λ (x : Option DiskContents).
          option_map (λ (d : DiskContents). settled (reopened found.records.items d.bytes)) x)
          synced;
    }

end_as : (at end : ℕ) (records : List Record) (old : Option DiskContents)
    → IfSome old (IsReadAs records) → end ≡ length (front records) + 1
    → (at ≡ 0) ⊎ (at ≡ end) → IfSome old (IsOpenOffset at)
end_as at end records None read long offset = tt
end_as at end records (Some c) read long (inl first) = inl first
end_as at end records (Some c) read long (inr last) = inr (inr (records, read.1, last ∙ long))

end_offset : (at : ℕ) (found : Found) → IsWhole found → (at ≡ 0) ⊎ (at ≡ found.end)
    → IsFaultOffset at
end_offset at found whole (inl first) = inl first
end_offset at found whole (inr last) =
    inr (inr (found.records.items, last ∙ whole.long, omega (arith, last, whole.small)))

holds_there : (records : List Record) (old : Option DiskContents) → IfSome old (IsReadAs records)
    → IfSome old (λ c. (records : List Record) × StandsFor c.bytes (Holds records))
holds_there records None read = tt
holds_there records (Some c) read = (records, read.1)

-- a step failed
pub unrepaired : (at len : ℕ) (found : Found) (old mid new : DiskState)
    → IsFoundIn len found old mid → WhereTold KeepsStanding mid.contents new.contents
    → HasRisen mid.faults new.faults → (at ≡ 0) ⊎ (at ≡ found.end) → Refuses (DiskFault at) old new
unrepaired at len found old mid new is kept rises offset = record {
  cause = record {
    rises = subst (λ (n : ℕ). HasRisen n new.faults)
        (faults_synced old found.records.items mid is.reads) rises;
    offset = end_offset at found is.whole offset;
    told_offset =
        end_as at found.end found.records.items old.contents is.reads.told is.whole.long offset;
    file = inr (holds_there found.records.items old.contents is.reads.told);
  };
  images =
      keeps_on old.contents mid.contents new.contents
      (reads_keep old found.records.items mid is.reads) kept;
}

-- a journal that was just opened is kept as one
pub kept_open : (old new : DiskState) (found : Found) → IsWhole found
    → Opens old found.records.items new → IsKept (just_opened found new)
kept_open old new found whole opens = record {
  spelled = whole.spelled;
  long = whole.long;
  small = whole.small;
  licence = refl;
  file = held old.contents new.contents opens.told opens.untold;
}
  where
    held : (o n : Option DiskContents) → IfSome o (λ c. IsOpenedAs c found.records.items n)
        → (o ≡ None → n ≡ None) → IfSome n (IsHeldOn found.records.items None)
    held None n told untold = rw (untold refl) tt
    held (Some c) n told untold =
        rw told.left (reopened_rests found.records.items c.bytes told.stands)
