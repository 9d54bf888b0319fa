-- Lists of records that each image has one of, across openings and crashes.
use Rattle.std.proofs.Common.{◌≡◌, ℕ, List, [], ◌∷◌, sym, ap, subst, inl, inr}
use Rattle.std.specs.Prelude.{Option, Some, None, option_map, IfSome}
use Rattle.edge_traits.specs.Disk.{DiskContents, DiskState, IsImage, WhereTold, settled, after_sync}
use Rattle.edge_traits.proofs.Images.{settled_image, settled_consistent}
use Rattle.record_codec.specs.declared.record.Record.{Record}
use Rattle.journal.specs.Format.{Standing, Holds, NotAJournal as NoJournal, BadRecord as BadAt, StandsFor, StandsAs}
use Rattle.journal.specs.Journal.{StandsForOneOf, LeavesOneOf}
use Rattle.journal.specs.Opening.{IsOpenedAs, KeepsStanding, IsFoundAs}
use Rattle.journal.specs.Unrepaired.{IsReadAs}
use Rattle.journal.specs.Laws.{IsOneOf, OpensOneOf, ReadsOneOf, ReadsKeep, RefusesKeep, CrashesKeep, NeverStrange}
use Rattle.journal.proofs.StandingLemmas.{stands_for_one}
use Rattle.journal.proofs.Repairing.{reads_keep}

one_of : (lists : List (List Record)) (bytes : List ℕ) (records : List Record)
    → StandsForOneOf lists bytes → StandsFor bytes (Holds records) → IsOneOf records lists
one_of [] bytes records stands its = stands
one_of (first ∷ lists) bytes records (inl stands) its =
    let same : Holds records ≡ Holds first =
    stands_for_one bytes (Holds records) (Holds first) its stands in
    let lists_same : records ≡ first = cc in
    inl lists_same
one_of (first ∷ lists) bytes records (inr others) its = inr (one_of lists bytes records others its)

pub opens_one_of : OpensOneOf
opens_one_of lists old new records leaves opens = there old.contents new.contents leaves opens.told
  where
    there : (o n : Option DiskContents)
        → IfSome o (λ c. (image : List ℕ) → IsImage c image → StandsForOneOf lists image)
        → IfSome o (λ c. IsOpenedAs c records n) → IfSome o (λ c. IsOneOf records lists)
    there None n leaves told = tt
    there (Some c) n leaves told =
        one_of lists c.bytes records (leaves c.bytes told.possible) told.stands

pub reads_one_of : ReadsOneOf
reads_one_of lists old new records leaves reads = there old.contents leaves reads.told
  where
    there : (o : Option DiskContents)
        → IfSome o (λ c. (image : List ℕ) → IsImage c image → StandsForOneOf lists image)
        → IfSome o (IsReadAs records) → IfSome o (λ c. IsOneOf records lists)
    there None leaves told = tt
    there (Some c) leaves told = one_of lists c.bytes records (leaves c.bytes told.0) told.1

move_one : (lists : List (List Record)) (image earlier : List ℕ) → StandsForOneOf lists earlier
    → StandsAs image earlier → StandsForOneOf lists image
move_one [] image earlier stands as_it = stands
move_one (first ∷ lists) image earlier (inl stands) as_it = inl (as_it (Holds first) stands)
move_one (first ∷ lists) image earlier (inr others) as_it =
    inr (move_one lists image earlier others as_it)

keeps_one : (lists : List (List Record)) (o n : Option DiskContents)
    → IfSome o (λ c. (image : List ℕ) → IsImage c image → StandsForOneOf lists image)
    → WhereTold KeepsStanding o n
    → IfSome n (λ c. (image : List ℕ) → IsImage c image → StandsForOneOf lists image)
keeps_one lists None None leaves keeps = tt
keeps_one lists None (Some new) leaves keeps = absurd keeps
keeps_one lists (Some old) None leaves keeps = tt
keeps_one lists (Some old) (Some new) leaves keeps = λ image i.
    let earlier = keeps image i in
    move_one lists image earlier.0 (leaves earlier.0 earlier.1) earlier.2

pub reads_keep_them : ReadsKeep
reads_keep_them lists old new records leaves reads =
    keeps_one lists old.contents new.contents leaves (reads_keep old records new reads)

pub refuses_keep : RefusesKeep
refuses_keep lists old new why leaves refuses =
    keeps_one lists old.contents new.contents leaves refuses.images

pub crashes_keep : CrashesKeep
crashes_keep lists old new leaves crash = there old.contents new.contents leaves crash
  where
    there : (o n : Option DiskContents)
        → IfSome o (λ c. (image : List ℕ) → IsImage c image → StandsForOneOf lists image)
        → WhereTold (λ c now. (image : List ℕ) × IsImage c image × (now ≡ settled image)) o n
        → IfSome n (λ c. (image : List ℕ) → IsImage c image → StandsForOneOf lists image)
    there None None leaves crash = tt
    there None (Some new) leaves crash = absurd crash
    there (Some old) None leaves crash = tt
    there (Some old) (Some new) leaves (found, is, now) = λ image i.
        let only : image ≡ found =
        settled_image found image (subst (λ (d : DiskContents). IsImage d image) now i) in
        subst (λ (xs : List ℕ). StandsForOneOf lists xs) (sym only) (leaves found is)

none_other : (lists : List (List Record)) (bytes : List ℕ) (standing : Standing)
    → ((records : List Record) → Holds records ≡ standing → ⊥) → StandsForOneOf lists bytes
    → StandsFor bytes standing → ⊥
none_other [] bytes standing differs stands its = stands
none_other (first ∷ lists) bytes standing differs (inl stands) its =
    differs first (stands_for_one bytes (Holds first) standing stands its)
none_other (first ∷ lists) bytes standing differs (inr others) its =
    none_other lists bytes standing differs others its

never : (lists : List (List Record)) (old new : DiskState) (standing : Standing)
    → ((records : List Record) → Holds records ≡ standing → ⊥) → LeavesOneOf lists old
    → IsFoundAs standing old new → WhereTold KeepsStanding old.contents new.contents
    → IfSome old.contents (λ c. ⊥)
never lists old new standing differs leaves (synced, found) images =
    there old.contents new.contents (ap (λ (d : DiskState). d.contents) synced) leaves found images
  where
    there : (o n : Option DiskContents) → n ≡ option_map after_sync o
        → IfSome o (λ c. (image : List ℕ) → IsImage c image → StandsForOneOf lists image)
        → IfSome o (λ c. StandsFor c.bytes standing) → WhereTold KeepsStanding o n
        → IfSome o (λ c. ⊥)
    there None n is leaves found images = tt
    there (Some c) n is leaves found images =
        let keeps : KeepsStanding c (settled c.bytes) = rw is at images in
        let earlier = keeps c.bytes (settled_consistent c.bytes).read in
        let stands : StandsForOneOf lists c.bytes =
        move_one lists c.bytes earlier.0 (leaves earlier.0 earlier.1) earlier.2 in
        none_other lists c.bytes standing differs stands found

pub never_strange : NeverStrange
never_strange lists old new number leaves = (
  λ refuses. never lists old new NoJournal (λ records same. absurd (cc)) leaves refuses.cause
      refuses.images,
  λ refuses. never lists old new (BadAt number) (λ records same. absurd (cc)) leaves refuses.cause
      refuses.images,
)
