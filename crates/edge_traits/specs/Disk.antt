-- A disk, as whoever keeps a journal on it sees it: what a read gives, and what a crash may leave.
-- What a crash may leave, an image, is a predicate over plain data: the bytes at the last sync that
-- succeeded, the ranges that were written since, and the least and the greatest length since.
use Rattle.std.specs.Prelude.{◌≡◌, ℕ, ◌+◌, ◌<◌, ◌≤◌, min, max, nat_lt, nat_le, Bool, false, ◌&&◌, List, [], ◌∷◌, ◌++◌, length, take, drop, slice_index, Option, Some, None}
use Rattle.std.specs.List.{list_any}
use Rattle.basics.specs.Replaced.{replaced}
use Rattle.edge_traits.specs.declared.span.Span.{Span}

pub record DiskContents : Type 0 where
  -- the bytes that a read gives
  pub bytes : List ℕ
  -- the bytes at the last sync
  pub synced : List ℕ
  -- the ranges that were written since
  pub loose : List Span
  -- the least and the greatest length since
  pub least : ℕ
  pub greatest : ℕ

pub record DiskState : Type 0 where
  -- what it holds; a disk outside, as a file, doesn't tell that, and one that tells it goes on
  -- telling it
  pub contents : Option DiskContents
  -- how often it has failed, a count that ends at 2^64 - 1
  pub faults : ℕ

abbrev pub covers : (offset : ℕ) → Span → Bool
covers offset span = nat_le span.first offset && nat_lt offset (span.first + span.count)

-- the byte at this offset was written since the last sync
abbrev pub is_loose : (offset : ℕ) → DiskContents → Bool
is_loose offset c = list_any (covers offset) c.loose

-- what a crash may leave now: some length between, any loose bytes, any bytes past the old end,
-- and every other byte as it was
pub record IsImage (c : DiskContents) (image : List ℕ) : Type 0 where
  pub long : c.least ≤ length image
  pub short : length image ≤ c.greatest
  pub kept : (offset : ℕ) → offset < length image → offset < length c.synced
      → is_loose offset c ≡ false → slice_index image offset ≡ slice_index c.synced offset

-- these bytes and nothing else, whatever happens
abbrev pub settled : List ℕ → DiskContents
settled bytes = record {
  bytes = bytes;
  synced = bytes;
  loose = [];
  least = length bytes;
  greatest = length bytes;
}

-- a range is loose, and the length may reach its end
abbrev pub loosened : (first count : ℕ) → DiskContents → DiskContents
loosened first count c = record c {
  loose = c.loose ++ record { first = first; count = count } ∷ [];
  greatest = max c.greatest (first + count);
}

-- the length may be as little as this
abbrev pub shortened : (len : ℕ) → DiskContents → DiskContents
shortened len c = record c { least = min c.least len }

-- what a write, a cut and a sync leave
abbrev pub after_write : (offset : ℕ) → List ℕ → DiskContents → DiskContents
after_write offset written c = record (loosened offset (length written) c) {
  bytes = replaced c.bytes offset written;
}

abbrev pub after_cut : (len : ℕ) → DiskContents → DiskContents
after_cut len c = record (shortened len c) { bytes = take len c.bytes }

abbrev pub after_sync : DiskContents → DiskContents
after_sync c = settled c.bytes

-- what a write of `count` bytes that failed may leave: any part of its work, with any bytes in its
-- range. All that later images depend on is as it was, but for the range and the greatest length
pub record IsBrokenWrite (offset count : ℕ) (old new : DiskContents) : Type 0 where
  pub synced : new.synced ≡ old.synced
  pub loose : (k : ℕ) → is_loose k (loosened offset count old) ≡ false → is_loose k new ≡ false
  pub least : old.least ≤ new.least
  pub greatest : new.greatest ≤ max old.greatest (offset + count)
  pub possible : IsImage old old.bytes → IsImage new new.bytes
  pub no_shorter : length old.bytes ≤ length new.bytes
  pub no_longer : length new.bytes ≤ max (length old.bytes) (offset + count)
  pub before : take offset new.bytes ≡ take offset old.bytes
  pub behind : drop (offset + count) new.bytes ≡ drop (offset + count) old.bytes

-- what a cut that failed may leave: any length between, with the bytes as they were
pub record IsBrokenCut (len : ℕ) (old new : DiskContents) : Type 0 where
  pub synced : new.synced ≡ old.synced
  pub loose : (k : ℕ) → is_loose k old ≡ false → is_loose k new ≡ false
  pub least : min old.least len ≤ new.least
  pub greatest : new.greatest ≤ old.greatest
  pub possible : IsImage old old.bytes → IsImage new new.bytes
  pub no_shorter : min len (length old.bytes) ≤ length new.bytes
  pub front : new.bytes ≡ take (length new.bytes) old.bytes

-- a relation of what is told before and after: a disk that tells it goes on to tell it, and one
-- that doesn't never does
abbrev pub WhereTold : (DiskContents → DiskContents → Type 0) → (old new : Option DiskContents)
    → Type 0
WhereTold P None None = Unit {0}
WhereTold P None (Some new) = ⊥
WhereTold P (Some old) None = ⊥
WhereTold P (Some old) (Some new) = P old new

-- after a crash the disk holds an image, and all of it is synced
abbrev pub IsCrashOf : (old new : DiskState) → Type 0
IsCrashOf old new = WhereTold
    (λ c now. (image : List ℕ) × IsImage c image × (now ≡ settled image)) old.contents new.contents
