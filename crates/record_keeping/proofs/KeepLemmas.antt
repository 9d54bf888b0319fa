-- What one record that is kept leaves, and what the records up to it do.
use Rattle.std.proofs.Common.{◌≡◌, ℕ, ◌+◌, ◌<◌, ◌≤◌, Bool, true, false, List, [], ◌∷◌, ◌++◌, length, take, drop, Option, Some, None, Result, Ok, Err, refl, sym, ap, subst, append_assoc, ◌∙◌}
use Rattle.std.specs.Prelude.{MatchOption, slice_index_or}
use Rattle.std.proofs.lemmas.List.{append-nil, take_all}
use Rattle.std.proofs.Math.Seq.{take-append_seam}
use Rattle.std.proofs.lemmas.List.Elements.{All-cons, All-nil, All-take}
use Rattle.std.specs.List.{All}
use Rattle.basics.specs.Faults.{HasRisen}
use Rattle.basics.proofs.ItemAt.{take-next_read, split_around}
use Rattle.record_codec.specs.declared.record.Record.{Record}
use Rattle.record_codec.specs.Record.{KeepsRule}
use Rattle.journal.specs.Journal.{JournalState, append_refusal, after_append, Appends}
use Rattle.journal.specs.declared.refusal.JournalRefused.{JournalRefused}
use Rattle.ctl_state.specs.Fold.{after, after_record, IsStateOf}
use Rattle.ctl_state.specs.MayStand.{record_may_stand}
use Rattle.ctl_state.specs.Value.{CtlValue}
use Rattle.ctl_state.proofs.FoldFacts.{goes_on, stops, strange_no}
use Rattle.record_keeping.specs.Keeping.{Keeping, keeping, IsReady, MayBeKept, Keeps, KeepsOne, KeepsFront, StopsAt, CutOff, IsUnfailed, FrontsMayBeKept}
use Rattle.record_keeping.specs.declared.refusal.NotKept.{NotKept}
use Rattle.record_keeping.specs.declared.refusal.NotKept.TheVariants.{Fault, Full, NoMemory}

-- ---- one record

pub acknowledged : (r : Record) (old new : JournalState) (refusal : Option JournalRefused)
    (result : Result (Unit {0}) JournalRefused) (u : Unit {0}) → result ≡ Ok u
    → MatchOption refusal (Appends r old new result) (λ why. (result ≡ Err why) × (new ≡ old))
    → new ≡ after_append r old
acknowledged r old new None (Ok v) u is h = h.0
acknowledged r old new None (Err e) u is h = cc
acknowledged r old new (Some why) (Ok v) u is h = let no = h.0 in cc
acknowledged r old new (Some why) (Err e) u is h = cc

pub keeps_one : (r : Record) (v next : CtlValue) (old new : JournalState)
    → IsReady (keeping v old) → record_may_stand v r ≡ true → new ≡ after_append r old
    → next ≡ after_record v r → KeepsOne r (keeping v old) (keeping next new)
keeps_one r v next old new ready may is to = (
  record {
    records = ap (λ j. j.records) is;
    ready = record {
      come_to = ap (λ j. after j.records) is ∙ goes_on v old.records r ready.come_to may
          ∙ ap Ok (sym to);
      unfailed = ap (λ j. j.failure) is ∙ ready.unfailed;
    };
    opened = ap (λ j. j.opened) is;
    faults = ap (λ j. j.disk.faults) is;
  },
  to,
)

-- ---- the records up to a place

-- the first ones were kept
pub record KeptTo (added : List Record) (at : ℕ) (start now : Keeping) : Type 0 where
  pub keeps : Keeps (take at added) start now

pub kept_none : (added : List Record) (k : Keeping) → IsReady k → KeptTo added 0 k k
kept_none added k ready = record {
  keeps = record {
    records = sym (append-nil k.journal.records);
    ready = ready;
    opened = refl;
    faults = refl;
  };
}

pub kept_more : (added : List Record) (at : ℕ) (r : Record) (start now next : Keeping)
    → at < length added → r ≡ slice_index_or added at r → KeptTo added at start now
    → KeepsOne r now next → KeptTo added (at + 1) start next
kept_more added at r start now next within is k one = record {
  keeps = record {
    records = (one.0).records ∙ ap (λ xs. xs ++ r ∷ []) (k.keeps).records
        ∙ append_assoc start.journal.records (take at added) (r ∷ [])
        ∙ ap (λ xs. start.journal.records ++ xs) (sym (take-next_read added at r within is));
    ready = (one.0).ready;
    opened = (one.0).opened ∙ (k.keeps).opened;
    faults = (one.0).faults ∙ (k.keeps).faults;
  };
}

pub kept_all : (added : List Record) (at : ℕ) (start now : Keeping) → length added ≤ at
    → KeptTo added at start now → Keeps added start now
kept_all added at start now end k =
    subst (λ (xs : List Record). Keeps xs start now) (take_all at added end) k.keeps

-- ---- the next one may stand

stands_by : (may : Bool) (v : CtlValue) (front rest : List Record) (r : Record) (next : CtlValue)
    → record_may_stand v r ≡ may → IsStateOf v front → after ((front ++ r ∷ []) ++ rest) ≡ Ok next
    → may ≡ true
stands_by true v front rest r next is come good = refl
stands_by false v front rest r next is come good = absurd
    (strange_no (front ++ r ∷ []) rest next (length front + 1) (stops v front r come is) good)

split_at : (base added : List Record) (at : ℕ) (r : Record) → at < length added
    → r ≡ slice_index_or added at r
    → base ++ added ≡ ((base ++ take at added) ++ r ∷ []) ++ drop (at + 1) added
split_at base added at r within is =
    ap (λ xs. base ++ xs) (split_around added at r within is)
    ∙ sym (append_assoc base (take at added) (r ∷ drop (at + 1) added))
    ∙ sym (append_assoc (base ++ take at added) (r ∷ []) (drop (at + 1) added))

pub next_stands : (added : List Record) (at : ℕ) (r : Record) (start now : Keeping)
    → at < length added → r ≡ slice_index_or added at r → IsReady start
    → MayBeKept start.value added → KeptTo added at start now
    → record_may_stand now.value r ≡ true
next_stands added at r start now within is ready may k =
    let base = start.journal.records in
    let whole = may.stand base ready.come_to in
    let come : IsStateOf now.value (base ++ take at added) =
    sym (ap after (k.keeps).records) ∙ (k.keeps).ready.come_to in
    stands_by (record_may_stand now.value r) now.value (base ++ take at added)
    (drop (at + 1) added) r whole.0 refl come
    (sym (ap after (split_at base added at r within is)) ∙ whole.1)

-- one record alone
pub one_may : (v : CtlValue) (r : Record) → record_may_stand v r ≡ true → KeepsRule r
    → MayBeKept v (r ∷ [])
one_may v r may rule = record {
  stand = λ records come. (after_record v r, goes_on v records r come may);
  rules = All-cons KeepsRule r [] rule (All-nil KeepsRule);
}

-- ---- where one isn't kept

unfailed_since : (start now next : JournalState) → IsUnfailed now next
    → now.disk.faults ≡ start.disk.faults → IsUnfailed start next
unfailed_since start now next un faults =
    record { failure = un.failure; faults = un.faults ∙ faults }

stops_since : (why : NotKept) (left rest : List Record) (start now next : JournalState)
    → StopsAt why left now next → now.disk.faults ≡ start.disk.faults
    → StopsAt why (left ++ rest) start next
stops_since Fault [] rest start now next stops faults = absurd stops
stops_since Fault (r ∷ left) rest start now next stops faults = record {
  at = stops.at;
  room = stops.room;
  failure = stops.failure;
  rises = subst (λ n. HasRisen n next.disk.faults) faults stops.rises;
}
stops_since Full [] rest start now next stops faults = absurd stops
stops_since Full (r ∷ left) rest start now next stops faults =
    (unfailed_since start now next stops.0 faults, stops.1)
stops_since NoMemory left rest start now next stops faults =
    unfailed_since start now next stops faults

pub front_kept : (why : NotKept) (added : List Record) (at : ℕ) (r : Record) (start now : Keeping)
    (next : JournalState) → at < length added → r ≡ slice_index_or added at r
    → KeptTo added at start now → CutOff why r now.journal next
    → KeepsFront why added start.journal next
front_kept why added at r start now next within is k cut =
    let rest = drop (at + 1) added in
    record {
      front = take at added ++ cut.front;
      left = cut.left ++ rest;
      split = split_around added at r within is
          ∙ ap (λ xs. take at added ++ (xs ++ rest)) cut.split
          ∙ ap (λ xs. take at added ++ xs) (append_assoc cut.front cut.left rest)
          ∙ sym (append_assoc (take at added) cut.front (cut.left ++ rest));
      records = cut.records ∙ ap (λ xs. xs ++ cut.front) (k.keeps).records
          ∙ append_assoc start.journal.records (take at added) cut.front;
      opened = cut.opened ∙ (k.keeps).opened;
      stops = stops_since why cut.left rest start.journal now.journal next cut.stops
          (k.keeps).faults;
    }

-- ---- a front of them

front_stands : (records front left : List Record) (v next : CtlValue) (come : Result CtlValue ℕ)
    → after (records ++ front) ≡ come → after (records ++ (front ++ left)) ≡ Ok next
    → (w : CtlValue) × IsStateOf w (records ++ front)
front_stands records front left v next (Ok w) is good = (w, is)
front_stands records front left v next (Err number) is good = absurd
    (strange_no (records ++ front) left next number is
    (ap after (append_assoc records front left) ∙ good))

pub fronts_may : FrontsMayBeKept
fronts_may v front left may = record {
  stand = λ records come. let whole = may.stand records come in
      front_stands records front left v whole.0 (after (records ++ front)) refl whole.1;
  rules = subst (λ (xs : List Record). All KeepsRule xs) (take-append_seam front left)
      (All-take KeepsRule (length front) (front ++ left) may.rules);
}
