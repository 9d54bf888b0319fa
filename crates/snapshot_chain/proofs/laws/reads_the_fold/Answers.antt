-- By cases on the snapshot that the chain has.
use Rattle.std.proofs.Common.{◌≡◌, ℕ, List, true, false, Option, Some, None, is_some, length, IfSome, IsNone, sym, ap, ◌∙◌, refl}
use Rattle.std.proofs.lemmas.Bool.{false≢true}
use Rattle.std.specs.Option.{option_map, IsSomeAnd}
use Rattle.sector_model.specs.Run.{areas_of}
use Rattle.sector_model.specs.declared.sector.Sector.{Sector}
use Rattle.snapshot_chain.specs.Chain.{Snapshot, snapshot_of}
use Rattle.snapshot_chain.specs.History.{DiskEvent, IsFrozenAs, frozen, allocated}
use Rattle.std.proofs.lemmas.List.{length-map}
use Rattle.snapshot_chain.proofs.Histories.{live_at}
use Rattle.snapshot_chain.proofs.laws.reads_the_fold.Goals as goal

contents_at : (c s : ℕ) (history : List DiskEvent) (o : Option Snapshot) → is_some o ≡ true
    → IfSome o (IsFrozenAs c s history) → option_map (λ x. x.contents) o ≡ Some (frozen c s history)
contents_at c s history None some is = absurd (false≢true some)
contents_at c s history (Some snapshot) some is = ap (λ (xs : List Sector). Some xs) is.contents

areas_at : (c s : ℕ) (history : List DiskEvent) (o : Option Snapshot) → is_some o ≡ true
    → IfSome o (IsFrozenAs c s history)
    → IsSomeAnd o (λ x. areas_of c x.blocks ≡ allocated c s history)
areas_at c s history None some is = absurd (false≢true some)
areas_at c s history (Some snapshot) some is = ap (areas_of c) is.blocks

none_at : (o : Option Snapshot) → is_some o ≡ false → IsNone o
none_at None none = refl
none_at (Some snapshot) none = absurd (false≢true (sym none))

pub returns : goal.returns
returns c = λ chain history stands. record {
  now = ap (λ (xs : List Sector). Some xs) stands.present;
  live = λ s is. contents_at chain.capacity s history (snapshot_of s chain)
      (live_at chain history s stands ∙ is) (stands.frozen s);
  areas = λ s is. areas_at chain.capacity s history (snapshot_of s chain)
      (live_at chain history s stands ∙ is) (stands.frozen s);
  count = sym (length-map chain.snapshots (λ (x : Snapshot). x.id)) ∙ ap length stands.live;
  gone = λ s is. none_at (snapshot_of s chain) (live_at chain history s stands ∙ is);
}
