use Rattle.std.proofs.Common.{◌≡◌, ℕ, List, true, false, ltb, rules}
use Rattle.std.specs.List.Sorted.{IsPartitionPoint}
use Rattle.std.proofs.lemmas.List.Sorted.{IsPartitionPoint-from_clause, IsPartitionedBy-ltb}
use Rattle.change_tracker.specs.declared.frozen_snapshot.FrozenSnapshot.{FrozenSnapshot}
use Rattle.change_tracker.proofs.Lookups.{ids_rise, none_with_id, other_here, none_here}
use Rattle.change_tracker.proofs.tracker.place_of.Goals as goal

abbrev Point : ℕ → List FrozenSnapshot → ℕ → Type 0
Point id ks i = IsPartitionPoint (λ k. ltb k.id id ≡ true) (λ k. ltb k.id id ≡ false) ks i

pub returns-in_default : goal.returns-in_default
returns-in_default c =
    let ks : List FrozenSnapshot = c.args.snapshots.now in
    let rise = ids_rise 0 c.requires.0 ks c.requires.1 in
    let point : Point c.args.id ks c.partition_point-place.result =
    IsPartitionPoint-from_clause (λ k. ltb k.id c.args.id) ks c.partition_point-place.result
    c.partition_point-place.ensures.partitioned
    (IsPartitionedBy-ltb (λ k. k.id) ks c.args.id rise) (λ a r f k. search rules) in
    none_with_id ks c.args.id c.partition_point-place.result c.get.result point rise
    (other_here ks c.args.id c.partition_point-place.result c.in-Some.kept
    c.in-Some.ensures.lookup c.if-kept-id.false)

pub returns-in_default-2 : goal.returns-in_default-2
returns-in_default-2 c =
    let ks : List FrozenSnapshot = c.args.snapshots.now in
    let rise = ids_rise 0 c.requires.0 ks c.requires.1 in
    let point : Point c.args.id ks c.partition_point-place.result =
    IsPartitionPoint-from_clause (λ k. ltb k.id c.args.id) ks c.partition_point-place.result
    c.partition_point-place.ensures.partitioned
    (IsPartitionedBy-ltb (λ k. k.id) ks c.args.id rise) (λ a r f k. search rules) in
    none_with_id ks c.args.id c.partition_point-place.result c.get.result point rise
    (none_here ks c.args.id c.partition_point-place.result c.get.result c.get.ensures.lookup
    c.in_default.is)
