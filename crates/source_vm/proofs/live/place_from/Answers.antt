use Rattle.std.proofs.Common.{List, ltb, rules}
use Rattle.std.proofs.lemmas.List.Sorted.{IsPartitionPoint-from_clause, IsPartitionedBy-ltb}
use Rattle.source_vm.specs.declared.live.LiveSnap.{LiveSnap}
use Rattle.source_vm.proofs.LiveLemmas.{are_rising}
use Rattle.source_vm.proofs.live.place_from.Goals as goal

pub returns-clause-point : goal.returns-clause-point
returns-clause-point c =
    let xs : List LiveSnap = c.args.live.now in
    IsPartitionPoint-from_clause (λ x. ltb x.id c.args.id) xs c.partition_point.result
    c.partition_point.ensures.partitioned
    (IsPartitionedBy-ltb (λ x. x.id) xs c.args.id (are_rising xs c.requires))
    (λ a r f k. search rules)
