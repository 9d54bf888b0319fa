use Rattle.std.proofs.Common.{◌≡◌, leb, Some, option_map, length, get_or, refl, sym, ap, ◌∙◌, arith, rules}
use Rattle.std.proofs.lemmas.Bool.{leb-false}
use Rattle.std.proofs.lemmas.Option.{slice_get_past, slice_get_read}
use Rattle.std.proofs.lemmas.List.Sorted.{IsPartitionPoint-from_clause, IsPartitionedBy-leb}
use Rattle.sector_model.specs.Run.{end_of, next_run, from_sector}
use Rattle.sector_model.proofs.Spacing.{ends_rise}
use Rattle.sector_model.proofs.NextAt.{EndsBefore, next_at}
use Rattle.sector_model.proofs.run.joined.next_run.Goals as goal

pub returns-in_err-run : goal.returns-in_err-run
returns-in_err-run c =
    let runs = c.args.runs.now in
    let i = c.partition_point-index.result in
    let point : EndsBefore c.args.at runs i =
    IsPartitionPoint-from_clause (λ r. leb (end_of r) c.args.at) runs i
    c.partition_point-index.ensures.partitioned
    (IsPartitionedBy-leb end_of runs c.args.at (ends_rise 0 runs c.requires))
    (λ a r f k. search rules) in
    c.from_residual.ensures
    ∙ sym (next_at c.args.at runs i point
    ∙ ap (option_map (from_sector c.args.at))
    (slice_get_past runs i c.in_err-run.ensures.lookup.3))

pub from_sector-requires : goal.from_sector-requires
from_sector-requires c =
    let runs = c.args.runs.now in
    let i = c.partition_point-index.result in
    let r = c.in_ok-run.run'.now in
    let point : EndsBefore c.args.at runs i =
    IsPartitionPoint-from_clause (λ r. leb (end_of r) c.args.at) runs i
    c.partition_point-index.ensures.partitioned
    (IsPartitionedBy-leb end_of runs c.args.at (ends_rise 0 runs c.requires))
    (λ a r f k. search rules) in
    let read = c.in_ok-run.ensures.lookup.1 in
    let past = leb-false (end_of (get_or runs i r)) c.args.at
    (point.1 i r (omega arith) c.in_ok-run.ensures.lookup.3.0) in
    let same = ap end_of read in
    omega (arith, past, same)

pub returns : goal.returns
returns c =
    let runs = c.args.runs.now in
    let i = c.partition_point-index.result in
    let r = c.in_ok-run.run'.now in
    let point : EndsBefore c.args.at runs i =
    IsPartitionPoint-from_clause (λ r. leb (end_of r) c.args.at) runs i
    c.partition_point-index.ensures.partitioned
    (IsPartitionedBy-leb end_of runs c.args.at (ends_rise 0 runs c.requires))
    (λ a r f k. search rules) in
    ap Some c.from_sector.ensures
    ∙ sym (next_at c.args.at runs i point
    ∙ ap (option_map (from_sector c.args.at))
    (slice_get_read runs (length runs) i r refl c.in_ok-run.ensures.lookup.3.0
    c.in_ok-run.ensures.lookup.1))
