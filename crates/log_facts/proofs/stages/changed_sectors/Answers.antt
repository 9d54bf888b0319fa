-- The entries before the end of the log are those before a later place too.
use Rattle.std.proofs.Common.{List, drop, take, ap, ◌∙◌}
use Rattle.std.specs.List.{sum_by}
use Rattle.std.proofs.lemmas.List.{take_min}
use Rattle.sector_model.specs.declared.run.Run.{Run}
use Rattle.sector_model.specs.Run.{touched_blocks, areas_of}
use Rattle.log_model.specs.declared.entry.Entry.{Entry}
use Rattle.log_model.specs.Entry.{writes_of}
use Rattle.log_facts.proofs.stages.changed_sectors.Goals as goal

pub returns : goal.returns
returns c =
    let front = c.between-entries.ensures
    ∙ ap (λ k. drop c.args.from (take k c.args.log.now)) c.min-end.ensures
    ∙ ap (drop c.args.from) (take_min c.args.end c.args.log.now) in
    c.count.ensures ∙ ap (sum_by (λ (r : Run). r.count))
    (c.in_ok-areas.ensures
    ∙ ap (λ (l : List Entry). areas_of c.args.capacity
    (touched_blocks c.args.capacity (writes_of c.args.disk l))) front)
