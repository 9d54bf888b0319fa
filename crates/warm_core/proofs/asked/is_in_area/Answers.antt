use Rattle.std.proofs.Common.{◌+◌, ◌-◌, sym, ◌∙◌, arith}
use Rattle.std.proofs.lemmas.Bool.{false≢true}
use Rattle.warm_core.proofs.AskedLemmas.{area-asked, asked-touched}
use Rattle.warm_core.proofs.asked.is_in_area.Goals as goal

pub returns-then-is_touched : goal.returns-then-is_touched
returns-then-is_touched c =
    let entries = c.args.asked.now in
    let run = c.args.run in
    let first = sym c.is_touched.ensures ∙ c.if-is_touched.true in
    let last = c.is_touched-then-is_touched.ensures in (
      λ is. area-asked c.args.capacity c.args.disk run entries c.requires.some c.requires.few
          c.requires.within first (sym last ∙ is),
      λ all. last ∙ asked-touched c.args.capacity c.args.disk run entries
          (run.first + (run.count - 1)) c.requires.within all (omega arith)
          (let some = c.requires.some in omega (arith, some)),
    )

pub returns-else-is_touched : goal.returns-else-is_touched
returns-else-is_touched c =
    let entries = c.args.asked.now in
    let run = c.args.run in
    let not = c.if-is_touched.false in (
      λ is. absurd (false≢true (sym not ∙ is)),
      λ all. c.is_touched.ensures
          ∙ asked-touched c.args.capacity c.args.disk run entries run.first c.requires.within all
          (omega arith) (let some = c.requires.some in omega (arith, some)),
    )
