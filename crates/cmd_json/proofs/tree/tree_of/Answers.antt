use Rattle.std.proofs.Common.{None, sym, ap, ◌∙◌, refl, if◌then◌else◌}
use Rattle.json.specs.Json as json
use Rattle.json.specs.Value.{value_view}
use Rattle.cmd_json.specs.Tree.{tree_data, is_in_range}
use Rattle.cmd_json.proofs.TreeLemmas.{only_if, read_before}
use Rattle.cmd_json.proofs.tree.tree_of.Goals as goal

pub returns-then-is_some-clause-unread : goal.returns-then-is_some-clause-unread
returns-then-is_some-clause-unread c = λ paid.
    let j = value_view c.in-Ok-read.value in
    let first = sym (ap (json.value 127) c.in-Ok.ensures.ok) ∙ c.in-Ok-read.ensures.ok in (
      refl,
      read_before c.args.text.now j c.read.new.reader c.next.new.self c.next.result first
          c.next.ensures.value
          ∙ ap (λ more. if more then None else only_if (is_in_range j) (tree_data j))
          (sym c.if-is_some.ensures),
    )

pub returns-then-not-is_in_range-clause-unread : goal.returns-then-not-is_in_range-clause-unread
returns-then-not-is_in_range-clause-unread c = λ paid.
    let j = value_view c.in-Ok-read.value in
    let first = sym (ap (json.value 127) c.in-Ok.ensures.ok) ∙ c.in-Ok-read.ensures.ok in (
      refl,
      read_before c.args.text.now j c.read.new.reader c.next.new.self c.next.result first
          c.next.ensures.value
          ∙ ap (λ more. if more then None else only_if (is_in_range j) (tree_data j))
          (sym c.if-is_some.ensures)
          ∙ ap (λ fits. only_if fits (tree_data j)) (sym c.if-not-is_in_range.ensures),
    )

pub returns-clause-read : goal.returns-clause-read
returns-clause-read c =
    let j = value_view c.in-Ok-read.value in
    let first = sym (ap (json.value 127) c.in-Ok.ensures.ok) ∙ c.in-Ok-read.ensures.ok in
    read_before c.args.text.now j c.read.new.reader c.next.new.self c.next.result first
    c.next.ensures.value
    ∙ ap (λ more. if more then None else only_if (is_in_range j) (tree_data j))
    (sym c.if-is_some.ensures)
    ∙ ap (λ fits. only_if fits (tree_data j)) (sym c.if-not-is_in_range.ensures)
