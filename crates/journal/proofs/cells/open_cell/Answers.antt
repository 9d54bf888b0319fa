use Rattle.std.proofs.Common.{◌≡◌, ℕ, ◌-◌, ◌≤◌, List, ◌∙◌, ap, length, take, drop, get_or, arith}
use Rattle.std.proofs.lemmas.List.{take_rest}
use Rattle.record_codec.specs.Parse.{word_at}
use Rattle.std.proofs.lemmas.Grind.{common_steps}
use Rattle.record_codec.proofs.Numbers.{IsBytes, fitting_bytes, drop_bytes}
use Rattle.journal.specs.declared.format.TheConstants.{OPEN_GATE}
use Rattle.journal.proofs.OpenCells.{open_long, open_gate, open_fits, is_open}
use Rattle.journal.proofs.cells.open_cell.Goals as goal

pub returns-then-cells-lt-CELL_BYTES : goal.returns-then-cells-lt-CELL_BYTES
returns-then-cells-lt-CELL_BYTES c = λ body behind is.
    absurd (omega (arith, open_long c.args.cells.now body behind is))

pub returns-then-cells-ne-OPEN_GATE : goal.returns-then-cells-ne-OPEN_GATE
returns-then-cells-ne-OPEN_GATE c = λ body behind is.
    let gate : get_or c.args.cells.now 0 0 ≡ OPEN_GATE =
    open_gate c.args.cells.now body behind is in
    grind (arith, common_steps)

pub returns-then-len-behind : goal.returns-then-len-behind
returns-then-len-behind c = λ body behind is.
    let word : c.word-len.result ≡ word_at (drop 1 c.args.cells.now) =
    c.word-len.ensures ∙ ap word_at (take_rest c.args.cells.now 1) in
    absurd (omega (
      arith,
      open_fits c.args.cells.now body behind is,
      word,
      ap length
          (take_rest c.args.cells.now 5),
    ))

pub returns : goal.returns
returns c =
    let cells : List ℕ = c.args.cells.now in
    let bytes : IsBytes cells = fitting_bytes cells c.type_inv.cells in
    let gate : get_or cells 0 0 ≡ OPEN_GATE = grind (arith, common_steps) in
    let word : c.word-len.result ≡ word_at (drop 1 cells) =
    c.word-len.ensures ∙ ap word_at (take_rest cells 1) in
    let rest : take (length cells - 5) (drop 5 cells) ≡ drop 5 cells = take_rest cells 5 in
    is_open cells _ _ bytes (drop_bytes 1 cells bytes) (omega arith) gate
    (omega (arith, word, ap length rest))
    (c.split_at.ensures.front ∙ ap (λ xs. take c.word-len.result xs) rest
    ∙ ap (λ n. take n (drop 5 cells)) word)
    (c.split_at.ensures.back ∙ ap (λ xs. drop c.word-len.result xs) rest
    ∙ ap (λ n. drop n (drop 5 cells)) word)
