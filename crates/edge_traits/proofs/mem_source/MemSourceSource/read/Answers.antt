use Rattle.std.proofs.Common.{◌≡◌, ◌+◌, ◌≤◌, length, take, drop, arith, length-take, length-drop, ap, sym}
use Rattle.std.proofs.lemmas.Grind.{common_steps}
use Rattle.std.proofs.Math.ListN.{drop_of_length-le}
use Rattle.edge_traits.proofs.Pieces.{piece_and_rest}
use Rattle.edge_traits.proofs.mem_source.MemSourceSource.read.Goals as goal

pub returns-clause-bytes : goal.returns-clause-bytes
returns-clause-bytes c =
    let left : c.args.self.now.left ≡ drop c.self.inside.given c.self.inside.bytes.items =
    ap (λ s. s.left) (sym c.self.view_is) in
    let piece : c.copy_from_slice.new.self
    ≡ take c.min-count.result (drop c.self.inside.given c.self.inside.bytes.items) =
    grind (arith, common_steps) in
    let count : length c.copy_from_slice.new.self ≡ c.min-count.result =
    grind (arith, common_steps, length-take, c.copy_from_slice.ensures.len) in (
      rw left (piece_and_rest _ _ _ _ _ piece count),
      λ none some.
          let past : length c.self.inside.bytes.items ≤ c.self.inside.given + c.min-count.result =
          omega (
            arith,
            none,
            length-drop c.self.inside.given c.self.inside.bytes.items,
            length-take
                c.min-count.result c.args.buf.now,
          ) in
          drop_of_length-le _ past,
    )
