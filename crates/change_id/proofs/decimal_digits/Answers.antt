use Rattle.std.proofs.Common.{arith, rules}
use Rattle.change_id.proofs.NumberLemmas.{room_for_digits, last_digit, first_digit}
use Rattle.change_id.proofs.decimal_digits.Goals as goal

pub overflow_sub-start-in-loop-rest : goal.overflow_sub-start-in-loop-rest
overflow_sub-start-in-loop-rest c =
    let loop = c.loop-rest in
    room_for_digits c.args.number loop.rest loop.digits loop.start (omega arith) (omega arith)
    c.loop-rest-test.true loop.invariant.sized loop.invariant.so_far

pub loop-rest-preserved : goal.loop-rest-preserved
loop-rest-preserved c =
    let loop = c.loop-rest in
    let room = room_for_digits c.args.number loop.rest loop.digits loop.start (omega arith)
    (omega arith) c.loop-rest-test.true loop.invariant.sized loop.invariant.so_far in
    record {
      within = omega arith;
      sized = search rules;
      so_far = last_digit c.args.number loop.rest loop.digits loop.start c.loop-rest-test.true
          (omega arith) room (omega arith) loop.invariant.so_far;
    }

pub returns-clause-digits : goal.returns-clause-digits
returns-clause-digits c =
    let loop = c.loop-rest in
    first_digit c.args.number loop.rest loop.digits loop.start (omega arith) (omega arith)
    loop.invariant.so_far
