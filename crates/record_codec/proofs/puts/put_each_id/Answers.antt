use Rattle.std.proofs.Common.{arith}
use Rattle.std.proofs.lemmas.List.Elements.{All-more}
use Rattle.change_id.specs.ChangeId.{IdHasRange}
use Rattle.record_codec.specs.Record.{id_bytes}
use Rattle.record_codec.proofs.Pieces.{put_step, all_taken}
use Rattle.record_codec.proofs.puts.put_each_id.Goals as goal

pub loop-id-preserved : goal.loop-id-preserved
loop-id-preserved c = (
  put_step id_bytes c.args.ids.now c.loop-id.id-index (record { uuid = 0; seq = 0 })
      c.args.out.now.items c.loop-id.out.items
      c.put_id.new.out.items c.loop-id-test.true c.loop-id.invariant.0 c.put_id.ensures.items,
  omega arith,
  omega arith,
  All-more IdHasRange c.args.ids.now c.loop-id.id-index (record { uuid = 0; seq = 0 })
      c.loop-id-test.true
      c.loop-id.invariant.3 c.put_id.ensures.fits,
)

pub returns-clause-fit : goal.returns-clause-fit
returns-clause-fit c =
    all_taken IdHasRange c.args.ids.now c.loop-id.id-index (omega arith) c.loop-id.invariant.3
