use Rattle.std.proofs.Common.{arith}
use Rattle.record_codec.proofs.Sizes.{spellings_have_their_size}
use Rattle.record_codec.proofs.spell.encode.Goals as goal

pub put_record-requires-clause-room : goal.put_record-requires-clause-room
put_record-requires-clause-room c =
    let size = spellings_have_their_size c.args.r.now in omega (arith, c.in_ok-reserve.ensures.ok)
