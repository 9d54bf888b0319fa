-- Each part is as it was.
use Rattle.snapshot_chain.proofs.laws.room_is_no_part.Goals as goal

pub returns : goal.returns
returns c = λ chain history freeze_room merge_room stands. record {
  present = stands.present;
  blocks = stands.blocks;
  ascending = stands.ascending;
  distinct = stands.distinct;
  live = stands.live;
  frozen = stands.frozen;
  free = stands.free;
}
