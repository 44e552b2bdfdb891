use Rattle.replay.proofs.OneStream.{merge_in_order}
use Rattle.replay.proofs.laws.merge_of_one_stream_is_in_order.Goals as goal

pub returns : goal.returns
returns c = merge_in_order
