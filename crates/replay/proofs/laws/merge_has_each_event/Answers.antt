use Rattle.replay.proofs.MergedCounts.{merge_length}
use Rattle.replay.proofs.laws.merge_has_each_event.Goals as goal

pub returns : goal.returns
returns c = merge_length
