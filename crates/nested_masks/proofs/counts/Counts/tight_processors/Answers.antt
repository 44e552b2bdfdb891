use Rattle.nested_masks.proofs.Scanned.{union_none}
use Rattle.nested_masks.proofs.counts.Counts.tight_processors.Goals as goal

pub loop-u-init : goal.loop-u-init
loop-u-init c = union_none c.args.self.now c.empty-union.result c.empty-union.ensures
