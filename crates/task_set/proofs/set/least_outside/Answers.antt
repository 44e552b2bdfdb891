use Rattle.task_set.proofs.Outside.{outside_by}
use Rattle.task_set.proofs.set.least_outside.Goals as goal

pub returns : goal.returns
returns c = outside_by c.args.mask.now c.args.m c.first.result c.minus.result c.first.ensures.contents c.minus.ensures c.least.result
    c.least.ensures.none c.least.ensures.least
