use Rattle.std.proofs.Common.{◌∙◌}
use Rattle.weak_apa.proofs.Counted.{counted}
use Rattle.weak_apa.proofs.comparison.linked_count.Goals as goal

pub returns : goal.returns
returns c = c.count.ensures.value ∙ counted c.args.links.now c.processors-valid.ensures.valid c.linked.result c.linked.ensures
