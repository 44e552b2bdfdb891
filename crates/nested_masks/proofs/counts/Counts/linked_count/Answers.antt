use Rattle.std.proofs.Common.{◌∙◌}
use Rattle.nested_masks.specs.Views.{counts_view}
use Rattle.nested_masks.proofs.Tallied.{all_within}
use Rattle.nested_masks.proofs.counts.Counts.linked_count.Goals as goal

pub returns : goal.returns
returns c = c.within.ensures
    ∙ rw (← c.self.view_is) (all_within (counts_view c.self.inside) c.self.invariant.counted c.first.result c.first.ensures.contents)
