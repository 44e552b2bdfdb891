use Rattle.std.proofs.Common.{sym, ◌∙◌}
use Rattle.nested_masks.proofs.Scanned.{enters_where}
use Rattle.nested_masks.proofs.counts.Counts.may_enter.Goals as goal

pub returns : goal.returns
returns c = enters_where c.args.self.now c.mask.ensures.valid c.args.w c.args.tight c.requires.number c.requires.union
    (sym c.is_ready.ensures ∙ c.if-not-is_ready.false) (sym c.is_linked.ensures ∙ c.if-is_linked.false) c.within.result
    (rw c.mask.ensures.value at c.within.ensures)
