use Rattle.std.proofs.Common.{sym, ◌∙◌}
use Rattle.std.proofs.lemmas.Bool.{true≢false}
use Rattle.nested_masks.proofs.Scanned.{least_held, none_displaced, not_displaced}
use Rattle.nested_masks.proofs.counts.Counts.displaced.Goals as goal

pub returns-in_default : goal.returns-in_default
returns-in_default c = none_displaced c.args.self.now c.len-valid.ensures.valid c.args.node c.args.t c.in_default.ensures

pub returns-else-is_more_urgent : goal.returns-else-is_more_urgent
returns-else-is_more_urgent c = not_displaced c.args.self.now c.len-valid.ensures.valid c.args.node c.args.t c.in-Some.out
    c.requires.number c.requires.absent
    (least_held c.args.self.now c.len-valid.ensures.valid c.args.node c.in-Some.out c.in-Some.ensures)
    (λ urgent. true≢false (sym (c.is_more_urgent.ensures.1 urgent) ∙ c.if-is_more_urgent.false))
