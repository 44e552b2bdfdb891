use Rattle.std.proofs.Common.{sym, ◌∙◌}
use Rattle.std.proofs.lemmas.Bool.{true≢false}
use Rattle.affinity_mask.proofs.CanonicalLists.{written_so, not_canonical, otherwise}
use Rattle.affinity_mask.proofs.canonical_list.any_list_of.Goals as goal

pub returns-in_default : goal.returns-in_default
returns-in_default c =
    not_canonical c.args.text.now c.in_default.field-0 c.in_default.ensures.refused

pub returns-then-is_list : goal.returns-then-is_list
returns-then-is_list c =
    written_so c.args.text.now c.in-Ok.set c.in-Ok.ensures.read c.count-valid.ensures.valid
    (c.is_list.ensures.0 c.if-is_list.true)

pub returns-else-is_list : goal.returns-else-is_list
returns-else-is_list c =
    otherwise c.args.text.now c.in-Ok.set c.in-Ok.ensures.read
    (λ same. true≢false (sym (c.is_list.ensures.1 same) ∙ c.if-is_list.false))
