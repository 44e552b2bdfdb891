use Rattle.std.proofs.Common.{ap, ◌∙◌, rules, ◌==◌}
use Rattle.std.proofs.lemmas.Iterator.Splits.{YieldsList-from_slice_split}
use Rattle.std.proofs.lemmas.Iterator.Consumers.{YieldsList-end}
use Rattle.text_fields.specs.Fields.{texts}
use Rattle.schedule_text.proofs.spacing.short_fields.Goals as goal

pub returns : goal.returns
returns c =
    let cut = YieldsList-from_slice_split _ (λ byte. byte == 32) c.args.text.now (search rules) (search rules)
    (search rules) (λ x b q k. search rules) in
    let all = YieldsList-end cut c.loop-field.yielded _ c.loop-field.yielded_by _ _ c.in-None.is c.next.ensures.steps in
    ap texts c.as_slice.ensures.value ∙ c.loop-field.invariant ∙ all.0
