use Rattle.std.proofs.Common.{ap, ◌∙◌, rules}
use Rattle.std.specs.Prelude.{filter, not}
use Rattle.std.proofs.lemmas.Iterator.Splits.{YieldsList-from_slice_split}
use Rattle.std.proofs.lemmas.Iterator.Consumers.{YieldsList-end}
use Rattle.text_fields.specs.Lines.{is_blank, is_nothing}
use Rattle.text_fields.specs.Fields.{texts}
use Rattle.text_fields.proofs.fields.fields.Goals as goal

pub returns : goal.returns
returns c =
    let cut = YieldsList-from_slice_split _ is_blank c.args.line.now (search rules) (search rules)
    (search rules) (λ x b q k. search rules) in
    let all = YieldsList-end cut c.loop-field.yielded _ c.loop-field.yielded_by _ _ c.in-None.is c.next.ensures.steps in
    ap texts c.as_slice.ensures.value ∙ c.loop-field.invariant ∙ ap (filter (λ piece. not (is_nothing piece))) all.0
