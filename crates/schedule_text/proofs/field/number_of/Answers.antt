use Rattle.std.proofs.Common.{arith, sym, ◌∙◌, ◌<◌, ◌^◌}
use Rattle.std.proofs.lemmas.Bool.{true≢false}
use Rattle.schedule_text.proofs.Fields.{leading_zero_none, number_matched}
use Rattle.schedule_text.proofs.field.number_of.Goals as goal

pub returns-then-has_leading_zero : goal.returns-then-has_leading_zero
returns-then-has_leading_zero c =
    let small : c.args.most < 2 ^ 64 = omega (arith, c.ranges.most) in
    leading_zero_none c.args.least c.args.most c.args.field.now small
    (c.has_leading_zero.ensures.0 c.if-has_leading_zero.true)

pub returns-else-has_leading_zero : goal.returns-else-has_leading_zero
returns-else-has_leading_zero c =
    let small : c.args.most < 2 ^ 64 = omega (arith, c.ranges.most) in
    number_matched c.args.least c.args.most c.args.field.now c.read_number.result small
    (λ leads. true≢false (sym (c.has_leading_zero.ensures.1 leads) ∙ c.if-has_leading_zero.false))
    c.read_number.ensures
