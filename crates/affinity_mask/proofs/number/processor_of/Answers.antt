use Rattle.std.proofs.Common.{arith, ◌+◌}
use Rattle.std.proofs.lemmas.Str.Parse.{digits_value-take-le}
use Rattle.affinity_mask.proofs.Numbers.{digit-range, value-more}
use Rattle.affinity_mask.proofs.number.processor_of.Goals as goal

pub overflow_sub-value : goal.overflow_sub-value
overflow_sub-value c = (digit-range c.args.number.now c.loop-digit.digit-index c.requires.1 c.loop-digit-test.true).0

pub overflow_add-value : goal.overflow_add-value
overflow_add-value c =
    let range = digit-range c.args.number.now c.loop-digit.digit-index c.requires.1 c.loop-digit-test.true in
    omega (arith, range.1, c.loop-digit.invariant.1)

pub returns-then-value-gt63 : goal.returns-then-value-gt63
returns-then-value-gt63 c =
    let i = c.loop-digit.digit-index in
    let number = c.args.number.now in
    omega (
      arith,
      c.if-value-gt63.true,
      value-more number i c.loop-digit.value c.requires.1 c.loop-digit-test.true c.loop-digit.invariant.0,
      digits_value-take-le 10 number (i + 1) (omega arith),
    )

pub loop-digit-preserved : goal.loop-digit-preserved
loop-digit-preserved c = (
  value-more c.args.number.now c.loop-digit.digit-index c.loop-digit.value c.requires.1 c.loop-digit-test.true
      c.loop-digit.invariant.0,
  c.if-value-gt63.false,
)
