use Rattle.std.proofs.Common.{arith}
use Rattle.std.proofs.lemmas.Bool.Decides.{when_true, when_false}
use Rattle.std.proofs.lemmas.Int.Digits.{digits_more}
use Rattle.std.proofs.lemmas.Str.{digit_value_digit}
use Rattle.text_fields.proofs.Digits.{other_byte, too_large, value_with}
use Rattle.text_fields.proofs.number.read_number.Goals as goal

pub returns-then-not-is_ascii_digit : goal.returns-then-not-is_ascii_digit
returns-then-not-is_ascii_digit c =
    other_byte c.args.field.now c.loop-byte.byte-index c.args.least c.args.most c.loop-byte-test.true
    (when_false _ _ c.if-not-is_ascii_digit.true c.is_ascii_digit.ensures.cases)

pub returns-then-value-most : goal.returns-then-value-most
returns-then-value-most c =
    too_large c.args.field.now c.loop-byte.byte-index c.loop-byte.value c.args.least c.args.most c.loop-byte-test.true
    c.loop-byte.invariant.1 (omega arith)

pub returns-then-digit-most : goal.returns-then-digit-most
returns-then-digit-most c =
    too_large c.args.field.now c.loop-byte.byte-index c.loop-byte.value c.args.least c.args.most c.loop-byte-test.true
    c.loop-byte.invariant.1 (omega arith)

pub loop-byte-preserved : goal.loop-byte-preserved
loop-byte-preserved c =
    let digit = when_true _ _ c.if-not-is_ascii_digit.false c.is_ascii_digit.ensures.cases in (
      digits_more 10 c.args.field.now c.loop-byte.byte-index c.loop-byte-test.true c.loop-byte.invariant.0
          (omega (arith, digit.1, digit_value_digit _ digit)),
      value_with c.args.field.now c.loop-byte.byte-index c.loop-byte.value c.loop-byte-test.true c.loop-byte.invariant.1 digit,
      omega arith,
    )
