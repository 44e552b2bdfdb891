use Rattle.std.proofs.Common.{arith}
use Rattle.kernel_trace.proofs.FieldCuts.{no_field, first_field_is}
use Rattle.kernel_trace.proofs.fields.first_field.Goals as goal

pub returns-then-is_empty : goal.returns-then-is_empty
returns-then-is_empty c = no_field c.args.bytes.now _ c.blanks.result c.blanks.ensures.value c.split_at.ensures.back (grind arith)

pub returns : goal.returns
returns c =
    first_field_is c.args.bytes.now _ _ _ c.blanks.result c.before_blank.result c.blanks.ensures.value c.split_at.ensures.back
    c.before_blank.ensures.value c.split_at-2.ensures.front c.split_at-2.ensures.back (grind arith)
