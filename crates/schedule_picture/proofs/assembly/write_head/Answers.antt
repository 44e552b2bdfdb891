use Rattle.schedule_picture.specs.Group.{span_of}
use Rattle.schedule_picture.proofs.Written.{head_written}
use Rattle.schedule_picture.proofs.assembly.write_head.Goals as goal

pub returns : goal.returns
returns c =
    head_written c.args.top c.args.page.wide c.args.high c.args.sheet.now.window.from (span_of c.args.sheet.now.window)
    c.args.eighths _ _ _ _ _ _ _ _
    c.in_ok-write_field.ensures c.in_ok-write_field-2.ensures c.in_ok-write_field-3.ensures c.in_ok-write_field-4.ensures
    (rw c.span.ensures.value at c.in_ok-write_field-5.ensures) c.in_ok-write_field-6.ensures c.in_ok-write_word.ensures
