use Rattle.schedule_picture.proofs.Written.{absence_written}
use Rattle.schedule_picture.proofs.groups.write_absence.Goals as goal

pub returns : goal.returns
returns c =
    absence_written c.args.p c.args.part.0 c.args.part.1 _ _ _ _ _ c.in_ok-write_field.ensures c.in_ok-write_field-2.ensures
    c.in_ok-write_field-3.ensures c.in_ok-write_word.ensures
