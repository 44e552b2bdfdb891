use Rattle.text_fields.specs.EventText.{name_of}
use Rattle.schedule_picture.specs.Colours.{colour_of}
use Rattle.schedule_picture.proofs.Written.{stay_written}
use Rattle.schedule_picture.proofs.groups.write_stay.Goals as goal

pub returns : goal.returns
returns c =
    stay_written (colour_of c.args.t) (name_of c.args.sheet.now.set.now c.args.t) c.args.p c.args.part.0 c.args.part.1 _ _ _ _ _ _ _ _ _ _ _
    _
    c.in_ok-write_field.ensures c.in_ok-write_field-2.ensures c.in_ok-write_field-3.ensures
    c.in_ok-write_word.ensures (rw c.colour_of.ensures at c.in_ok-write_word-2.ensures) c.in_ok-write_word-3.ensures
    (rw (c.as_bytes.ensures.value, c.name.ensures.value) at c.in_ok-write_word-4.ensures)
    c.in_ok-write_field-4.ensures c.in_ok-write_field-5.ensures c.in_ok-write_field-6.ensures c.in_ok-write_word-5.ensures
