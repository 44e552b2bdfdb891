use Rattle.text_fields.specs.EventText.{name_of}
use Rattle.schedule_picture.proofs.Traced.{event_written}
use Rattle.schedule_picture.proofs.chrome.write_stay_event.Goals as goal

pub returns : goal.returns
returns c =
    event_written (name_of c.args.sheet.now.set.now c.args.t) c.args.p c.args.extent.0 c.args.extent.1 _ _ _ _ _ _ _
    c.in_ok-write_word.ensures (rw (c.as_bytes.ensures.value, c.name.ensures.value) at c.in_ok-write_word-2.ensures)
    (rw c.thread_of.ensures at c.in_ok-write_field.ensures) c.in_ok-write_field-2.ensures c.in_ok-write_field-3.ensures
    c.in_ok-write_word-3.ensures
