use Rattle.schedule_picture.proofs.Written.{bar_written}
use Rattle.schedule_picture.proofs.groups.write_bar.Goals as goal

pub returns : goal.returns
returns c =
    bar_written c.args.k c.args.part.0 c.args.part.1 c.args.colour.now _ _ _ _ _ _ _ c.in_ok-write_field.ensures
    c.in_ok-write_field-2.ensures c.in_ok-write_field-3.ensures
    c.in_ok-write_word.ensures c.in_ok-write_word-2.ensures c.in_ok-write_word-3.ensures
