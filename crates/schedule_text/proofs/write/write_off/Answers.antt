use Rattle.schedule_text.proofs.Written.{moved_written, unmoved_written}
use Rattle.schedule_text.proofs.write.write_off.Goals as goal

pub returns-in_ok-write_name-in-Some : goal.returns-in_ok-write_name-in-Some
returns-in_ok-write_name-in-Some c =
    moved_written c.args.set.now c.args.moved.now c.in-Some.moved _ _ _ _ _ c.in-Some.is
    c.in_ok-write_word-in-Some.ensures c.in_ok-write_name-in-Some.ensures c.write_came.ensures

pub returns-in-None : goal.returns-in-None
returns-in-None c =
    unmoved_written c.args.set.now c.args.moved.now _ _ _ c.in-None.is c.write_word-in-None.ensures
