use Rattle.schedule_text.proofs.Written.{linked_written, waiting_written}
use Rattle.schedule_text.proofs.write.write_remasked.Goals as goal

pub returns-in_ok-write_gone-in-Some : goal.returns-in_ok-write_gone-in-Some
returns-in_ok-write_gone-in-Some c =
    linked_written c.args.set.now c.args.gone.now c.in-Some.gone c.args.came.now _ _ _ _ c.in-Some.is
    c.in_ok-write_gone-in-Some.ensures c.write_came.ensures

pub returns-in-None : goal.returns-in-None
returns-in-None c =
    waiting_written c.args.set.now c.args.gone.now c.args.came.now _ _ _ c.in-None.is c.write_came-in-None.ensures
