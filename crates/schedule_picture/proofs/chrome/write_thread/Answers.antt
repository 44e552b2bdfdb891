use Rattle.schedule_picture.proofs.Traced.{thread_written}
use Rattle.schedule_picture.proofs.chrome.write_thread.Goals as goal

pub returns : goal.returns
returns c =
    thread_written c.args.p _ _ _ _ (rw c.thread_of.ensures at c.in_ok-write_field.ensures)
    c.in_ok-write_field-2.ensures c.in_ok-write_word.ensures
