use Rattle.schedule_text.proofs.Written.{entry_written}
use Rattle.schedule_text.proofs.write.write_entry.Goals as goal

pub returns : goal.returns
returns c =
    entry_written c.args.set.now c.args.entry.now _ _ _ _ _ _ _ c.in_ok-write_number.ensures
    c.in_ok-push.ensures.items c.in_ok-write_event_text.ensures c.in_ok-push-2.ensures.items
    c.in_ok-write_reply.ensures c.in_ok-push-3.ensures.items
