use Rattle.schedule_text.proofs.Written.{schedule_written}
use Rattle.schedule_text.proofs.write.write_schedule.Goals as goal

pub returns : goal.returns
returns c =
    schedule_written c.args.version c.args.set.now c.args.entries.now c.args.contexts.now _ _ _ _ _ _ _ _ _ c.new-text.ensures.items
    c.in_ok-write_numbered_line.ensures c.in_ok-write_processors_line.ensures c.in_ok-write_task_lines.ensures.written
    c.in_ok-write_numbered_line-2.ensures c.in_ok-write_entries.ensures c.in_ok-write_numbered_line-3.ensures
    c.in_ok-write_contexts.ensures c.in_ok-extend_from_slice.ensures.items
