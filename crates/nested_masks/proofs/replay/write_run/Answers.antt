use Rattle.nested_masks.proofs.Replayed.{written_start, written_more, events_more, text_written, event_by_counts}
use Rattle.nested_masks.proofs.replay.write_run.Goals as goal

pub loop-posted-init : goal.loop-posted-init
loop-posted-init c = rw (c.requires.start, c.in_ok-write_head.ensures)
    (rw (c.events.ensures.value, c.events-posted-items.ensures.value, c.requires.empty) (written_start c.args.input.now.set _))

pub write_step-requires-clause-same : goal.write_step-requires-clause-same
write_step-requires-clause-same c = rw c.set.ensures.value c.loop-posted.invariant.same

pub write_step-requires-clause-event : goal.write_step-requires-clause-event
write_step-requires-clause-event c =
    let valid = c.set.ensures.valid in
    let lt = rw c.events-posted-items.ensures.value at c.loop-posted-test.true in
    let here = rw c.events-posted-items.ensures.value at c.posted-item.is in
    event_by_counts c.args.input.now.set c.args.input.now.version _ c.posted-item.result.event c.requires.version
    c.loop-posted.invariant.same
    (rw (← here) at (valid.of_version c.loop-posted.posted-index c.posted-item.result lt))
    (rw (← here) at ((valid.each_event c.loop-posted.posted-index c.posted-item.result lt).event.0))

pub loop-posted-preserved : goal.loop-posted-preserved
loop-posted-preserved c = rw (events_more c.events-posted-items.result.now c.loop-posted.posted-index c.posted-item.result
    c.loop-posted-test.true c.posted-item.is)
    (written_more c.args.input.now.set _ c.posted-item.result.event _ c.loop-posted.nested _ c.write_step.new.nested _
    c.loop-posted.invariant (rw c.set.ensures.value at c.in_ok-write_step.ensures))

pub returns : goal.returns
returns c = rw (← c.events-posted-items.ensures.value)
    (text_written c.args.input.now.set c.events-posted-items.result.now c.loop-posted.posted-index c.loop-posted.nested
    c.loop-posted.text.items _ c.loop-posted-test.false c.loop-posted.invariant c.in_ok-extend_from_slice.ensures.items)
