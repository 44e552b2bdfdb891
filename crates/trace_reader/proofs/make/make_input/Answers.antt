use Rattle.std.proofs.Common.{arith}
use Rattle.trace_reader.proofs.EventsDrawn.{drawn_are_posted, drawn_are_of_version}
use Rattle.trace_reader.proofs.make.make_input.Goals as goal

pub new-requires-clause-events : goal.new-requires-clause-events
new-requires-clause-events c = drawn_are_posted c.in_ok-set.set c.args.number c.args.tasks c.args.events c.in_ok-posted.posted.items
    c.in_ok-set.ensures.count (omega arith)
    (c.in_ok-posted.ensures c.args.number c.in_ok-set.ensures.at)

pub new-requires-clause-of_version : goal.new-requires-clause-of_version
new-requires-clause-of_version c =
    drawn_are_of_version _ c.args.number c.args.tasks c.args.events c.in_ok-posted.posted.items
    (c.in_ok-posted.ensures c.args.number c.in_ok-set.ensures.at)

pub returns-clause-generated : goal.returns-clause-generated
returns-clause-generated c =
    let drawn = c.in_ok-posted.ensures c.args.number c.in_ok-set.ensures.at in
    rw c.new.ensures record {
      processor_count = c.in_ok-set.ensures.processors;
      task_count = c.in_ok-set.ensures.count;
      event_count = drawn.number_of_events;
      each_task = c.in_ok-set.ensures.each_task;
      each_event = drawn.each_event;
      one_stream = drawn.one_stream;
    }
