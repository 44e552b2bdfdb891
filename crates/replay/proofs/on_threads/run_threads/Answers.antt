use Rattle.replay.proofs.Crews.{crew_seated, crew_done}
use Rattle.replay.proofs.on_threads.run_threads.Goals as goal

pub close_by_last-requires-clause-seated : goal.close_by_last-requires-clause-seated
close_by_last-requires-clause-seated g c =
    crew_seated c.args.shared.now.queues.now c.args.shared.now.slots.now _ 0 c.start_all-workers.result.0.items
    c.start_all-workers.result.1.items c.start_all-workers.ensures.crew

pub join_all-processors-requires-clause-crew : goal.join_all-processors-requires-clause-crew
join_all-processors-requires-clause-crew g c =
    crew_done c.args.shared.now.queues.now c.args.shared.now.slots.now _ 0 c.start_all-workers.result.0.items
    c.start_all-workers.result.1.items c.close_by_last.new.left.items c.start_all-workers.ensures.crew c.close_by_last.ensures.same
    c.close_by_last.ensures.done
