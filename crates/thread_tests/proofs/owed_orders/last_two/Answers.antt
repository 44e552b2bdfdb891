use Rattle.std.proofs.Common.{Some}
use Rattle.std.proofs.lemmas.List.Elements.{All-pop}
use Rattle.replay.specs.Driving.{IsDone}
use Rattle.thread_tests.proofs.owed_orders.last_two.Goals as goal

pub returns-clause-first : goal.returns-clause-first
returns-clause-first g c =
    let P = IsDone c.args.queues.now c.args.slots.now in
    let others = All-pop P c.args.processors.items c.pop.new.self.items (Some c.in-Some-Some.second)
    c.in-Some-Some.ensures.items c.requires in
    (All-pop P c.pop.new.self.items c.pop-2.new.self.items (Some c.in-Some-Some.first) c.in-Some-Some.ensures'.items others.0).1.seated

pub returns-clause-second : goal.returns-clause-second
returns-clause-second g c =
    let P = IsDone c.args.queues.now c.args.slots.now in
    (All-pop P c.args.processors.items c.pop.new.self.items (Some c.in-Some-Some.second) c.in-Some-Some.ensures.items c.requires).1.seated
