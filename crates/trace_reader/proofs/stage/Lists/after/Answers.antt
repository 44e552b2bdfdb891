use Rattle.std.proofs.Common.{◌≡◌, refl, inl, rules}
use Rattle.std.proofs.lemmas.Result.{on_ok_weaker}
use Rattle.trace_reader.proofs.Outcomes.{task_outcome, other_outcome}
use Rattle.trace_reader.proofs.Refused.{fault_through}
use Rattle.trace_reader.proofs.stage.Lists.after.Goals as goal

pub returns-then-is_end-clause-read : goal.returns-then-is_end-clause-read
returns-then-is_end-clause-read c = let end = rw c.if-is_end.true at c.is_end.ensures in rw c.if-self.false (inl (end, refl))

pub returns-then-is_for_task-clause-read : goal.returns-then-is_for_task-clause-read
returns-then-is_for_task-clause-read c =
    let same : c.deref.result.now ≡ c.args.self.now.events.items = search rules in
    let task = rw (c.if-is_for_task.true, same) at c.is_for_task.ensures in
    let events = task.0 in
    rw (c.if-self.false, events) (on_ok_weaker c.add_task.result (task_outcome _ _ _ _ (refl, task.1) _) c.add_task.ensures.read)

pub returns-then-is_for_task-clause-refused : goal.returns-then-is_for_task-clause-refused
returns-then-is_for_task-clause-refused c =
    let same : c.deref.result.now ≡ c.args.self.now.events.items = search rules in
    let task = rw (c.if-is_for_task.true, same) at c.is_for_task.ensures in
    rw c.if-self.false (fault_through (task_outcome _ _ _ _ task) c.add_task.result c.add_task.ensures.refused)

pub returns-else-is_for_task-clause-read : goal.returns-else-is_for_task-clause-read
returns-else-is_for_task-clause-read c =
    let not_end = rw c.if-is_end.false at c.is_end.ensures in
    let same : c.deref.result.now ≡ c.args.self.now.events.items = search rules in
    let not_task = rw (c.if-is_for_task.false, same) at c.is_for_task.ensures in
    rw c.if-self.false (on_ok_weaker c.list_event.result (other_outcome _ _ _ _ not_end not_task _) c.list_event.ensures.read)

pub returns-else-is_for_task-clause-refused : goal.returns-else-is_for_task-clause-refused
returns-else-is_for_task-clause-refused c =
    let not_end = rw c.if-is_end.false at c.is_end.ensures in
    let same : c.deref.result.now ≡ c.args.self.now.events.items = search rules in
    let not_task = rw (c.if-is_for_task.false, same) at c.is_for_task.ensures in
    rw c.if-self.false (fault_through (other_outcome _ _ _ _ not_end not_task) c.list_event.result c.list_event.ensures.refused)
