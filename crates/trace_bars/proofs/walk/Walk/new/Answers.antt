use Rattle.std.proofs.Common.{length, ap, ◌∙◌}
use Rattle.std.proofs.lemmas.List.{length-map}
use Rattle.task_set.specs.TaskSet.{TaskData}
use Rattle.strong_apa.specs.State.{task_count}
use Rattle.live_core.specs.Live.{LiveData}
use Rattle.trace_losses.proofs.InUse.{all_at_first}
use Rattle.trace_bars.proofs.walk.Walk.new.Goals as goal

pub returns-clause-used : goal.returns-clause-used
returns-clause-used c =
    let tasks = c.args.set.now.tasks in
    all_at_first (length tasks) c.in_ok-core.core
    (ap (λ (core : LiveData). task_count core.links) c.in_ok-core.ensures ∙ length-map tasks (λ (task : TaskData). task.priority))
    (ap (λ (core : LiveData). core.in_use) c.in_ok-core.ensures)
