-- A set of tasks with one task more.
use Rattle.std.proofs.Common.{◌<◌, [], ◌∷◌, length, arith, length-append}
use Rattle.std.proofs.lemmas.List.Elements.{All-push}
use Rattle.std.proofs.lemmas.List.Quantifiers.{all_pairs_push}
use Rattle.task_set.specs.Name.{IsName}
use Rattle.task_set.specs.TaskSet.{TaskData, SetData, with_task, IsTaskSet, IsMask, Differ}
use Rattle.task_set.specs.Refusal.{CanAdd}

pub IsTaskSet-push : (s : SetData) (task : TaskData) → IsTaskSet s → CanAdd s task → IsTaskSet (with_task s task)
IsTaskSet-push s task valid can = record {
  processors = valid.processors;
  count = let room : length s.tasks < 1024 = can.room in omega (arith, length-append s.tasks (task ∷ []));
  names = All-push (λ t. IsName t.name) s.tasks task valid.names can.name;
  differ = all_pairs_push Differ s.tasks task valid.differ
      (λ k d lt. record { names = can.new_name k d lt; priorities = can.new_priority k d lt });
  masks = All-push (λ t. IsMask s.processors t.mask) s.tasks task valid.masks can.mask;
}
