use Rattle.std.proofs.Common.{ap, sym, subst, ◌∙◌}
use Rattle.task_set.proofs.Added.{IsTaskSet-push}
use Rattle.task_set.proofs.Entries.{set_view-insert_entry}
use Rattle.task_set.proofs.Priorities.{priorities-with_task}
use Rattle.task_set.specs.TaskSet.{IsTaskSet, priorities}
use Rattle.task_set.proofs.set.TaskSet.store.Goals as goal

pub returns-clause-stored : goal.returns-clause-stored
returns-clause-stored c = set_view-insert_entry c.self.inside c.args.self.now c.in_ok-key.key _ c.args.name.now c.insert.new.self.entries
    c.self.view_is c.in_ok-key.ensures.ok c.requires.new_name c.in_ok-insert.ensures.entries

pub invariant_of-self-2 : goal.invariant_of-self-2
invariant_of-self-2 c = record {
  valid = subst IsTaskSet (sym (returns-clause-stored c))
      (IsTaskSet-push c.args.self.now _ (subst IsTaskSet c.self.view_is c.self.invariant.valid) c.requires);
  priorities =
      priorities-with_task c.args.self.now c.reserve.new.self.keys c.insert-2.new.self.keys _
      (c.reserve.ensures.keys ∙ c.self.invariant.priorities ∙ ap priorities c.self.view_is)
      c.requires.new_priority c.in_ok-insert-2.ensures.keys
      ∙ sym (ap priorities (returns-clause-stored c));
}
