use Rattle.std.proofs.Common.{ap, sym, ◌∙◌, Some}
use Rattle.std.specs.Option.{option_map}
use Rattle.std.specs.Map.Iter.{deref_pair}
use Rattle.task_set.proofs.Entries.{name_read}
use Rattle.task_set.proofs.set.TaskSet.name.Goals as goal

pub returns : goal.returns
returns c =
    rw (← c.self.view_is)
    (name_read c.self.inside.tasks.entries c.args.t _ (sym c.get_index.ensures.entry ∙ ap (option_map deref_pair) c.unwrap.ensures)
    ∙ ap Some (sym c.as_str.ensures.value))
