use Rattle.std.proofs.Common.{codes, rules}
use Rattle.job_release.proofs.FieldLists.{worded_four}
use Rattle.job_release.proofs.form.TaskForm.read.Goals as goal

pub returns : goal.returns
returns c = record {
  priority = _;
  rest = _;
  each_field = worded_four c.args.fields.now _ (codes "task") (c.is_word.ensures.0 (search rules)) c.in-len4-up.len_at_least;
  priority_is = c.in-Some.ensures;
  times = c.in-Some-read_times_of.ensures;
}
