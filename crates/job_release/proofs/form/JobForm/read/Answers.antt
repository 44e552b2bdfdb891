use Rattle.std.proofs.Common.{codes, rules}
use Rattle.job_release.proofs.FieldLists.{worded_four}
use Rattle.job_release.proofs.form.JobForm.read.Goals as goal

pub returns : goal.returns
returns c = record {
  release = _;
  cost = _;
  rest = _;
  each_field = worded_four c.args.fields.now _ (codes "job") (c.is_word.ensures.0 (search rules)) c.in-len4-up.len_at_least;
  job_is = c.in-Some.ensures;
}
