use Rattle.job_release.proofs.FieldLists.{begins_by_first}
use Rattle.job_release.proofs.stage.begins_task.Goals as goal

pub returns-in-len1-up : goal.returns-in-len1-up
returns-in-len1-up c = begins_by_first c.args.fields.now _ c.is_word.result c.in-len1-up.len_at_least c.is_word.ensures
