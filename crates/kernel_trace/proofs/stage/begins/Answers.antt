use Rattle.kernel_trace.proofs.FieldLists.{begins_by_first}
use Rattle.kernel_trace.proofs.stage.begins.Goals as goal

pub returns-in-len1-up : goal.returns-in-len1-up
returns-in-len1-up c = begins_by_first c.args.fields.now _ c.args.word.now c.is_word.result c.in-len1-up.len_at_least c.is_word.ensures
