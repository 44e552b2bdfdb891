use Rattle.std.proofs.lemmas.Result.{err_from_is_err_and}
use Rattle.schedule_text.proofs.ReplyFields.{waiting_refused}
use Rattle.schedule_text.proofs.reply.waiting_remasked.Goals as goal

pub returns-in_err-came-clause-refused : goal.returns-in_err-came-clause-refused
returns-in_err-came-clause-refused c =
    let p = err_from_is_err_and c.from_residual.result c.from_residual.ensures.1 in
    rw (p.1, p.2) (waiting_refused c.args.set.now c.args.rest.now _ c.in_err-came.field-0.0 c.in-len1-up.len_at_least
    (c.is_word.ensures.0 c.if-is_word.true) c.in_err-came.ensures.refused)
