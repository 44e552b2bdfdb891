use Rattle.std.proofs.lemmas.Result.{err_from_is_err_and}
use Rattle.schedule_text.proofs.stage.Lists.context_line.Goals as goal

pub returns-in_err-list_context-clause-refused : goal.returns-in_err-list_context-clause-refused
returns-in_err-list_context-clause-refused c =
    let p = err_from_is_err_and c.from_residual.result c.from_residual.ensures.1 in
    rw (p.1, p.2)
    (c.in_err-list_context.ensures.refused c.args.self.now.version c.args.self.now.entries.items)

pub returns-in_ok-list_context-clause-read : goal.returns-in_ok-list_context-clause-read
returns-in_ok-list_context-clause-read c =
    rw c.requires.goes
    (c.in_ok-list_context.ensures.read c.args.self.now.version c.args.self.now.entries.items)
