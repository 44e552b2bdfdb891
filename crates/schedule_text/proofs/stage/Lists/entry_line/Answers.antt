use Rattle.std.proofs.lemmas.Result.{err_from_is_err_and}
use Rattle.std.proofs.Common.{rules, ◌<◌, length}
use Rattle.schedule_text.proofs.stage.Lists.entry_line.Goals as goal

pub returns-in_err-list_entry-clause-refused : goal.returns-in_err-list_entry-clause-refused
returns-in_err-list_entry-clause-refused c =
    let p = err_from_is_err_and c.from_residual.result c.from_residual.ensures.1 in
    let room : length c.args.self.now.entries.items < c.args.count = search rules in
    rw (p.1, p.2) (c.in_err-list_entry.ensures.refused c.args.count room)
