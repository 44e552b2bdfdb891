use Rattle.std.proofs.lemmas.Result.{err_from_is_err_and}
use Rattle.commands.proofs.Answered.{answers_fault}
use Rattle.command_line.specs.Watch.{IsWatchOf, IsTextOfWatch}
use Rattle.command_line.proofs.RunIsValid.{is_watch_of}
use Rattle.command_line.proofs.TextsMade.{answers_made}
use Rattle.command_line.proofs.watch.watched_text.Goals as goal

pub returns-in_err-input : goal.returns-in_err-input
returns-in_err-input g c =
    let p = err_from_is_err_and c.from_residual.result c.from_residual.ensures.1 in
    rw (p.1, p.2) (answers_fault c.args.bytes.now c.in_err-input.field-0.0 c.in_err-input.ensures.accepts c.in_err-input.ensures.refused
    c.in_err-input.ensures.refuses)

pub returns : goal.returns
returns g c =
    let input = c.in_ok-input.input in
    answers_made (IsTextOfWatch c.args.observers input.version input.set input.events) (IsWatchOf c.args.observers c.args.bytes.now)
    c.args.bytes.now c.text_of.result
    (λ put made. is_watch_of c.args.observers c.args.bytes.now put input.version input.set input.events c.in_ok-input.ensures.input made)
    c.text_of.ensures.text c.text_of.ensures.refused c.in_ok-input.ensures.refuses
