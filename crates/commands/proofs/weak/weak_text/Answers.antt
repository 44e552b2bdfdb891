use Rattle.std.proofs.lemmas.Result.{err_from_is_err_and}
use Rattle.commands.proofs.Answered.{answers_fault, answers_memory}
use Rattle.commands.proofs.weak.weak_text.Goals as goal

pub returns-in_err-input : goal.returns-in_err-input
returns-in_err-input c =
    let p = err_from_is_err_and c.from_residual.result c.from_residual.ensures.1 in
    rw (p.1, p.2) (answers_fault c.args.bytes.now c.in_err-input.field-0.0 c.in_err-input.ensures.accepts c.in_err-input.ensures.refused
    c.in_err-input.ensures.refuses)

pub returns-in_err-text : goal.returns-in_err-text
returns-in_err-text c =
    let p = err_from_is_err_and c.from_residual-in_err-text.result c.from_residual-in_err-text.ensures.1 in
    rw (p.1, p.2) answers_memory

pub returns : goal.returns
returns c = record {
  makes = record {
    version = c.in_ok-input.input.version;
    set = c.in_ok-input.input.set;
    events = c.in_ok-input.input.events;
    input = c.in_ok-input.ensures.input;
    compared = c.in_ok-text.ensures;
  };
  refused = tt;
  accepts = λ accepted. tt;
  refuses = λ expected why. c.in_ok-input.ensures.refuses why.number why.cause.cause why.cause.refused;
}
