use Rattle.std.proofs.lemmas.Result.{err_from_is_err_and}
use Rattle.kernel_trace.specs.Passage.{IsTaskTraceText, IsTaskTraceRefused}
use Rattle.commands.proofs.Answered.{answers_memory}
use Rattle.commands.proofs.TraceRefusals.{answers_fault}
use Rattle.commands.proofs.show.show_text.Goals as goal

pub returns-in-Err : goal.returns-in-Err
returns-in-Err c =
    rw c.status_of.ensures (answers_fault (IsTaskTraceRefused c.args.bytes.now) (IsTaskTraceText c.args.bytes.now) c.in-Err.fault
    c.in-Err.ensures.accepts c.in-Err.ensures.refused c.in-Err.ensures.refuses)

pub shown-requires : goal.shown-requires
shown-requires c = c.in-Ok.ensures.passages.in_order

pub returns-in_err-text : goal.returns-in_err-text
returns-in_err-text c =
    let p = err_from_is_err_and c.from_residual.result c.from_residual.ensures.1 in
    rw (p.1, p.2) answers_memory

pub returns : goal.returns
returns c = record {
  makes = record {
    trace = c.in-Ok.trace;
    is_text = c.in-Ok.ensures.trace;
    is_trace = c.in-Ok.ensures.passages;
    shown = c.in_ok-text.ensures;
  };
  refused = tt;
  accepts = λ accepted. tt;
  refuses = λ expected why. c.in-Ok.ensures.refuses why.number why.cause.cause why.cause.refused;
}
