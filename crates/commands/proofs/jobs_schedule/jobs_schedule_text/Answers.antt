use Rattle.std.proofs.lemmas.Result.{err_from_is_err_and}
use Rattle.commands.proofs.Answered.{answers_memory}
use Rattle.commands.proofs.JobsRefusals.{answers_fault}
use Rattle.commands.proofs.jobs_schedule.jobs_schedule_text.Goals as goal

pub returns-in-Err : goal.returns-in-Err
returns-in-Err c =
    let fault = c.in-Err.ensures in
    rw c.status_of.ensures (answers_fault c.args.bytes.now c.in-Err.fault fault.accepts fault.refused fault.refuses)

pub returns-in_err-text : goal.returns-in_err-text
returns-in_err-text c =
    let p = err_from_is_err_and c.from_residual.result c.from_residual.ensures.1 in
    rw (p.1, p.2) answers_memory

pub returns : goal.returns
returns c = record {
  makes = record {
    input = c.in-Ok.input;
    is_input = c.in-Ok.ensures.input;
    schedule = c.in_ok-text.ensures;
  };
  refused = tt;
  accepts = λ accepted. tt;
  refuses = λ expected why. c.in-Ok.ensures.refuses why.number why.cause.cause why.cause.refused;
}
