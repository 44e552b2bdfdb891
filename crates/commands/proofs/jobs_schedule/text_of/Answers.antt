use Rattle.commands.proofs.LegalSchedules.{legal_is_valid}
use Rattle.commands.proofs.RunSchedules.{run_is_writable}
use Rattle.commands.proofs.jobs_schedule.text_of.Goals as goal

pub text_of_history-requires : goal.text_of_history-requires
text_of_history-requires c =
    let run = c.in_ok-run.ensures in
    rw (c.set-2.ensures.value, c.history.ensures.value, c.core.ensures.value)
    (run_is_writable c.args.input.now c.in_ok-run.run'.core.history c.set.ensures.valid
    (rw c.set.ensures.value at c.read_priorities.ensures) c.core.ensures.valid.core.fits run.run.runs run.writable)

pub returns : goal.returns
returns c =
    let run = c.in_ok-run.ensures in
    let history = c.in_ok-run.run'.core.history in
    let writable =
    run_is_writable c.args.input.now history c.set.ensures.valid (rw c.set.ensures.value at c.read_priorities.ensures)
    c.core.ensures.valid.core.fits run.run.runs run.writable in
    record {
      history = history;
      runs = run.run.runs;
      asked = run.run.asked;
      writable = run.writable;
      is_text = rw (c.set-2.ensures.value, c.history.ensures.value, c.core.ensures.value) at c.in_ok-text.ensures;
      valid = (legal_is_valid 1 c.args.input.now.set history writable).1;
    }
