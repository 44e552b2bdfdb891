use Rattle.std.proofs.Common.{ℕ, ◌+◌, length, ap, subst}
use Rattle.std.proofs.lemmas.Result.{err_from_is_err_and}
use Rattle.kernel_trace.specs.Passage.{IsTaskTraceText, IsTaskTraceRefused}
use Rattle.commands.specs.ImportJobs.{IsHorizon, IsRefusedList, IsImportedJobsOf}
use Rattle.commands.proofs.Answered.{answers_memory}
use Rattle.commands.proofs.ImportedJobs.{answers_trace, answers_jobs, answers_no_list}
use Rattle.commands.proofs.TraceRefusals.{answers_fault}
use Rattle.commands.proofs.import_jobs.imported_jobs_text.Goals as goal

pub returns-in-Err : goal.returns-in-Err
returns-in-Err c =
    let bytes = c.args.bytes.now in
    rw c.status_of.ensures
    (answers_trace bytes _
    (answers_fault (IsTaskTraceRefused bytes) {Makes = IsImportedJobsOf bytes} (IsTaskTraceText bytes)
    c.in-Err.fault c.in-Err.ensures.accepts
    c.in-Err.ensures.refused c.in-Err.ensures.refuses))

pub found_in-requires : goal.found_in-requires
found_in-requires c = c.in-Ok.ensures.passages.in_order

pub returns-in_err-found : goal.returns-in_err-found
returns-in_err-found c =
    let p = err_from_is_err_and c.from_residual.result c.from_residual.ensures.1 in
    rw (p.1, p.2) answers_memory

pub returns-in-Some : goal.returns-in-Some
returns-in-Some c =
    let found = c.in_ok-found.found in
    let jobs = found.jobs.items in
    let kind = c.in-Some.kind in
    answers_no_list c.args.bytes.now c.in-Ok.trace c.in-Ok.ensures.trace c.in-Ok.ensures.accepts c.in-Ok.ensures.refuses jobs
    c.in_ok-found.ensures.jobs (c.line_count-line.result + 1) kind (ap (λ (n : ℕ). n + 1) c.line_count-line.ensures.count)
    (subst (λ (span : ℕ). IsRefusedList span (length jobs) kind) c.in_ok-found.ensures.span c.in-Some.ensures)

pub returns-in_err-text : goal.returns-in_err-text
returns-in_err-text c =
    let p = err_from_is_err_and c.from_residual-in_err-text.result c.from_residual-in_err-text.ensures.1 in
    rw (p.1, p.2) answers_memory

pub returns : goal.returns
returns c =
    answers_jobs c.args.bytes.now c.in-Ok.trace c.in-Ok.ensures.trace c.in-Ok.ensures.accepts c.in-Ok.ensures.refuses
    c.in_ok-found.found.jobs.items
    c.in_ok-found.ensures.jobs (subst IsHorizon c.in_ok-found.ensures.span c.in_default.ensures.0) c.in_default.ensures.1 c.in_ok-text.text
    c.in-Ok.ensures.passages c.in_ok-text.ensures
