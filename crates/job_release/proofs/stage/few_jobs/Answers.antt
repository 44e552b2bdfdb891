use Rattle.std.proofs.Common.{◌≡◌, sym, ap, ◌∙◌, arith, length}
use Rattle.job_release.specs.Jobs.{periodic_jobs}
use Rattle.job_release.specs.JobText.{jobs_of_times}
use Rattle.job_release.proofs.Inputs.{length-jobs_of_times}
use Rattle.job_release.proofs.stage.few_jobs.Goals as goal

pub returns-in_default-clause-found : goal.returns-in_default-clause-found
returns-in_default-clause-found c = (
  c.new.ensures.items ∙ ap (jobs_of_times c.args.input.now.horizon) (sym c.in_default.is),
  (let none = ap length c.new.ensures.items in omega (arith, none, c.total-total.ensures.valid.few)),
)

pub returns-then-total-count-gt-MAX_JOBS-clause-found : goal.returns-then-total-count-gt-MAX_JOBS-clause-found
returns-then-total-count-gt-MAX_JOBS-clause-found c =
    let count = length-jobs_of_times c.args.input.now.horizon c.args.times c.in-Some.task c.in-Some.is in
    omega (arith, count, c.total-total.ensures.value, rw c.horizon.ensures.value at c.count.ensures, c.if-total-count-gt-MAX_JOBS.true)

pub returns-clause-found : goal.returns-clause-found
returns-clause-found c =
    let times : jobs_of_times c.args.input.now.horizon c.args.times ≡ periodic_jobs c.args.input.now.horizon c.in-Some.task = ap
    (jobs_of_times c.args.input.now.horizon) c.in-Some.is in
    let count = length-jobs_of_times c.args.input.now.horizon c.args.times c.in-Some.task c.in-Some.is in
    let read : c.in_ok-jobs.field-0.items ≡ periodic_jobs c.args.input.now.horizon c.in-Some.task = rw c.horizon-2.ensures.value at
    c.in_ok-jobs.ensures in
    let made : c.in_ok-jobs.field-0.items ≡ jobs_of_times c.args.input.now.horizon c.args.times = read ∙ sym times in (
      made,
      (let long = ap length made in omega (
        arith,
        long,
        count,
        c.total-total.ensures.value,
        rw c.horizon.ensures.value at c.count.ensures,
        c.if-total-count-gt-MAX_JOBS.false,
      )),
    )
