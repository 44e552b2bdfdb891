use Rattle.std.proofs.Common.{arith}
use Rattle.job_release.proofs.Stored.{count_more, count_within}
use Rattle.job_release.proofs.input.count_jobs.Goals as goal

pub overflow_add-total : goal.overflow_add-total
overflow_add-total c =
    let within = count_within c.args.lists.now c.loop-jobs.jobs-index c.jobs-item.result c.loop-jobs-test.true c.jobs-item.is in
    omega (arith, within, c.loop-jobs.invariant, c.requires, c.len.ensures)

pub loop-jobs-preserved : goal.loop-jobs-preserved
loop-jobs-preserved c =
    let more = count_more c.args.lists.now c.loop-jobs.jobs-index c.jobs-item.result c.loop-jobs-test.true c.jobs-item.is in
    omega (arith, more, c.loop-jobs.invariant, c.len.ensures)
