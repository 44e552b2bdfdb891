use Rattle.std.proofs.Common.{sym, subst}
use Rattle.trace_losses.specs.Jobs.{AreJobs}
use Rattle.trace_losses.proofs.JobsWithin.{jobs_within}
use Rattle.trace_losses.proofs.job.jobs_of.Goals as goal

pub returns-clause-within : goal.returns-clause-within
returns-clause-within c =
    jobs_within _ c.args.passages.now c.args.threads c.reverse.new.self.items c.requires
    (subst (AreJobs c.args.passages.now) (sym c.reverse.ensures.items) c.in_ok-jobs.ensures)
