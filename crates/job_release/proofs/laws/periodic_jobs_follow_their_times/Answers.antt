use Rattle.job_release.proofs.Periodic.{periodic_demand, periodic_goals, periodic_due}
use Rattle.job_release.proofs.laws.periodic_jobs_follow_their_times.Goals as goal

pub returns-clause-demand : goal.returns-clause-demand
returns-clause-demand c = periodic_demand

pub returns-clause-goals : goal.returns-clause-goals
returns-clause-goals c = periodic_goals

pub returns-clause-due : goal.returns-clause-due
returns-clause-due c = periodic_due
