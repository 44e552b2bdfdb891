use Rattle.job_release.proofs.Finishes.{finished_jobs_ran_their_costs, next_job_ran_its_cost}
use Rattle.job_release.proofs.laws.finished_job_ran_its_cost.Goals as goal

pub returns-clause-total : goal.returns-clause-total
returns-clause-total c = finished_jobs_ran_their_costs

pub returns-clause-next : goal.returns-clause-next
returns-clause-next c = next_job_ran_its_cost
