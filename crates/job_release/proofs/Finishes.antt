-- A job is finished no earlier than its cost after its release: before its release the task got no more than the jobs before it
-- ask for, and from then on it got one unit at most in a moment.
use Rattle.std.proofs.Common.{◌≡◌, ℕ, zero, suc, ◌+◌, ◌-◌, ◌<◌, ◌≤◌, List, [], length, Option, Some, None, IfSome, MatchOption, ap, inl}
use Rattle.std.proofs.Common.{inr, arith}
use Rattle.std.proofs.lemmas.Bool.{cases_Bool, cases_lt}
use Rattle.strong_apa.specs.State.{is_linked}
use Rattle.strong_apa.proofs.Counts.{count_below-more, count_below-same}
use Rattle.job_release.specs.Jobs.{job_at, no_job, goal_of, demand}
use Rattle.job_release.specs.JobInput.{JobInputData, IsJobInput, AreJobs, jobs_at}
use Rattle.job_release.specs.declared.input.Job.{Job}
use Rattle.job_release.specs.Driven.{ServesJobs}
use Rattle.job_release.specs.Driving.{asked_by}
use Rattle.job_release.specs.Laws.{FinishFollowsRelease, FinishedJobsRanTheirCosts, NextJobRanItsCost}
use Rattle.job_release.specs.Moments.{Timeline, service_of, IsFinish, IsUnfinished}
use Rattle.job_release.proofs.Demands.{asked_more, demand_before}
use Rattle.job_release.proofs.Moments.{no_service, service_grows}

module _ (input : JobInputData) (states : Timeline) (t : ℕ) (serves : ServesJobs input states) (number : t < length input.jobs)
    (valid : AreJobs input.horizon (jobs_at input.jobs t)) where
  abbrev jobs : List Job
  jobs = jobs_at input.jobs t

  -- before the next moment the task got no more than the jobs that are released by this one ask for
  asked_for : (y : ℕ) → y < input.horizon → service_of states t (suc y) ≤ demand jobs y
  asked_for y below = elim (cases_Bool (is_linked (states y) t)) [
    | inl linked ↦ (
        let wanted = (serves.ready t y number below).0 (serves.only_ready t y number below linked) in
        let one = count_below-more (λ y. is_linked (states y) t) y linked in
        omega arith)
    | inr not_linked ↦ (
        let most = serves.no_more t y number below in
        let none = count_below-same (λ y. is_linked (states y) t) y not_linked in
        omega arith)
  ]

  -- up to the release of job k the task got no more than the jobs before it ask for
  before_release : (k y : ℕ) → k < length jobs → y ≤ input.horizon → y ≤ (job_at jobs k).release → service_of states t y ≤ asked_by jobs k
  before_release k zero inside within early = let none = no_service states t in omega arith
  before_release k (suc y) inside within early =
      let most = asked_for y (omega arith) in
      let few = demand_before input.horizon jobs valid k y inside (omega arith) in
      omega arith

  after_release : (k x : ℕ) → k < length jobs → 1 ≤ (job_at jobs k).cost → IsFinish states t (goal_of jobs k) input.horizon x
      → (job_at jobs k).release + (job_at jobs k).cost ≤ x
  after_release k x inside some found =
      let within = found.within in
      let got = found.got in
      let goal = asked_more jobs k inside in
      let release : ℕ = (job_at jobs k).release in
      elim (cases_lt x release) [
        | inl early ↦ (
            let before = before_release k x inside within (omega arith) in
            omega arith)
        | inr from ↦ (
            let before = before_release k release inside (omega arith) (omega arith) in
            let since : release + (x - release) ≡ x = omega arith in
            let grown = service_grows states t release (x - release) in
            let same = ap (service_of states t) since in
            omega arith)
      ]

-- a moment before its finish the task had not yet got all that the jobs ask for, and it gets one unit at most in a moment
pub finished_jobs_ran_their_costs : FinishedJobsRanTheirCosts
finished_jobs_ran_their_costs states t k horizon zero jobs found =
    let got = found.got in
    let none = no_service states t in
    omega arith
finished_jobs_ran_their_costs states t k horizon (suc y) jobs found =
    let got = found.got in
    let before = found.least y (omega arith) in
    let grown = service_grows states t y 1 in
    let next : y + 1 ≡ suc y = omega arith in
    let same = ap (service_of states t) next in
    omega arith

pub next_job_ran_its_cost : NextJobRanItsCost
next_job_ran_its_cost states t k horizon x y jobs inside found next =
    let first = finished_jobs_ran_their_costs states t k horizon x jobs found in
    let second = finished_jobs_ran_their_costs states t (k + 1) horizon y jobs next in
    let more = asked_more jobs (k + 1) inside in
    omega arith

pub finish_follows_release : FinishFollowsRelease
finish_follows_release input states t k x valid serves number inside found =
    let jobs = valid.each_jobs t [] number in
    let job = jobs.each k no_job inside in
    after_release input states t serves number jobs k x inside job.cost.0 found

pub released_before_finish : (input : JobInputData) (states : Timeline) (t k : ℕ) (finish : Option ℕ) → IsJobInput input
    → ServesJobs input states → t < length input.set.tasks → k < length (jobs_at input.jobs t)
    → MatchOption finish (IsUnfinished states t (goal_of (jobs_at input.jobs t) k) input.horizon)
    (IsFinish states t (goal_of (jobs_at input.jobs t) k) input.horizon)
    → IfSome finish (λ x. (job_at (jobs_at input.jobs t) k).release ≤ x)
released_before_finish input states t k None valid serves number inside unfinished = tt
released_before_finish input states t k (Some x) valid serves number inside found =
    let each = valid.one_each in
    let after = finish_follows_release input states t k x valid serves (omega arith) inside found in
    omega arith
