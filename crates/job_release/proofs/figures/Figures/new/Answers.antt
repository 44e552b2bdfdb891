use Rattle.std.proofs.Common.{length, ap, arith}
use Rattle.std.proofs.lemmas.Bool.Decides.{nat_tests}
use Rattle.job_release.specs.Jobs.{job_at}
use Rattle.job_release.specs.declared.input.Job.{Job}
use Rattle.std.specs.Prelude.{List}
use Rattle.job_release.proofs.Counted.{figures_none, figures_more, few_finished, few_late, few_jobs}
use Rattle.job_release.proofs.figures.Figures.new.Goals as goal

pub loop-k-init : goal.loop-k-init
loop-k-init g c = record {
  end = ap (λ (jobs : List Job). length jobs) c.jobs-jobs.ensures.value;
  counted = figures_none c.args.input.now (g.S.JobScheduler.seen c.args.driven.now.scheduler).states c.args.t;
}

pub with-figures-requires-clause-counted : goal.with-figures-requires-clause-counted
with-figures-requires-clause-counted g c =
    let input = c.args.input.now in
    let states = (g.S.JobScheduler.seen c.args.driven.now.scheduler).states in
    let finished = few_finished input states c.args.t c.loop-k.k c.loop-k.figures c.loop-k.invariant.counted in
    let late = few_late input states c.args.t c.loop-k.k c.loop-k.figures c.loop-k.invariant.counted in
    let valid = c.jobs-jobs.ensures.valid in
    let each = valid.one_each in
    let task = c.requires.task in
    let few = few_jobs input c.args.t valid (omega arith) in
    let end = c.loop-k.invariant.end in
    let below = c.loop-k-test.true in
    (grind (arith, nat_tests), grind (arith, nat_tests))

pub with-figures-requires-clause-after : goal.with-figures-requires-clause-after
with-figures-requires-clause-after g c = rw c.jobs-jobs.ensures.value c.new-outcome.ensures.after

pub loop-k-preserved : goal.loop-k-preserved
loop-k-preserved g c =
    let input = c.args.input.now in
    let valid = c.jobs-jobs.ensures.valid in
    let horizon = valid.horizon in
    record {
      end = c.loop-k.invariant.end;
      counted = figures_more input (g.S.JobScheduler.seen c.args.driven.now.scheduler).states c.args.t c.loop-k.k _ c.new-outcome.result
          c.loop-k.figures c.with-figures.result
          (ap (λ (jobs : List Job). (job_at jobs c.loop-k.k).release) c.jobs-jobs.ensures.value)
          horizon.1 c.new-outcome.ensures c.loop-k.invariant.counted c.with-figures.ensures;
    }
