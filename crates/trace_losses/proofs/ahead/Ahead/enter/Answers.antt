use Rattle.std.proofs.Common.{◌<◌, length, set, Option, refl, sym, subst, arith}
use Rattle.std.specs.Prelude.{reverse}
use Rattle.std.proofs.lemmas.Option.{slice_get_read}
use Rattle.trace_losses.specs.Ahead.{AreAhead}
use Rattle.trace_losses.specs.Jobs.{AreJobsOf, with_change}
use Rattle.trace_passages.specs.declared.passage.Readiness.{Readiness}
use Rattle.trace_losses.proofs.Aheads.{ahead_arrives, ahead_departs, job_arrives, job_departs}
use Rattle.trace_losses.proofs.ahead.Ahead.enter.Goals as goal

pub returns-in_ok-push_job-clause-ahead : goal.returns-in_ok-push_job-clause-ahead
returns-in_ok-push_job-clause-ahead c = λ passages later within ahead.
    subst
    (λ (mention : Option Readiness). AreAhead passages (with_change c.args.moment mention later) c.args.moment c.args.self.now.units.items)
    (sym c.in-Some.is)
    (ahead_arrives passages later c.args.moment c.in-Some.mention c.args.self.now.units.items c.if-mention.true ahead)

pub returns-in_ok-push_job-clause-jobs : goal.returns-in_ok-push_job-clause-jobs
returns-in_ok-push_job-clause-jobs c = λ passages later ahead jobs.
    (let units = c.args.self.now.units.items in
    let mention = c.in-Some.mention in
    let bound = c.requires mention c.in-Some.is in
    let below : mention.task < length units = omega (arith, bound) in
    subst
    (λ (m : Option Readiness). AreJobsOf passages (with_change c.args.moment m later) (reverse c.push_job.new.jobs.items))
    (sym c.in-Some.is)
    (job_arrives passages later c.args.moment mention units c.index.result.now (reverse c.args.self.now.jobs.items)
    (reverse c.push_job.new.jobs.items) c.if-mention.true ahead
    (slice_get_read units (length units) mention.task c.index.result.now refl below c.index.ensures) c.in_ok-push_job.ensures jobs))

pub returns-else-mention-clause-ahead : goal.returns-else-mention-clause-ahead
returns-else-mention-clause-ahead c = λ passages later within ahead.
    subst
    (λ (mention : Option Readiness).
    AreAhead passages (with_change c.args.moment mention later) c.args.moment (set c.args.self.now.units.items c.in-Some.mention.task 0))
    (sym c.in-Some.is)
    (ahead_departs passages later c.args.moment c.in-Some.mention c.args.self.now.units.items c.if-mention.false within ahead)

pub returns-else-mention-clause-jobs : goal.returns-else-mention-clause-jobs
returns-else-mention-clause-jobs c = λ passages later ahead jobs.
    subst
    (λ (mention : Option Readiness). AreJobsOf passages (with_change c.args.moment mention later) (reverse c.args.self.now.jobs.items))
    (sym c.in-Some.is)
    (job_departs passages later c.args.moment c.in-Some.mention (reverse c.args.self.now.jobs.items) c.if-mention.false jobs)

pub returns-in_default-clause-ahead : goal.returns-in_default-clause-ahead
returns-in_default-clause-ahead c = λ passages later within ahead.
    subst
    (λ (mention : Option Readiness). AreAhead passages (with_change c.args.moment mention later) c.args.moment c.args.self.now.units.items)
    (sym c.in_default.is) ahead
