-- The strong scheduler, as one that jobs are driven with: a core that is open, and whose events are
-- arrivals, departures and ticks.
use Rattle.std.specs.Prelude.{◌≡◌, ◌-◌, false, length, map, All}
use Rattle.strong_apa.specs.declared.reply.Entry.{Entry}
use Rattle.sched_core.specs.CoreData.{CoreData, max_entries}
use Rattle.job_release.specs.Driven.{IsJobEvent}
use Rattle.job_release.specs.Moments.{elapsed, state_of_moment}
use Rattle.job_release.specs.Scheduler.{SchedulerData}

-- a core that takes events, and has had only those of jobs, on stream 0
pub record IsOpen (core : CoreData) : Type 0 where
  pub not_closed : core.closed ≡ false
  pub events : All (λ (entry : Entry). IsJobEvent entry.event) core.history
  pub callers : All (λ (entry : Entry). entry.caller ≡ 0) core.history

-- its history says the state of each moment
abbrev pub strong_seen : CoreData → SchedulerData
strong_seen core = record {
  start = core.start;
  now = core.links;
  states = state_of_moment core.start core.history;
  elapsed = elapsed core.history;
  events = map (λ (entry : Entry). entry.event) core.history;
  room = max_entries - length core.history;
}
