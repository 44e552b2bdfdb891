use Rattle.command_line.specs.Command.{Makes, Accepts, Refuses}
use Rattle.command_line.proofs.call.text_made.Goals as goal

pub returns-in-Run : goal.returns-in-Run
unfolding Makes Accepts Refuses
returns-in-Run g c = rw c.in-Run.is c.replayed_text.ensures

pub returns-in-Check : goal.returns-in-Check
unfolding Makes Accepts Refuses
returns-in-Check g c = rw c.in-Check.is c.checked_text.ensures

pub returns-in-Weak : goal.returns-in-Weak
unfolding Makes Accepts Refuses
returns-in-Weak g c = rw c.in-Weak.is c.weak_text.ensures

pub returns-in-Nested : goal.returns-in-Nested
unfolding Makes Accepts Refuses
returns-in-Nested g c = rw c.in-Nested.is c.nested_text.ensures

pub returns-in-Jobs : goal.returns-in-Jobs
unfolding Makes Accepts Refuses
returns-in-Jobs g c = rw c.in-Jobs.is c.jobs_text.ensures

pub returns-in-WeakJobs : goal.returns-in-WeakJobs
unfolding Makes Accepts Refuses
returns-in-WeakJobs g c = rw c.in-WeakJobs.is c.weak_jobs_text.ensures

pub returns-in-RunJobs : goal.returns-in-RunJobs
unfolding Makes Accepts Refuses
returns-in-RunJobs g c = rw c.in-RunJobs.is c.jobs_schedule_text.ensures

pub returns-in-Watch : goal.returns-in-Watch
unfolding Makes Accepts Refuses
returns-in-Watch g c = rw c.in-Watch.is c.watched_text.ensures

pub returns-in-Import : goal.returns-in-Import
unfolding Makes Accepts Refuses
returns-in-Import g c = rw c.in-Import.is c.imported_text.ensures

pub returns-in-ImportJobs : goal.returns-in-ImportJobs
unfolding Makes Accepts Refuses
returns-in-ImportJobs g c = rw c.in-ImportJobs.is c.imported_jobs_text.ensures

pub returns-in-Draw : goal.returns-in-Draw
unfolding Makes Accepts Refuses
returns-in-Draw g c = rw c.in-Draw.is c.drawn_text.ensures

pub returns-in-Chrome : goal.returns-in-Chrome
unfolding Makes Accepts Refuses
returns-in-Chrome g c = rw c.in-Chrome.is c.chrome_trace.ensures

pub returns-in-Lost : goal.returns-in-Lost
unfolding Makes Accepts Refuses
returns-in-Lost g c = rw c.in-Lost.is c.lost_text.ensures

pub returns-in-Show : goal.returns-in-Show
unfolding Makes Accepts Refuses
returns-in-Show g c = rw c.in-Show.is c.show_text.ensures
