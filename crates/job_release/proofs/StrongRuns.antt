-- What the strong scheduler leaves at the horizon: its history runs the jobs.
use Rattle.std.proofs.Common.{◌<◌, List, length, map, get_or, All, sym, subst, arith}
use Rattle.std.proofs.lemmas.List.{length-map, get_or-map}
use Rattle.task_set.specs.declared.event.Event.{Event}
use Rattle.task_set.specs.TaskSet.{IsTaskSet}
use Rattle.strong_apa.specs.declared.reply.Entry.{Entry}
use Rattle.strong_apa.specs.State.{State, start_of}
use Rattle.strong_apa.specs.History.{IsLegal, IsLegalFrom}
use Rattle.strong_apa.proofs.Kept.{legal_is_best}
use Rattle.sched_core.specs.CoreData.{CoreData, IsCore}
use Rattle.job_release.specs.EventCauses.{AreAskedFor}
use Rattle.job_release.specs.JobInput.{JobInputData}
use Rattle.job_release.specs.JobRun.{DrivenData, IsDrivenOf, IsJobRunOf}
use Rattle.job_release.specs.Driven.{ServesJobs, RunsTheBest}
use Rattle.job_release.specs.Moments.{state_of_moment}
use Rattle.job_release.specs.Strong.{IsOpen, strong_seen}
use Rattle.job_release.proofs.Moments.{state_by_entries}

-- what holds of the events of a history holds of its entries
pub of_entries : (P : Event → Type 0) (history : List Entry) → All P (map (λ (entry : Entry). entry.event) history)
    → All (λ (entry : Entry). P entry.event) history
of_entries P history all k d within =
    let event = λ (entry : Entry). entry.event in
    subst P (get_or-map event history k d d.event within) (all k d.event (let count = length-map history event in omega arith))

pub run_of_driven : (input : JobInputData) (driven : DrivenData CoreData) → IsTaskSet input.set → IsCore driven.scheduler
    → IsOpen driven.scheduler → IsDrivenOf strong_seen input driven
    → IsJobRunOf input (record { horizon = driven.horizon; jobs = driven.jobs; core = driven.scheduler })
run_of_driven input driven valid core opened served =
    let set = input.set in
    let history = driven.scheduler.history in
    let legal : IsLegal set history = (let P : State → Type 0 = λ s. IsLegalFrom s history in subst P served.start core.legal) in
    record {
      of_input = record { horizon = served.horizon; jobs = served.jobs; start = served.start };
      runs = record {
        legal = legal;
        events = opened.events;
        whole = served.whole;
        best = λ x below.
            let prefix = state_by_entries (start_of set) history x 0 in
            let best = legal_is_best set valid history legal prefix.0 prefix.1 in
            subst RunsTheBest (sym prefix.2) best;
        served = (let P : State → Type 0 = λ s. ServesJobs input (state_of_moment s history) in subst P served.start served.served);
      };
      asked = (let P : State → Type 0 = λ s. AreAskedFor input (map (λ (entry : Entry). entry.event) history) (state_of_moment s history) in
          subst P served.start served.asked);
    }
