-- The text of a replay is what a run of its input writes, and the text of a valid schedule: its history is legal, and it has
-- the contexts that its history gives.
use Rattle.std.proofs.Common.{◌≡◌, ℕ, ◌<◌, List, All, refl, sym, ap, ◌∙◌, subst, arith}
use Rattle.task_set.specs.TaskSet.{SetData}
use Rattle.trace_reader.specs.InputText.{IsInputText}
use Rattle.command_line.proofs.Headline.{headline}
use Rattle.task_set.specs.declared.context.Context.{Context}
use Rattle.trace_reader.specs.declared.posted.Posted.{Posted}
use Rattle.schedule_text.specs.Schedule.{IsSchedule}
use Rattle.replay.proofs.MergedCounts.{merge_length, merge_posted}
use Rattle.commands.specs.ScheduleLaws.{IsWritableHistory}
use Rattle.commands.proofs.LegalSchedules.{legal_is_valid}
use Rattle.command_line.specs.Run.{Replays, IsRunOf, IsTextOfReplay}
use Rattle.command_line.specs.Watch.{IsWatchOf, IsTextOfWatch}
use Rattle.commands.proofs.InputNumbers.{IsOfFormat, input_streams, input_priorities, input_version}
use Rattle.command_line.proofs.RunsOneText.{one_text}

writable_history : (read put : List ℕ) (replayed : Replays read put) → IsWritableHistory replayed.version replayed.set replayed.history
writable_history read put replayed =
    let posted = input_streams replayed.version read replayed.set replayed.events replayed.input in
    let streams : All (λ (p : Posted). p.stream < 16) replayed.events = λ k d within. (posted k d within).0 in
    let count = merge_length replayed.events replayed.history streams replayed.merge in
    let input_few = replayed.input.says.few in
    record {
      known = input_version replayed.version read replayed.set replayed.events replayed.input;
      tasks = record {
        valid = replayed.input.says.valid;
        priorities = input_priorities replayed.version read replayed.set replayed.events
            replayed.input;
      };
      few = omega arith;
      posted = merge_posted (IsOfFormat replayed.version) replayed.events replayed.history posted replayed.merge;
      legal = replayed.legal;
    }

is_run_of : (read put : List ℕ) (replayed : Replays read put) → (run : IsRunOf read put) × (run.replayed ≡ replayed)
is_run_of read put replayed =
    let made = legal_is_valid replayed.version replayed.set replayed.history (writable_history read put replayed) in (
      record {
        replayed = replayed;
        schedule = record { version = replayed.version; set = replayed.set; entries = replayed.history; contexts = replayed.printed };
        is_text = record {
          is_schedule = subst (λ (contexts : List Context). IsSchedule
              (record { version = replayed.version; set = replayed.set; entries = replayed.history; contexts = contexts }))
              (sym replayed.contexts) made.0;
          text = replayed.text;
        };
        valid = record { passing = made.1.passing; contexts = replayed.contexts };
        one_stream = λ one other second. one_text read put other replayed one second;
      },
      refl,
    )

-- the schedule text of a replay of an input is that of a run, which is of the same set and of the replay's history
pub run_of_replay : (read put : List ℕ) (version : ℕ) (set : SetData) (events : List Posted) → IsInputText version read set events
    → (made : IsTextOfReplay version set events put)
    → (run : IsRunOf read put) × (run.replayed.set ≡ set) × (run.replayed.history ≡ made.history)
run_of_replay read put version set events input made =
    let replays = headline read put version set events input made in
    let run = is_run_of read put replays.0 in
    (run.0, ap (λ (r : Replays read put). r.set) run.1 ∙ replays.1, ap (λ (r : Replays read put). r.history) run.1 ∙ replays.2)

-- and with what observers read of it, that of a watch
pub is_watch_of : (observers : ℕ) (read put : List ℕ) (version : ℕ) (set : SetData) (events : List Posted)
    → IsInputText version read set events → IsTextOfWatch observers version set events put → IsWatchOf observers read put
is_watch_of observers read put version set events input made =
    let run = run_of_replay read made.schedule version set events input made.replayed in
    record {
      schedule = made.schedule;
      run = run.0;
      readings = made.readings;
      each_observer = made.each_observer;
      each_reading = rw (run.1, run.2) made.each_reading;
      text = made.text;
    }
