-- A legal history of posted entries is that of a valid schedule: its replies pass, they name tasks of the set and processors
-- below 64, and the contexts that it gives have numbers of the format. So it can be written, and its text can be read.
use Rattle.std.proofs.Common.{◌≡◌, ℕ, zero, suc, ◌+◌, ◌*◌, ◌-◌, ◌%◌, ◌^◌, ◌<◌, ◌≤◌, ◌&&◌, not, List, [], ◌∷◌, length, map, All, IfSome}
use Rattle.std.proofs.Common.{refl, ◌∙◌, arith}
use Rattle.std.specs.Prelude.{slice_get}
use Rattle.std.specs.List.{range_with_len}
use Rattle.std.proofs.lemmas.Bool.{lt-ltb}
use Rattle.std.proofs.lemmas.List.{length-map}
use Rattle.std.proofs.lemmas.List.Elements.{All-nil, All-cons, All-head, All-tail, All-append, All-filter, All-weaker}
use Rattle.std.proofs.lemmas.List.FromFn.{length-range_with_len, get_or-range_with_len, length-map-range_with_len}
use Rattle.std.proofs.lemmas.List.FromFn.{get_or-map-range_with_len}
use Rattle.affinity_mask.proofs.Sets.{has-all_below}
use Rattle.task_set.specs.TaskSet.{TaskData, SetData}
use Rattle.task_set.specs.declared.event.Event.{Event}
use Rattle.task_set.specs.declared.event.Event.TheVariants.{Arrive, Depart, Tick, Affinity, Offline, Online}
use Rattle.strong_apa.specs.declared.reply.Reply.{Reply}
use Rattle.strong_apa.specs.declared.reply.Entry.{Entry}
use Rattle.strong_apa.specs.Reply.{chains_of, sets_of, tasks_named}
use Rattle.strong_apa.specs.State.{State, IsState, task_count, task_on, is_task, start_of}
use Rattle.strong_apa.specs.Step.{SchedulerStep}
use Rattle.strong_apa.specs.History.{IsLegalFrom, effect_of}
use Rattle.strong_apa.specs.Dispatch.{context_of, processors_of, runs_of, taken_between, trail_after, trail_multiplier}
use Rattle.strong_apa.proofs.SameTasks.{same_tasks-effect, same_count}
use Rattle.strong_apa.proofs.Start.{IsState-start}
use Rattle.strong_apa.proofs.StepParts.{IsListOn, IsSetOn, step_is_on}
use Rattle.strong_apa.proofs.Steps.{step_keeps_state}
use Rattle.strong_apa.proofs.Versions.{legal_has_version}
use Rattle.text_fields.specs.EventText.{IsAboutSet}
use Rattle.schedule_text.specs.Schedule.{IsProcessorList, IsOfProcessors, HasProcessors, IsContextOf, AreInOrder, IsSchedule}
use Rattle.strong_apa.proofs.Kept.{legal_passes}
use Rattle.commands.specs.ScheduleLaws.{IsWritableHistory}
use Rattle.commands.specs.Valid.{IsValid, schedule_of}

-- ---- the chain and the sets of a reply
abbrev IsPlace : ℕ → Type 0
IsPlace p = p < 64

module _ (s : State) (ok : IsState s) where
  -- processors that there are are those of the format
  list_below : (chain : List ℕ) → IsListOn s chain → IsProcessorList chain
  list_below chain on = (on.0, All-weaker (λ p. p < s.processors) IsPlace (λ p lt. let most = ok.processors in omega arith) chain on.1)

  set_below : (X : ℕ) → IsSetOn s X → IsOfProcessors X
  set_below X on p inside = has-all_below 64 p ∙ lt-ltb p 64 (let lt = on p inside in let most = ok.processors in omega arith)

  reply_processors : (reply : Reply) → All (IsListOn s) (chains_of reply) → All (IsSetOn s) (sets_of reply) → HasProcessors reply
  reply_processors reply chains sets = (
    All-weaker (IsListOn s) IsProcessorList list_below (chains_of reply) chains,
    All-weaker (IsSetOn s) IsOfProcessors set_below (sets_of reply) sets,
  )

-- the reply names tasks among so many, and processors of the format
abbrev IsKnownReply : ℕ → Reply → Type 0
IsKnownReply count reply = All (λ t. t < count) (tasks_named reply) × HasProcessors reply

known_reply : (count : ℕ) (s : State) (event : Event) (reply : Reply) (new : State) → IsState s → task_count s ≡ count
    → SchedulerStep s event reply new → IsKnownReply count reply
known_reply count s event reply new ok same step =
    let on = step_is_on s event reply new ok step in
    (rw (← same) on.tasks, reply_processors s ok reply on.chains on.sets)

-- ---- the entries
-- the event is of a task and a processor of the set
about_step : (set : SetData) (s : State) (event : Event) (reply : Reply) (new : State) → task_count s ≡ length set.tasks
    → s.processors ≡ set.processors → SchedulerStep s event reply new → IsAboutSet set event
about_step set s (Arrive t) reply new same machine step = rw (← same) step.0
about_step set s (Depart t) reply new same machine step = rw (← same) step.0
about_step set s (Tick units) reply new same machine step = tt
about_step set s (Affinity t mask) reply new same machine step = (rw (← same) step.0, rw (← machine) step.1)
about_step set s (Offline p) reply new same machine step = rw (← machine) step.0
about_step set s (Online p) reply new same machine step = rw (← machine) step.0

about_from : (set : SetData) (s : State) (history : List Entry) → task_count s ≡ length set.tasks → s.processors ≡ set.processors
    → IsLegalFrom s history → All (λ (e : Entry). IsAboutSet set e.event) history
about_from set s [] same machine legal = All-nil (λ (e : Entry). IsAboutSet set e.event)
about_from set s (entry ∷ rest) same machine legal =
    All-cons (λ (e : Entry). IsAboutSet set e.event) entry rest
    (about_step set s entry.event entry.reply (effect_of s entry) same machine legal.0)
    (about_from set (effect_of s entry) rest (same_count s (effect_of s entry) (same_tasks-effect s entry) ∙ same)
    ((same_tasks-effect s entry).processors ∙ machine) legal.1)

replies_from : (count : ℕ) (s : State) (history : List Entry) → IsState s → task_count s ≡ count → IsLegalFrom s history
    → All (λ (e : Entry). IsKnownReply count e.reply) history
replies_from count s [] ok same legal = All-nil (λ (e : Entry). IsKnownReply count e.reply)
replies_from count s (entry ∷ rest) ok same legal =
    let next = effect_of s entry in
    All-cons (λ (e : Entry). IsKnownReply count e.reply) entry rest
    (known_reply count s entry.event entry.reply next ok same legal.0)
    (replies_from count next rest (step_keeps_state s entry.event entry.reply next ok legal.0)
    (same_count s next (same_tasks-effect s entry) ∙ same) legal.1)

-- ---- the contexts
-- a history takes a task on processors that there are
taken_below : (s : State) (history : List Entry) (t : ℕ) → s.processors ≤ 64 → All IsPlace (processors_of s history t)
taken_below s [] t few = All-nil IsPlace
taken_below s (entry ∷ rest) t few =
    let next = effect_of s entry in
    All-append IsPlace (taken_between s next t) (processors_of next rest t)
    (All-filter (λ p. is_task t (task_on next p) && not (is_task t (task_on s p))) IsPlace (range_with_len 0 s.processors) places)
    (taken_below next rest t (rw (same_tasks-effect s entry).processors few))
  where
    places : All IsPlace (range_with_len 0 s.processors)
    places k d within =
        let n = length-range_with_len 0 s.processors in
        let at = get_or-range_with_len 0 s.processors k d (omega arith) in
        omega arith

-- a number of a list, where there is one
one_of : (P : ℕ → Type 0) (xs : List ℕ) (i : ℕ) → All P xs → IfSome (slice_get xs i) P
one_of P [] i all = tt
one_of P (x ∷ xs) zero all = All-head P x xs all
one_of P (x ∷ xs) (suc i) all = one_of P xs i (All-tail P x xs all)

-- each run leaves a trail modulo 2^64
trail_below : (trail : ℕ) (runs : List (ℕ × ℕ)) → trail < 2 ^ 64 → trail_after trail runs < 2 ^ 64
trail_below trail [] fits = fits
trail_below trail (run ∷ runs) fits = trail_below ((trail * trail_multiplier + 64 * run.1 + run.0) % 2 ^ 64) runs (omega arith)

given_context : (s : State) (history : List Entry) (t : ℕ) → s.processors ≤ 64 → t < 1024 → IsContextOf t (context_of s history t)
given_context s history t few number = record {
  task = refl;
  units = omega arith;
  stints = omega arith;
  moves = omega arith;
  last = one_of IsPlace (processors_of s history t) (length (processors_of s history t) - 1) (taken_below s history t few);
  trail = trail_below t (runs_of s history t) (omega arith);
}

contexts_in_order : (s : State) (history : List Entry) (n : ℕ) → s.processors ≤ 64 → n ≤ 1024
    → AreInOrder (map (context_of s history) (range_with_len 0 n))
contexts_in_order s history n few most t context within =
    let long = length-map-range_with_len (context_of s history) 0 n in
    rw (get_or-map-range_with_len (context_of s history) 0 n t t context (omega arith) (omega arith))
    (given_context s history t few (omega arith))

-- ---- the schedule
legal_schedule : (version : ℕ) (set : SetData) (history : List Entry) → IsWritableHistory version set history
    → IsSchedule (schedule_of version set history)
legal_schedule version set history writable =
    let valid = writable.tasks.valid in
    let start = start_of set in
    let same : task_count start ≡ length set.tasks = length-map set.tasks (λ (task : TaskData). task.priority) in
    let about = about_from set start history same refl writable.legal in
    let of_version = legal_has_version version start history writable.legal (λ k d within. (writable.posted k d within).2) in
    let known = replies_from (length set.tasks) start history (IsState-start set valid) same writable.legal in
    record {
      known = writable.known;
      tasks = writable.tasks;
      few = writable.few;
      each_entry = λ k d within. record {
        caller = (writable.posted k d within).0;
        tasks = record { event = about k d within; reply = (known k d within).0 };
        of_version = record { event = (of_version k d within).0; reply = (of_version k d within).1 };
        units = (writable.posted k d within).1;
        processors = (known k d within).1;
      };
      one_each = length-map-range_with_len (context_of start history) 0 (length set.tasks);
      in_order = contexts_in_order start history (length set.tasks) valid.processors.1 valid.count;
    }

pub legal_is_valid : (version : ℕ) (set : SetData) (history : List Entry) → IsWritableHistory version set history
    → IsSchedule (schedule_of version set history) × IsValid (schedule_of version set history)
legal_is_valid version set history writable = (
  legal_schedule version set history writable,
  record { passing = legal_passes (start_of set) history (IsState-start set writable.tasks.valid) writable.legal; contexts = refl },
)
