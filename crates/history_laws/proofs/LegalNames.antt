-- The replies of a legal history name tasks of its set.
use Rattle.std.proofs.Common.{◌≡◌, ℕ, ◌<◌, List, [], ◌∷◌, length, All, ◌∙◌}
use Rattle.std.proofs.lemmas.List.{length-map}
use Rattle.std.proofs.lemmas.List.Elements.{All-nil, All-cons}
use Rattle.task_set.specs.TaskSet.{TaskData, SetData, IsTaskSet}
use Rattle.strong_apa.specs.declared.reply.Reply.{Reply}
use Rattle.strong_apa.specs.declared.reply.Entry.{Entry}
use Rattle.strong_apa.specs.Reply.{tasks_named}
use Rattle.strong_apa.specs.State.{State, IsState, task_count, start_of}
use Rattle.strong_apa.specs.History.{IsLegal, IsLegalFrom, effect_of}
use Rattle.strong_apa.proofs.SameTasks.{same_tasks-effect, same_count}
use Rattle.strong_apa.proofs.Start.{IsState-start}
use Rattle.strong_apa.proofs.StepParts.{step_is_on}
use Rattle.strong_apa.proofs.Steps.{step_keeps_state}

-- each task that the reply names is one of so many
abbrev pub NamesTasks : ℕ → Reply → Type 0
NamesTasks count reply = All (λ t. t < count) (tasks_named reply)

-- each reply names tasks among so many
abbrev pub EachNamesTasks : ℕ → List Entry → Type 0
EachNamesTasks count history = All (λ (entry : Entry). NamesTasks count entry.reply) history

names_from : (count : ℕ) (s : State) (history : List Entry) → IsState s → task_count s ≡ count → IsLegalFrom s history
    → EachNamesTasks count history
names_from count s [] ok same legal = All-nil (λ (entry : Entry). NamesTasks count entry.reply)
names_from count s (entry ∷ rest) ok same legal =
    let next = effect_of s entry in
    All-cons (λ (entry : Entry). NamesTasks count entry.reply) entry rest
    (rw (← same) (step_is_on s entry.event entry.reply next ok legal.0).tasks)
    (names_from count next rest (step_keeps_state s entry.event entry.reply next ok legal.0)
    (same_count s next (same_tasks-effect s entry) ∙ same) legal.1)

pub legal_names : (set : SetData) (history : List Entry) → IsTaskSet set → IsLegal set history
    → EachNamesTasks (length set.tasks) history
legal_names set history valid legal =
    names_from (length set.tasks) (start_of set) history (IsState-start set valid)
    (length-map set.tasks (λ (task : TaskData). task.priority)) legal
