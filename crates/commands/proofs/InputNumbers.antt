-- What the lines of an input say of its streams, units and priorities.
use Rattle.std.proofs.Common.{ℕ, ◌<◌, ◌^◌, List, [], ◌∷◌, All, arith}
use Rattle.std.specs.List.{AllZip}
use Rattle.std.proofs.lemmas.List.Elements.{All-nil, All-cons}
use Rattle.task_set.specs.TaskSet.{TaskData, SetData}
use Rattle.task_set.specs.Event.{HasUnits, IsOfVersion}
use Rattle.task_set.specs.declared.event.Event.{Event}
use Rattle.task_set.specs.declared.event.Event.TheVariants.{Arrive, Depart, Tick, Affinity, Offline, Online}
use Rattle.text_fields.specs.Version.{IsVersion}
use Rattle.trace_reader.specs.declared.posted.Posted.{Posted}
use Rattle.trace_reader.specs.InputText.{IsInputText, IsEventFields, IsEventLine, IsTaskLine}

-- the posted event has the numbers of the format, and the version has it
abbrev pub IsOfFormat : ℕ → Posted → Type 0
IsOfFormat version posted = (posted.stream < 16) × HasUnits posted.event × IsOfVersion version posted.event

event_units : (set : SetData) (fields : List (List ℕ)) (event : Event) → IsEventFields set fields event → HasUnits event
event_units set fields (Arrive t) says = tt
event_units set fields (Depart t) says = tt
event_units set fields (Tick units) says = (says.2.1, says.2.2)
event_units set fields (Affinity t mask) says = tt
event_units set fields (Offline p) says = tt
event_units set fields (Online p) says = tt

lines_posted : (version : ℕ) (set : SetData) (lines : List (List (List ℕ))) (events : List Posted)
    → AllZip (IsEventLine version set) lines events → All (IsOfFormat version) events
lines_posted version set [] [] says = All-nil (IsOfFormat version)
lines_posted version set [] (posted ∷ events) says = absurd says
lines_posted version set (fields ∷ lines) [] says = absurd says
lines_posted version set (fields ∷ lines) (posted ∷ events) says =
    let line = says.0 in
    All-cons (IsOfFormat version) posted events (omega arith, event_units set line.0 posted.event line.2, line.3)
    (lines_posted version set lines events says.1)

-- each event is on one of the 16 streams, a tick has the units of the format, and the version has each event
pub input_streams : (version : ℕ) (read : List ℕ) (set : SetData) (events : List Posted) → IsInputText version read set events
    → All (IsOfFormat version) events
input_streams version read set events text = lines_posted version set text.says.event_lines events text.says.each_event

lines_priorities : (lines : List (List (List ℕ))) (tasks : List TaskData) → AllZip IsTaskLine lines tasks
    → All (λ (task : TaskData). task.priority < 2 ^ 32) tasks
lines_priorities [] [] says = All-nil (λ (task : TaskData). task.priority < 2 ^ 32)
lines_priorities [] (task ∷ tasks) says = absurd says
lines_priorities (fields ∷ lines) [] says = absurd says
lines_priorities (fields ∷ lines) (task ∷ tasks) says =
    let form = says.0.1 in
    All-cons (λ (one : TaskData). one.priority < 2 ^ 32) task tasks (let within = form.value in omega arith)
    (lines_priorities lines tasks says.1)

pub input_priorities : (version : ℕ) (read : List ℕ) (set : SetData) (events : List Posted) → IsInputText version read set events
    → All (λ (task : TaskData). task.priority < 2 ^ 32) set.tasks
input_priorities version read set events text = lines_priorities text.says.task_lines set.tasks text.says.each_task

-- the version is one of the format's
pub input_version : (version : ℕ) (read : List ℕ) (set : SetData) (events : List Posted) → IsInputText version read set events
    → IsVersion version
input_version version read set events text = let within = text.says.is_header.2 in (omega arith, omega arith)
