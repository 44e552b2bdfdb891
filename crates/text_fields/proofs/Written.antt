-- What the writers appended, piece by piece.
use Rattle.std.proofs.Common.{◌≡◌, ℕ, ◌+◌, ◌<◌, ◌^◌, List, [], ◌∷◌, ◌++◌, length, take, get_or, All, refl, sym, ap, ◌∙◌, append_assoc}
use Rattle.std.specs.Prelude.{codes, slice_index}
use Rattle.std.specs.List.{flat_map}
use Rattle.std.proofs.lemmas.List.{get_or-map, take_more, flat_map_more}
use Rattle.std.proofs.lemmas.List.Elements.{All-more}
use Rattle.affinity_mask.specs.Number.{canonical_number}
use Rattle.affinity_mask.specs.ListText.{canonical_list}
use Rattle.task_set.specs.TaskSet.{TaskData, SetData, priorities, masks}
use Rattle.task_set.specs.Refusal.{new_task, IsNameOf}
use Rattle.task_set.specs.declared.event.Event.{Event}
use Rattle.task_set.specs.declared.event.Event.TheVariants.{Arrive, Depart, Tick, Affinity, Offline, Online}
use Rattle.text_fields.specs.LineText.{task_line}
use Rattle.text_fields.specs.EventText.{name_of, event_text}
use Rattle.text_fields.proofs.NamedTasks.{no_task, named_task, name_at}

-- ---- the line of a task

pieces7 : (old a b c d e f g : List ℕ) → old ++ a ++ b ++ c ++ d ++ e ++ f ++ g
    ≡ old ++ (a ++ b ++ c ++ d ++ e ++ f ++ g)
pieces7 old a b c d e f g = simp append_assoc

pub task_written : (name : List ℕ) (priority mask : ℕ) (t0 t1 t2 t3 t4 t5 t6 t7 : List ℕ) → t1 ≡ t0 ++ codes "task "
    → t2 ≡ t1 ++ name → t3 ≡ t2 ++ 32 ∷ [] → t4 ≡ t3 ++ canonical_number priority → t5 ≡ t4 ++ 32 ∷ []
    → t6 ≡ t5 ++ canonical_list mask → t7 ≡ t6 ++ 10 ∷ [] → t7 ≡ t0 ++ task_line (new_task name priority mask)
unfolding task_line
task_written name priority mask t0 t1 t2 t3 t4 t5 t6 t7 e1 e2 e3 e4 e5 e6 e7 =
    rw (e7, e6, e5, e4, e3, e2, e1)
    (pieces7 t0 (codes "task ") name (codes " ") (canonical_number priority) (codes " ") (canonical_list mask) (10 ∷ []))

-- the columns of a set have the parts of a task at its number
task_at : (set : SetData) (t : ℕ) (name : List ℕ) (priority mask : ℕ) → t < length set.tasks → IsNameOf set t name
    → priority ≡ slice_index (priorities set) t → mask ≡ slice_index (masks set) t
    → new_task name priority mask ≡ get_or set.tasks t no_task
task_at set t name priority mask within called ranked masked =
    let own_name : name ≡ (get_or set.tasks t no_task).name = (named_task set t name called).1 ∙ name_at set t within in
    let own_priority : priority ≡ (get_or set.tasks t no_task).priority =
    ranked ∙ get_or-map (λ (task : TaskData). task.priority) set.tasks t no_task 0 within in
    let own_mask : mask ≡ (get_or set.tasks t no_task).mask =
    masked ∙ get_or-map (λ (task : TaskData). task.mask) set.tasks t no_task 0 within in
    rw (own_name, own_priority, own_mask) refl

-- the lines of the first tasks, whose priorities fit
abbrev pub AreWritten : SetData → ℕ → List ℕ → List ℕ → Type 0
AreWritten set t old now =
    (now ≡ old ++ flat_map task_line (take t set.tasks))
    × All (λ (task : TaskData). task.priority < 2 ^ 32) (take t set.tasks)

pub tasks_more : (set : SetData) (t : ℕ) (name : List ℕ) (priority mask : ℕ) (old now next : List ℕ)
    → t < length set.tasks → IsNameOf set t name → priority ≡ slice_index (priorities set) t
    → mask ≡ slice_index (masks set) t → priority < 2 ^ 32 → AreWritten set t old now
    → next ≡ now ++ task_line (new_task name priority mask) → AreWritten set (t + 1) old next
tasks_more set t name priority mask old now next within called ranked masked small before step =
    let task : TaskData = get_or set.tasks t no_task in
    let same : new_task name priority mask ≡ task = task_at set t name priority mask within called ranked masked in
    let text : next ≡ old ++ flat_map task_line (take (t + 1) set.tasks) =
    step
    ∙ ap (λ (ys : List ℕ). ys ++ task_line (new_task name priority mask)) before.0
    ∙ flat_map_more task_line old (take t set.tasks) (new_task name priority mask)
    ∙ ap (λ (x : TaskData). old ++ flat_map task_line (take t set.tasks ++ x ∷ [])) same
    ∙ ap (λ (xs : List TaskData). old ++ flat_map task_line xs) (sym (take_more set.tasks t no_task within)) in
    let fits : task.priority < 2 ^ 32 = rw (← same) small in
    (text, All-more (λ (task : TaskData). task.priority < 2 ^ 32) set.tasks t no_task within before.1 fits)

-- ---- events

-- a word, and then a piece
worded : (word piece t0 t1 t2 : List ℕ) → t1 ≡ t0 ++ word → t2 ≡ t1 ++ piece → t2 ≡ t0 ++ (word ++ piece)
worded word piece t0 t1 t2 e1 e2 = e2 ∙ ap (λ (text : List ℕ). text ++ piece) e1 ∙ append_assoc t0 word piece

pub arrival_written : (set : SetData) (event : Event) (t : ℕ) (t0 t1 t2 : List ℕ) → event ≡ Arrive t
    → t1 ≡ t0 ++ codes "arrive " → t2 ≡ t1 ++ name_of set t → t2 ≡ t0 ++ event_text set event
unfolding event_text
arrival_written set event t t0 t1 t2 is e1 e2 = rw is (worded (codes "arrive ") (name_of set t) t0 t1 t2 e1 e2)

pub departure_written : (set : SetData) (event : Event) (t : ℕ) (t0 t1 t2 : List ℕ) → event ≡ Depart t
    → t1 ≡ t0 ++ codes "depart " → t2 ≡ t1 ++ name_of set t → t2 ≡ t0 ++ event_text set event
unfolding event_text
departure_written set event t t0 t1 t2 is e1 e2 = rw is (worded (codes "depart ") (name_of set t) t0 t1 t2 e1 e2)

pub tick_written : (set : SetData) (event : Event) (units : ℕ) (t0 t1 t2 : List ℕ) → event ≡ Tick units
    → t1 ≡ t0 ++ codes "tick " → t2 ≡ t1 ++ canonical_number units → t2 ≡ t0 ++ event_text set event
unfolding event_text
tick_written set event units t0 t1 t2 is e1 e2 = rw is (worded (codes "tick ") (canonical_number units) t0 t1 t2 e1 e2)

-- a word, a piece, a space, and another piece
worded_twice : (word piece other t0 t1 t2 t3 t4 : List ℕ) → t1 ≡ t0 ++ word → t2 ≡ t1 ++ piece → t3 ≡ t2 ++ 32 ∷ []
    → t4 ≡ t3 ++ other → t4 ≡ t0 ++ (word ++ piece ++ codes " " ++ other)
worded_twice word piece other t0 t1 t2 t3 t4 e1 e2 e3 e4 = rw (e4, e3, e2, e1) (simp append_assoc)

pub affinity_written : (set : SetData) (event : Event) (t mask : ℕ) (t0 t1 t2 t3 t4 : List ℕ)
    → event ≡ Affinity t mask → t1 ≡ t0 ++ codes "affinity " → t2 ≡ t1 ++ name_of set t → t3 ≡ t2 ++ 32 ∷ []
    → t4 ≡ t3 ++ canonical_list mask → t4 ≡ t0 ++ event_text set event
unfolding event_text
affinity_written set event t mask t0 t1 t2 t3 t4 is e1 e2 e3 e4 =
    rw is (worded_twice (codes "affinity ") (name_of set t) (canonical_list mask) t0 t1 t2 t3 t4 e1 e2 e3 e4)

pub offline_written : (set : SetData) (event : Event) (p : ℕ) (t0 t1 t2 : List ℕ) → event ≡ Offline p
    → t1 ≡ t0 ++ codes "offline " → t2 ≡ t1 ++ canonical_number p → t2 ≡ t0 ++ event_text set event
unfolding event_text
offline_written set event p t0 t1 t2 is e1 e2 = rw is (worded (codes "offline ") (canonical_number p) t0 t1 t2 e1 e2)

pub online_written : (set : SetData) (event : Event) (p : ℕ) (t0 t1 t2 : List ℕ) → event ≡ Online p
    → t1 ≡ t0 ++ codes "online " → t2 ≡ t1 ++ canonical_number p → t2 ≡ t0 ++ event_text set event
unfolding event_text
online_written set event p t0 t1 t2 is e1 e2 = rw is (worded (codes "online ") (canonical_number p) t0 t1 t2 e1 e2)
