-- What a reply carries, part by part: its chain, its set of processors, and the task that it names.
use Rattle.std.proofs.Common.{ℕ, ◌<◌, List, [], ◌∷◌, length, All, Option, Some, None, IfSome}
use Rattle.std.specs.List.{cons_option}
use Rattle.std.proofs.lemmas.List.Elements.{All-nil, All-cons, All-head, All-tail}
use Rattle.task_set.specs.TaskSet.{SetData}
use Rattle.schedule_text.specs.Schedule.{IsProcessorList, IsOfProcessors, AreOfProcessors}
use Rattle.schedule_text.specs.ScheduleText.{AreTasksOf}

one : {A : Type 0} (P : A → Type 0) (x : A) → P x → All P (x ∷ [])
one P x here = All-cons P x [] here (All-nil P)

-- ---- the task that it names

pub no_task_named : (set : SetData) → AreTasksOf set []
no_task_named set = All-nil (λ (t : ℕ). t < length set.tasks)

pub task_named : (set : SetData) (t : ℕ) → t < length set.tasks → AreTasksOf set (t ∷ [])
task_named set t within = one (λ (t : ℕ). t < length set.tasks) t within

pub the_task : (set : SetData) (t : ℕ) → AreTasksOf set (t ∷ []) → t < length set.tasks
the_task set t all = All-head (λ (t : ℕ). t < length set.tasks) t [] all

-- a task, or nobody
pub somebody_named : (set : SetData) (entered : Option ℕ) → IfSome entered (λ t. t < length set.tasks)
    → AreTasksOf set (cons_option entered [])
somebody_named set None within = no_task_named set
somebody_named set (Some t) within = task_named set t within

pub the_somebody : (set : SetData) (entered : Option ℕ) → AreTasksOf set (cons_option entered [])
    → IfSome entered (λ t. t < length set.tasks)
the_somebody set None all = tt
the_somebody set (Some t) all = the_task set t all

-- ---- its chain and its set

pub no_processors : AreOfProcessors [] []
no_processors = (All-nil IsProcessorList, All-nil IsOfProcessors)

pub chain_alone : (chain : List ℕ) → IsProcessorList chain → AreOfProcessors (chain ∷ []) []
chain_alone chain list = (one IsProcessorList chain list, All-nil IsOfProcessors)

pub set_alone : (X : ℕ) → IsOfProcessors X → AreOfProcessors [] (X ∷ [])
set_alone X processors = (All-nil IsProcessorList, one IsOfProcessors X processors)

pub chain_and_set : (chain : List ℕ) (X : ℕ) → IsProcessorList chain → IsOfProcessors X
    → AreOfProcessors (chain ∷ []) (X ∷ [])
chain_and_set chain X list processors = (one IsProcessorList chain list, one IsOfProcessors X processors)

pub the_chain : (chain : List ℕ) (sets : List ℕ) → AreOfProcessors (chain ∷ []) sets → IsProcessorList chain
the_chain chain sets has = All-head IsProcessorList chain [] has.0

pub the_set : (chains : List (List ℕ)) (X : ℕ) → AreOfProcessors chains (X ∷ []) → IsOfProcessors X
the_set chains X has = All-head IsOfProcessors X [] has.1

-- ---- two parts

-- a task, and those of another part
pub task_and : (set : SetData) (t : ℕ) (tasks : List ℕ) → t < length set.tasks → AreTasksOf set tasks
    → AreTasksOf set (t ∷ tasks)
task_and set t tasks here rest = All-cons (λ (t : ℕ). t < length set.tasks) t tasks here rest

pub first_task : (set : SetData) (t : ℕ) (tasks : List ℕ) → AreTasksOf set (t ∷ tasks) → t < length set.tasks
first_task set t tasks all = All-head (λ (t : ℕ). t < length set.tasks) t tasks all

pub other_tasks : (set : SetData) (t : ℕ) (tasks : List ℕ) → AreTasksOf set (t ∷ tasks) → AreTasksOf set tasks
other_tasks set t tasks all = All-tail (λ (t : ℕ). t < length set.tasks) t tasks all

-- a task or nobody, and those of another part
pub somebody_and : (set : SetData) (entered : Option ℕ) (tasks : List ℕ) → AreTasksOf set (cons_option entered [])
    → AreTasksOf set tasks → AreTasksOf set (cons_option entered tasks)
somebody_and set None tasks first rest = rest
somebody_and set (Some t) tasks first rest = task_and set t tasks (the_task set t first) rest

pub first_somebody : (set : SetData) (entered : Option ℕ) (tasks : List ℕ) → AreTasksOf set (cons_option entered tasks)
    → AreTasksOf set (cons_option entered [])
first_somebody set None tasks all = no_task_named set
first_somebody set (Some t) tasks all = task_named set t (first_task set t tasks all)

pub after_somebody : (set : SetData) (entered : Option ℕ) (tasks : List ℕ) → AreTasksOf set (cons_option entered tasks)
    → AreTasksOf set tasks
after_somebody set None tasks all = all
after_somebody set (Some t) tasks all = other_tasks set t tasks all

-- a chain and a set, and those of another part
pub processors_and : (chain : List ℕ) (X : ℕ) (chains : List (List ℕ)) (sets : List ℕ)
    → AreOfProcessors (chain ∷ []) (X ∷ []) → AreOfProcessors chains sets → AreOfProcessors (chain ∷ chains) (X ∷ sets)
processors_and chain X chains sets first rest = (
  All-cons IsProcessorList chain chains (the_chain chain (X ∷ []) first) rest.0,
  All-cons IsOfProcessors X sets (the_set (chain ∷ []) X first) rest.1,
)

pub first_processors : (chain : List ℕ) (X : ℕ) (chains : List (List ℕ)) (sets : List ℕ)
    → AreOfProcessors (chain ∷ chains) (X ∷ sets) → AreOfProcessors (chain ∷ []) (X ∷ [])
first_processors chain X chains sets all =
    chain_and_set chain X (All-head IsProcessorList chain chains all.0) (All-head IsOfProcessors X sets all.1)

pub other_processors : (chain : List ℕ) (X : ℕ) (chains : List (List ℕ)) (sets : List ℕ)
    → AreOfProcessors (chain ∷ chains) (X ∷ sets) → AreOfProcessors chains sets
other_processors chain X chains sets all = (All-tail IsProcessorList chain chains all.0, All-tail IsOfProcessors X sets all.1)
