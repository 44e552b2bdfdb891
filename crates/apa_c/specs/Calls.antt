-- What each call does. A call that is refused answers the number of its fault, comes only with the
-- cause of it, and changes nothing. Any other call that is not a question does what it says.
use Rattle.std.specs.Prelude.{◌≡◌, ◌≢◌, ℕ, ◌+◌, ◌<◌, ◌≤◌, ◌⊎◌, Result, Ok, Err, List, [], ◌++◌}
use Rattle.std.specs.Prelude.{length, codes, replicate, slice_get, Option, Some, None, Bool, true}
use Rattle.std.specs.Prelude.{false, is_some, if◌then◌else◌, ◌==◌}
use Rattle.affinity_mask.specs.ProcSet.{has}
use Rattle.affinity_mask.specs.Number.{canonical_number}
use Rattle.task_set.specs.TaskSet.{SetData, IsMask}
use Rattle.task_set.specs.Name.{IsName}
use Rattle.task_set.specs.Refusal.{AddsTask, IsPriorityOf, IsNameOf, new_task}
use Rattle.task_set.specs.declared.event.Event.{Event}
use Rattle.task_set.specs.declared.event.Event.TheVariants.{Arrive, Depart, Tick, Affinity, Offline}
use Rattle.task_set.specs.declared.event.Event.TheVariants.{Online}
use Rattle.strong_apa.specs.State.{IsState, start_of, task_on, mask_of, is_ready, is_linked}
use Rattle.strong_apa.specs.Step.{IsEventFor, SchedulerStep}
use Rattle.strong_apa.specs.Certified.{HasCertificates}
use Rattle.strong_apa.specs.Improving.{HasNoImprovingChain}
use Rattle.strong_apa.specs.CertificateLaws.{LinkedIsBest, LinkedIsLargest, LinkedIsAsUrgent}
use Rattle.strong_apa.specs.declared.reply.Reply.TheVariants.{Ticked}
use Rattle.live_core.specs.Live.{LiveData}
use Rattle.live_core.specs.Lost.{FindsLost, HelpsLost, data_with_seen}
use Rattle.live_core.specs.Moves.{MovesLead}
use Rattle.live_core.specs.Needed.{AreNeeded}
use Rattle.live_core.specs.Optimal.{IsOptimal}
use Rattle.live_core.specs.Slots.{is_in_use, IsEventInUse, AreAllInUse, IsInUseWith, Admits}
use Rattle.live_core.specs.Slots.{GetsPriority, data_with_free}
use Rattle.live_core.specs.declared.moves.Move.{Move}
use Rattle.apa_c.specs.Stages.{nothing, number_of, answer_of, set_of, back_of, word_of}
use Rattle.apa_c.specs.declared.table.Apa.{Apa}
use Rattle.apa_c.specs.declared.table.ApaStage.{ApaStage}
use Rattle.apa_c.specs.declared.table.ApaStage.TheVariants.{Empty, Draft, Running}

-- the scheduler runs, with this state, or it does not
abbrev pub running_of : ApaStage → Option LiveData
running_of (Running live) = Some live
running_of Empty = None
running_of (Draft set) = None

-- tasks are being added to this set, or they are not
abbrev pub draft_of : ApaStage → Option SetData
draft_of (Draft set) = Some set
draft_of Empty = None
draft_of (Running live) = None

-- a closed scheduler was made
abbrev pub Made : Apa → Type 0
Made new = new.stage ≡ Empty

-- the call does not come at this stage
abbrev pub IsNotNow : Apa → ℕ → Apa → Type 0
IsNotNow old result new = (result ≡ 2) × (new ≡ old)

-- memory was refused
abbrev pub IsShort : Apa → ℕ → Apa → Type 0
IsShort old result new = (result ≡ 1) × (new ≡ old)

-- the mask is empty, or has a processor that there is not
abbrev pub IsBadMask : ℕ → ℕ → Type 0
IsBadMask processors mask = ¬ IsMask processors mask

-- ---- opening
abbrev pub OpenedAt : ApaStage → Apa → ℕ → ℕ → Apa → Type 0
OpenedAt (Draft set) old processors result new = IsNotNow old result new
OpenedAt (Running live) old processors result new = IsNotNow old result new
OpenedAt Empty old processors result new =
    ((result ≡ 3) × (new ≡ old) × ((processors ≡ 0) ⊎ (64 < processors)))
    ⊎ (IsShort old result new ⊎ ((result ≡ 0)
    × (new.stage ≡ Draft (record { processors = processors; tasks = [] }))))

-- a closed scheduler takes a number of processors, and has no tasks then
abbrev pub Opened : Apa → ℕ → ℕ → Apa → Type 0
Opened old processors result new = OpenedAt old.stage old processors result new

-- ---- adding tasks
-- the name under which the next task is stored
abbrev pub stored_name : SetData → List ℕ
stored_name set = codes "t" ++ canonical_number (length set.tasks)

-- why a name is refused: it is no name, or a task has it
abbrev pub IsNameFault : SetData → List ℕ → Type 0
IsNameFault set name = (¬ IsName name) ⊎ ((t : ℕ) × IsNameOf set t name)

-- why a task is not added
abbrev pub IsAddFault : SetData → ℕ → ℕ → ℕ → Type 0
IsAddFault set priority mask result =
    (result ≡ 1) ⊎ (((result ≡ 7) × (length set.tasks ≡ 1024))
    ⊎ (((result ≡ 6) × ((t : ℕ) × IsPriorityOf set t priority))
    ⊎ (((result ≡ 5) × IsBadMask set.processors mask)
    ⊎ ((result ≡ 9) × IsNameFault set (stored_name set)))))

-- the task stands last in the set then, under its stored name, or the set stays
abbrev pub AddsTo : SetData → ℕ → ℕ → ℕ → SetData → Type 0
AddsTo old priority mask result new =
    ((result ≡ 0) × AddsTask old new (new_task (stored_name old) priority mask) (length old.tasks))
    ⊎ ((new ≡ old) × IsAddFault old priority mask result)

abbrev pub AddedAt : ApaStage → Apa → ℕ → ℕ → ℕ → Apa → Type 0
AddedAt Empty old priority mask result new = IsNotNow old result new
AddedAt (Running live) old priority mask result new = IsNotNow old result new
AddedAt (Draft set) old priority mask result new =
    (after : SetData) × (new.stage ≡ Draft after) × AddsTo set priority mask result after

-- one task more of this priority and exactly this mask
abbrev pub Added : Apa → ℕ → ℕ → ℕ → Apa → Type 0
Added old priority mask result new = AddedAt old.stage old priority mask result new

-- ---- starting
abbrev pub StartedAt : ApaStage → Apa → ℕ → Apa → Type 0
StartedAt Empty old result new = IsNotNow old result new
StartedAt (Running live) old result new = IsNotNow old result new
StartedAt (Draft set) old result new = IsShort old result new
    ⊎ ((result ≡ 0) × ((live : LiveData) × (new.stage ≡ Running live) × (live.links ≡ start_of set)
    × (live.last ≡ Ticked) × (live.moves ≡ []) × (live.in_use ≡ replicate (length set.tasks) true)
    × (live.seen ≡ replicate (length set.tasks) None) × (live.holders ≡ None)))

-- every task is absent then, its slot is in use, and it is seen nowhere
abbrev pub Started : Apa → ℕ → Apa → Type 0
Started old result new = StartedAt old.stage old result new

-- ---- events
-- the event of a kind, a number and a mask
abbrev pub IsEventOf : ℕ → ℕ → ℕ → Event → Type 0
IsEventOf kind number mask (Arrive t) = (kind ≡ 0) × (t ≡ number)
IsEventOf kind number mask (Depart t) = (kind ≡ 1) × (t ≡ number)
IsEventOf kind number mask (Tick units) = ⊥
IsEventOf kind number mask (Affinity t X) = (kind ≡ 2) × (t ≡ number) × (X ≡ mask)
IsEventOf kind number mask (Offline p) = (kind ≡ 3) × (p ≡ number)
IsEventOf kind number mask (Online p) = (kind ≡ 4) × (p ≡ number)

-- why there is no such event; there is no task of a number where no slot has it, and where the slot
-- is free
abbrev pub IsEventFault : LiveData → ℕ → ℕ → ℕ → ℕ → Type 0
IsEventFault live kind number mask result =
    ((result ≡ 8) × (4 < kind)) ⊎ (((result ≡ 4) × (kind ≤ 2) × (is_in_use live number ≡ false))
    ⊎ (((result ≡ 5) × (kind ≡ 2) × IsBadMask live.links.processors mask)
    ⊎ ((result ≡ 3) × (3 ≤ kind) × (kind ≤ 4) × (live.links.processors ≤ number))))

-- an event of the links and of a task in use, or a fault
abbrev pub IsEventHere : LiveData → ℕ → ℕ → ℕ → Result Event ℕ → Type 0
IsEventHere live kind number mask (Ok event) =
    IsEventFor live.links event × IsEventInUse live event × IsEventOf kind number mask event
IsEventHere live kind number mask (Err fault) = IsEventFault live kind number mask fault

-- the scheduler's step was taken, its moves lead from the old links to the new ones, and the linked
-- tasks are the best placeable set of the ready ones
pub record TakesStep (old : LiveData) (kind number mask result : ℕ) (new : LiveData) : Type 0 where
  pub event : Event
  pub event_is : IsEventOf kind number mask event
  pub event_for : IsEventFor old.links event
  pub event_in_use : IsEventInUse old event
  pub answer : result ≡ answer_of new.last
  pub step : SchedulerStep old.links event new.last new.links
  pub moves : MovesLead old.links.on new.moves new.links.on
  pub few : length new.moves ≤ 130
  pub needed : AreNeeded event new.last old.links.on new.links.on new.moves
  pub certified : HasCertificates new.links
  pub unimprovable : HasNoImprovingChain new.links
  pub best : LinkedIsBest new.links
  pub largest : LinkedIsLargest new.links
  pub rank_by_rank : LinkedIsAsUrgent new.links
  pub valid : IsState new.links
  pub slots : new.in_use ≡ old.in_use
  pub seen : new.seen ≡ old.seen
  pub holders : new.holders ≡ None

abbrev pub AppliedAt : ApaStage → Apa → ℕ → ℕ → ℕ → ℕ → Apa → Type 0
AppliedAt Empty old kind number mask result new = IsNotNow old result new
AppliedAt (Draft set) old kind number mask result new = IsNotNow old result new
AppliedAt (Running live) old kind number mask result new =
    ((new ≡ old) × IsEventFault live kind number mask result)
    ⊎ ((after : LiveData) × (new.stage ≡ Running after)
    × TakesStep live kind number mask result after)

-- an event was applied, or is refused
abbrev pub Applied : Apa → ℕ → ℕ → ℕ → ℕ → Apa → Type 0
Applied old kind number mask result new = AppliedAt old.stage old kind number mask result new

-- ---- tasks that come and go
-- why a task is not admitted
abbrev pub IsAdmissionFault : LiveData → ℕ → ℕ → ℕ → Type 0
IsAdmissionFault live priority mask result =
    ((result ≡ 5) × IsBadMask live.links.processors mask)
    ⊎ (((result ≡ 6) × ((u : ℕ) × IsInUseWith live priority u))
    ⊎ ((result ≡ 11) × AreAllInUse live.in_use))

-- a task was admitted, whose number is that of a slot that was free; the answer is 1,024 more
pub record IsAdmission (old : LiveData) (priority mask result : ℕ) (new : LiveData) : Type 0 where
  pub task : ℕ
  pub answer : result ≡ 1024 + task
  pub admits : Admits old priority mask task new
  pub lawful : IsMask old.links.processors mask
  pub optimal : IsOptimal new.links

-- the task is there then, or nothing has changed
abbrev pub AdmitsTo : LiveData → ℕ → ℕ → ℕ → LiveData → Type 0
AdmitsTo old priority mask result new = IsAdmission old priority mask result new
    ⊎ ((new ≡ old) × IsAdmissionFault old priority mask result)

abbrev pub AdmittedAt : ApaStage → Apa → ℕ → ℕ → ℕ → Apa → Type 0
AdmittedAt Empty old priority mask result new = IsNotNow old result new
AdmittedAt (Draft set) old priority mask result new = IsNotNow old result new
AdmittedAt (Running live) old priority mask result new =
    (after : LiveData) × (new.stage ≡ Running after) × AdmitsTo live priority mask result after

-- a task comes: a free slot is in use with this priority and exactly this mask
abbrev pub Admitted : Apa → ℕ → ℕ → ℕ → Apa → Type 0
Admitted old priority mask result new = AdmittedAt old.stage old priority mask result new

-- why a task does not retire, and does not get a priority: there is none of this number, or it is
-- ready
abbrev pub IsPresenceFault : LiveData → ℕ → ℕ → Type 0
IsPresenceFault live t result = ((result ≡ 4) × (is_in_use live t ≡ false))
    ⊎ ((result ≡ 10) × (is_in_use live t ≡ true) × (is_ready live.links t ≡ true))

-- a task in use that is absent
pub record IsAbsent (live : LiveData) (t : ℕ) : Type 0 where
  pub in_use : is_in_use live t ≡ true
  pub absent : is_ready live.links t ≡ false

-- the slot of the task is free then, or nothing has changed
abbrev pub RetiresFrom : LiveData → ℕ → ℕ → LiveData → Type 0
RetiresFrom old t result new = ((result ≡ 0) × IsAbsent old t × (new ≡ data_with_free old t)
    × IsOptimal new.links) ⊎ ((new ≡ old) × IsPresenceFault old t result)

abbrev pub RetiredAt : ApaStage → Apa → ℕ → ℕ → Apa → Type 0
RetiredAt Empty old t result new = IsNotNow old result new
RetiredAt (Draft set) old t result new = IsNotNow old result new
RetiredAt (Running live) old t result new =
    (after : LiveData) × (new.stage ≡ Running after) × RetiresFrom live t result after

-- an absent task goes
abbrev pub Retired : Apa → ℕ → ℕ → Apa → Type 0
Retired old t result new = RetiredAt old.stage old t result new

-- why a task does not get a priority
abbrev pub IsReorderFault : LiveData → ℕ → ℕ → ℕ → Type 0
IsReorderFault live t priority result = IsPresenceFault live t result
    ⊎ ((result ≡ 6) × ((u : ℕ) × IsInUseWith live priority u × (u ≢ t)))

-- the task has the priority then, or nothing has changed
abbrev pub Reorders : LiveData → ℕ → ℕ → ℕ → LiveData → Type 0
Reorders old t priority result new = ((result ≡ 0) × IsAbsent old t
    × GetsPriority old t priority new × IsOptimal new.links)
    ⊎ ((new ≡ old) × IsReorderFault old t priority result)

abbrev pub ReorderedAt : ApaStage → Apa → ℕ → ℕ → ℕ → Apa → Type 0
ReorderedAt Empty old t priority result new = IsNotNow old result new
ReorderedAt (Draft set) old t priority result new = IsNotNow old result new
ReorderedAt (Running live) old t priority result new =
    (after : LiveData) × (new.stage ≡ Running after) × Reorders live t priority result after

-- an absent task gets another priority
abbrev pub HasNewPriority : Apa → ℕ → ℕ → ℕ → Apa → Type 0
HasNewPriority old t priority result new = ReorderedAt old.stage old t priority result new

-- ---- where another scheduler has the tasks
-- the processor of a number, or none
abbrev pub place_of : ℕ → Option ℕ
place_of number = if number == nothing then None else Some number

-- why a task is not seen there: there is none of this number, or no such processor
abbrev pub IsSightFault : LiveData → ℕ → ℕ → ℕ → Type 0
IsSightFault live t number result = ((result ≡ 4) × (is_in_use live t ≡ false))
    ⊎ ((result ≡ 3) × (live.links.processors ≤ number) × (number ≢ nothing))

-- the task is seen there then, or nothing has changed
abbrev pub Sees : LiveData → ℕ → ℕ → ℕ → LiveData → Type 0
Sees old t number result new =
    ((result ≡ 0) × (is_in_use old t ≡ true) × (new ≡ data_with_seen old t (place_of number)))
    ⊎ ((new ≡ old) × IsSightFault old t number result)

abbrev pub SeenAt : ApaStage → Apa → ℕ → ℕ → ℕ → Apa → Type 0
SeenAt Empty old t number result new = IsNotNow old result new
SeenAt (Draft set) old t number result new = IsNotNow old result new
SeenAt (Running live) old t number result new =
    (after : LiveData) × (new.stage ≡ Running after) × Sees live t number result after

-- a task is seen on a processor, or nowhere
abbrev pub Seen : Apa → ℕ → ℕ → ℕ → Apa → Type 0
Seen old t number result new = SeenAt old.stage old t number result new

-- nobody is lost, and nobody is helped, where nothing runs
abbrev pub IsNobody : Apa → ℕ → Apa → Type 0
IsNobody old result new = (result ≡ nothing) × (new ≡ old)

abbrev pub LostAt : ApaStage → Apa → ℕ → Apa → Type 0
LostAt Empty old result new = IsNobody old result new
LostAt (Draft set) old result new = IsNobody old result new
LostAt (Running live) old result new = (after : LiveData) × (new.stage ≡ Running after)
    × ((found : Option ℕ) × (result ≡ number_of found) × FindsLost live found after)

-- the most urgent lost task, if any is lost; all else stays
abbrev pub Lost : Apa → ℕ → Apa → Type 0
Lost old result new = LostAt old.stage old result new

abbrev pub HelpedAt : ApaStage → Apa → ℕ → Apa → Type 0
HelpedAt Empty old result new = IsNobody old result new
HelpedAt (Draft set) old result new = IsNobody old result new
HelpedAt (Running live) old result new = (after : LiveData) × (new.stage ≡ Running after)
    × ((found : Option ℕ) × (result ≡ number_of found) × HelpsLost live found after)

-- the most urgent lost task, if any is lost, is helped: the moves are those of a shortest chain
-- that gives it a processor
abbrev pub Helped : Apa → ℕ → Apa → Type 0
Helped old result new = HelpedAt old.stage old result new

-- ---- closing
abbrev pub Closed : Apa → ℕ → Apa → Type 0
Closed old result new = (result ≡ 0) × (new.stage ≡ Empty)

-- ---- questions, which change nothing
-- who is on a processor, while the scheduler runs
abbrev pub task_at : Option LiveData → ℕ → ℕ
task_at None p = nothing
task_at (Some live) p = number_of (task_on live.links p)

abbrev pub OnAnswer : Apa → ℕ → ℕ → Apa → Type 0
OnAnswer old p result new = (new ≡ old) × (result ≡ task_at (running_of old.stage) p)

-- the processor that a task is on
abbrev pub IsPlaceAt : Option LiveData → ℕ → ℕ → Type 0
IsPlaceAt None t result = result ≡ nothing
IsPlaceAt (Some live) t result =
    ((result ≡ nothing) × (is_linked live.links t ≡ false)) ⊎ (task_on live.links result ≡ Some t)

abbrev pub OfAnswer : Apa → ℕ → ℕ → Apa → Type 0
OfAnswer old t result new = (new ≡ old) × IsPlaceAt (running_of old.stage) t result

-- whether a task is ready; one that there is not never is
abbrev pub is_ready_at : Option LiveData → ℕ → Bool
is_ready_at None t = false
is_ready_at (Some live) t = is_ready live.links t

abbrev pub ReadyAnswer : Apa → ℕ → ℕ → Apa → Type 0
ReadyAnswer old t result new =
    (new ≡ old) × (result ≡ (if is_ready_at (running_of old.stage) t then 1 else 0))

-- the mask of a task; one that there is not has an empty one
abbrev pub mask_at : Option LiveData → ℕ → ℕ
mask_at None t = 0
mask_at (Some live) t = if is_in_use live t then mask_of live.links t else 0

abbrev pub MaskAnswer : Apa → ℕ → ℕ → Apa → Type 0
MaskAnswer old t result new = (new ≡ old) × (result ≡ mask_at (running_of old.stage) t)

-- who is on a processor, if somebody is
abbrev pub occupant_at : Option LiveData → ℕ → Option ℕ
occupant_at None p = None
occupant_at (Some live) p = task_on live.links p

-- the set of the processors that somebody is on
abbrev pub OccupiedAnswer : Apa → ℕ → Apa → Type 0
OccupiedAnswer old result new =
    (new ≡ old) × ((p : ℕ) → has result p ≡ is_some (occupant_at (running_of old.stage) p))

-- the processors on line
abbrev pub on_line_at : Option LiveData → ℕ
on_line_at None = 0
on_line_at (Some live) = live.links.online

abbrev pub OnLineAnswer : Apa → ℕ → Apa → Type 0
OnLineAnswer old result new = (new ≡ old) × (result ≡ on_line_at (running_of old.stage))

-- the moves of the last event
abbrev pub moves_told : Option LiveData → List Move
moves_told None = []
moves_told (Some live) = live.moves

abbrev pub CountAnswer : Apa → ℕ → Apa → Type 0
CountAnswer old result new = (new ≡ old) × (result ≡ length (moves_told (running_of old.stage)))

-- one of them
abbrev pub MoveAnswer : Apa → ℕ → ℕ → Apa → Type 0
MoveAnswer old i result new =
    (new ≡ old) × (result ≡ word_of (slice_get (moves_told (running_of old.stage)) i))

-- the set of the last reply
abbrev pub set_at : Option LiveData → ℕ
set_at None = 0
set_at (Some live) = set_of live.last

abbrev pub SetAnswer : Apa → ℕ → Apa → Type 0
SetAnswer old result new = (new ≡ old) × (result ≡ set_at (running_of old.stage))

-- the set of who came in at the last event at a processor that became free
abbrev pub back_at : Option LiveData → ℕ
back_at None = 0
back_at (Some live) = back_of live.last

abbrev pub BackAnswer : Apa → ℕ → Apa → Type 0
BackAnswer old result new = (new ≡ old) × (result ≡ back_at (running_of old.stage))
