-- What is seen at a moment of a trace: who runs where, and whom the strong scheduler links where,
-- which follows the readiness of the tasks that the passages say.
use Rattle.std.specs.Prelude.{◌≡◌, ℕ, ◌<◌, false, List, [], ◌∷◌, length, map, take, drop, reverse}
use Rattle.std.specs.Prelude.{get_or, Option, None, Some, IfSome, IsNone, ◌↔◌}
use Rattle.task_set.specs.TaskSet.{SetData}
use Rattle.strong_apa.specs.State.{State, start_of, task_on, is_ready, is_linked}
use Rattle.strong_apa.specs.Step.{SchedulerStep}
use Rattle.strong_apa.specs.declared.reply.Reply.{Reply}
use Rattle.trace_losses.specs.Passages.{IsCut, IsSeenAt, turns_of}
use Rattle.trace_losses.specs.Runs.{is_some_of, runs_between}
use Rattle.trace_losses.specs.Walk.{event_of}
use Rattle.trace_passages.specs.declared.passage.Passage.{Passage}
use Rattle.trace_passages.specs.declared.passage.Readiness.{Readiness}
use Rattle.trace_bars.specs.Marks.{seen_by}
use Rattle.trace_bars.specs.declared.sight.Sight.{Sight}

-- a trace: its tasks, how many threads are told apart, and what its used lines say
pub record Recording : Type 0 where
  pub tasks : SetData
  pub threads : ℕ
  pub passages : List Passage

-- ---- the strong scheduler
-- a mention, if there is one, is an event, at which the scheduler makes its step
abbrev pub FollowsMention : State → Option Readiness → State → Type 0
FollowsMention s None new = new ≡ s
FollowsMention s (Some mention) new = (reply : Reply) × SchedulerStep s (event_of mention) reply new

-- the mentions of a passage
pub record Enters (s : State) (passage : Passage) (new : State) : Type 0 where
  pub between : State
  pub first : FollowsMention s passage.first between
  pub second : FollowsMention between passage.second new

-- the links after some passages, which are listed from the last one to the first; at first all
-- tasks are absent
abbrev pub FollowsTo : SetData → List Passage → State → Type 0
FollowsTo set [] s = s ≡ start_of set
FollowsTo set (passage ∷ earlier) s =
    (before : State) × FollowsTo set earlier before × Enters before passage s

-- ---- a thread
-- nothing holds of a thread that there is not
abbrev pub no_sight : Sight
no_sight = record { ready = false; linked = None; on = None }

-- what is seen of a thread, where of each one it is said
abbrev pub sight_of : List Sight → ℕ → Sight
sight_of sights t = get_or sights t no_sight

-- the processor of a thread is that to which these links link it, if they do
pub record IsLinked (links : State) (t : ℕ) (linked : Option ℕ) : Type 0 where
  pub there : IfSome linked (λ p. task_on links p ≡ Some t)
  pub nowhere : IsNone linked ↔ (is_linked links t ≡ false)

-- this is so of the thread by the links, and by who runs where between passages
pub record IsSight (links : State) (earlier after : List Passage) (t : ℕ)
    (sight : Sight) : Type 0 where
  pub ready : sight.ready ≡ is_ready links t
  pub linked : IsLinked links t sight.linked
  pub on : (p : ℕ) → is_some_of sight.on p ≡ runs_between (turns_of earlier) (turns_of after) t p

-- ---- a moment
-- this is seen at the moment x of each thread: n passages have come, the strong scheduler has
-- followed them to these links, and the others say with them who runs. So it is also what is seen
-- where losses are counted.
pub record IsSightsAt (trace : Recording) (x : ℕ) (sights : List Sight) : Type 0 where
  pub n : ℕ
  pub cut : IsCut trace.passages x n
  pub links : State
  pub follows : FollowsTo trace.tasks (reverse (take n trace.passages)) links
  pub count : length sights ≡ trace.threads
  pub each : (t : ℕ) → t < trace.threads
      → IsSight links (reverse (take n trace.passages)) (drop n trace.passages) t
      (sight_of sights t)
  pub seen : IsSeenAt trace.tasks trace.threads trace.passages x (map seen_by sights)

-- ---- Private: contracts of this crate's own functions
-- this is so of the thread by the links, and by the processor that it runs on
pub record IsSightBy (links : State) (place : Option ℕ) (t : ℕ) (sight : Sight) : Type 0 where
  pub ready : sight.ready ≡ is_ready links t
  pub linked : IsLinked links t sight.linked
  pub on : sight.on ≡ place

-- the same of the first so many threads
abbrev pub AreSightsBy : State → List (Option ℕ) → ℕ → List Sight → Type 0
AreSightsBy links processors threads sights =
    (t : ℕ) → t < threads → IsSightBy links (get_or processors t None) t (sight_of sights t)
