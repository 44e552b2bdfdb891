-- The chain that was not taken: what would have given a task a processor at a moment, by who ran
-- where then.
use Rattle.std.specs.Prelude.{◌≡◌, ℕ, ◌<◌, ◌⊎◌, List, [], ◌∷◌, length, take, drop, reverse, get_or}
use Rattle.std.specs.Prelude.{Option, None, Some, IsTrue, ◌↔◌, MatchOption}
use Rattle.task_set.specs.TaskSet.{SetData}
use Rattle.strong_apa.specs.Chain.{IsLeastSuch, EndsIdle}
use Rattle.strong_apa.specs.State.{State, task_count, task_on}
use Rattle.live_core.specs.Live.{LiveData}
use Rattle.live_core.specs.Lost.{AreHoldersAfter, FindsChain, state_held}
use Rattle.live_core.specs.Seen.{IsLost, IsTable, seen_at}
use Rattle.trace_passages.specs.declared.passage.Passage.{Passage}
use Rattle.trace_losses.specs.Passages.{IsCut, ready_after_passages, turns_of}
use Rattle.trace_losses.specs.Runs.{is_some_of, runs_between}
use Rattle.trace_losses.specs.Walk.{IsPlaced}
use Rattle.trace_losses.specs.declared.chains.ChainStep.{ChainStep}

-- of each task it is said on which of 64 processors it runs between passages, where those before
-- are listed from the last one on
pub record ArePlaces (earlier after : List Passage) (tasks : ℕ)
    (places : List (Option ℕ)) : Type 0 where
  pub count : length places ≡ tasks
  pub each : (t q : ℕ) → t < tasks → q < 64
      → (seen_at places t ≡ Some q)
      ↔ IsTrue (runs_between (turns_of earlier) (turns_of after) t q)

-- the guest goes on the first processor of a chain, and who holds a processor on the next one
abbrev pub steps_of : State → Option ℕ → List ℕ → List ChainStep
steps_of table guest [] = []
steps_of table None (p ∷ rest) = []
steps_of table (Some t) (p ∷ rest) =
    record { task = t; processor = p } ∷ steps_of table (task_on table p) rest

-- the steps are those of a chain, the least one of a lost task to a processor that nobody holds
abbrev pub AreChainSteps : State → State → ℕ → List ChainStep → Type 0
AreChainSteps links table t steps = (chain : List ℕ) × IsLost links table t
    × IsLeastSuch (EndsIdle table t) chain × (steps ≡ steps_of table (Some t) chain)

-- the task is not lost, and there are no steps
abbrev pub AreNoSteps : State → State → ℕ → List ChainStep → Type 0
AreNoSteps links table t steps = (IsLost links table t → ⊥) × (steps ≡ [])

-- the chain that was not taken at the moment x. The links are some placement of the best set of the
-- tasks that are ready then. A processor is held by the most urgent task of that set that runs
-- there and may. A task is lost if it is in the set and holds none
pub record IsChainAt (set : SetData) (passages : List Passage) (x t : ℕ)
    (steps : List ChainStep) : Type 0 where
  pub n : ℕ
  pub cut : IsCut passages x n
  pub links : State
  pub placed : IsPlaced set (ready_after_passages (reverse (take n passages))) links
  pub places : List (Option ℕ)
  pub are : ArePlaces (reverse (take n passages)) (drop n passages) (length set.tasks) places
  pub on : List (Option ℕ)
  pub table : IsTable links places (state_held links on)
  pub which : AreHoldersAfter None links places on
  pub along : AreChainSteps links (state_held links on) t steps
      ⊎ AreNoSteps links (state_held links on) t steps

-- ---- private: the contracts of this crate's own functions
-- each task is seen on the processor of its thread, if that is below 64, and all else stays
pub record SeesAll (old : LiveData) (processors : List (Option ℕ)) (new : LiveData) : Type 0 where
  pub places : List (Option ℕ)
  pub count : length places ≡ task_count old.links
  pub each : (t q : ℕ) → t < task_count old.links → q < 64
      → (seen_at places t ≡ Some q) ↔ IsTrue (is_some_of (get_or processors t None) q)
  pub rest : new ≡ record old { seen = places; holders = None }

-- the steps of the chain that is found for a task, if it is lost
pub record AreStepsFor (seen : LiveData) (t : ℕ) (steps : List ChainStep) : Type 0 where
  pub found : Option (List ℕ)
  pub new : LiveData
  pub finds : FindsChain seen t found new
  pub along : MatchOption found (steps ≡ [])
      (λ chain. steps ≡ steps_of (state_held seen.links finds.on) (Some t) chain)
