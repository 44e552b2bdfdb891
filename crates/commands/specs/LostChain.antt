-- The chain that was not taken for the longest stretch: of the tasks of a trace the first one whose
-- longest stretch of lost moments is longest, and what would have given it a processor at the first
-- moment of that stretch.
use Rattle.std.specs.Prelude.{◌≡◌, ℕ, ◌<◌, ◌≤◌, ◌⊎◌, List, [], length, map, get_or}
use Rattle.std.specs.Prelude.{Option, None, Some, MatchOption}
use Rattle.kernel_trace.specs.declared.loss_text.StepRow.{StepRow}
use Rattle.task_set.specs.TaskSet.{SetData}
use Rattle.trace_losses.specs.ChainAt.{IsChainAt}
use Rattle.trace_losses.specs.declared.chains.ChainStep.{ChainStep}
use Rattle.trace_losses.specs.declared.loss.Loss.{Loss}
use Rattle.trace_losses.specs.declared.tally.Stretch.{Stretch}
use Rattle.trace_passages.specs.declared.passage.Passage.{Passage}

-- what stands for the loss of a task that there is not
abbrev pub no_loss : Loss
no_loss = record {
  ready = 0;
  served = 0;
  lost = 0;
  over = 0;
  longest = record { first = 0; count = 0 };
  rival = None;
}

-- the longest stretch of lost moments of a task
abbrev pub longest_at : List Loss → ℕ → Stretch
longest_at losses t = (get_or losses t no_loss).longest

-- how many moments it has; none where there is no task
abbrev pub longest_count : List Loss → Option ℕ → ℕ
longest_count losses None = 0
longest_count losses (Some t) = (longest_at losses t).count

-- none of the first n tasks is lost at any moment
abbrev pub NoneLost : List Loss → ℕ → Type 0
NoneLost losses n = (u : ℕ) → u < n → (longest_at losses u).count ≡ 0

-- of the first n tasks this one has the longest stretch, and none before it has one as long
pub record IsLongestLost (losses : List Loss) (n t : ℕ) : Type 0 where
  pub within : t < n
  pub lost : 0 < (longest_at losses t).count
  pub longest : (u : ℕ) → u < n → (longest_at losses u).count ≤ (longest_at losses t).count
  pub first : (u : ℕ) → u < t → (longest_at losses u).count < (longest_at losses t).count

-- of the first n tasks this one was found, or none
abbrev pub IsFoundLost : List Loss → ℕ → Option ℕ → Type 0
IsFoundLost losses n found = MatchOption found (NoneLost losses n) (IsLongestLost losses n)

-- each stretch begins in the span
abbrev pub BeginWithin : ℕ → List Loss → Type 0
BeginWithin span losses =
    (t : ℕ) → 0 < (longest_at losses t).count → (longest_at losses t).first < span

-- what is told of a step of a chain
abbrev pub step_row : ChainStep → StepRow
step_row step = record { task = step.task; processor = step.processor }

-- the count and the first moment are those of the stretch, and the steps are those of the chain
-- that was not taken for the task at that moment
pub record IsChainRow (set : SetData) (passages : List Passage) (t : ℕ) (stretch : Stretch)
    (count first : ℕ) (steps : List StepRow) : Type 0 where
  pub is_count : count ≡ stretch.count
  pub is_first : first ≡ stretch.first
  pub chain : List ChainStep
  pub is_chain : IsChainAt set passages stretch.first t chain
  pub are_steps : steps ≡ map step_row chain

-- the same of the task with the longest of all longest stretches
pub record IsLongestChain (set : SetData) (passages : List Passage) (losses : List Loss)
    (count first : ℕ) (steps : List StepRow) : Type 0 where
  pub task : ℕ
  pub is_task : IsLongestLost losses (length losses) task
  pub row : IsChainRow set passages task (longest_at losses task) count first steps

-- no task is lost, and there is no chain
pub record IsNoChain (losses : List Loss) (count first : ℕ) (steps : List StepRow) : Type 0 where
  pub none : NoneLost losses (length losses)
  pub no_count : count ≡ 0
  pub no_first : first ≡ 0
  pub no_steps : steps ≡ []

-- the chain that was not taken for the longest of all longest stretches of lost moments, if there
-- is one
abbrev pub IsLostChain : SetData → List Passage → List Loss → ℕ → ℕ → List StepRow → Type 0
IsLostChain set passages losses count first steps =
    IsLongestChain set passages losses count first steps ⊎ IsNoChain losses count first steps
