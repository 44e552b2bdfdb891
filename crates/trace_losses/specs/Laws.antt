-- What holds of every answer about passages, whatever program gives it.
use Rattle.std.specs.Prelude.{◌≡◌, ℕ, List, length}
use Rattle.task_set.specs.TaskSet.{SetData, IsTaskSet}
use Rattle.trace_losses.specs.ChainAt.{IsChainAt}
use Rattle.trace_losses.specs.Jumps.{AreJumps}
use Rattle.trace_losses.specs.Losses.{AreLosses}
use Rattle.trace_losses.specs.declared.chains.ChainStep.{ChainStep}
use Rattle.trace_losses.specs.declared.loss.Loss.{Loss}
use Rattle.trace_passages.specs.Passages.{ArePassages}
use Rattle.trace_passages.specs.declared.passage.Passage.{Passage}

-- the passages of a set of tasks have one span and one list of losses, and one count for each
-- thread
abbrev pub LossesAreUnique : Type 0
LossesAreUnique =
    (set : SetData) (threads : ℕ) (passages : List Passage) (units other : ℕ)
    (found more : List Loss) (beside besides : List ℕ)
    → IsTaskSet set → ArePassages (length set.tasks) threads passages
    → AreLosses set threads passages units found beside
    → AreLosses set threads passages other more besides
    → (units ≡ other) × (found ≡ more) × (beside ≡ besides)

-- and one count of switches from another thread than the one that came last
abbrev pub JumpsAreUnique : Type 0
JumpsAreUnique = (passages : List Passage) (jumps other : ℕ) → AreJumps passages jumps
    → AreJumps passages other → jumps ≡ other

-- and one chain of a task at a moment
abbrev pub ChainsAreUnique : Type 0
ChainsAreUnique = (set : SetData) (threads : ℕ) (passages : List Passage) (x t : ℕ)
    (steps other : List ChainStep)
    → IsTaskSet set → ArePassages (length set.tasks) threads passages
    → IsChainAt set passages x t steps → IsChainAt set passages x t other → steps ≡ other
