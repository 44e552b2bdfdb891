-- The checker of schedules. A checker has the links after the entries that it accepted, in which
-- each waiting task has a certificate, and one context for each task.
use Rattle.std.specs.Prelude.{◌≡◌, ℕ, ◌<◌, List, length, get_or}
use Rattle.task_set.specs.declared.context.Context.{Context}
use Rattle.strong_apa.specs.State.{State, IsState, task_count}
use Rattle.strong_apa.specs.Certified.{HasCertificates}

-- the links, and the contexts by the numbers of their tasks
pub record CheckerData : Type 0 where
  pub links : State
  pub contexts : List Context

-- what holds of every checker
pub record IsChecker (checker : CheckerData) : Type 0 where
  pub state : IsState checker.links
  pub certificates : HasCertificates checker.links
  pub count : length checker.contexts ≡ task_count checker.links
  pub tasks : (t : ℕ) (d : Context) → t < task_count checker.links
      → (get_or checker.contexts t d).task ≡ t
