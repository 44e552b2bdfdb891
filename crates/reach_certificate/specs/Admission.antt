-- Tasks that are admitted one by one. A list of tasks stands for the set of the tasks in it; of the
-- tasks of a list that are absent, the most urgent one has no other before it; a task is admitted
-- where it becomes ready, no linked task is displaced, it is linked itself or not, and each waiting
-- task has a certificate.
use Rattle.std.specs.Prelude.{◌≡◌, ℕ, ◌≤◌, Bool, true, false, List, ◌==◌, ◌&&◌, ◌||◌}
use Rattle.std.specs.List.{list_any}
use Rattle.strong_apa.specs.State.{State, HasSameTasks, HasSameMasks, priority_of, is_ready}
use Rattle.strong_apa.specs.State.{is_linked}
use Rattle.strong_apa.specs.Placement.{TaskTest}
use Rattle.strong_apa.specs.Certified.{HasCertificates}

-- whether a task is in the list
abbrev pub is_among : List ℕ → TaskTest
is_among tasks t = list_any (λ u. u == t) tasks

-- of the tasks of the list that are absent, t is the most urgent
pub record IsMostUrgentAbsent (s : State) (tasks : List ℕ) (t : ℕ) : Type 0 where
  pub among : is_among tasks t ≡ true
  pub absent : is_ready s t ≡ false
  pub most_urgent : (u : ℕ) → is_among tasks u ≡ true → is_ready s u ≡ false
      → priority_of s t ≤ priority_of s u

-- t became ready, and is linked then or not; whoever was linked still is, and each waiting task has
-- a certificate
pub record Admitted (old : State) (t : ℕ) (placed : Bool) (new : State) : Type 0 where
  pub tasks : HasSameTasks old new
  pub masks : HasSameMasks old new
  pub ready : (u : ℕ) → is_ready new u ≡ (is_ready old u || (u == t))
  pub linked : (u : ℕ) → is_linked new u ≡ (is_linked old u || (placed && (u == t)))
  pub certificates : HasCertificates new
