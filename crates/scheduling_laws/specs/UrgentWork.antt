-- The work of the most urgent tasks over time. Somebody may choose other tasks to run than the
-- linked ones, at the same events: after each number of entries a placeable set of the tasks that
-- are ready then. The work of a choice up to a bound is, over all ticks, their units times the
-- number of chosen tasks whose priority number is at most the bound.
use Rattle.std.specs.Prelude.{ℕ, suc, ◌+◌, ◌*◌, ◌<◌, ◌≤◌, List, [], ◌∷◌, length, take}
use Rattle.task_set.specs.TaskSet.{SetData, IsTaskSet}
use Rattle.strong_apa.specs.declared.reply.Entry.{Entry}
use Rattle.strong_apa.specs.State.{State, start_of, is_ready}
use Rattle.strong_apa.specs.History.{IsLegal, effect_of, state_after, linked_after}
use Rattle.strong_apa.specs.Placement.{TaskTest, IsSubset, IsPlaceable}
use Rattle.strong_apa.specs.Ranks.{tasks_within}
use Rattle.job_release.specs.Moments.{units_of}

-- after n entries the tasks `chosen n` are ready, and can be placed
abbrev pub IsChoice : State → List Entry → (ℕ → TaskTest) → Type 0
IsChoice s history chosen = (n : ℕ) → n < length history
    → IsSubset (chosen n) (is_ready (state_after s (take n history)))
    × IsPlaceable (state_after s (take n history)) (chosen n)

-- the work of a choice up to a bound
abbrev pub urgent_work : State → List Entry → (ℕ → TaskTest) → ℕ → ℕ
urgent_work s [] chosen bound = 0
urgent_work s (entry ∷ rest) chosen bound =
    units_of entry.event * length (tasks_within s (chosen 0) bound)
    + urgent_work (effect_of s entry) rest (λ n. chosen (suc n)) bound

-- in a legal history of a set no choice does more work up to any bound than the linked tasks
abbrev pub LinkedDoesMostWork : Type 0
LinkedDoesMostWork =
    (set : SetData) (history : List Entry) (chosen : ℕ → TaskTest) (bound : ℕ)
    → IsTaskSet set → IsLegal set history → IsChoice (start_of set) history chosen
    → urgent_work (start_of set) history chosen bound
    ≤ urgent_work (start_of set) history (linked_after set history) bound
