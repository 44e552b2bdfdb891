-- The table of the holders, where it is to be found anew: it has the same tasks as the links.
use Rattle.std.proofs.Common.{◌≡◌, ℕ, true, false, List, set, refl, sym, ap, ◌∙◌}
use Rattle.std.proofs.lemmas.Bool.{false≢true}
use Rattle.strong_apa.specs.State.{State, HasSameTasks}
use Rattle.link_table.specs.Priorities.{IsFreeFor, state_with_priority, state_with_exchange}
use Rattle.live_core.specs.Seen.{SeenData, IsTable}

pub not_settled : (s : State) (d : SeenData) → d.is_settled ≡ false → d.is_settled ≡ true → IsTable s d.seen d.table
not_settled s d is_not is = absurd (false≢true (sym is_not ∙ is))

pub same_then : (table s new : State) → HasSameTasks table s → HasSameTasks s new → HasSameTasks table new
same_then table s new before step =
    record { processors = step.processors ∙ before.processors; priorities = step.priorities ∙ before.priorities }

pub same_of : (table other s : State) → other ≡ table → HasSameTasks table s → HasSameTasks other s
same_of table other s same before = rw same before

pub same_with_priority : (table s then new : State) (t priority : ℕ) → HasSameTasks table s → then ≡ state_with_priority table t priority
    → new ≡ state_with_priority s t priority → HasSameTasks then new
same_with_priority table s then new t priority before e f =
    rw (e, f) record { processors = before.processors; priorities = ap (λ (l : List ℕ). set l t priority) before.priorities }

pub same_with_exchange : (table s then new : State) (t u : ℕ) → HasSameTasks table s → then ≡ state_with_exchange table t u
    → new ≡ state_with_exchange s t u → HasSameTasks then new
same_with_exchange table s then new t u before e f = rw (e, f) record {
  processors = before.processors;
  priorities = same_exchanged;
}
  where
    same_exchanged : (state_with_exchange s t u).priorities ≡ (state_with_exchange table t u).priorities
    same_exchanged = rw before.priorities refl

pub free_there : (table s : State) (t priority : ℕ) → HasSameTasks table s → IsFreeFor s t priority → IsFreeFor table t priority
free_there table s t priority same free = rw (← same.priorities) free
